-- The costs of the machines where one process goes to another machine: those of its two machines are renewed, and all
-- others stay.
use Rattle.std.proofs.Common.{◌≡◌, ◌≢◌, ℕ, ◌+◌, ◌-◌, ◌<◌, ◌≤◌, List, [], ◌∷◌, ◌++◌, length, set, slice_index}
use Rattle.std.proofs.Common.{slice_index_or, sym, ap, ◌∙◌, arith, get_or-set_same, get_or-set_other}
use Rattle.std.proofs.Common.{length-append}
use Rattle.std.proofs.Math.ListN.{length-set}
use Rattle.std.proofs.lemmas.List.{get_or_read, get_or_append_left}
use Rattle.std.proofs.Math.Seq.{get_or-append_seam}
use Rattle.ra_base.specs.Sums.{total}
use Rattle.ra_base.specs.declared.ids.Machine.{Machine}
use Rattle.ra_base.proofs.Sums.{total_same, total_term}
use Rattle.ra_base.proofs.ListLaws.{total_set}
use Rattle.ra_model.specs.declared.raw.Tables.{Tables}
use Rattle.ra_model.specs.Numbers.{machine_count, process_count}
use Rattle.ra_model.specs.Limits.{WellFormed}
use Rattle.ra_model.specs.Assignments.{IsAssignment, machine_at}
use Rattle.ra_model.specs.Usage.{use_of}
use Rattle.ra_model.specs.Costs.{load_cost, balance_cost}
use Rattle.ra_model.specs.MachineCosts.{row_load, row_balance, machine_load, machine_balance}
use Rattle.ra_model.proofs.TallyLemmas.{use_set, use_share_elsewhere}
use Rattle.ra_model.proofs.MachineLemmas.{row_load_same, row_balance_same, load_by_machine, balance_by_machine}
use Rattle.ra_rows.specs.Rows.{IsUsageRow}
use Rattle.ra_world.specs.Costs.{AreCosts}

-- what a read of a cost gives
pub kept_cost : {costs : List ℕ} {n : ℕ} {f : ℕ → ℕ} (m : ℕ) {cost : ℕ} → AreCosts costs n f → m < n →
    cost ≡ slice_index_or costs m cost → cost ≡ f m
kept_cost {costs} m {cost} are within read =
    get_or_read costs m cost (omega (arith, are.one_each)) read 0 ∙ are.each m within

-- one cost is replaced: the sum of all, from the sum before
pub replaced : (costs : List ℕ) (m old cost sum : ℕ) → m < length costs → old ≡ slice_index_or costs m old →
    sum ≡ total (length costs) (slice_index costs) → (old ≤ sum)
    × (sum - old + cost ≡ total (length costs) (slice_index (set costs m cost)))
replaced costs m old cost sum within read is =
    let here : old ≡ slice_index costs m = get_or_read costs m old within read 0 in
    let change = total_set (length costs) m costs cost 0 (λ k x. x) within within in
    let term = total_term (length costs) m (slice_index costs) within in
    (omega (arith, here, term, is), omega (arith, here, term, is, change))

module _ (i : Tables) (a : List Machine) where
  module _ (m : ℕ) (row : List ℕ) where
    -- a row of use gives the costs of its machine
    pub load_from : IsUsageRow i a m row → row_load i m (slice_index row) ≡ machine_load i a m
    unfolding machine_load
    load_from is = row_load_same i m _ _ is.each

    pub balance_from : WellFormed i → IsUsageRow i a m row → row_balance i m (slice_index row) ≡ machine_balance i a m
    unfolding machine_balance
    balance_from limits is = row_balance_same i m _ _ limits is.each

  module _ (p : ℕ) (to : Machine) (m : ℕ) where
    -- a machine that process p neither leaves nor enters is used as before
    pub use_kept : (r : ℕ) → IsAssignment i a → p < process_count i → machine_at a p ≢ m → to.0 ≢ m →
        use_of i a m r ≡ use_of i (set a p to) m r
    use_kept r fits within not_left not_entered = grind (arith, use_set, use_share_elsewhere)

    pub load_stays : IsAssignment i a → p < process_count i → machine_at a p ≢ m → to.0 ≢ m →
        machine_load i a m ≡ machine_load i (set a p to) m
    unfolding machine_load
    load_stays fits within not_left not_entered = grind (arith, row_load_same, use_kept)

    pub balance_stays : WellFormed i → IsAssignment i a → p < process_count i → machine_at a p ≢ m → to.0 ≢ m →
        machine_balance i a m ≡ machine_balance i (set a p to) m
    unfolding machine_balance
    balance_stays limits fits within not_left not_entered = grind (arith, row_balance_same, use_kept)

-- two costs are renewed, and the others are as they were
pub renewed : (old new : List ℕ) (n from to : ℕ) (f g : ℕ → ℕ) → AreCosts old n f →
    new ≡ set (set old from (g from)) to (g to) → from < n → to < n → ((m : ℕ) → from ≢ m → to ≢ m → f m ≡ g m) →
    AreCosts new n g
renewed old new n from to f g are is from_in to_in same = grind (arith, length-set, get_or-set_same, get_or-set_other)

-- the sum of all costs
pub summed_costs : (costs : List ℕ) (n : ℕ) (f : ℕ → ℕ) → AreCosts costs n f →
    total (length costs) (slice_index costs) ≡ total n f
summed_costs costs n f are =
    ap (λ k. total k (slice_index costs)) are.one_each ∙ total_same n (slice_index costs) f are.each

module _ (i : Tables) (a : List Machine) (costs : List ℕ) where
  pub load_summed : AreCosts costs (machine_count i) (machine_load i a) →
      load_cost i a ≡ total (length costs) (slice_index costs)
  load_summed are = load_by_machine i a ∙ sym (summed_costs costs _ _ are)

  pub balance_summed : AreCosts costs (machine_count i) (machine_balance i a) →
      balance_cost i a ≡ total (length costs) (slice_index costs)
  balance_summed are =
      balance_by_machine i a ∙ sym (summed_costs costs _ _ are)

-- one more item, as a loop counts
pub one_longer : (old : List ℕ) {new : List ℕ} {n : ℕ} (x : ℕ) → new ≡ old ++ x ∷ [] → length old ≡ n →
    length new ≡ n + 1
one_longer old x grown long = grind (arith, length-append)

-- one more cost, as a loop counts
pub pushed : {costs new : List ℕ} {n cost : ℕ} {f : ℕ → ℕ} → new ≡ costs ++ cost ∷ [] → AreCosts costs n f →
    cost ≡ f n → AreCosts new (n + 1) f
pushed {costs} {new} {n} {cost} {f} grown are is = grind (arith, one_longer, get_or_append_left, get_or-append_seam)

pub no_costs : {costs : List ℕ} (f : ℕ → ℕ) → costs ≡ [] → AreCosts costs 0 f
no_costs f none = grind arith

module _ {i j : Tables} {a : List Machine} {m : ℕ} {row : List ℕ} {cost : ℕ} where
  -- the load cost of a machine, if the rows name the instance in their own words
  pub load_here : j ≡ i → IsUsageRow j a m row → cost ≡ row_load i m (slice_index row) → cost ≡ machine_load i a m
  load_here same used is = is ∙ load_from i a m row (rw same at used)

  pub balance_here : WellFormed i → j ≡ i → IsUsageRow j a m row → cost ≡ row_balance i m (slice_index row) →
      cost ≡ machine_balance i a m
  balance_here limits same used is = is ∙ balance_from i a m row limits (rw same at used)

-- the costs of the first n of all machines are renewed
pub record AreCostsTo (costs : List ℕ) (many n : ℕ) (f : ℕ → ℕ) : Type 0 where
  pub one_each : length costs ≡ many
  pub each : (m : ℕ) → m < n → slice_index costs m ≡ f m

module _ (f : ℕ → ℕ) where
  pub none_renewed : (costs : List ℕ) (many : ℕ) → length costs ≡ many → AreCostsTo costs many 0 f
  none_renewed costs many long = grind arith

  -- one cost more
  pub next_renewed : (many n : ℕ) {costs new : List ℕ} {cost : ℕ} → n < many → AreCostsTo costs many n f →
      new ≡ set costs n cost → cost ≡ f n → AreCostsTo new many (n + 1) f
  next_renewed many n within so_far is cost_is = grind (arith, length-set, get_or-set_same, get_or-set_other)

  pub all_renewed : (many n : ℕ) {costs : List ℕ} → many ≤ n → AreCostsTo costs many n f → AreCosts costs many f
  all_renewed many n all are = grind arith
