-- What two machines use and cost once two processes have exchanged them.
use Rattle.std.proofs.Common.{◌≡◌, ◌≢◌, ℕ, ◌+◌, ◌<◌, ◌≤◌, List, length, get_or, refl, sym, ap, ◌∙◌, arith, eq-eqb, ne_eqb}
use Rattle.std.proofs.lemmas.Bool.{cond-true, cond-false}
use Rattle.ra_base.specs.Sums.{total, fresh}
use Rattle.ra_base.specs.declared.ids.Machine.{Machine}
use Rattle.ra_base.proofs.Sums.{total_none, total_more}
use Rattle.ra_base.proofs.Named.{is_named_none, is_named_at, is_named_not, fresh_again, fresh_new}
use Rattle.ra_model.specs.declared.raw.Tables.{Tables}
use Rattle.ra_model.specs.Numbers.{resource_count, requirement_of}
use Rattle.ra_model.specs.Usage.{use_share, use_of}
use Rattle.ra_rows.specs.Rows.{IsUsageRow}
use Rattle.ra_moves.specs.declared.steps.Step.{Step}
use Rattle.ra_moves.specs.Steps.{step_at, process_in, from_in, to_in}
use Rattle.ra_moves.specs.Replacing.{applied}
use Rattle.ra_moves.specs.Values.{gone, come, end_count, end_in}
use Rattle.ra_moves.specs.Moving.{IsMove}
use Rattle.ra_moves.proofs.ValueLemmas.{end_from, end_to}
use Rattle.ra_moves.proofs.StayLemmas.{tally_applied}
use Rattle.ra_weigh.specs.Exchanges.{IsExchange, IsExchangedAt, HasExchanged}
use Rattle.ra_weigh.proofs.MoveLemmas.{from_read, to_read}
use Rattle.ra_weigh.proofs.RowUse.{IsRequiredRow}

-- the two machines
pub first_exchanged : (steps : List Step) → IsExchange steps → IsExchangedAt steps (from_in steps 0) 1 0
first_exchanged steps exchange = record { exchange = exchange; other = omega arith; here = refl }

pub second_exchanged : (steps : List Step) → IsExchange steps → IsExchangedAt steps (to_in steps 0) 0 1
second_exchanged steps exchange = record { exchange = exchange; other = omega arith; here = sym exchange.there }

module _ (i : Tables) (m r p at : ℕ) where
  -- a share at its machine, and elsewhere
  there : at ≡ m → use_share i m r p at ≡ requirement_of i p r
  unfolding use_share
  there same = cond-true _ _ _ (eq-eqb at m same)

  elsewhere : at ≢ m → use_share i m r p at ≡ 0
  unfolding use_share
  elsewhere apart = cond-false _ _ _ (ne_eqb at m apart)

total_two : {n : ℕ} (g : ℕ → ℕ) → n ≡ 2 → total n g ≡ g 0 + g 1
total_two g two =
    let one : total 1 g ≡ total 0 g + g 0 = total_more 0 g in
    let both : total 2 g ≡ total 1 g + g 1 = total_more 1 g in
    rw two (omega (arith, one, both, total_none g))

-- both steps of an exchange are steps of its move
pub step_within : (steps : List Step) (m comes goes : ℕ) → IsExchangedAt steps m comes goes →
    (comes < length steps) × (goes < length steps)
step_within steps m comes goes at = (omega (arith, at.other, at.exchange.two), omega (arith, at.other, at.exchange.two))

module _ {i : Tables} {a : List Machine} {steps : List Step} {m : ℕ} where
  module _ (r : ℕ) (move : IsMove i a steps) (exchange : IsExchange steps) where
    -- the use of a resource after the exchange, of the machine that the first process leaves, and of that of the second
    first_use : from_in steps 0 ≡ m → use_of i (applied a steps) m r + requirement_of i (process_in steps 0) r ≡
        use_of i a m r + requirement_of i (process_in steps 1) r
    unfolding use_of come gone
    first_use here = grind (arith, tally_applied, total_two, there, elsewhere)

    second_use : from_in steps 1 ≡ m → use_of i (applied a steps) m r + requirement_of i (process_in steps 1) r ≡
        use_of i a m r + requirement_of i (process_in steps 0) r
    unfolding use_of come gone
    second_use here = grind (arith, tally_applied, total_two, elsewhere, there)

  module _ {comes goes : ℕ} where
    module _ (r : ℕ) where
      pub exchanged_use : IsMove i a steps → IsExchangedAt steps m comes goes →
          use_of i (applied a steps) m r + requirement_of i (process_in steps goes) r ≡
          use_of i a m r + requirement_of i (process_in steps comes) r
      exchanged_use move at = grind (arith, first_use, second_use)

      -- a row of use can follow, and is then that of the assignment after the exchange
      pub enough_used : (row coming going : List ℕ) → IsMove i a steps → IsExchangedAt steps m comes goes →
          length row ≡ resource_count i → IsUsageRow i a m row → IsRequiredRow i steps comes coming →
          IsRequiredRow i steps goes going → r < length row → get_or going r 0 ≤ get_or row r 0 + get_or coming r 0
      enough_used row coming going move at width usage comes_is goes_is inside = grind (arith, exchanged_use)

    pub row_exchanged : (old new coming going : List ℕ) → IsMove i a steps → IsExchangedAt steps m comes goes →
        length old ≡ resource_count i → IsUsageRow i a m old → IsRequiredRow i steps comes coming →
        IsRequiredRow i steps goes going → HasExchanged old new coming going → IsUsageRow i (applied a steps) m new
    row_exchanged old new coming going move at width usage comes_is goes_is exchanged = grind (arith, exchanged_use)

module _ (steps : List Step) where
  -- the machines of an exchange, each once
  pub exchanged_ends : (f : ℕ → ℕ) → IsExchange steps →
      total (end_count steps) (fresh (end_in steps) f) ≡ f (from_in steps 0) + f (to_in steps 0)
  unfolding end_count
  exchanged_ends f exchange =
      let e = end_in steps in
      let g = fresh e f in
      let first : e 0 ≡ from_in steps 0 = end_from steps 0 (omega (arith, exchange.two)) in
      let second : e 1 ≡ from_in steps 1 = end_from steps 1 (omega (arith, exchange.two)) in
      let apart : e 0 ≢ e 1 = λ same. exchange.apart (sym first ∙ same ∙ second ∙ sym exchange.there) in
      let none : g 0 ≡ f (e 0) = fresh_new e f 0 (is_named_none e (e 0)) in
      let one : g 1 ≡ f (e 1) = fresh_new e f 1 (is_named_not 1 e (e 1)
      (λ j below same. apart (ap e (omega arith) ∙ same))) in
      let two : g 2 ≡ 0 = fresh_again e f 2 (is_named_at 2 1 e _ (omega arith)
      (second ∙ sym exchange.there ∙ sym (ap e (omega (arith, exchange.two)) ∙ end_to steps 0))) in
      let three : g 3 ≡ 0 = fresh_again e f 3 (is_named_at 3 0 e _ (omega arith)
      (first ∙ sym exchange.back ∙ sym (ap e (omega (arith, exchange.two)) ∙ end_to steps 1))) in
      let sum_one : total 1 g ≡ total 0 g + g 0 = total_more 0 g in
      let sum_two : total 2 g ≡ total 1 g + g 1 = total_more 1 g in
      let sum_three : total 3 g ≡ total 2 g + g 2 = total_more 2 g in
      let sum_four : total 4 g ≡ total 3 g + g 3 = total_more 3 g in
      let four : length steps + length steps ≡ 4 = omega (arith, exchange.two) in
      rw four (omega (
        arith,
        total_none g,
        sum_one,
        sum_two,
        sum_three,
        sum_four,
        none,
        one,
        two,
        three,
        ap f first,
        ap f (second ∙ sym exchange.there),
      ))

  module _ (s : Step) (exchange : IsExchange steps) (is : s ≡ step_at steps 0) where
    -- a step that is read at one of the two machines
    pub first_read : IsExchangedAt steps s.from.0 1 0
    first_read = rw (from_read steps 0 s is) (first_exchanged steps exchange)

    pub second_read : IsExchangedAt steps s.to.0 0 1
    second_read = rw (to_read steps 0 s is) (second_exchanged steps exchange)

-- the cost of both is that of all ends
pub cost_exchanged : {steps : List Step} (f : ℕ → ℕ) {s : Step} {first second : ℕ} → IsExchange steps →
    s ≡ step_at steps 0 → first ≡ f s.from.0 → second ≡ f s.to.0 →
    first + second ≡ total (end_count steps) (fresh (end_in steps) f)
cost_exchanged {steps} f {s} exchange is first_is second_is = grind (arith, from_read, to_read, exchanged_ends)
