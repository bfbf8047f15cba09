-- The steps of a move, as they are read.
use Rattle.std.proofs.Common.{◌≡◌, ℕ, zero, suc, ◌+◌, ◌<◌, ◌≤◌, ◌||◌, cond, eqb, List, [], ◌∷◌, length, sym, ap, ◌∙◌, arith, false, ◌≢◌, get_or, replicate, refl, take, drop, ◌*◌, ◌-◌}
use Rattle.std.proofs.lemmas.List.{get_or-take, get_or-drop}
use Rattle.ra_base.proofs.Tables.{cell_is}
use Rattle.std.proofs.lemmas.Bool.{or_from}
use Rattle.ra_base.specs.Sums.{is_named}
use Rattle.ra_base.specs.declared.ids.Machine.{Machine}
use Rattle.ra_base.proofs.Named.{is_named_more}
use Rattle.ra_model.specs.declared.raw.Tables.{Tables}
use Rattle.ra_model.specs.Limits.{WellFormed}
use Rattle.ra_model.specs.Numbers.{resource_count, machine_count, service_count, process_count, requirement_of, service_of, dependency_count, need_of}
use Rattle.ra_model.specs.Assignments.{machine_at}
use Rattle.ra_model.specs.Usage.{use_share, transient_share}
use Rattle.ra_moves.specs.declared.steps.Step.{Step}
use Rattle.ra_moves.specs.Steps.{step_at, process_in, from_in, to_in}
use Rattle.ra_moves.specs.Values.{gone, come}
use Rattle.ra_moves.specs.Touched.{service_in}
use Rattle.ra_moves.specs.Moving.{IsMove}
use Rattle.ra_world.specs.Required.{AreRequiredRows}
use Rattle.ra_weigh.specs.Flowing.{AreFirstSteps, AreNone}

module _ (steps : List Step) (a b c : Step) (few : length steps ≤ 3) (one : (0 < length steps → a ≡ step_at steps 0))
    (two : (1 < length steps → b ≡ step_at steps 1)) (three : (2 < length steps → c ≡ step_at steps 2)) where
  -- three steps that are read
  read_each : (j : ℕ) → j < length steps → step_at (a ∷ b ∷ c ∷ []) j ≡ step_at steps j
  unfolding step_at
  read_each zero within = one within
  read_each (suc zero) within = two within
  read_each (suc (suc zero)) within = three within
  read_each (suc (suc (suc j))) within = absurd (omega arith)

  pub three_read : AreFirstSteps steps (a ∷ b ∷ c ∷ [])
  three_read = record { each = read_each }

-- what the process of a step requires, as it is read
pub required_there : (i : Tables) (steps : List Step) (n j r width : ℕ) (table : List ℕ) →
    AreRequiredRows i steps n table → j < n → r < resource_count i → width ≡ resource_count i →
    get_or (take (j * 20 + width - j * 20) (drop (j * 20) table)) r 0 ≡ requirement_of i (process_in steps j) r
required_there i steps n j r width table are within inside all = grind (arith, get_or-take, get_or-drop, cell_is)

-- nothing of each resource
nothings : ℕ → List ℕ
nothings n = replicate n 0

none_at : (n r : ℕ) → get_or (nothings n) r 0 ≡ 0
unfolding nothings
none_at zero r = refl
none_at (suc n) zero = refl
none_at (suc n) (suc r) = none_at n r

pub none_each : (n : ℕ) → AreNone (replicate n 0)
unfolding nothings
none_each n = record { each = λ r within. none_at n r }

module _ {i : Tables} where
  module _ {a : List Machine} {steps : List Step} {j : ℕ} {s : Step} (move : IsMove i a steps)
      (is : s ≡ step_at steps j) (within : j < length steps) where
    -- its process and its machines exist
    pub step_process : s.process.0 < process_count i
    unfolding process_in
    step_process = rw is (omega (arith, move.stands.known j within, move.fits.one_each))

    pub step_to : s.to.0 < machine_count i
    unfolding to_in
    step_to = rw is (move.reaches j within)

    pub step_from : s.from.0 < machine_count i
    unfolding from_in process_in
    step_from = grind arith

  pub service_there : {p s : ℕ} → WellFormed i → p < process_count i → s ≡ service_of i p → s < service_count i
  service_there limits there is = rw is (limits.services _ there)

  pub service_within : {a : List Machine} {steps : List Step} {j : ℕ} → WellFormed i → IsMove i a steps →
      j < length steps → service_in i steps j < service_count i
  unfolding service_in
  service_within {steps} {j} limits move within =
      limits.services (process_in steps j) (omega (arith, move.stands.known j within, move.fits.one_each))

  pub need_there : {s k need : ℕ} → WellFormed i → s < service_count i → k < dependency_count i s →
      need ≡ need_of i s k → need < service_count i
  unfolding need_of dependency_count
  need_there limits there within is = grind arith

pub ruleset known = (step_process, step_to, step_from, service_there)

module _ (steps : List Step) (j : ℕ) {s : Step} (is : s ≡ step_at steps j) where
  -- what its number names
  pub process_read : process_in steps j ≡ s.process.0
  unfolding process_in
  process_read = ap (λ (t : Step). t.process.0) (sym is)

  pub from_read : from_in steps j ≡ s.from.0
  unfolding from_in
  from_read = ap (λ (t : Step). t.from.0) (sym is)

  pub to_read : to_in steps j ≡ s.to.0
  unfolding to_in
  to_read = ap (λ (t : Step). t.to.0) (sym is)

pub service_read : (i : Tables) (steps : List Step) (j : ℕ) {s : Step} {u : ℕ} → s ≡ step_at steps j →
    u ≡ service_of i s.process.0 → service_in i steps j ≡ u
unfolding service_in
service_read i steps j is of = ap (service_of i) (process_read steps j is) ∙ sym of

module _ (f : ℕ → ℕ → ℕ) (steps : List Step) (j : ℕ) {s : Step} (x : ℕ) (is : s ≡ step_at steps j) where
  -- what it adds and takes
  pub come_read : x ≡ f s.process.0 s.to.0 → x ≡ come f steps j
  unfolding come process_in to_in
  come_read value = rw is at value

  pub gone_read : x ≡ f s.process.0 s.from.0 → x ≡ gone f steps j
  unfolding gone process_in from_in
  gone_read value = rw is at value

module _ (i : Tables) (steps : List Step) (m r j : ℕ) {s : Step} {amount : ℕ} (x : ℕ) (is : s ≡ step_at steps j)
    (amount_is : amount ≡ requirement_of i (process_in steps j) r) where
  -- of use
  pub use_comes : x ≡ cond (eqb s.to.0 m) amount 0 → x ≡ come (use_share i m r) steps j
  unfolding use_share process_in
  use_comes value = grind (arith, come_read)

  pub use_goes : x ≡ cond (eqb s.from.0 m) amount 0 → x ≡ gone (use_share i m r) steps j
  unfolding use_share process_in
  use_goes value = grind (arith, gone_read)

module _ (i : Tables) (a0 : List Machine) (steps : List Step) (m r j : ℕ) {s : Step} {home amount : ℕ} (x : ℕ)
    (is : s ≡ step_at steps j) (home_is : home ≡ machine_at a0 s.process.0)
    (amount_is : amount ≡ requirement_of i (process_in steps j) r) where
  -- of transient use
  pub transient_comes : x ≡ cond (eqb home m || eqb s.to.0 m) amount 0 → x ≡ come (transient_share i a0 m r) steps j
  unfolding transient_share process_in
  transient_comes value = grind (arith, come_read)

  pub transient_goes : x ≡ cond (eqb home m || eqb s.from.0 m) amount 0 → x ≡ gone (transient_share i a0 m r) steps j
  unfolding transient_share process_in
  transient_goes value = grind (arith, gone_read)

-- one more name that isn't m
pub unnamed_more : (k : ℕ) {x : ℕ} (e : ℕ → ℕ) (m : ℕ) → is_named k e m ≡ false → e k ≡ x → x ≢ m →
    is_named (k + 1) e m ≡ false
unnamed_more k {x} e m before is apart = grind (arith, is_named_more, or_from)
