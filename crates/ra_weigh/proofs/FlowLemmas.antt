-- What the steps of a move add to a sum over the processes and take from it, and the sum after it.
use Rattle.std.proofs.Common.{◌≡◌, ◌≢◌, ℕ, ◌+◌, ◌-◌, ◌*◌, ◌<◌, ◌≤◌, Bool, false, cond, eqb, List, length, get_or, arith, eq-eqb}
use Rattle.std.proofs.lemmas.Bool.{or_left}
use Rattle.ra_base.specs.Sums.{total}
use Rattle.ra_base.proofs.Sums.{total_none, total_more}
use Rattle.ra_base.specs.declared.ids.Machine.{Machine}
use Rattle.ra_model.specs.declared.raw.Tables.{Tables}
use Rattle.ra_model.specs.Numbers.{resource_count, process_count, requirement_of}
use Rattle.ra_model.specs.Assignments.{machine_at, tally}
use Rattle.ra_model.specs.Usage.{use_share, transient_share}
use Rattle.ra_moves.specs.declared.steps.Step.{Step}
use Rattle.ra_moves.specs.Steps.{step_at, process_in}
use Rattle.ra_moves.specs.Replacing.{applied}
use Rattle.ra_moves.specs.Values.{gone, come}
use Rattle.ra_moves.specs.Moving.{IsMove}
use Rattle.ra_moves.proofs.StayLemmas.{tally_applied}
use Rattle.ra_weigh.specs.Flowing.{HasAlso, HasFlow}
use Rattle.ra_weigh.proofs.StepLemmas.{use_comes, use_goes, transient_comes, transient_goes}

-- what the first n steps add and take, each no more than a bound
pub record Flows (f : ℕ → ℕ → ℕ) (steps : List Step) (n bound came went : ℕ) : Type 0 where
  pub came_is : came ≡ total n (come f steps)
  pub went_is : went ≡ total n (gone f steps)
  pub came_few : came ≤ n * bound
  pub went_few : went ≤ n * bound

module _ (f : ℕ → ℕ → ℕ) (steps : List Step) where
  pub flows_none : (bound : ℕ) → Flows f steps 0 bound 0 0
  flows_none bound = grind (arith, total_none)

  pub flows_more : {n bound came went c g : ℕ} → Flows f steps n bound came went → c ≡ come f steps n →
      g ≡ gone f steps n → c ≤ bound → g ≤ bound → Flows f steps (n + 1) bound (came + c) (went + g)
  flows_more {n} before c_is g_is c_few g_few = record {
    came_is = omega (arith, before.came_is, c_is, total_more n (come f steps));
    went_is = omega (arith, before.went_is, g_is, total_more n (gone f steps));
    came_few = grind (arith, before.came_few);
    went_few = grind (arith, before.went_few);
  }

module _ (i : Tables) where
  module _ {a : List Machine} {steps : List Step} {f : ℕ → ℕ → ℕ} {n bound kept came went : ℕ}
      (move : IsMove i a steps) (all : n ≡ length steps) (flows : Flows f steps n bound came went)
      (is : kept ≡ tally (process_count i) f a) where
    pub flowed_enough : went ≤ kept + came
    flowed_enough =
        let came_all : came ≡ total (length steps) (come f steps) = rw all at flows.came_is in
        let went_all : went ≡ total (length steps) (gone f steps) = rw all at flows.went_is in
        omega (arith, came_all, went_all, is, tally_applied i a steps f move)

    pub flowed : kept + came - went ≡ tally (process_count i) f (applied a steps)
    flowed = grind (arith, tally_applied)

  module _ (share : ℕ → ℕ → ℕ → ℕ) (steps : List Step) where
    -- Rows of amounts that come and go.

    pub flow_none : (nothing : List ℕ) → length nothing ≡ resource_count i → HasFlow i share steps 0 nothing nothing
    flow_none nothing width = grind (arith, total_none)

    pub flow_more : {n : ℕ} {coming going : List ℕ} (more_coming more_going amounts : List ℕ) (comes goes : Bool) →
        HasFlow i share steps n coming going → HasAlso comes amounts coming more_coming →
        HasAlso goes amounts going more_going →
        ((r : ℕ) → r < resource_count i →
        gone (share r) steps n + cond comes (get_or amounts r 0) 0 ≡
        come (share r) steps n + cond goes (get_or amounts r 0) 0) →
        HasFlow i share steps (n + 1) more_coming more_going
    flow_more {n} more_coming more_going amounts comes goes before came went step = grind (arith, total_more)

  -- one step, of use and of transient use
  pub use_moves : (steps : List Step) (m r j : ℕ) (s : Step) (amount : ℕ) → s ≡ step_at steps j →
      amount ≡ requirement_of i (process_in steps j) r →
      gone (use_share i m r) steps j + cond (eqb s.to.0 m) amount 0 ≡
      come (use_share i m r) steps j + cond (eqb s.from.0 m) amount 0
  use_moves steps m r j s amount is amount_is = grind (arith, use_comes, use_goes)

  pub transient_moves : (a0 : List Machine) (steps : List Step) (m r j home : ℕ) (s : Step) (amount : ℕ) (comes goes :
      Bool) → s ≡ step_at steps j → home ≡ machine_at a0 s.process.0 →
      amount ≡ requirement_of i (process_in steps j) r → (home ≡ m → comes ≡ false) →
      (home ≢ m → comes ≡ eqb s.to.0 m) → (home ≡ m → goes ≡ false) → (home ≢ m → goes ≡ eqb s.from.0 m) →
      gone (transient_share i a0 m r) steps j + cond comes amount 0 ≡
      come (transient_share i a0 m r) steps j + cond goes amount 0
  transient_moves a0 steps m r j home s amount comes goes is home_is amount_is comes_not comes_is goes_not goes_is =
      grind (arith, transient_comes, transient_goes, or_left, eq-eqb)

  -- what they make of a sum
  pub flow_sum : {a : List Machine} {steps : List Step} {share : ℕ → ℕ → ℕ →
      ℕ} (r : ℕ) {kept came went : ℕ} {coming going : List ℕ} → IsMove i a steps →
      HasFlow i share steps (length steps) coming going → r < resource_count i →
      kept ≡ tally (process_count i) (share r) a → came ≡ get_or coming r 0 → went ≡ get_or going r 0 →
      kept + came ≡ tally (process_count i) (share r) (applied a steps) + went
  flow_sum {a} {steps} {share} r move flow within is came_is went_is =
      omega (arith, is, came_is, went_is, flow.each r within, tally_applied i a steps (share r) move)

pub ruleset flowing = (flows_none, flowed_enough, flowed)
