-- The steps of a move one after another, if no process is named twice and no step stays: what each needs.
use Rattle.std.proofs.Common.{◌≡◌, ◌≢◌, ℕ, ◌<◌, List, length, None, eqb, sym, ap, ◌∙◌, arith, eq-eqb}
use Rattle.std.proofs.lemmas.Bool.{both_ways}
use Rattle.ra_base.specs.declared.ids.Machine.{Machine}
use Rattle.ra_base.proofs.Searches.{first_none_at}
use Rattle.ra_model.specs.declared.raw.Tables.{Tables}
use Rattle.ra_model.specs.Numbers.{machine_count, process_count}
use Rattle.ra_model.specs.Assignments.{IsAssignment, machine_at}
use Rattle.ra_model.proofs.BrokenLemmas.{cause_none}
use Rattle.ra_moves.specs.declared.steps.Step.{Step}
use Rattle.ra_moves.specs.Steps.{step_at, process_in, from_in, to_in, StandsAt, Distinct}
use Rattle.ra_moves.specs.Replacing.{after_steps}
use Rattle.ra_moves.specs.Judging.{same_test, same_of}
use Rattle.ra_moves.proofs.ValueLemmas.{after_before}

-- no step stays where it is
pub apart_from_none : (steps : List Step) → same_of steps ≡ None → (j : ℕ) → j < length steps →
    from_in steps j ≢ to_in steps j
unfolding same_of same_test
apart_from_none steps none j within same =
    both_ways (eqb (from_in steps j) (to_in steps j))
    (cause_none _ _ (first_none_at j (length steps) (same_test steps) within none))
    (eq-eqb (from_in steps j) (to_in steps j) same)

-- what one of the steps needs, if those before it are done
pub record IsStep (i : Tables) (b : List Machine) (s : Step) : Type 0 where
  pub known : s.process.0 < process_count i
  pub reach : s.to.0 < machine_count i
  pub apart : s.from.0 ≢ s.to.0
  pub at_from : machine_at b s.process.0 ≡ s.from.0

pub step_needs : (i : Tables) (a b : List Machine) (steps : List Step) (j : ℕ) (s : Step) → IsAssignment i a →
    StandsAt from_in steps a → Distinct steps → ((k : ℕ) → k < length steps → from_in steps k ≢ to_in steps k) →
    ((k : ℕ) → k < length steps → to_in steps k < machine_count i) → j < length steps → b ≡ after_steps a steps j →
    s ≡ step_at steps j → IsStep i b s
unfolding process_in from_in to_in
step_needs i a b steps j s fits stand distinct apart reach within made is = record {
  known = omega (arith, ap (λ x. x.process.0) is, stand.known j within, fits.one_each);
  reach = omega (arith, ap (λ x. x.to.0) is, reach j within);
  apart = λ same. apart j within (sym (rw is) ∙ same ∙ ap (λ x. x.to.0) is);
  at_from = ap (machine_at b) (rw is) ∙ ap (λ xs. machine_at xs (process_in steps j)) made
      ∙ after_before a steps j within stand distinct ∙ sym (rw is);
}
