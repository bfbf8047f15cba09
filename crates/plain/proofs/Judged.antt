-- The verdict on a move, by the cause that is found first.
use Rattle.std.proofs.Common.{◌≡◌, ℕ, List, Option, Some, None, refl, sym, ap, ◌∙◌}
use Rattle.ra_base.specs.Searches.{or_else}
use Rattle.ra_base.specs.declared.causes.Cause.{Cause}
use Rattle.ra_base.specs.declared.ids.Machine.{Machine}
use Rattle.ra_base.proofs.Searches.{or_else_some, or_else_assoc, left_none, right_none}
use Rattle.ra_model.specs.declared.raw.Tables.{Tables}
use Rattle.ra_model.specs.Broken.{first_broken}
use Rattle.ra_model.specs.Costs.{objective}
use Rattle.ra_model.specs.Situations.{situation, broken_at, Situation}
use Rattle.ra_moves.specs.declared.steps.Step.{Step}
use Rattle.ra_moves.specs.declared.verdicts.Verdict.TheVariants.{Refused}
use Rattle.ra_moves.specs.Replacing.{applied, after_move}
use Rattle.ra_moves.specs.Steps.{Distinct}
use Rattle.ra_moves.proofs.Repeats.{distinct_from_none}
use Rattle.ra_moves.specs.Judging.{repeat_of, same_of, broken_by, rise_test, verdict_of, judge}

-- a flaw of the steps
pub judge_flaw : (st : Situation) (steps : List Step) (allowed : ℕ) (cause : Cause) →
    or_else (repeat_of steps) (same_of steps) ≡ Some cause → Refused cause ≡ judge st steps allowed
unfolding judge broken_by verdict_of
judge_flaw st steps allowed cause found =
    rw (
      ← or_else_assoc (repeat_of steps) (same_of steps) (broken_at (after_move st steps)),
      found,
      or_else_some,
      or_else_some,
    ) refl

-- no process is named twice in steps without a flaw
pub flawless_distinct : (steps : List Step) → or_else (repeat_of steps) (same_of steps) ≡ None → Distinct steps
flawless_distinct steps none = distinct_from_none steps (left_none (repeat_of steps) (same_of steps) none)

-- else the verdict by what the move makes of the assignment
pub judge_outcome : (i : Tables) (a0 a after : List Machine) (steps : List Step) (before allowed : ℕ) →
    or_else (repeat_of steps) (same_of steps) ≡ None → after ≡ applied a steps → before ≡ objective i a0 a →
    verdict_of (or_else (first_broken i a0 after) (rise_test before (objective i a0 after) allowed))
    (objective i a0 after) ≡ judge (situation i a0 a) steps allowed
unfolding judge broken_by or_else
judge_outcome i a0 a after steps before allowed none made cost =
    rw (left_none (repeat_of steps) (same_of steps) none, right_none (repeat_of steps) (same_of steps) none, made, cost)
    refl
