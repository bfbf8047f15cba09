-- A move that is judged Done is refused for no cause.
use Rattle.std.proofs.Common.{◌≡◌, ℕ, List, Option, Some, None, refl, sym, ◌∙◌}
use Rattle.ra_base.specs.declared.ids.Machine.{Machine}
use Rattle.ra_base.specs.declared.causes.Cause.{Cause}
use Rattle.ra_base.proofs.Searches.{left_none}
use Rattle.ra_model.specs.declared.raw.Tables.{Tables}
use Rattle.ra_model.specs.Situations.{situation}
use Rattle.ra_moves.specs.declared.steps.Step.{Step}
use Rattle.ra_moves.specs.declared.verdicts.Verdict.{Verdict}
use Rattle.ra_moves.specs.declared.verdicts.Verdict.TheVariants.{Done}
use Rattle.ra_moves.specs.Steps.{Distinct}
use Rattle.ra_moves.specs.Judging.{repeat_of, broken_by, verdict_of, judge}
use Rattle.ra_moves.proofs.Repeats.{distinct_from_none}

done_none : (found : Option Cause) (x cost : ℕ) → verdict_of found x ≡ Done cost → found ≡ None
unfolding verdict_of
done_none None x cost is = refl
done_none (Some cause) x cost is = absurd (cc)

pub done_unbroken : (i : Tables) (a0 a : List Machine) (steps : List Step) (rise cost : ℕ) (verdict : Verdict) →
    verdict ≡ judge (situation i a0 a) steps rise → verdict ≡ Done cost → broken_by (situation i a0 a) steps ≡ None
unfolding judge
done_unbroken i a0 a steps rise cost verdict is done = left_none _ _ (done_none _ _ cost (sym is ∙ done))

pub done_distinct : (i : Tables) (a0 a : List Machine) (steps : List Step) (rise cost : ℕ) (verdict : Verdict) →
    verdict ≡ judge (situation i a0 a) steps rise → verdict ≡ Done cost → Distinct steps
unfolding broken_by
done_distinct i a0 a steps rise cost verdict is done =
    distinct_from_none steps (left_none (repeat_of steps) _ (done_unbroken i a0 a steps rise cost verdict is done))
