-- A plan whose move breaks a constraint is recorded as refused, so its entry touches nothing.
use Rattle.std.proofs.Common.{◌≡◌, ℕ, ℤ, List, length, Option, Some, None, refl, ap, sym, ◌∙◌}
use Rattle.ra_base.specs.Searches.{or_else}
use Rattle.ra_base.specs.declared.causes.Cause.{Cause}
use Rattle.ra_base.specs.declared.costs.MovedCount.{MovedCount}
use Rattle.ra_moves.specs.declared.steps.Step.{Step}
use Rattle.ra_moves.specs.declared.verdicts.Plan.{Plan}
use Rattle.ra_moves.specs.declared.verdicts.Weighed.{Weighed}
use Rattle.ra_moves.specs.declared.verdicts.Verdict.TheVariants.{Refused}
use Rattle.ra_moves.specs.MoveSteps.{MoveSteps}
use Rattle.ra_moves.specs.Judging.{broken_by, verdict_of, judge}
use Rattle.ra_moves.specs.Weighing.{weighed_by, weighed_of}
use Rattle.ra_model.specs.Situations.{Situation}
use Rattle.ra_journal.specs.declared.entries.Entry.{Entry}
use Rattle.ra_journal.specs.Legal.{Legal}
use Rattle.ra_journal.specs.Committing.{next_move, next_entry, newer_since, IsCommit}
use Rattle.ra_journal.specs.Keeping.{IsStart}
use Rattle.ra_journal.specs.Openings.{Opening}
use Rattle.ra_journal.specs.States.{state_at}
use Rattle.ra_journal.proofs.EndLemmas.{planned_at_end, next_is_planned}

broken_in : (broken : Option Cause) (local : ℤ) (counts : ℕ → Option MovedCount) →
    (weighed_by broken local counts).broken ≡ broken
unfolding weighed_by
broken_in None local counts = refl
broken_in (Some cause) local counts = refl

-- the cause that a weighing tells
pub broken_of : (st : Situation) (steps : List Step) →
    (weighed_of st steps).broken ≡ broken_by st steps
unfolding weighed_of
broken_of st steps = broken_in _ _ _

refused_for : (broken rise : Option Cause) (cause : Cause) (cost : ℕ) → broken ≡ Some cause →
    verdict_of (or_else broken rise) cost ≡ Refused cause
unfolding verdict_of or_else
refused_for None rise cause cost is = absurd (cc is)
refused_for (Some found) rise cause cost is = ap Refused (let same : found ≡ cause = cc is in same)

-- the verdict on it at the end, if no guard of its move was touched since it was planned
pub broken_is_refused : (o : Opening) (h : List Entry) (w : ℕ) (plan : Plan)
    (cause : Cause) → IsStart o → Legal o h → IsCommit o h w plan
    → newer_since o.tables h plan.q plan.mv.steps ≡ None → plan.weighed.broken ≡ Some cause →
    (next_entry o h w plan.q).verdict ≡ Refused cause
unfolding next_entry judge
broken_is_refused o h w plan cause start legal commit none is =
    let st = state_at o h (length h) in
    let end = planned_at_end o h w plan start legal commit none in
    let move : next_move o h w plan.q ≡ plan.mv = next_is_planned o h w plan commit in
    let told : broken_by st plan.mv.steps ≡ Some cause = sym (broken_of st plan.mv.steps)
    ∙ (ap (λ (x : Weighed). x.broken) (sym end.weighed) ∙ is) in
    let broken : broken_by st (next_move o h w plan.q).steps ≡ Some cause =
    ap (λ (mv : MoveSteps). broken_by st mv.steps) move ∙ told in
    refused_for _ _ cause _ broken
