use Rattle.ra_report.proofs.GatheringLemmas.{moves_put, moves_nothing}
use Rattle.ra_report.proofs.gathered.put_unless.Goals as goal

pub returns-then-failed-clause-moves : goal.returns-then-failed-clause-moves
returns-then-failed-clause-moves g c = rw c.if-failed.true (moves_nothing _ _ _)

pub returns-else-failed-clause-moves : goal.returns-else-failed-clause-moves
returns-else-failed-clause-moves g c =
    rw (c.if-failed.false, c.is_err.ensures.value)
    (moves_put c.put_all.result _ _ _ _ _ c.put_all.ensures.whole c.put_all.ensures.part c.put_all.ensures.failed)
