use Rattle.test_run.proofs.RunLemmas.{best_told, bound_told}
use Rattle.test_run.proofs.reports.running.write_run.Goals as goal

pub write_told-ended-requires-clause-best : goal.write_told-ended-requires-clause-best
write_told-ended-requires-clause-best g c κs within = best_told _ _ c.solve-run.ensures

pub write_told-ended-requires-clause-bound : goal.write_told-ended-requires-clause-bound
write_told-ended-requires-clause-bound g c κs within =
    let made = rw c.expect-prepared.ensures at c.make-2.ensures in
    let is = rw (made.instance, made.initial, made.lots) at c.solve-run.ensures in
    bound_told _ c.solve-run.result c.bound_from-bound.result
    is c.bound_from-bound.ensures
