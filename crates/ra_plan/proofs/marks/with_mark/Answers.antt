-- The place of the machine in the window, if it is there.
use Rattle.std.proofs.Common.{arith}
use Rattle.ra_plan.proofs.RingPlaces.{marked_here, marked_others}
use Rattle.ra_plan.proofs.marks.with_mark.Goals as goal

pub returns-then-place-lt64-clause-here : goal.returns-then-place-lt64-clause-here
returns-then-place-lt64-clause-here c = λ k below within at. marked_here c.args.marks c.place_from-place.result k
    c.if-place-lt64.true ((c.place_from-place.ensures k within).0 at)

pub returns-then-place-lt64-clause-others : goal.returns-then-place-lt64-clause-others
returns-then-place-lt64-clause-others c = λ k below within apart. marked_others c.args.marks c.place_from-place.result k
    c.if-place-lt64.true (λ same. apart ((c.place_from-place.ensures k within).1 same))

pub returns-else-place-lt64-clause-here : goal.returns-else-place-lt64-clause-here
returns-else-place-lt64-clause-here c =
    λ k below within at. absurd (omega (arith, (c.place_from-place.ensures k within).0 at, c.if-place-lt64.false))
