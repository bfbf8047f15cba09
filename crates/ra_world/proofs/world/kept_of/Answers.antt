-- What is made is that of the initial assignment.
use Rattle.std.proofs.Common.{ap}
use Rattle.ra_base.specs.Listed.{Listed}
use Rattle.ra_base.specs.declared.ids.Machine.{Machine}
use Rattle.ra_world.proofs.FollowLaws.{keeps_on}
use Rattle.ra_world.proofs.world.kept_of.Goals as goal

pub returns-clause-keeps : goal.returns-clause-keeps
returns-clause-keeps c =
    let a0 = c.args.a0.now.items in
    let stands = c.in_ok-rows.ensures.stands in
    keeps_on (ap (λ (l : Listed Machine). l.items) c.in_ok-assignment.ensures) c.requires.fits
    c.in_ok-rows.ensures.tables c.in_ok-rows.ensures.start
    stands c.in_ok-cells.ensures (c.in_ok-loads.ensures a0 stands) (c.in_ok-balances.ensures a0 stands)
    (c.in_ok-filters.ensures a0 stands) c.requires.parts

pub returns-clause-assignment : goal.returns-clause-assignment
returns-clause-assignment c = ap (λ (l : Listed Machine). l.items) c.in_ok-assignment.ensures
