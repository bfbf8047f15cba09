-- No resource so far is too little.
use Rattle.std.proofs.Common.{◌≡◌}
use Rattle.ra_base.specs.Sums.{count}
use Rattle.ra_pins.specs.Walks.{overfull}
use Rattle.ra_pins.proofs.blocked.is_overfull.Given as goal

abbrev pub invariant-loop-r : goal.invariant-loop-r
invariant-loop-r g l = count l.r (overfull l.inst.tables l.kept.items l.p.0 l.m.0) ≡ 0
