-- The moved processes so far.
use Rattle.std.proofs.Common.{◌≡◌, length}
use Rattle.ra_model.specs.Numbers.{service_count}
use Rattle.ra_check.specs.Stands.{HasMoved}
use Rattle.ra_check.proofs.moved.count_moved.Given as goal

abbrev pub invariant-loop-p : goal.invariant-loop-p
invariant-loop-p l = record {
  counted : HasMoved l.inst.tables l.a0.items l.a.items l.p l.counts.items;
  slots : length l.counts.items ≡ service_count l.inst.tables;
}
