-- Nothing so far.
use Rattle.std.proofs.Common.{◌≡◌, None, List}
use Rattle.ra_base.specs.Searches.{first}
use Rattle.ra_base.specs.declared.ids.Machine.{Machine}
use Rattle.ra_model.specs.Broken.{capacity_test}
use Rattle.ra_check.specs.Stands.{IsUsage}
use Rattle.ra_check.proofs.capacity.row_capacity.Given as goal

abbrev pub invariant-loop-r : goal.invariant-loop-r
invariant-loop-r l =
    (a : List Machine) → IsUsage l.inst.tables a l.used.items → first l.r (capacity_test l.inst.tables a l.m.0) ≡ None
