-- Nothing so far.
use Rattle.std.proofs.Common.{◌≡◌, None, List}
use Rattle.ra_base.specs.Searches.{first}
use Rattle.ra_base.specs.declared.ids.Machine.{Machine}
use Rattle.ra_model.specs.Broken.{row_capacity}
use Rattle.ra_check.specs.Stands.{IsUsage}
use Rattle.ra_check.proofs.capacity.machines_capacity.Given as goal

abbrev pub invariant-loop-m : goal.invariant-loop-m
invariant-loop-m l =
    (a : List Machine) → IsUsage l.inst.tables a l.used.items → first l.m (row_capacity l.inst.tables a) ≡ None
