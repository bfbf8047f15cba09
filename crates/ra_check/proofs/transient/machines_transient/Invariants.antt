-- Nothing so far.
use Rattle.std.proofs.Common.{◌≡◌, None, List}
use Rattle.ra_base.specs.Searches.{first}
use Rattle.ra_base.specs.declared.ids.Machine.{Machine}
use Rattle.ra_model.specs.Broken.{row_transient}
use Rattle.ra_check.specs.Stands.{IsTransientUse}
use Rattle.ra_check.proofs.transient.machines_transient.Given as goal

abbrev pub invariant-loop-m : goal.invariant-loop-m
invariant-loop-m l = (a0 a : List Machine) → IsTransientUse l.inst.tables a0 a l.used.items →
    first l.m (row_transient l.inst.tables a0 a) ≡ None
