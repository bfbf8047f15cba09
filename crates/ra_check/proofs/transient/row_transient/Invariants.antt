-- Nothing so far.
use Rattle.std.proofs.Common.{◌≡◌, None, List}
use Rattle.ra_base.specs.Searches.{first}
use Rattle.ra_base.specs.declared.ids.Machine.{Machine}
use Rattle.ra_model.specs.Broken.{transient_test}
use Rattle.ra_check.specs.Stands.{IsTransientUse}
use Rattle.ra_check.proofs.transient.row_transient.Given as goal

abbrev pub invariant-loop-r : goal.invariant-loop-r
invariant-loop-r l = (a0 a : List Machine) → IsTransientUse l.inst.tables a0 a l.used.items →
    first l.r (transient_test l.inst.tables a0 a l.m.0) ≡ None
