-- The number read is the use, and the code's test is that of the definition.
use Rattle.std.proofs.Common.{◌≡◌, List, arith, ◌∙◌}
use Rattle.ra_base.specs.declared.ids.Machine.{Machine}
use Rattle.ra_base.specs.Tables.{cell}
use Rattle.ra_model.specs.Numbers.{resource_count}
use Rattle.ra_check.proofs.CapacityLaws.{over_capacity, within_capacity}
use Rattle.ra_model.specs.Usage.{use_of}
use Rattle.ra_check.proofs.capacity.capacity_test.Goals as goal

pub returns-then-from-used : goal.returns-then-from-used
unfolding use_of
returns-then-from-used c = λ (a : List Machine) sums.
    let i = c.args.inst.now.tables in
    let read : c.read_cell-used.result ≡ cell (resource_count i) c.args.used.now.items c.args.m.0 c.args.r.0 =
    rw (← c.resources.ensures) c.read_cell-used.ensures in
    over_capacity i a c.args.m.0 c.args.r.0
    (read ∙ sums.each c.args.m.0 c.args.r.0 c.requires.resource)
    c.capacity-cap.ensures (omega arith)

pub returns-else-from-used : goal.returns-else-from-used
unfolding use_of
returns-else-from-used c = λ (a : List Machine) sums.
    let i = c.args.inst.now.tables in
    let read : c.read_cell-used.result ≡ cell (resource_count i) c.args.used.now.items c.args.m.0 c.args.r.0 =
    rw (← c.resources.ensures) c.read_cell-used.ensures in
    within_capacity i a c.args.m.0 c.args.r.0
    (read ∙ sums.each c.args.m.0 c.args.r.0 c.requires.resource)
    c.capacity-cap.ensures (omega arith)
