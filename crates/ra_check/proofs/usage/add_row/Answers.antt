-- One more cell of the row has grown.
use Rattle.std.proofs.Common.{◌≡◌, ◌*◌, length, ◌<◌, arith, set, ◌+◌}
use Rattle.ra_model.specs.Numbers.{resource_count, machine_count, requirement_of}
use Rattle.ra_check.proofs.TableLaws.{grid_place, adds_more}
use Rattle.ra_base.specs.Tables.{cell}
use Rattle.ra_check.proofs.usage.add_row.Goals as goal

pub loop-r-preserved : goal.loop-r-preserved
loop-r-preserved g c =
    let i = c.args.inst.now.tables in
    let column : c.loop-r.r < resource_count i = omega arith in
    let grid : length c.loop-r.table.items ≡ machine_count i * resource_count i = cc in
    let all : c.add_to_cell.new.table.items ≡ set c.loop-r.table.items (c.args.at.0 * resource_count i + c.loop-r.r)
    (cell (resource_count i) c.loop-r.table.items c.args.at.0 c.loop-r.r + requirement_of i c.args.p.0 c.loop-r.r) =
    rw (← c.resources.ensures, ← c.requirement-amount.ensures.value) c.add_to_cell.ensures in
    rw all (adds_more i c.args.p.0 c.args.at.0 c.loop-r.r c.args.table.now.items c.loop-r.table.items column
    (grid_place c.args.at.0 c.loop-r.r (machine_count i)
    (resource_count i) _ grid c.requires.at column) c.loop-r.invariant)
