-- One more column has grown.
use Rattle.std.proofs.Common.{◌≡◌, arith}
use Rattle.ra_model.specs.Numbers.{resource_count}
use Rattle.ra_rows.proofs.ChangeLemmas.{part_adds, adds_use}
use Rattle.ra_rows.proofs.sums.add_row.Goals as goal

pub loop-r-preserved : goal.loop-r-preserved
loop-r-preserved g c =
    part_adds c.args.inst.now.tables c.resources-width.result c.args.p.0 c.args.at.0 c.loop-r.r
    c.requirement-amount.result c.args.table.now.items c.loop-r.table.items c.add_to_cell.new.table.items
    c.resources-width.ensures c.loop-r-test.true c.requirement-amount.ensures.value c.loop-r.invariant
    c.add_to_cell.ensures

pub returns : goal.returns
returns g c =
    let all : c.loop-r.r ≡ resource_count c.args.inst.now.tables =
    omega (arith, c.resources-width.ensures, c.loop-r-test.false, c.loop-r.auto.r-end) in
    adds_use c.args.inst.now.tables c.args.p.0 c.args.at.0 c.loop-r.r c.args.table.now.items c.loop-r.table.items all
    c.loop-r.invariant
