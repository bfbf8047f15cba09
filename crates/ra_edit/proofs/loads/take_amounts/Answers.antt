-- One column after another shrinks.
use Rattle.std.proofs.Common.{◌≤◌, slice_index, arith}
use Rattle.ra_edit.proofs.LoadLaws.{part_none, part_lowered, part_all}
use Rattle.ra_edit.proofs.loads.take_amounts.Goals as goal

pub loop-r-init : goal.loop-r-init
loop-r-init c = part_none _ _ _ _

pub read_cell-requires : goal.read_cell-requires
read_cell-requires c = omega (arith, c.requires.place, c.loop-r-test.true, c.loop-r.invariant.same_length)

pub loop-r-preserved : goal.loop-r-preserved
loop-r-preserved c =
    let enough : c.from.result ≤ c.read_cell.result =
    omega (
      arith,
      c.read_cell.ensures,
      c.loop-r.invariant.rest c.args.at.0 c.loop-r.r c.loop-r-test.true (omega arith),
      c.requires.enough c.loop-r.r c.loop-r-test.true,
      c.from.ensures,
    ) in
    part_lowered c.args.width c.loop-r.r c.args.at.0 _ (slice_index c.args.amounts.now) c.args.table.now.items
    c.loop-r.table.items c.set.new.self.items c.loop-r-test.true
    (omega (arith, c.requires.place, c.loop-r-test.true, c.loop-r.invariant.same_length))
    (omega (arith, c.read_cell.ensures, enough, c.from.ensures)) (rw c.place.ensures at c.set.ensures.items)
    c.loop-r.invariant

pub returns : goal.returns
returns c = part_all _ c.loop-r.r _ _ _ _ (omega (arith, c.loop-r-test.false)) c.loop-r.invariant
