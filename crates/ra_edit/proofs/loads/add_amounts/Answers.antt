-- One column after another grows.
use Rattle.std.proofs.Common.{slice_index, refl, arith}
use Rattle.ra_edit.proofs.LoadLaws.{part_none, part_raised, part_all}
use Rattle.ra_edit.proofs.loads.add_amounts.Goals as goal

pub loop-r-init : goal.loop-r-init
loop-r-init c = part_none _ _ _ _

pub loop-r-preserved : goal.loop-r-preserved
loop-r-preserved c = part_raised c.args.width c.loop-r.r c.args.at.0 _ (slice_index c.args.amounts.now)
    c.args.table.now.items c.loop-r.table.items c.add_to_cell.new.table.items c.loop-r-test.true
    (omega (arith, c.requires.place, c.loop-r-test.true, c.loop-r.invariant.same_length)) refl c.add_to_cell.ensures
    c.loop-r.invariant

pub returns : goal.returns
returns c = part_all _ c.loop-r.r _ _ _ _ (omega (arith, c.loop-r-test.false)) c.loop-r.invariant
