use Rattle.std.proofs.Common.{arith}
use Rattle.ra_world.proofs.StepLaws.{counted_more}
use Rattle.ra_world.proofs.RequiredLaws.{process_read, required_next}
use Rattle.ra_world.proofs.required.requirements.Goals as goal

pub read_row-requires-clause-process : goal.read_row-requires-clause-process
read_row-requires-clause-process g c =
    omega (
      arith,
      process_read c.args.mv.now.steps c.loop-j.j c.step.result c.step.ensures,
      c.requires c.loop-j.j (omega arith),
    )

pub loop-j-preserved : goal.loop-j-preserved
loop-j-preserved g c = record {
  required = required_next c.args.inst.now.tables c.args.mv.now.steps c.loop-j.j _ _ _ c.args.inst.now.well_formed
      c.loop-j.invariant.required (process_read c.args.mv.now.steps c.loop-j.j c.step.result c.step.ensures)
      c.read_row.ensures.row;
  counted = counted_more _ _ _ c.loop-j.invariant.counted c.read_row.ensures.counted;
}
