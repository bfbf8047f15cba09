-- What the row has, with what comes and without what goes.
use Rattle.std.proofs.Common.{arith}
use Rattle.ra_model.specs.Usage.{transient_of}
use Rattle.ra_weigh.proofs.FlowLemmas.{flow_sum}
use Rattle.ra_weigh.proofs.CauseRowLemmas.{between_here}
use Rattle.ra_weigh.proofs.trial.Trial.transient_flowing.Goals as goal

pub overflow_sub-result : goal.overflow_sub-result
unfolding transient_of
overflow_sub-result c =
    let t = c.args.self.now in
    omega (
      arith,
      flow_sum _ c.args.r.0 t.moves c.requires.flow c.requires.resource
          (between_here c.args.r.0 t.rows_tables t.rows_start
          (c.transient_row-row.ensures.values _ t.rows_stand) c.requires.resource) c.from.ensures c.from-2.ensures,
    )

pub returns : goal.returns
unfolding transient_of
returns c =
    let t = c.args.self.now in
    omega (
      arith,
      flow_sum _ c.args.r.0 t.moves c.requires.flow c.requires.resource
          (between_here c.args.r.0 t.rows_tables t.rows_start
          (c.transient_row-row.ensures.values _ t.rows_stand) c.requires.resource) c.from.ensures c.from-2.ensures,
    )
