use Rattle.std.proofs.Common.{arith}
use Rattle.ra_moves.proofs.Settled.{fallen, grown, near, fallen_fits, grown_fits, below_zero, above_zero, size_is}
use Rattle.ra_moves.proofs.verdicts.cost_after.Goals as goal

pub overflow_add-result : goal.overflow_add-result
overflow_add-result c = record {
  fits = fallen_fits c.args.kept c.args.now c.args.after c.args.weight c.args.local c.ranges.local (omega arith)
      (omega arith) (omega arith) c.requires.fits;
}

pub overflow_sub-result : goal.overflow_sub-result
overflow_sub-result c =
    rw (size_is c.args.local _ c.ranges.local c.unsigned_abs.ensures.value)
    (fallen c.args.kept c.args.now c.args.after c.args.weight c.args.local
    (below_zero c.args.local c.ranges.local c.if-local-lt0.true) c.requires.not_negative).0

pub overflow_add-result-else-local-lt0 : goal.overflow_add-result-else-local-lt0
overflow_add-result-else-local-lt0 c =
    let whole = grown_fits c.args.kept c.args.now c.args.after c.args.weight c.args.local
    (above_zero c.args.local c.ranges.local c.if-local-lt0.false) (omega arith) (omega arith) c.requires.fits in
    record {
      fits = rw (size_is c.args.local _ c.ranges.local c.unsigned_abs-else-local-lt0.ensures.value)
          (omega (arith, whole));
    }

pub overflow_add-result-else-local-lt0-2 : goal.overflow_add-result-else-local-lt0-2
overflow_add-result-else-local-lt0-2 c =
    record {
      fits = rw (size_is c.args.local _ c.ranges.local c.unsigned_abs-else-local-lt0.ensures.value)
          (grown_fits c.args.kept c.args.now c.args.after c.args.weight c.args.local
          (above_zero c.args.local c.ranges.local c.if-local-lt0.false) (omega arith) (omega arith)
          c.requires.fits);
    }

pub overflow_sub-result-else-local-lt0 : goal.overflow_sub-result-else-local-lt0
overflow_sub-result-else-local-lt0 c =
    rw (size_is c.args.local _ c.ranges.local c.unsigned_abs-else-local-lt0.ensures.value)
    (grown c.args.kept c.args.now c.args.after c.args.weight c.args.local
    (above_zero c.args.local c.ranges.local c.if-local-lt0.false) c.requires.not_negative).0

pub returns-then-local-lt0-clause-value : goal.returns-then-local-lt0-clause-value
returns-then-local-lt0-clause-value c =
    rw (size_is c.args.local _ c.ranges.local c.unsigned_abs.ensures.value)
    (fallen c.args.kept c.args.now c.args.after c.args.weight c.args.local
    (below_zero c.args.local c.ranges.local c.if-local-lt0.true) c.requires.not_negative).1

pub returns-then-local-lt0-clause-near : goal.returns-then-local-lt0-clause-near
returns-then-local-lt0-clause-near c = near c.args.kept c.args.now c.args.after c.args.weight c.args.local
    c.ranges.local (omega arith) (omega arith) c.requires.fits

pub returns-else-local-lt0-clause-value : goal.returns-else-local-lt0-clause-value
returns-else-local-lt0-clause-value c =
    rw (size_is c.args.local _ c.ranges.local c.unsigned_abs-else-local-lt0.ensures.value)
    (grown c.args.kept c.args.now c.args.after c.args.weight c.args.local
    (above_zero c.args.local c.ranges.local c.if-local-lt0.false) c.requires.not_negative).1

pub returns-else-local-lt0-clause-near : goal.returns-else-local-lt0-clause-near
returns-else-local-lt0-clause-near c = near c.args.kept c.args.now c.args.after c.args.weight c.args.local
    c.ranges.local (omega arith) (omega arith) c.requires.fits
