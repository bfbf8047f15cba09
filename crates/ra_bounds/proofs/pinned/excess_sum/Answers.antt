-- One machine more.
use Rattle.std.proofs.Common.{arith, List}
use Rattle.ra_base.specs.declared.ids.Machine.{Machine}
use Rattle.ra_base.proofs.Sums.{total_none, total_more}
use Rattle.ra_bounds.specs.PinnedBounds.{pinned_excess}
use Rattle.ra_bounds.proofs.pinned.excess_sum.Goals as goal

pub loop-m-init : goal.loop-m-init
loop-m-init c = record {
  value = λ (a0 : List Machine) stand. omega (arith, total_none (pinned_excess c.args.inst.now.tables a0 c.args.r.0));
  fits = omega arith;
}

pub loop-m-preserved : goal.loop-m-preserved
loop-m-preserved c = record {
  value = λ (a0 : List Machine) stand.
      omega (
        arith,
        total_more c.loop-m.m (pinned_excess c.args.inst.now.tables a0 c.args.r.0),
        c.loop-m.invariant.value a0 stand,
        c.excess-sum.ensures.value a0 stand,
      );
  fits = omega (arith, c.loop-m.invariant.fits, c.excess-sum.ensures.fits);
}
