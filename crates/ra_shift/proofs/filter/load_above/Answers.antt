-- One more term.
use Rattle.std.proofs.Common.{◌≡◌, ◌∙◌, ◌-◌, ◌<◌, ap, sym, arith}
use Rattle.ra_base.specs.Sums.{total}
use Rattle.ra_base.proofs.Sums.{total_none}
use Rattle.ra_model.specs.Numbers.{resource_count}
use Rattle.ra_rows.specs.FilterRows.{load_asked, load_row}
use Rattle.ra_shift.specs.Filter.{load_above}
use Rattle.ra_shift.proofs.FilterReads.{more_sum, row_in}
use Rattle.ra_shift.proofs.filter.load_above.Goals as goal

pub loop-r-init : goal.loop-r-init
loop-r-init c = record { value = λ p are. sym (total_none _); bound = omega arith }

pub loop-r-preserved : goal.loop-r-preserved
loop-r-preserved c = record {
  value = λ p are.
      let i = c.args.world.now.tables in
      let a = c.args.world.now.here in
      let end = ap (λ j. resource_count j) c.instance-inst.ensures.value in
      let within : c.loop-r.r < resource_count i = omega (arith, end, c.resources-r-end.ensures, c.loop-r-test.true) in
      let more = rw c.instance-inst.ensures.value at c.load_more.ensures.value in
      more_sum c.loop-r.r c.loop-r.sum c.from-sum.result (λ k. load_asked i p k - load_row i a c.args.to.0 k)
      (c.loop-r.invariant.value p are)
      (c.from-sum.ensures
      ∙ more a p ((row_in i c.rows.result.now.tables a c.args.to.0 c.usage_row-used.result.now c.rows.ensures.instance
      (c.usage_row-used.ensures.values a c.rows.ensures.stand)).each c.loop-r.r within) (are.each c.loop-r.r within));
  bound = omega (arith, c.loop-r.invariant.bound, c.from-sum.ensures, c.load_more.ensures.bound);
}

pub returns-clause-value : goal.returns-clause-value
unfolding load_above
returns-clause-value c = λ p are.
    let i = c.args.world.now.tables in
    let end = ap (λ j. resource_count j) c.instance-inst.ensures.value in
    let all : c.loop-r.r ≡ resource_count i =
    omega (arith, end, c.loop-r-test.false, c.loop-r.auto.r-end, c.resources-r-end.ensures) in
    c.loop-r.invariant.value p are
    ∙ ap (λ n. total n (λ k. load_asked i p k - load_row i c.args.world.now.here c.args.to.0 k)) all

pub returns-clause-bound : goal.returns-clause-bound
returns-clause-bound c =
    let i = c.args.world.now.tables in
    let end = ap (λ j. resource_count j) c.instance-inst.ensures.value in
    let all : c.loop-r.r ≡ resource_count i =
    omega (arith, end, c.loop-r-test.false, c.loop-r.auto.r-end, c.resources-r-end.ensures) in
    omega (arith, c.loop-r.invariant.bound, all, c.rows.ensures.sound.well_formed.few_resources)
