-- One more term.
use Rattle.std.proofs.Common.{◌≡◌, ◌∙◌, ◌+◌, ◌-◌, ap, sym, arith}
use Rattle.ra_base.specs.Sums.{total}
use Rattle.ra_base.proofs.Sums.{total_none}
use Rattle.ra_model.specs.Numbers.{balance_count}
use Rattle.ra_rows.specs.FilterRows.{first_asked, first_row, second_asked, second_row}
use Rattle.ra_shift.specs.Filter.{balance_above}
use Rattle.ra_shift.proofs.FilterReads.{more_sum, row_in}
use Rattle.ra_shift.proofs.filter.balance_above.Goals as goal

pub loop-b-init : goal.loop-b-init
loop-b-init c = record { value = λ p are. sym (total_none _); bound = omega arith }

pub loop-b-preserved : goal.loop-b-preserved
loop-b-preserved c = record {
  value = λ p are.
      let i = c.args.world.now.tables in
      let a = c.args.world.now.here in
      let more = rw c.instance-inst.ensures.value at c.balance_more-sum.ensures.value in
      more_sum c.loop-b.b c.loop-b.sum c.balance_more-sum.result
      (λ k. first_asked i p k - first_row i a c.args.to.0 k + (second_asked i p k - second_row i a c.args.to.0 k))
      (c.loop-b.invariant.value p are) (more a p
      (row_in i c.rows.result.now.tables a c.args.to.0 c.usage_row-used.result.now c.rows.ensures.instance
      (c.usage_row-used.ensures.values a c.rows.ensures.stand)) are);
  bound = omega (arith, c.loop-b.invariant.bound, c.balance_more-sum.ensures.bound);
}

pub returns-clause-value : goal.returns-clause-value
unfolding balance_above
returns-clause-value c = λ p are.
    let i = c.args.world.now.tables in
    let a = c.args.world.now.here in
    let end = ap (λ j. balance_count j) c.instance-inst.ensures.value in
    let all : c.loop-b.b ≡ balance_count i =
    omega (arith, end, c.loop-b-test.false, c.loop-b.auto.b-end, c.balances-b-end.ensures) in
    c.loop-b.invariant.value p are
    ∙ ap (λ n. total n
    (λ k. first_asked i p k - first_row i a c.args.to.0 k
    + (second_asked i p k - second_row i a c.args.to.0 k))) all

pub returns-clause-bound : goal.returns-clause-bound
returns-clause-bound c =
    let i = c.args.world.now.tables in
    let end = ap (λ j. balance_count j) c.instance-inst.ensures.value in
    let all : c.loop-b.b ≡ balance_count i =
    omega (arith, end, c.loop-b-test.false, c.loop-b.auto.b-end, c.balances-b-end.ensures) in
    omega (arith, c.loop-b.invariant.bound, all, c.rows.ensures.sound.well_formed.few_balances)
