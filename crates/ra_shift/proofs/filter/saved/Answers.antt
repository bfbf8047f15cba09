-- One more objective.
use Rattle.std.proofs.Common.{◌≡◌, ◌∙◌, ap, sym, arith}
use Rattle.ra_base.specs.Sums.{total}
use Rattle.ra_base.proofs.Sums.{total_none}
use Rattle.ra_model.specs.Numbers.{balance_count}
use Rattle.ra_rows.specs.FilterRows.{first_asked}
use Rattle.ra_shift.specs.Filter.{saved}
use Rattle.ra_shift.proofs.FilterReads.{more_sum}
use Rattle.ra_shift.proofs.filter.saved.Goals as goal

pub loop-b-init : goal.loop-b-init
loop-b-init c = record { value = λ p are. sym (total_none _); bound = omega arith }

pub loop-b-preserved : goal.loop-b-preserved
loop-b-preserved c = record {
  value = λ p are. more_sum c.loop-b.b c.loop-b.sum c.saved_by-sum.result (first_asked c.args.inst.now.tables p)
      (c.loop-b.invariant.value p are) (c.saved_by-sum.ensures.value p are);
  bound = omega (arith, c.loop-b.invariant.bound, c.saved_by-sum.ensures.bound);
}

pub returns-clause-value : goal.returns-clause-value
unfolding saved
returns-clause-value c = λ p are.
    let all : c.loop-b.b ≡ balance_count c.args.inst.now.tables =
    omega (arith, c.loop-b-test.false, c.loop-b.auto.b-end, c.balances-b-end.ensures) in
    c.loop-b.invariant.value p are ∙ ap (λ n. total n (first_asked c.args.inst.now.tables p)) all

pub returns-clause-bound : goal.returns-clause-bound
returns-clause-bound c =
    let all : c.loop-b.b ≡ balance_count c.args.inst.now.tables =
    omega (arith, c.loop-b-test.false, c.loop-b.auto.b-end, c.balances-b-end.ensures) in
    omega (arith, c.loop-b.invariant.bound, all, c.args.inst.now.well_formed.few_balances)
