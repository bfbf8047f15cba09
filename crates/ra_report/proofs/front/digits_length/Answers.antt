use Rattle.std.proofs.Common.{◌≡◌, rules, arith, sym, ◌∙◌, subst, length, drop}
use Rattle.ra_report.specs.Numbers.{past}
use Rattle.ra_report.proofs.FrontLaws.{past_digit, past_other, past_end}
use Rattle.ra_report.proofs.front.digits_length.Goals as goal

pub returns-then-not-is_ascii_digit-clause-past : goal.returns-then-not-is_ascii_digit-clause-past
returns-then-not-is_ascii_digit-clause-past c =
    sym (c.loop-i.invariant ∙ past_other c.args.bytes.now c.loop-i.i (search rules) (search rules))

pub loop-i-preserved : goal.loop-i-preserved
loop-i-preserved c = c.loop-i.invariant ∙ past_digit c.args.bytes.now c.loop-i.i (search rules) (search rules)

pub returns-clause-past : goal.returns-clause-past
returns-clause-past c =
    let all : c.loop-i.i ≡ length c.args.bytes.now = search rules in
    sym (subst (λ k. past c.args.bytes.now ≡ drop k c.args.bytes.now) all
    (c.loop-i.invariant ∙ past_end c.args.bytes.now c.loop-i.i (omega (arith, all))))
