use Rattle.std.proofs.Common.{◌≡◌, ◌+◌, ◌-◌, ◌*◌, ◌≤◌, rules, arith, sym, ◌∙◌, ap, subst, length, drop, get_or, Some}
use Rattle.ra_report.specs.Numbers.{told}
use Rattle.ra_report.proofs.FrontLaws.{told_digit, told_other, told_end, told_least, more_is, no_more}
use Rattle.ra_report.proofs.front.number_at.Goals as goal

pub returns-then-not-is_ascii_digit : goal.returns-then-not-is_ascii_digit
returns-then-not-is_ascii_digit c =
    λ small. ap (λ n. Some n)
    (sym (c.loop-i.invariant ∙ told_other c.loop-i.value c.args.bytes.now c.loop-i.i (search rules) (search rules)))

pub returns-in_err-value : goal.returns-in_err-value
returns-in_err-value c = λ small.
    let bytes = c.args.bytes.now in
    let next = c.loop-i.invariant ∙ told_digit c.loop-i.value bytes c.loop-i.i (search rules) (search rules) in
    let more = 10 * c.loop-i.value + (get_or bytes c.loop-i.i 0 - 48) in
    let least = told_least more (drop (c.loop-i.i + 1) bytes) in
    absurd (no_more more (told 0 bytes) c.one_more.result c.one_more.ensures c.in_err-value.was
    (subst (λ t. more ≤ t) (sym next) least) small)

pub loop-i-preserved : goal.loop-i-preserved
loop-i-preserved c =
    let bytes = c.args.bytes.now in
    c.loop-i.invariant ∙ told_digit c.loop-i.value bytes c.loop-i.i (search rules) (search rules)
    ∙ ap (λ n. told n (drop (c.loop-i.i + 1) bytes))
    (sym (more_is (10 * c.loop-i.value + (get_or bytes c.loop-i.i 0 - 48)) c.in_ok-value.value c.one_more.result c.one_more.ensures c.in_ok-value.was))

pub returns : goal.returns
returns c = λ small.
    let all : c.loop-i.i ≡ length c.args.bytes.now = search rules in
    ap (λ n. Some n)
    (sym (c.loop-i.invariant ∙ told_end c.loop-i.value c.args.bytes.now c.loop-i.i (omega (arith, all))))
