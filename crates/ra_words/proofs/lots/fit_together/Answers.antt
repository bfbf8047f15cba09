use Rattle.std.proofs.Common.{sym, ◌∙◌, arith}
use Rattle.std.proofs.lemmas.List.{length-map}
use Rattle.std.specs.String.{string_bytes}
use Rattle.ra_words.specs.Words.{texts}
use Rattle.ra_words.proofs.LotLaws.{all_read, not_lot, too_much, one_lot}
use Rattle.ra_words.proofs.lots.fit_together.Goals as goal

pub returns : goal.returns
returns c = all_read (texts c.args.words.now) c.args.place c.loop-k.k c.loop-k.left c.loop-k.invariant
    (omega (arith, length-map c.args.words.now string_bytes, c.loop-k-test.false))

pub returns-in_default : goal.returns-in_default
returns-in_default c =
    too_much (texts c.args.words.now) c.args.place c.loop-k.k c.loop-k.left c.in-Some.budget c.as_bytes.result.now
    c.loop-k.invariant (omega (arith, length-map c.args.words.now string_bytes, c.loop-k-test.true))
    (c.as_bytes.ensures.value ∙ c.text_at.ensures) c.in-Some.ensures (omega (arith, c.if-budget-left.false))

pub returns-in_default-2 : goal.returns-in_default-2
returns-in_default-2 c =
    not_lot (texts c.args.words.now) c.args.place c.loop-k.k c.loop-k.left c.as_bytes.result.now c.loop-k.invariant
    (omega (arith, length-map c.args.words.now string_bytes, c.loop-k-test.true))
    (c.as_bytes.ensures.value ∙ c.text_at.ensures) (sym c.in_default.is ∙ c.budget.ensures)

pub loop-k-preserved : goal.loop-k-preserved
loop-k-preserved c =
    one_lot (texts c.args.words.now) c.args.place c.loop-k.k c.loop-k.left c.in-Some.budget c.as_bytes.result.now
    c.loop-k.invariant (omega (arith, length-map c.args.words.now string_bytes, c.loop-k-test.true))
    (c.as_bytes.ensures.value ∙ c.text_at.ensures) c.in-Some.ensures c.if-budget-left.true
