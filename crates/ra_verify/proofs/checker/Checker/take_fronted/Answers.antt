use Rattle.std.proofs.Common.{length, sym, ap, ◌∙◌, arith}
use Rattle.ra_journal.specs.Committing.{next_entry}
use Rattle.ra_verify.proofs.CheckerLemmas.{line_taken, only_taken}
use Rattle.ra_verify.proofs.checker.Checker.take_fronted.Goals as goal

pub returns-clause-right : goal.returns-clause-right
returns-clause-right c = λ yes. line_taken c.args.self.now c.take.new.self _ c.entry-entry.result c.len-at.result
    c.args.line.now (c.take.ensures.right (let so = c.if-not-take.false in (cc))) c.len-at.ensures.value c.entry-entry.ensures.value
    (c.is_entry_line.ensures.exact.0 yes)

pub returns-clause-wrong : goal.returns-clause-wrong
unfolding next_entry
returns-clause-wrong c = λ no e legal own q text.
    let same = only_taken c.args.self.now c.take.new.self _ e c.entry-entry.result c.len-at.result
    (c.take.ensures.right (let so = c.if-not-take.false in (cc))) legal own q c.len-at.ensures.value
    c.entry-entry.ensures.value in
    let yes = c.is_entry_line.ensures.exact.1 (text ∙ sym same) in (cc)

pub returns-clause-short : goal.returns-clause-short
unfolding next_entry
returns-clause-short c = λ e legal own q.
    let same = only_taken c.args.self.now c.take.new.self _ e c.entry-entry.result c.len-at.result
    (c.take.ensures.right (let so = c.if-not-take.false in (cc))) legal own q c.len-at.ensures.value
    c.entry-entry.ensures.value in
    omega (arith, c.is_entry_line.ensures.short, ap (λ t. length t) same)
