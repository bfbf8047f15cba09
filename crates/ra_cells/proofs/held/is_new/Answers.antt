-- The first label is new, and a later one if that before it is another.
use Rattle.std.proofs.Common.{◌-◌, ◌∙◌, sym, arith, eq-eqb}
use Rattle.std.proofs.lemmas.Bool.{both_ways, not-true, not-false, eqb-true}
use Rattle.std.proofs.lemmas.List.{get_or_read}
use Rattle.ra_cells.proofs.HeldLemmas.{held_none, new_at, again_at}
use Rattle.ra_cells.proofs.held.is_new.Goals as goal

pub returns-then-k-start-clause-new : goal.returns-then-k-start-clause-new
returns-then-k-start-clause-new c is = rw c.if-k-start.true (held_none c.args.labels.now.items c.args.start _)

pub returns-clause-new : goal.returns-clause-new
returns-clause-new c is =
    let labels = c.args.labels.now.items in
    let k = c.args.k in
    new_at labels c.args.start k c.requires.ascends (omega arith)
    (λ same. both_ways _ (not-true _ is)
    (eq-eqb c.label_at.result c.label_at-label.result
    (get_or_read labels (k - 1) c.label_at.result (omega arith) c.label_at.ensures 0 ∙ same
    ∙ sym (get_or_read labels k c.label_at-label.result c.requires.there c.label_at-label.ensures 0))))

pub returns-clause-again : goal.returns-clause-again
returns-clause-again c is =
    let labels = c.args.labels.now.items in
    let k = c.args.k in
    again_at labels c.args.start k (omega arith)
    (sym (get_or_read labels (k - 1) c.label_at.result (omega arith) c.label_at.ensures 0)
    ∙ eqb-true c.label_at.result c.label_at-label.result (not-false _ is)
    ∙ get_or_read labels k c.label_at-label.result c.requires.there c.label_at-label.ensures 0)
