-- One row or two have grown by the transient share.
use Rattle.std.proofs.Common.{◌∙◌, sym, List}
use Rattle.std.proofs.lemmas.Bool.{eqb-true, eqb-false, not-true, not-false}
use Rattle.ra_base.specs.declared.ids.Machine.{Machine}
use Rattle.ra_check.proofs.TableLaws.{below_after, transient_stays, transient_moves}
use Rattle.ra_check.proofs.usage.add_rows.Goals as goal

pub add_row-requires-then-ne-clause-below : goal.add_row-requires-then-ne-clause-below
add_row-requires-then-ne-clause-below g c =
    below_after c.args.p.0 c.args.from.0 c.args.inst.now.small
    c.requires.below c.add_row.ensures.adds

pub returns-then-ne-clause-adds : goal.returns-then-ne-clause-adds
returns-then-ne-clause-adds g c = λ (a0 : List Machine) e.
    transient_moves c.args.inst.now.tables a0 c.args.p.0 c.args.at.0 c.args.table.now.items c.add_row.new.table.items
    c.add_row-then-ne.new.table.items
    (λ d. eqb-false c.args.from.0 c.args.at.0 (not-true _ (sym c.ne.ensures ∙ c.if-ne.true)) (sym e ∙ d))
    (rw e c.add_row.ensures.adds) c.add_row-then-ne.ensures.adds

pub returns-else-ne-clause-adds : goal.returns-else-ne-clause-adds
returns-else-ne-clause-adds g c = λ (a0 : List Machine) e.
    transient_stays c.args.inst.now.tables a0 c.args.p.0 c.args.at.0 c.args.table.now.items c.add_row.new.table.items
    (e ∙ eqb-true c.args.from.0 c.args.at.0 (not-false _ (sym c.ne.ensures ∙ c.if-ne.false)))
    (rw e c.add_row.ensures.adds)
