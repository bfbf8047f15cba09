-- A move that is left out, and one that isn't.
use Rattle.std.proofs.Common.{◌∙◌, sym}
use Rattle.ra_repair.proofs.MoveLemmas.{steps_from}
use Rattle.ra_repair.proofs.OptionLemmas.{left_out, left_in}
use Rattle.ra_repair.proofs.options.penalty_after.Goals as goal

pub penalty_beyond-requires-clause-moves : goal.penalty_beyond-requires-clause-moves
penalty_beyond-requires-clause-moves g c = steps_from c.args.inst.now.tables c.args.kept.now.assignment.items
    c.args.mv.now.steps c.requires.stands c.requires.reaches (sym c.first_flaw.ensures ∙ c.in-None.is)

pub returns-in-Some-clause-after : goal.returns-in-Some-clause-after
returns-in-Some-clause-after g c =
    left_out c.args.inst.now.tables c.args.start.now.items c.args.kept.now.assignment.items c.args.mv.now.steps _
    (sym c.first_flaw.ensures ∙ c.in-Some.is)

pub returns-in-None-clause-after : goal.returns-in-None-clause-after
returns-in-None-clause-after g c =
    left_in c.args.inst.now.tables c.args.start.now.items c.args.kept.now.assignment.items c.args.mv.now.steps
    c.penalty_beyond.result (sym c.first_flaw.ensures ∙ c.in-None.is) c.penalty_beyond.ensures.after
