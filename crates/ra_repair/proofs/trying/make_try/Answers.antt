-- What is chosen is the try's move, and is taken if the try says so.
use Rattle.std.proofs.Common.{◌∙◌, sym}
use Rattle.ra_repair.proofs.RunLemmas.{taken_steps, try_is, taken_try}
use Rattle.ra_repair.proofs.trying.make_try.Goals as goal

pub take_if-requires-clause-moves : goal.take_if-requires-clause-moves
take_if-requires-clause-moves g c taken =
    taken_steps c.args.inst.now.tables c.args.start.now.items c.args.kept.now.assignment.items _ c.args.words.now
    c.args.kept.now.penalty c.choose-choice.result.after c.choose-choice.result.mv c.args.inst.now.well_formed
    c.requires.keeps.stands.fits c.choose-choice.ensures.same c.choose-choice.ensures.least
    c.choose-choice.ensures.chosen (sym c.is_taken-taken.ensures ∙ taken)

pub returns-clause-made : goal.returns-clause-made
returns-clause-made g c = try_is c.args.inst.now.tables c.args.start.now.items c.args.kept.now.assignment.items
    c.args.words.now c.args.k c.args.kept.now.penalty c.unwrap_or.result c.is_taken-taken.result
    c.choose-choice.result.after c.choose-choice.result.mv c.choose-choice.ensures.chosen c.choose-choice.ensures.least
    c.requires.keeps.penalty_is c.is_taken-taken.ensures c.unwrap_or.ensures

pub returns-clause-assignment : goal.returns-clause-assignment
returns-clause-assignment g c =
    taken_try c.args.kept.now.assignment.items _ _ _ c.choose-choice.ensures.same c.take_if.ensures.assignment
