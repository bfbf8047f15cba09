-- The option is that of the words.
use Rattle.std.proofs.Common.{◌∙◌, ap, arith}
use Rattle.ra_base.specs.declared.causes.Drawing.TheVariants.{Two}
use Rattle.ra_moves.specs.MoveSteps.{MoveSteps}
use Rattle.ra_moves.specs.Options.{option_count, option_at}
use Rattle.ra_repair.specs.Runs.{try_count, try_option, penalty_by, option_penalty}
use Rattle.ra_repair.proofs.options.try_option.Goals as goal

pub resolve-mv-requires-clause-named : goal.resolve-mv-requires-clause-named
unfolding try_count
resolve-mv-requires-clause-named g c =
    omega (arith, c.requires.named, ap (λ m. option_count c.args.words.now m Two) c.machines.ensures)

pub returns-clause-option : goal.returns-clause-option
unfolding try_option
returns-clause-option g c = c.resolve-mv.ensures.option
    ∙ ap (λ m. option_at c.args.kept.now.assignment.items c.args.words.now m Two c.args.option) c.machines.ensures

pub returns-clause-after : goal.returns-clause-after
unfolding try_option option_penalty
returns-clause-after g c = c.penalty_after-after.ensures.after
    ∙ ap (λ (mv : MoveSteps). penalty_by c.args.inst.now.tables c.args.start.now.items c.args.kept.now.assignment.items
    mv.steps) (c.resolve-mv.ensures.option
    ∙ ap (λ m. option_at c.args.kept.now.assignment.items c.args.words.now m Two c.args.option) c.machines.ensures)
