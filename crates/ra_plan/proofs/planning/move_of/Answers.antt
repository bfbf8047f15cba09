use Rattle.std.proofs.Common.{sym, ap, ◌∙◌}
use Rattle.ra_model.specs.Numbers.{machine_count}
use Rattle.ra_moves.specs.Options.{option_at}
use Rattle.ra_plan.proofs.planning.move_of.Goals as goal

pub resolve_by-requires-clause-named : goal.resolve_by-requires-clause-named
resolve_by-requires-clause-named c = rw c.divisors.ensures.machines c.requires.named

pub returns : goal.returns
returns c = rw (c.assignment.ensures.value, c.divisors.ensures.machines) at c.resolve_by.ensures.option

pub returns-then-option-eq0 : goal.returns-then-option-eq0
returns-then-option-eq0 c = c.requires.first
    ∙ ap (λ o. option_at c.args.world.now.here c.args.words.now
    (machine_count c.args.world.now.tables) c.args.drawing o) (sym c.if-option-eq0.true)
