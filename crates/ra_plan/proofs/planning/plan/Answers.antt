use Rattle.ra_plan.proofs.OptionSizes.{option_some}
use Rattle.ra_plan.proofs.planning.plan.Goals as goal

pub resolve_by-first-requires-clause-named : goal.resolve_by-first-requires-clause-named
resolve_by-first-requires-clause-named g c =
    option_some _ _ _ (rw c.divisors.ensures.machines c.divisors.ensures.sound.well_formed.some_machine)

pub fill-requires-clause-first : goal.fill-requires-clause-first
fill-requires-clause-first g c =
    rw (c.assignment.ensures.value, c.divisors.ensures.machines) at c.resolve_by-first.ensures.option
