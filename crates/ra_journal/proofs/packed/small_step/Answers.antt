use Rattle.std.proofs.Common.{sym, subst}
use Rattle.ra_journal.specs.SmallSteps.{IsSmallStep}
use Rattle.ra_journal.proofs.packed.small_step.Goals as goal

pub of-requires : goal.of-requires
of-requires c = subst (λ s. IsSmallStep s) (sym c.step.ensures)
    (c.requires.small.steps.each c.args.i c.requires.exists)
