use Rattle.std.proofs.Common.{[], ◌∷◌, ◌++◌, List, ap, ◌∙◌}
use Rattle.ra_draws.specs.declared.sources.Lot.{Lot}
use Rattle.ra_draws.specs.declared.sources.Source.TheVariants.{Seed}
use Rattle.ra_run.proofs.TrialLemmas.{trial_lots_fit}
use Rattle.ra_run.proofs.trial.trial_lots.Goals as goal

pub of-requires : goal.of-requires
of-requires c =
    trial_lots_fit c.args.number _
    (c.in_ok-push.ensures.items
    ∙ ap (λ (lots : List Lot). lots ++ record { source = Seed c.args.number; budget = 2000 } ∷ [])
    c.new-lots.ensures.items)
