use Rattle.ra_trial.proofs.Drawing.{seeded}
use Rattle.ra_trial.proofs.words.Words.of.Goals as goal

pub invariant_of-result : goal.invariant_of-result
invariant_of-result c = record {
  first = seeded c.args.number c.seed_from_u64-rng.ensures c.fill.ensures;
}
