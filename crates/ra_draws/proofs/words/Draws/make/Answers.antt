use Rattle.std.proofs.Common.{arith}
use Rattle.ra_draws.proofs.Reading.{reads_seed, reads_written}
use Rattle.ra_draws.proofs.words.Draws.make.Goals as goal
use Rattle.ra_draws.proofs.words.Draws.make.Goals.{in-Seed, in-Written}

pub invariant_of-result : goal.invariant_of-result
invariant_of-result c = (
  omega arith,
  elim c.match-lot.branch [
    | in-Seed w ↦ reads_seed _ w.in-Seed.seed w.seed_from_u64.result _ w.in-Seed.is w.seed_from_u64.ensures w.reader-is
    | in-Written w ↦ reads_written _ _ _ w.in-Written.is (c.requires.eight_each w.in-Written.words w.in-Written.is)
        w.reader-is
  ],
)
