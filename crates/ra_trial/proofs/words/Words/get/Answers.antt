use Rattle.std.proofs.Common.{arith, ap, length}
use Rattle.ra_trial.specs.Numbers.{trial_word}
use Rattle.ra_trial.proofs.Drawing.{word_at}
use Rattle.ra_trial.proofs.LineLemmas.{length_listed}
use Rattle.ra_trial.proofs.words.Words.get.Goals as goal

pub get-requires : goal.get-requires
get-requires c = omega (arith, ap length c.args.self.now.first, length_listed 5650 (trial_word c.args.self.now.number))

pub returns : goal.returns
returns c = word_at _ c.args.self.now.first (omega arith) c.get.ensures
