use Rattle.std.proofs.Common.{◌≡◌, ◌*◌, ◌≤◌}
use Rattle.ra_base.specs.Sums.{total}
use Rattle.ra_trial.specs.Numbers.{start_share, trial_word}
use Rattle.ra_trial.proofs.numbers.start_use.Given as goal

abbrev pub invariant-loop-p : goal.invariant-loop-p
invariant-loop-p l = record {
  sum : l.sum ≡ total l.p (start_share (trial_word l.words.number) l.m l.r);
  small : l.sum ≤ 100 * l.p;
}
