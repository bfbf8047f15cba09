use Rattle.std.proofs.Common.{◌≡◌, length}
use Rattle.ra_trial.proofs.Drawing.{Drawn}
use Rattle.ra_trial.proofs.words.fill.Given as goal

abbrev pub invariant-loop-i : goal.invariant-loop-i
invariant-loop-i g l = record {
  drawn : Drawn (g.R.Rng.stream l.initial.rng) l._i (g.R.Rng.stream l.rng) l.drawn.items;
  many : length l.drawn.items ≡ l._i;
  room : l.drawn.room ≡ 5650;
}
