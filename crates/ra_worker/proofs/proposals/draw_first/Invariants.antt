-- The words so far are drawn.
use Rattle.std.proofs.Common.{◌≡◌, ℕ, ◌<◌, ◌≤◌, [], length, slice_index_or}
use Rattle.ra_draws.specs.Words.{proposal_words}
use Rattle.ra_worker.proofs.proposals.draw_first.Given as goal

abbrev pub invariant-loop-number : goal.invariant-loop-number
invariant-loop-number l = record {
  long : length l.ring ≡ 64;
  lot : l.draws.lot ≡ l.fn.draws.lot;
  made : l.number ≤ l.lot.budget → l.draws.made ≡ l.number;
  words : (n : ℕ) → n < l.number → n < l.lot.budget → slice_index_or l.ring n [] ≡ proposal_words l.lot.source n;
}
