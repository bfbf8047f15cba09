use Rattle.std.proofs.Common.{ℕ, List, map, Bor}
use Rattle.ra_words.proofs.LotLaws.{IsRead}
use Rattle.ra_words.proofs.lots.read_lots.Given as goal

abbrev pub invariant-loop-k : goal.invariant-loop-k
invariant-loop-k l = IsRead (map (λ (word : Bor (List ℕ)). word.now) l.words) l.place l.k l.lots.items
