use Rattle.std.proofs.Common.{◌≡◌, ◌+◌, drop}
use Rattle.ra_words.specs.LotTexts.{first_place}
use Rattle.ra_words.proofs.pieces.first_place.Given as goal

abbrev pub invariant-loop-k : goal.invariant-loop-k
invariant-loop-k l = first_place l.separator l.text ≡ l.k + first_place l.separator (drop l.k l.text)
