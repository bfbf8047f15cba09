use Rattle.std.proofs.Common.{◌≡◌, take}
use Rattle.ra_words.specs.Numbers.{decimal_worth}
use Rattle.ra_words.proofs.numbers.worth.Given as goal

abbrev pub invariant-loop-byte : goal.invariant-loop-byte
invariant-loop-byte l = l.value ≡ decimal_worth (take l.byte-index l.text)
