use Rattle.std.proofs.Common.{length, ◌+◌, ◌-◌, ◌≡◌, ◌≤◌}
use Rattle.std.specs.List.{list_all}
use Rattle.ra_words.specs.Numbers.{is_number}
use Rattle.ra_words.specs.LotTexts.{pieces}
use Rattle.ra_words.proofs.PieceLaws.{left_from}
use Rattle.ra_words.proofs.pieces.count_numbers.Given as goal

abbrev pub invariant-loop-start : goal.invariant-loop-start
invariant-loop-start l = record {
  within : l.start ≤ length l.text + 1;
  few : l.count ≤ l.start;
  all : list_all is_number (left_from l.text l.start) ≡ list_all is_number (pieces l.text);
  counted : l.count + length (left_from l.text l.start) ≡ length (pieces l.text);
}

abbrev pub decreases-loop-start : goal.decreases-loop-start
decreases-loop-start l = length l.text + 1 - l.start
