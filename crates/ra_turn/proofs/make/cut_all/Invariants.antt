use Rattle.std.proofs.Common.{◌≡◌, ◌≤◌, length, vec_capacity}
use Rattle.ra_turn.specs.Passes.{EachAt, IsNewPass, IsMaker}
use Rattle.ra_turn.proofs.make.cut_all.Given as goal

abbrev pub invariant-loop-number : goal.invariant-loop-number
invariant-loop-number g l = record {
  maker : IsMaker g.V.Story.opening l.turn l.turns l.number l.maker;
  count : length l.all.items ≡ l.number;
  room : l.passes ≤ vec_capacity l.all;
  fresh : EachAt (IsNewPass l.turn l.turns) l.all.items;
}
