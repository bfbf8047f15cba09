use Rattle.std.proofs.Common.{◌≡◌}
use Rattle.std.proofs.Math.ListN.{replicate}
use Rattle.ra_model.proofs.copying.copies.Given as goal

abbrev pub invariant-loop-k : goal.invariant-loop-k
invariant-loop-k g l = record { items : l.list.items ≡ replicate l.k l.item; room : l.list.room ≡ l.size }
