use Rattle.std.proofs.Common.{arith, length-drop}
use Rattle.std.proofs.lemmas.List.{take_rest}
use Rattle.ra_io.proofs.Putting.{Appends-piece}
use Rattle.ra_io.proofs.whole.put_all.Goals as goal

pub loop-at-preserved : goal.loop-at-preserved
loop-at-preserved g c =
    let piece = rw take_rest at c.in_ok-at.ensures.grows in
    record {
      within = omega (arith, c.in_ok-at.ensures.bound, length-drop c.loop-at.at c.args.text.now);
      grown = Appends-piece _ _ _ _ _ _ c.loop-at.invariant.grown piece;
      never_fell = omega (arith, c.put.ensures.never_falls);
    }
