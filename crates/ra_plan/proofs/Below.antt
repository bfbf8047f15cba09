-- The best option with one more move, of which a cost below the bound was found or none.
use Rattle.std.proofs.Common.{◌≡◌, ◌↔◌, ℕ, ◌+◌, ◌<◌, ◌≤◌, arith, Bool, true, false, List, Option, Some, None, sym, ap, ap₂, ◌∙◌}
use Rattle.std.proofs.lemmas.Bool.{both_ways}
use Rattle.ra_base.specs.Searches.{is_better, least}
use Rattle.ra_base.specs.declared.causes.Drawing.{Drawing}
use Rattle.ra_base.proofs.Least.{least_better, least_kept}
use Rattle.ra_model.specs.Situations.{Situation, cost_at}
use Rattle.ra_moves.specs.declared.steps.Step.{Step}
use Rattle.ra_moves.specs.Judging.{broken_by, IsMoveBelow}
use Rattle.ra_moves.specs.Replacing.{after_move}
use Rattle.ra_plan.specs.Choosing.{IsBest, cost_in, steps_in, cost_to_beat}
use Rattle.ra_plan.specs.declared.best.Best.{Best}
use Rattle.ra_plan.proofs.Bests.{worse_at, better_at, best_within, cost_means, cost_comes}

module _ (w : Situation) (steps : List Step) (bound : ℕ) where
  -- no cost, and a cost
  pub none_below : (broken_by w steps ≡ None → bound ≤ cost_at (after_move w steps)) → IsMoveBelow w steps bound None
  none_below high = grind arith

  pub some_below : (cost : ℕ) → broken_by w steps ≡ None → cost ≡ cost_at (after_move w steps) → cost < bound →
      IsMoveBelow w steps bound (Some cost)
  some_below cost free is low = grind arith

-- a test that fails though it holds if nothing is broken
pub unfit_below : {Fits : Type 0} (w : Situation) (steps : List Step) (bound : ℕ) {fits : Bool} → (fits ≡ true) ↔ Fits →
    fits ≡ false → (broken_by w steps ≡ None → Fits) → IsMoveBelow w steps bound None
unfit_below w steps bound {fits} (gives, back) unfit holds =
    none_below w steps bound (λ none. absurd (both_ways fits unfit (back (holds none))))

module _ (w : Situation) {x : List ℕ} {d : Drawing} {allowed n : ℕ} where
  -- a move without a cost below the bound changes nothing
  pub move_stays : {steps : List Step} {best : Best} {found : Option ℕ} → IsBest w x d allowed n best →
      steps_in w x d n ≡ steps → IsMoveBelow w steps (cost_to_beat best.cost (cost_at w + allowed + 1)) found →
      found ≡ None → IsBest w x d allowed (n + 1) best
  move_stays {steps} is same below none =
      let f : ℕ → Option ℕ = cost_in w x d allowed in
      let most = cost_at w + allowed + 1 in
      let above = λ (c : ℕ) (here : f n ≡ Some c).
      let means = cost_means w x d allowed n c steps same here in
      let low = below.none none means.0 in
      let under : cost_to_beat (least n f) most ≤ c = omega
      (arith, ap (λ o. cost_to_beat o most) is.cost, low, means.1) in
      let both : (cost_to_beat (least n f) most ≤ c) × (c < most) = (under, omega (arith, means.2)) in
      both in
      let kept = least_kept n f (worse_at (f n) (least n f) most above) in
      record { cost = is.cost ∙ sym kept.0; option = is.option ∙ sym kept.1 }

  -- and one with such a cost is the best
  pub move_found : (cost : ℕ) (steps : List Step) (best : Best) (found : Option ℕ) → IsBest w x d allowed n best →
      steps_in w x d n ≡ steps → IsMoveBelow w steps (cost_to_beat best.cost (cost_at w + allowed + 1)) found →
      found ≡ Some cost → IsBest w x d allowed (n + 1) (record { cost = found; option = n })
  move_found cost steps best found is same below some =
      let f : ℕ → Option ℕ = cost_in w x d allowed in
      let value = below.found cost some in
      let under = below.below cost some in
      let low : cost_at (after_move w steps) ≤ cost_at w + allowed =
      omega (arith, value, under, best_within w x d allowed n best is) in
      let here : f n ≡ Some cost = cost_comes w x d allowed n steps same (below.free cost some) low
      ∙ ap (λ (c : ℕ). Some c) (sym value) in
      let better =
      least_better n f (ap₂ is_better here (sym is.cost) ∙ better_at best.cost cost (cost_at w + allowed + 1) under) in
      record { cost = some ∙ sym here ∙ sym better.0; option = sym better.1 }
