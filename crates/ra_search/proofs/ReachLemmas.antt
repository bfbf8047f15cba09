-- The instance and the start stay, whatever a search does.
use Rattle.std.proofs.Common.{◌≡◌, ℕ, Bool, true, false, List, refl, sym, ap, ◌∙◌, subst}
use Rattle.ra_model.specs.Situations.{Situation}
use Rattle.ra_moves.specs.declared.steps.Step.{Step}
use Rattle.ra_search.specs.Moving.{Reaches, HasTried}

pub reach_same : (old new : Situation) → new ≡ old → Reaches old new
reach_same old new same = subst (λ st. Reaches old st) (sym same) refl

pub reach_on : (one two three : Situation) → Reaches one two → Reaches two three → Reaches one three
reach_on one two three first next =
    next ∙ ap (λ (st : Situation). let to : Situation = record st { here = three.here } in to) first

module _ (old new : Situation) (steps : List Step) (allowed : ℕ) where
  by_done : (done : Bool) → HasTried old new steps allowed done → Reaches old new
  by_done true tried =
      let moved = (tried.made refl).moved in
      subst (λ st. Reaches old st) (sym moved) refl
  by_done false tried = reach_same old new (tried.left refl)

  -- whether a move is made or not
  pub reach_tried : (done : Bool) → HasTried old new steps allowed done → Reaches old new
  reach_tried done tried = by_done done tried
