-- What the judge says of a move whose cost below a bound is known.
use Rattle.std.proofs.Common.{◌≡◌, ℕ, ◌+◌, ◌≤◌, arith, Bool, true, false, List, Option, Some, None, nat_lt, refl}
use Rattle.ra_base.specs.declared.causes.Cause.TheVariants.{Rise}
use Rattle.std.proofs.lemmas.Bool.{ltb-true, ltb-false}
use Rattle.ra_base.specs.Searches.{or_else}
use Rattle.ra_base.specs.declared.causes.Cause.{Cause}
use Rattle.ra_model.specs.Broken.{cause_if}
use Rattle.ra_model.specs.Situations.{Situation, cost_at}
use Rattle.ra_moves.specs.declared.steps.Step.{Step}
use Rattle.ra_moves.specs.declared.verdicts.Verdict.TheVariants.{Done}
use Rattle.ra_moves.specs.Judging.{judge, verdict_of, rise_test, IsMoveBelow}
use Rattle.ra_moves.specs.Moving.{MayMove}
use Rattle.ra_moves.specs.Replacing.{after_move}
use Rattle.ra_search.specs.Moving.{HasMade}

-- a rise that is allowed is none
rise_none : (before after allowed : ℕ) → after ≤ before + allowed → rise_test before after allowed ≡ None
unfolding rise_test cause_if
rise_none before after allowed low = by_test (nat_lt (before + allowed) after) refl
  where
    by_test : (t : Bool) → nat_lt (before + allowed) after ≡ t → cause_if t (Rise allowed before after) ≡ None
    by_test true is = absurd (omega (arith, ltb-true (before + allowed) after is, low))
    by_test false is = refl

rise_above : (before after allowed : ℕ) → rise_test before after allowed ≡ None → after ≤ before + allowed
unfolding rise_test cause_if
rise_above before after allowed none = by_test (nat_lt (before + allowed) after) refl none
  where
    by_test : (t : Bool) → nat_lt (before + allowed) after ≡ t → cause_if t (Rise allowed before after) ≡ None →
        after ≤ before + allowed
    by_test true is none = absurd (cc)
    by_test false is none = omega (arith, ltb-false (before + allowed) after is)

done_free : (broken rise : Option Cause) (after cost : ℕ) → verdict_of (or_else broken rise) after ≡ Done cost →
    (broken ≡ None) × (rise ≡ None)
unfolding or_else verdict_of
done_free None None after cost is = (refl, refl)
done_free None (Some cause) after cost is = absurd (cc)
done_free (Some cause) rise after cost is = absurd (cc)

free_done : (broken rise : Option Cause) (after : ℕ) → broken ≡ None → rise ≡ None → verdict_of (or_else broken rise) after
    ≡ Done after
unfolding or_else verdict_of
free_done broken rise after free low = rw (free, low) refl

module _ (st : Situation) (steps : List Step) (allowed : ℕ) where
  -- a move with a cost below the bound is done
  pub made : (cost : ℕ) → IsMoveBelow st steps (cost_at st + allowed + 1) (Some cost) → MayMove st steps →
      HasMade st (after_move st steps) steps allowed
  unfolding judge
  made cost below may = record {
    may = may;
    judged = free_done _ _ _ (below.free cost refl)
        (rise_none _ _ _ (omega (arith, below.below cost refl, below.found cost refl)));
    moved = refl;
  }

  -- one without such a cost isn't
  pub refused : IsMoveBelow st steps (cost_at st + allowed + 1) None → (cost : ℕ) → judge st steps allowed ≡ Done cost → ⊥
  unfolding judge
  refused below cost done =
      let free = done_free _ _ _ cost done in
      absurd (omega (arith, below.none refl free.0, rise_above _ _ _ free.1))
