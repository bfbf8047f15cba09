-- From what a seat knows to what its pass says.
use Rattle.std.proofs.Common.{◌≡◌, ℕ, Bool, Contains, Some}
use Rattle.std.proofs.lemmas.List.Elements.{All-contains}
use Rattle.ra_turn.specs.declared.sight.Sight.{Sight}
use Rattle.ra_turn.specs.Notes.{grip, IsNews, ShutBy}
use Rattle.ra_turn.specs.Steps.{IsShut, IsTold}

module _ {N O : Type 0} where
  pub shut_at : (author : N → ℕ) (touches : O → N → ℕ → Bool) (v : Sight N O) (o : O) (number : ℕ) → v.opened ≡ Some o →
      v.own.number ≡ number → IsShut author touches v → ShutBy touches o author number v.own.seen v.grips
  shut_at author touches v o number opened one shut =
      rw (← one) (shut o opened)

  pub told_at : (touches : O → N → ℕ → Bool) (v : Sight N O) (o : O) → v.opened ≡ Some o → IsTold touches v →
      (guard version : ℕ) → Contains v.news (grip guard version) → IsNews touches o v.own.seen (grip guard version)
  told_at touches v o opened told guard version has =
      All-contains (IsNews touches o v.own.seen) v.news _ (told o opened) has
