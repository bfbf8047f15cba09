-- What a seat has locked and was told, over several steps.
use Rattle.std.proofs.Common.{◌≡◌, ℕ, zero, suc, ◌/◌, ◌%◌, ◌==◌, Bool, true, false, cond, List, ◌∷◌, ◌≤◌, length}
use Rattle.std.proofs.Common.{Contains, refl, ap, ◌∙◌, arith}
use Rattle.atomic_table.specs.Table.{Me}
use Rattle.ra_turn.specs.declared.sight.Grip.{Grip}
use Rattle.ra_turn.specs.declared.sight.Sight.{Sight}
use Rattle.ra_turn.specs.declared.guards.Hold.{Hold}
use Rattle.ra_turn.specs.declared.guards.Hold.TheVariants.{Held, Newer}
use Rattle.ra_turn.specs.Holds.{KeepsNews, OnlyHolds, IsAnswerAt}
use Rattle.ra_turn.specs.Steps.{with_grips, with_news, at_version, heard}

contains_more : {A : Type 0} (x y : A) (xs : List A) → Contains xs y → Contains (x ∷ xs) y
contains_more x y xs h = (suc h.0, (omega arith), h.2)

version_keeps : (guard v : ℕ) (ks : List Grip) → KeepsNews ks (at_version guard v ks)
version_keeps guard zero ks = (λ k h. h, omega arith)
version_keeps guard (suc v) ks = (λ k h. contains_more _ k ks h, omega arith)

keeps_if : (b : Bool) (ks more : List Grip) → KeepsNews ks more → KeepsNews ks (cond b more ks)
keeps_if true ks more keeps = keeps
keeps_if false ks more keeps = (λ k h. h, omega arith)

-- nothing that was told before a look is lost
pub heard_keeps : (guard word : ℕ) (ks : List Grip) → KeepsNews ks (heard guard word ks)
heard_keeps guard word ks =
    keeps_if (word % 2 == 0) ks (at_version guard _ ks) (version_keeps guard (word / 2) ks)

module _ {N O : Type 0} (author : N → ℕ) (touches : O → N → ℕ → Bool) where
  -- an answer after a look is an answer after all that was told before the look
  pub answer_back : (guard asked : ℕ) (grips told later : List Grip) (v : Sight N O) (answer : Hold) →
      length told ≤ length later → IsAnswerAt author touches guard asked grips later v answer →
      IsAnswerAt author touches guard asked grips told v answer
  answer_back guard asked grips told later v (Held at) le is = is
  answer_back guard asked grips told later v (Newer at) le is = (
    is.0,
    is.1,
    is.2,
    record {
      earlier = is.3.earlier;
      last = is.3.last;
      before = (omega arith);
    },
  )

module _ {S N O : Type 0} where
  module _ (m m' : Me S (Sight N O)) where
    pub only_same : m' ≡ m → OnlyHolds m m'
    only_same e = rw e (refl, (λ k h. h, omega arith))

    pub only_news : (ks : List Grip) → m' ≡ (with_news m.0 ks, m.1) → KeepsNews m.0.news ks → OnlyHolds m m'
    only_news ks e keeps = rw e (refl, keeps)

    pub only_held : (ks : List Grip) → m' ≡ (with_grips m.0 ks, m.1) → OnlyHolds m m'
    only_held ks e = rw e (refl, (λ k h. h, omega arith))

  pub only_then : (a b c : Me S (Sight N O)) → OnlyHolds a b → OnlyHolds b c → OnlyHolds a c
  only_then a b c first next = (
    next.0 ∙ ap (λ m. (record m.0 { grips = c.0.grips; news = c.0.news }, m.1)) first.0,
    (λ k h. next.1.0 k (first.1.0 k h), (omega arith)),
  )
