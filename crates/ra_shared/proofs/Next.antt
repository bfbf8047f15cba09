-- The next write guard of a plan's move, if those before it are locked: what holds of it, before and after it is locked
-- too.
use Rattle.std.proofs.Common.{◌≡◌, ℕ, ◌+◌, ◌<◌, ◌≤◌, true, List, [], ◌∷◌, ◌++◌, length, All, Contains, Option, IfSome}
use Rattle.std.proofs.Common.{IfNone, ap, sym, subst, ◌∙◌, arith}
use Rattle.std.proofs.lemmas.List.Elements.{Contains-push}
use Rattle.ra_base.specs.declared.ids.Guard.{Guard}
use Rattle.ra_model.specs.declared.numbers.Instance.{Instance}
use Rattle.ra_moves.specs.declared.verdicts.Plan.{Plan}
use Rattle.ra_guards.specs.Guards.{AreWithin, writes}
use Rattle.ra_guards.specs.Order.{IsKnown, guard_at, AreWrites}
use Rattle.ra_journal.specs.declared.entries.Entry.{Entry}
use Rattle.ra_journal.specs.declared.replies.Reply.{Reply}
use Rattle.ra_journal.proofs.EndLemmas.{planned_within}
use Rattle.ra_turn.specs.declared.pass.Pass.{Pass}
use Rattle.ra_turn.specs.declared.sight.Grip.{Grip}
use Rattle.ra_turn.specs.declared.story.Story.{Ghosts}
use Rattle.ra_turn.specs.Notes.{grip}
use Rattle.ra_turn.specs.Passes.{seen_by, grips_of, IsIdle, IsSamePass, KnowsSame, IsGripped}
use Rattle.ra_shared.specs.declared.books.Book.{Book}
use Rattle.ra_shared.specs.declared.books.Opened.{Opened}
use Rattle.ra_shared.specs.declared.shared.Shared.{Shared}
use Rattle.ra_shared.specs.Books.{IsCommitOf, IsLegalSeen, opening_by}
use Rattle.ra_shared.specs.Holding.{number_at, HoldsFirst, HoldsWrites, PassMayHandIn, IsHandedIn, IsHeldUp}
use Rattle.ra_shared.specs.Numbers.{guard_count, number_of_guard}
use Rattle.ra_shared.specs.Shares.{start_of}
use Rattle.ra_shared.proofs.Back.{grips_back}
use Rattle.ra_shared.proofs.Gripping.{number_below, listed_known, listed_written, holds_more, holds_all}

-- the number of guard k, as it is found
pub number_found : (s : Shared) (guards : List Guard) (k n : ℕ) (guard : Guard) → guard ≡ guard_at guards k →
    n ≡ number_of_guard s.inst.now.tables guard → n ≡ number_at (start_of s).inst.tables guards k
number_found s guards k n guard is found = grind arith

module _ {g : Ghosts Book Entry Opened} (s : Shared) (plan : Plan) (guards : List Guard) (k : ℕ)
    (p : Pass Book Entry Opened g) where
  -- guard k has number n and is written by the plan's move, and comes after all guards that the pass has locked
  pub record IsNext (n : ℕ) : Type 0 where
    pub number : n ≡ number_at (start_of s).inst.tables guards k
    pub known : IsKnown (start_of s).inst.tables (guard_at guards k)
    pub written : writes (start_of s).inst.tables plan.mv.steps (guard_at guards k) ≡ true
    pub below : All (λ h. h.guard < n) (grips_of p)
    pub few : n < guard_count s.inst.now.tables

  -- the pass p, now q, has locked it too, at version v
  pub record HoldsNext (v : ℕ) (q : Pass Book Entry Opened g) : Type 0 where
    pub may : PassMayHandIn s plan q
    pub held : HoldsFirst (start_of s).inst.tables guards plan.q (k + 1) (grips_of q)
    pub reached : v ≤ length (seen_by q)

  module _ (may : PassMayHandIn s plan p) (are : AreWrites (start_of s).inst.tables plan.mv.steps guards)
      (held : HoldsFirst (start_of s).inst.tables guards plan.q k (grips_of p)) where
    within : AreWithin (start_of s).inst.tables plan.mv.steps
    within = planned_within (opening_by (start_of s)) (seen_by p) p.number plan
        s.started may.legal may.commit

    pub all_held : k ≡ length guards → HoldsWrites (start_of s).inst.tables plan.mv.steps plan.q (grips_of p)
    all_held all =
        holds_all (start_of s).inst.tables plan.mv.steps guards plan.q s.started.limits within are k (grips_of p) held
        all

    pub next_guard : (n : ℕ) → n ≡ number_at (start_of s).inst.tables guards k → k < length guards → IsNext n
    next_guard n is inside =
        let i = (start_of s).inst.tables in
        let known = listed_known i plan.mv.steps guards plan.q s.started.limits within are k inside in
        record {
          number = is;
          known = known;
          written = listed_written i plan.mv.steps guards plan.q s.started.limits within are k inside;
          below = subst (λ (m : ℕ). All (λ (h : Grip). h.guard < m) (grips_of p)) (sym is)
              (held.below k (omega arith) inside);
          few =
              omega (
                arith,
                is,
                number_below i (guard_at guards k) known,
                ap (λ (x : Instance). guard_count x.tables) s.instance,
              );
        }

    pub holds_next : (n v : ℕ) (q : Pass Book Entry Opened g) → n ≡ number_at (start_of s).inst.tables guards k →
        k < length guards → IsIdle q → IsSamePass p q → KnowsSame p q → IsGripped s.turn p q n plan.q v → HoldsNext v q
    holds_next n v q is inside idle same knows gripped =
        let o = start_of s in
        let grips : grips_of q ≡ grips_of p ++ grip (number_at o.inst.tables guards k) v ∷ [] = gripped.grips
        ∙ ap (λ (m : ℕ). grips_of p ++ grip m v ∷ []) is in
        let commit : IsCommitOf o (seen_by q) q.number plan =
        subst (λ (w : ℕ). IsCommitOf o (seen_by q) w plan) (sym same.2)
        (subst (λ (xs : List Entry). IsCommitOf o xs p.number plan) (sym knows.0) may.commit) in
        record {
          may = record {
            ready = ((same.0 ∙ may.ready.0.0, same.3 ∙ may.ready.0.1), idle);
            left = omega (arith, may.left, knows.2);
            legal = subst (IsLegalSeen o) (sym knows.0) may.legal;
            commit = commit;
          };
          held = subst (HoldsFirst o.inst.tables guards plan.q (k + 1)) (sym grips)
              (holds_more o.inst.tables plan.mv.steps guards plan.q s.started.limits within are k (grips_of p) v held
              inside gripped.within);
          reached = omega (arith, gripped.within, may.commit.place, ap length knows.0);
        }

  -- after the turn it is still locked
  pub still_held : (n v : ℕ) (q r : Pass Book Entry Opened g) (reply : Option Reply) →
      grips_of q ≡ grips_of p ++ grip n v ∷ [] → IfSome reply (IsHandedIn s plan q r) →
      IfNone reply (IsHeldUp s plan q r) → Contains (grips_of r) (grip n v)
  still_held n v q r reply is done none =
      subst (λ (ks : List Grip). Contains ks (grip n v)) (sym (grips_back s plan p q r r reply done none ∙ is))
      (Contains-push (grips_of p) (grip n v))
