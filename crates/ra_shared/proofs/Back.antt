-- A guard that was locked around a turn is unlocked.
use Rattle.std.proofs.Common.{◌≡◌, ℕ, ◌<◌, ◌≤◌, true, List, [], ◌∷◌, ◌++◌, length, All, Contains, Option}
use Rattle.std.proofs.Common.{Some, None, IfSome, IfNone, refl, ap, sym, subst, ◌∙◌, ⊎_elim, arith}
use mathlib.Core.List.{IsPrefix}
use Rattle.ra_base.specs.declared.ids.Guard.{Guard}
use Rattle.ra_moves.specs.declared.verdicts.Plan.{Plan}
use Rattle.ra_guards.specs.Guards.{writes}
use Rattle.ra_guards.specs.Order.{IsKnown}
use Rattle.ra_journal.specs.declared.entries.Entry.{Entry}
use Rattle.ra_journal.specs.declared.replies.Reply.{Reply}
use Rattle.ra_turn.specs.declared.pass.Pass.{Pass}
use Rattle.ra_turn.specs.declared.sight.Grip.{Grip}
use Rattle.ra_turn.specs.declared.story.Story.{Ghosts}
use Rattle.ra_turn.specs.Notes.{grip, without, touching, OnlyBy, IsVersion}
use Rattle.ra_turn.specs.Passes.{seen_by, notes_made_by, grips_of, news_of, IsPassOf, IsIdle, IsSamePass, KnowsSame}
use Rattle.ra_turn.proofs.Lists.{prefix_longer}
use Rattle.ra_shared.specs.declared.books.Book.{Book}
use Rattle.ra_shared.specs.declared.books.Opened.{Opened}
use Rattle.ra_shared.specs.declared.shared.Shared.{Shared}
use Rattle.ra_shared.specs.Books.{entry_touches, KnowsOwn, IsCommitOf, IsLegalSeen, opening_by}
use Rattle.ra_shared.specs.Holding.{then_version, PassMayHandIn, IsHandedIn, IsHeldUp}
use Rattle.ra_shared.specs.Numbers.{number_of_guard}
use Rattle.ra_shared.specs.Shares.{start_of, IsCommitted, PassMayCommit, HasCommitted}
use Rattle.ra_shared.proofs.Gripping.{without_last}
use Rattle.ra_shared.proofs.Handing.{answered, version_then}
use Rattle.ra_shared.proofs.Own.{later_commit, prefix_length}

-- what was seen begins what is then seen
pub prefix_then : (o : Opened) (w : ℕ) (plan : Plan) (seen mine seen' mine' : List Entry) (reply : Reply) →
    KnowsOwn w seen mine → IsCommitOf o seen w plan → IsCommitted o w plan.q seen mine seen' mine' reply →
    IsPrefix seen seen'
prefix_then o w plan seen mine seen' mine' reply own commit done =
    let h = done.history in
    ⊎_elim
    (λ stale. subst (IsPrefix seen) (sym (done.journal ∙ stale.1.journal)) done.later)
    (λ more. subst (IsPrefix seen) (sym (done.journal ∙ more.1.journal))
    (prefix_longer seen h (more.0 ∷ []) done.later))
    (answered o h w plan
    (later_commit w seen h mine done.later own done.own (opening_by o) plan commit))

none_version : (v n : ℕ) → then_version None v n ≡ v
unfolding then_version
none_version v n = refl

module _ {g : Ghosts Book Entry Opened} (s : Shared) (plan : Plan) (p q r n : Pass Book Entry Opened g) where
  -- after the turn the guards are those before it
  pub grips_back : (reply : Option Reply) → IfSome reply (IsHandedIn s plan q r) →
      IfNone reply (IsHeldUp s plan q r) → grips_of r ≡ grips_of q
  grips_back (Some reply) done none = done.grips
  grips_back None done none = none.grips

  pub ready_back : (reply : Option Reply) → IfSome reply (IsHandedIn s plan q r) →
      IfNone reply (IsHeldUp s plan q r) → IsPassOf s.turn r
  ready_back (Some reply) done none = done.ready.0
  ready_back None done none = none.ready.0

  pub longer_back : (reply : Option Reply) → KnowsOwn q.number (seen_by q) (notes_made_by q) →
      IsCommitOf (start_of s) (seen_by q) q.number plan → IfSome reply (IsHandedIn s plan q r) →
      IfNone reply (IsHeldUp s plan q r) → length (seen_by q) ≤ length (seen_by r)
  longer_back (Some reply) own commit done none =
      prefix_length (seen_by q) (seen_by r)
      (prefix_then (start_of s) q.number plan (seen_by q) (notes_made_by q) (seen_by r) (notes_made_by r) reply own
      commit
      done.committed)
  longer_back None own commit done none = (let same = ap length none.same.0 in omega arith)

  -- and the version of a write guard is the one that is kept with it
  pub version_back : (x : Guard) (v : ℕ) → IsKnown (start_of s).inst.tables x →
      writes (start_of s).inst.tables plan.mv.steps x ≡ true
      → (reply : Option Reply) (S : Type 0) → IfSome reply (λ _. S) →
      (S → OnlyBy (touching entry_touches (start_of s) (number_of_guard (start_of s).inst.tables x))
      (λ (e : Entry). e.worker) r.number (seen_by r) v)
      → IfSome reply (IsHandedIn s plan q r) → IfNone reply (IsHeldUp s plan q r) →
      KnowsOwn q.number (seen_by q) (notes_made_by q) → IsCommitOf (start_of s) (seen_by q) q.number plan →
      v ≤ length (seen_by q)
      → IsVersion (touching entry_touches (start_of s) (number_of_guard (start_of s).inst.tables x)) (seen_by q) v
      → IsVersion (touching entry_touches (start_of s) (number_of_guard (start_of s).inst.tables x)) (seen_by r)
      (then_version reply v (length (seen_by r)))
  version_back x v known written (Some reply) S shut only done none own commit le before =
      version_then (start_of s) q.number plan x known written (seen_by q) (notes_made_by q) (seen_by r)
      (notes_made_by r) reply v
      own commit done.committed le before
      (subst (λ (w : ℕ). OnlyBy (touching entry_touches (start_of s) (number_of_guard (start_of s).inst.tables x))
      (λ (e : Entry). e.worker) w (seen_by r) v) done.number (only shut))
  version_back x v known written None S shut only done none own commit le before =
      subst (IsVersion (touching entry_touches (start_of s) (number_of_guard (start_of s).inst.tables x)) (seen_by r))
      (sym (none_version v (length (seen_by r))))
      (subst (λ (xs : List Entry).
      IsVersion (touching entry_touches (start_of s) (number_of_guard (start_of s).inst.tables x)) xs v)
      (sym none.same.0) before)

  module _ (guard v : ℕ) (same : IsSamePass p q) (knows : KnowsSame p q)
      (held : grips_of q ≡ grips_of p ++ grip guard v ∷ []) (below : All (λ k. k.guard < guard) (grips_of p))
      (idle : IsIdle n) (back : IsSamePass r n) (still : KnowsSame r n) (news : news_of n ≡ news_of r)
      (given : grips_of n ≡ without guard (grips_of r)) where
    regained : grips_of r ≡ grips_of q → grips_of n ≡ grips_of p
    regained e = grind (arith, without_last)

    still_of : IsPassOf s.turn r → IsPassOf s.turn n
    still_of of = (back.0 ∙ of.0, back.3 ∙ of.1)

    moved : (reply : Reply) →
        IsCommitted (start_of s) q.number plan.q (seen_by q) (notes_made_by q) (seen_by r) (notes_made_by r)
        reply → IsCommitted (start_of s) p.number plan.q (seen_by p) (notes_made_by p) (seen_by n) (notes_made_by n)
        reply
    moved reply d = grind arith

    pub handed_back : (reply : Option Reply) → IfSome reply (IsHandedIn s plan q r) →
        IfSome reply (IsHandedIn s plan p n)
    handed_back (Some reply) h = record {
      ready = (still_of h.ready.0, idle);
      number = back.2 ∙ (h.number ∙ same.2);
      left = (let a = h.left in let b = still.2 in let d = knows.2 in omega arith);
      grips = regained h.grips;
      legal = subst (IsLegalSeen (start_of s)) (sym still.0) h.legal;
      committed = moved reply h.committed;
    }
    handed_back None h = h

    pub held_back : (reply : Option Reply) → IfNone reply (IsHeldUp s plan q r) →
        IfNone reply (IsHeldUp s plan p n)
    held_back (Some reply) h = h
    held_back None h = record {
      ready = (still_of h.ready.0, idle);
      number = back.2 ∙ (h.number ∙ same.2);
      same = (still.0 ∙ (h.same.0 ∙ knows.0), still.1 ∙ (h.same.1 ∙ knows.1), still.2 ∙ (h.same.2 ∙ knows.2));
      grips = regained h.grips;
      newer = record {
        guard = h.newer.guard;
        version = h.newer.version;
        written = h.newer.written;
        above = h.newer.above;
        told = subst (λ (ks : List Grip).
            Contains ks (grip (number_of_guard (start_of s).inst.tables h.newer.guard) h.newer.version))
            (sym news) h.newer.told;
      };
    }

-- a plan that is handed in by a pass at rest

module _ {g : Ghosts Book Entry Opened} (s : Shared) (plan : Plan) (p q : Pass Book Entry Opened g) where
  pub may_hand_in : PassMayCommit s plan p → PassMayHandIn s plan p
  may_hand_in may = record {
    ready = may.rest.ready;
    left = may.left;
    legal = may.rest.legal;
    commit = may.commit;
  }

  pub may_still : PassMayCommit s plan p → IsHeldUp s plan p q → PassMayHandIn s plan q
  may_still may up = grind arith

  pub has_committed : (reply : Reply) → PassMayCommit s plan p → KnowsOwn q.number (seen_by q) (notes_made_by q) →
      IsHandedIn s plan p q reply → HasCommitted s plan p q reply
  has_committed reply may own done = record {
    rest = record {
      ready = done.ready;
      free = done.grips ∙ may.rest.free;
      own = own;
      legal = done.legal;
    };
    turn = (done.number, done.left);
    seen = prefix_then (start_of s) p.number plan (seen_by p) (notes_made_by p) (seen_by q) (notes_made_by q) reply
        may.rest.own
        may.commit done.committed;
    committed = done.committed;
  }

  -- first it was told that a guard is newer
  pub handed_later : (r : Pass Book Entry Opened g) (reply : Reply) → IsHeldUp s plan p q →
      IsHandedIn s plan q r reply → IsHandedIn s plan p r reply
  handed_later r reply up done = grind arith
