-- How a worker hands in a plan: it locks the write guards of its move, takes its turn, and unlocks them.
use Rattle.std.specs.Prelude.{◌≡◌, ◌⊎◌, ℕ, ◌+◌, ◌<◌, ◌≤◌, true, List, length, All, Contains, Option, Some, None}
use Rattle.ra_base.specs.declared.ids.Guard.{Guard}
use Rattle.ra_model.specs.declared.raw.Tables.{Tables}
use Rattle.ra_moves.specs.declared.steps.Step.{Step}
use Rattle.ra_moves.specs.declared.verdicts.Plan.{Plan}
use Rattle.ra_moves.specs.declared.verdicts.Verdict.TheVariants.{Done}
use Rattle.ra_guards.specs.Guards.{writes}
use Rattle.ra_guards.specs.Order.{guard_at, AreWrites}
use Rattle.ra_journal.specs.declared.entries.Entry.{Entry}
use Rattle.ra_journal.specs.declared.replies.Reply.{Reply}
use Rattle.ra_journal.specs.declared.replies.Reply.TheVariants.{Recorded}
use Rattle.ra_journal.specs.Entries.{allowed}
use Rattle.ra_journal.specs.Refusing.{IsRefused}
use Rattle.ra_turn.specs.declared.pass.Pass.{Pass}
use Rattle.ra_turn.specs.declared.sight.Grip.{Grip}
use Rattle.ra_turn.specs.declared.story.Story.{Ghosts}
use Rattle.ra_turn.specs.Notes.{grip}
use Rattle.ra_turn.specs.Passes.{seen_by, notes_made_by, grips_of, IsReady, KnowsSame, WillSee}
use Rattle.ra_shared.specs.declared.books.Book.{Book}
use Rattle.ra_shared.specs.declared.books.Opened.{Opened}
use Rattle.ra_shared.specs.declared.shared.Shared.{Shared}
use Rattle.ra_shared.specs.Books.{IsCommitOf, IsLegalSeen}
use Rattle.ra_shared.specs.Numbers.{number_of_guard}
use Rattle.ra_shared.specs.Shares.{start_of, IsCommitted}

-- the number of guard k of a list
abbrev pub number_at : Tables → List Guard → ℕ → ℕ
number_at i guards k = number_of_guard i (guard_at guards k)

-- the first k guards of a list are locked, each at a version of at most q, and all guards that are locked come before
-- the rest
pub record HoldsFirst (i : Tables) (guards : List Guard) (q k : ℕ) (grips : List Grip) : Type 0
  where
    pub count : length grips ≡ k
    pub held : (j : ℕ) → j < k → (v : ℕ) × (v ≤ q) × Contains grips (grip (number_at i guards j) v)
    pub below : (j : ℕ) → k ≤ j → j < length guards
        → All (λ g. g.guard < number_at i guards j) grips

-- each write guard of a move is locked, at a version of at most q
pub record HoldsWrites (i : Tables) (steps : List Step) (q : ℕ) (grips : List Grip) : Type 0 where
  pub each : (g : Guard) → writes i steps g ≡ true
      → (v : ℕ) × (v ≤ q) × Contains grips (grip (number_of_guard i g) v)

-- the version of a write guard of a move after an answer: the number of entries if the move was done, and else what it
-- was before
unfoldable pub then_version : Option Reply → ℕ → ℕ → ℕ
then_version (Some (Recorded at (Done cost))) version seen = seen
then_version _ version seen = version

module _ {g : Ghosts Book Entry Opened} where
  -- the pass may hand in the plan
  pub record PassMayHandIn (s : Shared) (plan : Plan) (p : Pass Book Entry Opened g) : Type 0 where
    pub ready : IsReady s.turn p
    pub left : 0 < p.left
    pub legal : IsLegalSeen (start_of s) (seen_by p)
    pub commit : IsCommitOf (start_of s) (seen_by p) p.number plan

  -- the pass p, now q, has handed in the plan in one turn, and has the same guards locked
  pub record IsHandedIn (s : Shared) (plan : Plan) (p q : Pass Book Entry Opened g)
      (reply : Reply) : Type 0 where
    pub ready : IsReady s.turn q
    pub number : q.number ≡ p.number
    pub left : q.left + 1 ≡ p.left
    pub grips : grips_of q ≡ grips_of p
    pub legal : IsLegalSeen (start_of s) (seen_by q)
    pub committed :
        IsCommitted (start_of s) p.number plan.q (seen_by p) (notes_made_by p) (seen_by q) (notes_made_by q)
        reply

  -- The next turn of the pass shows an entry at place plan.q or later that touched a write guard of the plan's move
  pub record WillShowNewer (i : Tables) (plan : Plan) (p : Pass Book Entry Opened g) : Type 0 where
    pub guard : Guard
    pub version : ℕ
    pub written : writes i plan.mv.steps guard ≡ true
    pub above : plan.q < version
    pub told : WillSee p (number_of_guard i guard) version

  -- No guard has to be locked to hand in the plan: it is refused wherever it is recorded, so its entry touches nothing,
  -- or it will be found stale
  abbrev pub NeedsNoGuard : Opened → Plan → Pass Book Entry Opened g → Type 0
  NeedsNoGuard o plan p =
      IsRefused o.inst.tables (allowed o.lots p.number plan.k) plan ⊎ WillShowNewer o.inst.tables plan p

  -- What is known of the guards that are given to hand in the plan: they are the write guards of its move, and the pass
  -- has locked each. If none are given, none has to be locked
  abbrev pub KnowsGuards : Opened → Plan → Pass Book Entry Opened g → Option (List Guard) → Type 0
  KnowsGuards o plan p (Some guards) =
      AreWrites o.inst.tables plan.mv.steps guards
      × HoldsWrites o.inst.tables plan.mv.steps plan.q (grips_of p)
  KnowsGuards o plan p None = NeedsNoGuard o plan p

  -- the pass p, now q, was told that a guard is newer; it has the same guards locked, and has seen and made nothing
  -- more
  pub record IsHeldUp (s : Shared) (plan : Plan) (p q : Pass Book Entry Opened g) : Type 0 where
    pub ready : IsReady s.turn q
    pub number : q.number ≡ p.number
    pub same : KnowsSame p q
    pub grips : grips_of q ≡ grips_of p
    pub newer : WillShowNewer (start_of s).inst.tables plan q
