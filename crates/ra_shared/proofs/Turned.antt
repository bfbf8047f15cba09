-- A turn in which a worker hands in its plan, from what the lock tells of it.
use Rattle.std.proofs.Common.{◌≡◌, ℕ, ◌-◌, ◌<◌, ◌≤◌, true, List, ◌++◌, length, drop, ap, ap₂}
use Rattle.std.proofs.Common.{sym, subst, ◌∙◌, arith}
use Rattle.std.proofs.lemmas.List.{length_push}
use Rattle.std.proofs.lemmas.Option.{slice_get_within}
use mathlib.Core.List.{IsPrefix}
use Rattle.ra_base.specs.declared.ids.Guard.{Guard}
use Rattle.ra_moves.specs.declared.verdicts.Plan.{Plan}
use Rattle.ra_guards.specs.Guards.{writes, AreWithin}
use Rattle.ra_journal.specs.declared.entries.Entry.{Entry}
use Rattle.ra_journal.specs.declared.replies.Reply.{Reply}
use Rattle.ra_journal.specs.Committing.{AreHeld}
use Rattle.ra_journal.specs.Entries.{allowed}
use Rattle.ra_journal.specs.Refusing.{IsRefused}
use Rattle.ra_journal.specs.Journals.{History, IsJournal}
use Rattle.ra_journal.proofs.EndLemmas.{planned_within}
use Rattle.ra_turn.specs.declared.sight.Grip.{Grip}
use Rattle.ra_turn.specs.Notes.{grip, touching, TouchedAt, IsNews, ShutBy}
use Rattle.ra_shared.specs.declared.books.Opened.{Opened}
use Rattle.ra_shared.specs.Books.{opening_of_journal, entry_touches, committed_in, KnowsOwn, IsCommitOf, IsLegalSeen, IsStartOf, opening_by}
use Rattle.ra_shared.specs.Holding.{HoldsWrites}
use Rattle.ra_shared.specs.Numbers.{number_of_guard}
use Rattle.ra_shared.specs.Shares.{IsCommitted}
use Rattle.ra_shared.proofs.Gripping.{written_known, are_held, newer_there}
use Rattle.ra_shared.proofs.Handing.{MayGive, answered, may_give, may_give_refused, only_stale}
use Rattle.ra_shared.proofs.Own.{later_commit}

-- the worker w, which had seen and made these entries, finds the history h in its turn
pub record IsTurned (w : ℕ) (seen mine h : List Entry) : Type 0 where
  pub later : IsPrefix seen h
  pub told : KnowsOwn w seen mine
  pub all : KnowsOwn w h mine

pub turned_by : (v w u : ℕ) (seen mine h found own : List Entry) → IsPrefix seen found → found ≡ h →
    KnowsOwn v seen mine → v ≡ w → u ≡ w → KnowsOwn u found own → own ≡ mine → IsTurned w seen mine h
turned_by v w u seen mine h found own longer here told number same all kept = grind arith

module _ (o p : Opened) (w : ℕ) where
  pub turned_commit : (v : ℕ) (seen mine h : List Entry) (plan : Plan) → p ≡ o → v ≡ w →
      IsTurned w seen mine h → IsCommitOf o seen w plan → IsCommitOf p h v plan
  turned_commit v seen mine h plan opened number turned commit =
      let later : IsCommitOf o h w plan = later_commit w seen h mine turned.later turned.told turned.all (opening_by o) plan commit in
      subst (λ (x : Opened). IsCommitOf x h v plan) (sym opened)
      (subst (λ (n : ℕ). IsCommitOf o h n plan) (sym number) later)

  -- what the pass has locked, in its turn
  pub turned_held : (v : ℕ) (h found : List Entry) (plan : Plan) (grips kept : List Grip) → p ≡ o →
      v ≡ w → found ≡ h → kept ≡ grips → IsStartOf p → IsLegalSeen p h → IsCommitOf o h w plan
      → HoldsWrites o.inst.tables plan.mv.steps plan.q grips →
      ShutBy entry_touches o (λ (e : Entry). e.worker) v found kept → AreHeld p.inst.tables h plan.q plan.mv.steps
  turned_held v h found plan grips kept opened number here same start legal commit holds shut =
      let start' : IsStartOf o = subst IsStartOf opened start in
      let legal' : IsLegalSeen o h = subst (λ (x : Opened). IsLegalSeen x h) opened legal in
      let within : AreWithin o.inst.tables plan.mv.steps =
      planned_within (opening_by o) h w plan start' legal' commit in
      let one : ShutBy entry_touches o (λ (e : Entry). e.worker) w found kept =
      subst (λ (n : ℕ). ShutBy entry_touches o (λ (e : Entry). e.worker) n found kept) number shut in
      let two : ShutBy entry_touches o (λ (e : Entry). e.worker) w h kept =
      subst (λ (xs : List Entry). ShutBy entry_touches o (λ (e : Entry). e.worker) w xs kept) here one in
      let three : ShutBy entry_touches o (λ (e : Entry). e.worker) w h grips =
      subst (λ (ks : List Grip). ShutBy entry_touches o (λ (e : Entry). e.worker) w h ks) same two in
      subst (λ (x : Opened). AreHeld x.inst.tables h plan.q plan.mv.steps) (sym opened)
      (are_held o h w plan.q plan.mv.steps grips start'.limits within holds three commit.seen)

  -- the entries that may be put back
  pub turned_gives : (v u : ℕ) (h found xs : List Entry) (plan : Plan) (grips kept : List Grip) →
      p ≡ o → v ≡ w → u ≡ w → found ≡ h → kept ≡ grips → IsCommitOf o h w plan
      → HoldsWrites o.inst.tables plan.mv.steps plan.q grips → xs ≡ (committed_in p h u plan.q).journal →
      MayGive o kept v found xs
  turned_gives v u h found xs plan grips kept opened number worker here same commit holds is =
      let gives : MayGive o grips w h xs =
      may_give o h xs w plan grips commit holds
      (is ∙ ap₂ (λ (x : Opened) (n : ℕ). (committed_in x h n plan.q).journal) opened worker) in
      subst (λ (ks : List Grip). MayGive o ks v found xs) (sym same)
      (subst (λ (ys : List Entry). MayGive o grips v ys xs) (sym here)
      (subst (λ (n : ℕ). MayGive o grips n h xs) (sym number) gives))

  -- the entries that may be put back for a plan that is known to be refused
  pub turned_refused : (v u : ℕ) (h found xs : List Entry) (plan : Plan) (kept : List Grip) → p ≡ o →
      v ≡ w → u ≡ w → found ≡ h → IsStartOf p → IsLegalSeen p h → IsCommitOf o h w plan
      → IsRefused o.inst.tables (allowed o.lots w plan.k) plan → xs ≡ (committed_in p h u plan.q).journal →
      MayGive o kept v found xs
  turned_refused v u h found xs plan kept opened number worker here start legal commit refused is =
      let start' : IsStartOf o = subst IsStartOf opened start in
      let legal' : IsLegalSeen o h = subst (λ (x : Opened). IsLegalSeen x h) opened legal in
      let gives : MayGive o kept w h xs = may_give_refused o h xs w plan kept start' legal' commit refused
      (is ∙ ap₂ (λ (x : Opened) (n : ℕ). (committed_in x h n plan.q).journal) opened worker) in
      subst (λ (ys : List Entry). MayGive o kept v ys xs) (sym here)
      (subst (λ (n : ℕ). MayGive o kept n h xs) (sym number) gives)

  -- the entries that are put back if a write guard was newer
  pub turned_stale : (u : ℕ) (h found xs : List Entry) (plan : Plan) (g : Guard) (version : ℕ) → p ≡ o →
      u ≡ w → found ≡ h → IsStartOf p → IsLegalSeen p h → IsCommitOf o h w plan
      → writes o.inst.tables plan.mv.steps g ≡ true → plan.q < version →
      IsNews entry_touches o found (grip (number_of_guard o.inst.tables g) version) →
      xs ≡ (committed_in p h u plan.q).journal → xs ≡ found
  turned_stale u h found xs plan g version opened worker here start legal commit written above news is =
      let start' : IsStartOf o = subst IsStartOf opened start in
      let legal' : IsLegalSeen o h = subst (λ (x : Opened). IsLegalSeen x h) opened legal in
      let within : AreWithin o.inst.tables plan.mv.steps =
      planned_within (opening_by o) h w plan start' legal' commit in
      let there : TouchedAt (touching entry_touches o (number_of_guard o.inst.tables g)) h (version - 1) =
      subst (λ (ys : List Entry). TouchedAt (touching entry_touches o (number_of_guard o.inst.tables g)) ys (version - 1))
      here news.1 in
      only_stale o h xs w plan commit
      (λ none. newer_there o h g (written_known o.inst.tables plan.mv.steps g start'.limits within written) plan.q version
      plan.mv.steps start'.limits within written above (slice_get_within h (version - 1) there.0 there.1) there
      none)
      (is ∙ ap₂ (λ (x : Opened) (n : ℕ). (committed_in x h n plan.q).journal) opened worker)
      ∙ sym here

  -- the place of the plan is one of what the journal became
  pub turned_place : (u : ℕ) (h xs : List Entry) (plan : Plan) → p ≡ o → u ≡ w → IsCommitOf o h w plan →
      xs ≡ (committed_in p h u plan.q).journal → plan.q ≤ length xs
  turned_place u h xs plan opened worker commit is = grind (arith, length_push, answered)

  -- what the turn was
  pub turned_committed : (u q : ℕ) (seen mine h found own xs seen' mine' : List Entry) (reply : Reply) →
      p ≡ o → u ≡ w → IsTurned w seen mine h → IsLegalSeen p h → found ≡ h → own ≡ mine
      → seen' ≡ xs → mine' ≡ own ++ drop (length found) xs → xs ≡ (committed_in p h u q).journal →
      reply ≡ (committed_in p h u q).reply → IsCommitted o w q seen mine seen' mine' reply
  turned_committed u q seen mine h found own xs seen' mine' reply opened worker turned legal here kept now made is
      answered = grind arith

-- what was seen is legal
pub legal_now : (o : Opened) (old new : History) (h seen' : List Entry) → opening_of_journal old ≡ o →
    new ≡ record old { entries = h } → seen' ≡ new.entries → IsJournal new → IsLegalSeen o seen'
legal_now o old new h seen' opened is now sound =
    subst (λ (x : Opened). IsLegalSeen x seen') (ap (λ (x : History). opening_of_journal x) is ∙ opened)
    (subst (IsLegalSeen (opening_of_journal new)) (sym now) sound.legal)
