-- What a turn in which a worker hands in its plan leaves.
use Rattle.std.proofs.Common.{◌≡◌, ◌⊎◌, ℕ, ◌-◌, ◌<◌, ◌≤◌, ◌&&◌, cond, ltb, Bool, true, false, List, [], ◌∷◌, ◌++◌}
use Rattle.std.proofs.Common.{length, drop, slice_get, Option, Some, None, refl, ap, sym, subst, ◌∙◌, ⊎_elim, inl, inr}
use Rattle.std.proofs.Common.{lt-ltb, le-ltb, arith}
use Rattle.std.proofs.Math.Seq.{drop-append_seam, drop-length}
use Rattle.std.proofs.lemmas.Bool.{cases_lt, cases_Bool, and_parts, ltb-true}
use Rattle.std.proofs.lemmas.List.{append-nil, length_push}
use Rattle.std.proofs.lemmas.Option.{slice_get_within}
use mathlib.Core.List.{IsPrefix}
use Rattle.ra_base.specs.declared.causes.Cause.{Cause}
use Rattle.ra_base.specs.declared.ids.Guard.{Guard}
use Rattle.ra_base.specs.declared.ids.Guard.TheVariants as guard
use Rattle.ra_base.proofs.Searches.{or_else_cases, first_some_at}
use Rattle.ra_base.specs.Sums.{greatest}
use Rattle.ra_base.proofs.Greatest.{greatest_none, greatest_reached}
use Rattle.ra_model.specs.declared.raw.Tables.{Tables}
use Rattle.ra_moves.specs.declared.steps.Step.{Step}
use Rattle.ra_moves.specs.declared.verdicts.Plan.{Plan}
use Rattle.ra_moves.specs.declared.verdicts.Verdict.{Verdict}
use Rattle.ra_moves.specs.declared.verdicts.Verdict.TheVariants.{Done, Refused}
use Rattle.ra_moves.specs.MoveSteps.{MoveSteps}
use Rattle.ra_guards.specs.declared.newest.Newer.{Newer}
use Rattle.ra_guards.specs.Guards.{writes, is_guard}
use Rattle.ra_guards.specs.Newest.{newer_at, first_that, first_newer}
use Rattle.ra_guards.specs.Order.{IsKnown}
use Rattle.ra_guards.specs.Versions.{made_at, touches, stamp, version}
use Rattle.ra_guards.proofs.TouchLemmas.{stamp_touched, stamp_untouched}
use Rattle.ra_journal.specs.declared.entries.Entry.{Entry}
use Rattle.ra_journal.specs.declared.replies.Reply.{Reply}
use Rattle.ra_journal.specs.declared.replies.Reply.TheVariants.{Recorded, Stale}
use Rattle.ra_journal.specs.Committing.{next_entry, newer_since, IsCommit}
use Rattle.ra_journal.specs.Entries.{entry_at, made_in, made_by, steps_made, allowed}
use Rattle.ra_journal.specs.Refusing.{IsRefused}
use Rattle.ra_journal.specs.Openings.{Opening}
use Rattle.ra_journal.proofs.EndLemmas.{next_is_planned}
use Rattle.ra_journal.proofs.NewerLemmas.{committed_stale, committed_recorded}
use Rattle.ra_journal.proofs.Places.{made_place, entry_added}
use Rattle.ra_journal.proofs.RisesLemmas.{refused_at_end}
use Rattle.ra_turn.specs.Notes.{touching, IsVersion, OnlyBy, HoldsAll}
use Rattle.ra_turn.specs.declared.sight.Grip.{Grip}
use Rattle.ra_turn.proofs.Lists.{prefix_self}
use Rattle.ra_turn.proofs.Versions.{version_whole, version_kept, only_shorter}
use Rattle.ra_shared.specs.declared.books.Opened.{Opened}
use Rattle.ra_shared.specs.Books.{entry_touches, committed_in, KnowsOwn, IsCommitOf, IsStartOf, IsLegalSeen, opening_by}
use Rattle.ra_shared.specs.Holding.{HoldsWrites, then_version}
use Rattle.ra_shared.specs.Laws.{RecordedStands, StaleStands}
use Rattle.ra_shared.specs.Numbers.{number_of_guard, touches_number}
use Rattle.ra_shared.specs.Shares.{IsCommitted}
use Rattle.ra_shared.proofs.Agree.{touches_agree}
use Rattle.ra_shared.proofs.Gripping.{holds_touched}
use Rattle.ra_shared.proofs.Own.{later_commit}

-- the entry that is added if no guard is newer
module _ (o : Opening) (h : List Entry) (w : ℕ) (plan : Plan)
    (commit : IsCommit o h w plan) where
  abbrev pub added : Entry
  added = next_entry o h w plan.q

  pub added_worker : added.worker ≡ w
  unfolding next_entry
  added_worker = refl

  pub added_q : added.q ≡ plan.q
  unfolding next_entry
  added_q = refl

  pub added_k : added.k ≡ plan.k
  unfolding next_entry
  added_k = sym commit.number

  pub added_move : added.mv ≡ plan.mv
  unfolding next_entry
  added_move = next_is_planned o h w plan commit

-- an answer is one of two
pub record IsStaleAt (o : Opened) (h : List Entry) (w : ℕ) (plan : Plan) (newer : Newer) : Type 0 where
  pub newer_is : newer_since o.inst.tables h plan.q plan.mv.steps ≡ Some newer
  pub journal : (committed_in o h w plan.q).journal ≡ h
  pub reply : (committed_in o h w plan.q).reply ≡ Stale newer.guard newer.at

pub record IsRecordedAt (o : Opened) (h : List Entry) (w : ℕ) (plan : Plan) (e : Entry) : Type 0 where
  pub none : newer_since o.inst.tables h plan.q plan.mv.steps ≡ None
  pub journal : (committed_in o h w plan.q).journal ≡ h ++ e ∷ []
  pub reply : (committed_in o h w plan.q).reply ≡ Recorded (length h) e.verdict
  pub worker : e.worker ≡ w
  pub q : e.q ≡ plan.q
  pub k : e.k ≡ plan.k
  pub mv : e.mv ≡ plan.mv
  pub judged : e.verdict ≡ (next_entry (opening_by o) h w plan.q).verdict

abbrev pub Answered : Opened → List Entry → ℕ → Plan → Type 0
Answered o h w plan = ((newer : Newer) × IsStaleAt o h w plan newer) ⊎ ((e : Entry) × IsRecordedAt o h w plan e)

answered_by : (o : Opened) (h : List Entry) (w : ℕ) (plan : Plan) (found : Option Newer) → IsCommitOf o h w plan →
    newer_since o.inst.tables h plan.q plan.mv.steps ≡ found → Answered o h w plan
answered_by o h w plan (Some newer) commit is =
    let all = committed_stale (opening_by o) h w plan newer commit is in
    inl (
      newer,
      record {
        newer_is = is;
        journal = ap (λ x. x.journal) all;
        reply = ap (λ x. x.reply) all;
      },
    )
answered_by o h w plan None commit is =
    let all = committed_recorded (opening_by o) h w plan commit is in
    inr (
      added (opening_by o) h w plan commit,
      record {
        none = is;
        journal = ap (λ x. x.journal) all;
        reply = ap (λ x. x.reply) all;
        worker = added_worker (opening_by o) h w plan commit;
        q = added_q (opening_by o) h w plan commit;
        k = added_k (opening_by o) h w plan commit;
        mv = added_move (opening_by o) h w plan commit;
        judged = refl;
      },
    )

pub answered : (o : Opened) (h : List Entry) (w : ℕ) (plan : Plan) → IsCommitOf o h w plan → Answered o h w plan
answered o h w plan commit = grind (arith, answered_by)

-- the entries that may be put back: those that were seen, or these and one more, whose guards are locked
abbrev pub MayGive : Opened → List Grip → ℕ → List Entry → List Entry → Type 0
MayGive o grips w h xs =
    (xs ≡ h) ⊎ ((n : Entry) × (xs ≡ h ++ n ∷ []) × (n.worker ≡ w) × HoldsAll entry_touches o grips n)

-- a refused entry touches nothing
none_touched : (i : Tables) (n : ℕ) → touches_number i None n ≡ false
unfolding touches_number touches
none_touched i n = grind (arith, lt-ltb, le-ltb)

refused_makes_none : (e : Entry) (cause : Cause) → e.verdict ≡ Refused cause → made_by e ≡ None
unfolding made_by steps_made
refused_makes_none e cause is = ap (λ v. steps_made v e.mv.steps) is

refused_holds : (o : Opened) (e : Entry) (cause : Cause) (grips : List Grip) → e.verdict ≡ Refused cause →
    HoldsAll entry_touches o grips e
refused_holds o e cause grips is guard touched = grind (arith, refused_makes_none, none_touched)

module _ (o : Opened) (h xs : List Entry) (w : ℕ) (plan : Plan) where
  pub may_give : (grips : List Grip) → IsCommitOf o h w plan →
      HoldsWrites o.inst.tables plan.mv.steps plan.q grips
      → xs ≡ (committed_in o h w plan.q).journal → MayGive o grips w h xs
  may_give grips commit holds is = ⊎_elim
      (λ stale. inl (is ∙ stale.1.journal))
      (λ done. inr (
        done.0,
        is ∙ done.1.journal,
        done.1.worker,
        holds_touched o done.0 plan.q grips
            (subst (λ (mv : MoveSteps). HoldsWrites o.inst.tables mv.steps plan.q grips) (sym done.1.mv) holds),
      ))
      (answered o h w plan commit)

  -- the entries that may be put back for a plan that is known to be refused: its entry touches nothing, so no guard is
  -- locked for it
  pub may_give_refused : (grips : List Grip) → IsStartOf o →
      IsLegalSeen o h → IsCommitOf o h w plan → IsRefused o.inst.tables (allowed o.lots w plan.k) plan
      → xs ≡ (committed_in o h w plan.q).journal → MayGive o grips w h xs
  may_give_refused grips start legal commit refused is = ⊎_elim
      (λ stale. inl (is ∙ stale.1.journal))
      (λ done.
      let told = refused_at_end (opening_by o) h w plan start legal commit done.1.none refused in
      inr (
        done.0,
        is ∙ done.1.journal,
        done.1.worker,
        refused_holds o done.0 told.0 grips (done.1.judged ∙ told.1),
      ))
      (answered o h w plan commit)

  pub only_stale : IsCommitOf o h w plan →
      (newer_since o.inst.tables h plan.q plan.mv.steps ≡ None → ⊥)
      → xs ≡ (committed_in o h w plan.q).journal → xs ≡ h
  only_stale commit some is = grind (arith, answered)

-- the version of a write guard of the move after the answer
pub touched_version : (touched : Entry → Bool) (h : List Entry) (e : Entry) → touched e ≡ true →
    IsVersion touched (h ++ e ∷ []) (length (h ++ e ∷ []))
touched_version touched h e is =
    let long = length_push h e in
    record {
      within = omega arith;
      last = λ more. (e, at_last h e (length (h ++ e ∷ []) - 1) (omega arith), is);
      quiet = λ k x ge there. absurd (let lt = slice_get_within (h ++ e ∷ []) k x there in omega arith);
    }
  where
    here : (h : List Entry) (e : Entry) → slice_get (h ++ e ∷ []) (length h) ≡ Some e
    here [] e = refl
    here (x ∷ xs) e = here xs e

    at_last : (h : List Entry) (e : Entry) (n : ℕ) → n ≡ length h → slice_get (h ++ e ∷ []) n ≡ Some e
    at_last h e n is = ap (slice_get (h ++ e ∷ [])) is ∙ here h e

refused_nothing : (i : Tables) (verdict : Verdict) (steps : List Step) (g : Guard) (at v seen : ℕ)
    (touched : Entry → Bool) (h : List Entry) (e : Entry)
    → e.verdict ≡ verdict → touched e ≡ touches i (steps_made verdict steps) g → writes i steps g ≡ true →
    seen ≡ length (h ++ e ∷ []) → IsVersion touched h v
    → IsVersion touched (h ++ e ∷ []) (then_version (Some (Recorded at verdict)) v seen)
unfolding then_version touches steps_made
refused_nothing i (Done cost) steps g at v seen touched h e is touch written long before =
    subst (λ (n : ℕ). IsVersion touched (h ++ e ∷ []) n) (sym long) (touched_version touched h e (touch ∙ written))
refused_nothing i (Refused cause) steps g at v seen touched h e is touch written long before =
    version_kept touched h e v touch before

stale_version : (guard : Guard) (at v seen : ℕ) → then_version (Some (Stale guard at)) v seen ≡ v
unfolding then_version
stale_version guard at v seen = refl

module _ (o : Opened) (w : ℕ) (plan : Plan) (g : Guard) (known : IsKnown o.inst.tables g)
    (written : writes o.inst.tables plan.mv.steps g ≡ true) where
  pub version_then : (seen mine seen' mine' : List Entry) (reply : Reply) (v : ℕ) → KnowsOwn w seen mine →
      IsCommitOf o seen w plan → IsCommitted o w plan.q seen mine seen' mine' reply
      → v ≤ length seen → IsVersion (touching entry_touches o (number_of_guard o.inst.tables g)) seen v →
      OnlyBy (touching entry_touches o (number_of_guard o.inst.tables g)) (λ (e : Entry). e.worker) w seen' v
      → IsVersion (touching entry_touches o (number_of_guard o.inst.tables g)) seen'
      (then_version (Some reply) v (length seen'))
  unfolding made_by
  version_then seen mine seen' mine' reply v own commit done le before only =
      let touched : Entry → Bool = touching entry_touches o (number_of_guard o.inst.tables g) in
      let h = done.history in
      let later = later_commit w seen h mine done.later own done.own (opening_by o) plan commit in
      let whole = λ (p : IsPrefix h seen'). version_whole touched (λ (e : Entry). e.worker) w seen h mine v v done.later
      own done.own le (only_shorter touched (λ (e : Entry). e.worker) w h seen' v p only) before in
      ⊎_elim
      (λ stale. (let same : seen' ≡ h = done.journal ∙ stale.1.journal in
      let now : IsVersion touched h v = whole (subst (IsPrefix h) (sym same) (prefix_self h)) in
      subst (λ (r : Reply). IsVersion touched seen' (then_version (Some r) v (length seen')))
      (sym (done.answer ∙ stale.1.reply))
      (subst (λ (n : ℕ). IsVersion touched seen' n) (sym (stale_version stale.0.guard stale.0.at v (length seen')))
      (subst (λ (xs : List Entry). IsVersion touched xs v) (sym same) now))))
      (λ more. (let e = more.0 in
      let same : seen' ≡ h ++ e ∷ [] = done.journal ∙ more.1.journal in
      let now : IsVersion touched h v = whole (subst (IsPrefix h) (sym same) (e ∷ [], refl)) in
      let touch : touched e ≡ touches o.inst.tables (steps_made e.verdict e.mv.steps) g =
      touches_agree o.inst.tables (made_by e) g known in
      let writes' : writes o.inst.tables e.mv.steps g ≡ true =
      ap (λ (mv : MoveSteps). writes o.inst.tables mv.steps g) more.1.mv ∙ written in
      let there = refused_nothing o.inst.tables e.verdict e.mv.steps g (length h) v (length seen') touched h e refl
      touch writes' (ap length same) now in
      subst (λ (r : Reply). IsVersion touched seen' (then_version (Some r) v (length seen')))
      (sym (done.answer ∙ more.1.reply))
      (subst (λ (xs : List Entry).
      IsVersion touched xs (then_version (Some (Recorded (length h) e.verdict)) v (length seen')))
      (sym same) there)))
      (answered o h w plan later)

-- what the worker has made is then what is there of its own
-- the laws for a worker that is answered
pub recorded_stands : RecordedStands
recorded_stands o w plan seen mine seen' mine' j verdict own commit done =
    let h = done.history in
    ⊎_elim
    (λ stale. absurd (let clash : Recorded j verdict ≡ Stale stale.0.guard stale.0.at = done.answer ∙ stale.1.reply in
    cc clash))
    (λ more. (let e = more.0 in
    let same : seen' ≡ h ++ e ∷ [] = done.journal ∙ more.1.journal in
    let answer : Recorded j verdict ≡ Recorded (length h) e.verdict = done.answer ∙ more.1.reply in
    let place : j ≡ length h = cc answer in
    let judged : verdict ≡ e.verdict = cc answer in
    let last : entry_at seen' j ≡ e = ap (λ (xs : List Entry). entry_at xs j) same
    ∙ (ap (entry_at (h ++ e ∷ [])) place ∙ entry_added h e) in
    let tail : drop (length h) seen' ≡ e ∷ [] = ap (drop (length h)) same ∙ drop-append_seam h (e ∷ []) in
    record {
      last = omega (arith, ap length same, length_push h e);
      worker = ap (λ (x : Entry). x.worker) last ∙ more.1.worker;
      k = ap (λ (x : Entry). x.k) last ∙ more.1.k;
      q = ap (λ (x : Entry). x.q) last ∙ more.1.q;
      mv = ap (λ (x : Entry). x.mv) last ∙ more.1.mv;
      judged = ap (λ (x : Entry). x.verdict) last ∙ sym judged;
      made = done.made ∙ (ap (λ (ys : List Entry). mine ++ ys) tail ∙ ap (λ (x : Entry). mine ++ x ∷ []) (sym last));
    }))
    (answered o h w plan
    (later_commit w seen h mine done.later own done.own (opening_by o) plan commit))

-- the first newer guard is a guard of the move whose version is above q, and its place is the one before that version
pub record IsFound (test : Guard → Bool) (v : Guard → ℕ) (q : ℕ) (newer : Newer) : Type 0 where
  pub passes : test newer.guard ≡ true
  pub above : q < v newer.guard
  pub place : newer.at ≡ v newer.guard - 1

found_at : (test : Guard → Bool) (v : Guard → ℕ) (q : ℕ) (g : Guard) (newer : Newer) (b : Bool) →
    (test g && ltb q (v g)) ≡ b → cond b (Some (let x : Newer = record { guard = g; at = v g - 1 } in x)) None ≡
    Some newer → IsFound test v q newer
found_at test v q g newer true is some =
    let parts = and_parts (test g) (ltb q (v g)) is in
    let guard : newer.guard ≡ g = cc some in
    let at : newer.at ≡ v g - 1 = cc some in
    record {
      passes = ap test guard ∙ parts.0;
      above = (let more = ltb-true q (v g) parts.1 in let same : v newer.guard ≡ v g = ap v guard in omega arith);
      place = at ∙ ap (λ x. v x - 1) (sym guard);
    }
found_at test v q g newer false is some = absurd (cc some)

newer_found : (i : Tables) (test : Guard → Bool) (v : Guard → ℕ) (q : ℕ) (newer : Newer) →
    first_that i test v q ≡ Some newer → IsFound test v q newer
unfolding first_that newer_at
newer_found i test v q newer is = grind (arith, first_some_at, found_at, or_else_cases)

-- the entry before a version touches the guard
stamped : (i : Tables) (h : List Entry) (g : Guard) → 0 < version i (made_in h) (length h) g
    → (version i (made_in h) (length h) g - 1 < length h)
    × (touches i (made_by (entry_at h (version i (made_in h) (length h) g - 1))) g ≡ true)
unfolding version
stamped i h g more =
    let some : 0 < length h =
    ⊎_elim (λ (lt : 0 < length h). lt) (λ (le : length h ≤ 0). absurd (let none : length h ≡ 0 = omega arith in
    omega (arith, ap (λ n. greatest n (stamp i (made_in h) g)) none, greatest_none (stamp i (made_in h) g))))
    (cases_lt 0 (length h)) in
    let top = greatest_reached (length h) (stamp i (made_in h) g) some in
    ⊎_elim
    (λ (touched : touches i (made_at (made_in h) top.0) g ≡ true).
    let here : version i (made_in h) (length h) g - 1 ≡ top.0 =
    omega (arith, stamp_touched i (made_in h) g top.0 touched, top.2) in (
      omega (arith, top.1),
      ap (λ (n : ℕ). touches i (made_by (entry_at h n)) g) here
          ∙ (ap (λ (m : Option (List Step)). touches i m g) (sym (made_place h top.0)) ∙ touched),
    ))
    (λ (untouched : touches i (made_at (made_in h) top.0) g ≡ false).
    absurd (omega (arith, stamp_untouched i (made_in h) g top.0 untouched, top.2)))
    (cases_Bool (touches i (made_at (made_in h) top.0) g))

pub stale_stands : StaleStands
unfolding newer_since first_newer
stale_stands o w plan seen mine seen' mine' guard at own commit done =
    let h = done.history in
    let i = o.inst.tables in
    let later = later_commit w seen h mine done.later own done.own (opening_by o) plan commit in
    ⊎_elim
    (λ stale. (let same : seen' ≡ h = done.journal ∙ stale.1.journal in
    let answer : Stale guard at ≡ Stale stale.0.guard stale.0.at = done.answer ∙ stale.1.reply in
    let g : guard ≡ stale.0.guard = cc answer in
    let place : at ≡ stale.0.at = cc answer in
    let found = newer_found i (is_guard i plan.mv.steps) (version i (made_in h) (length h)) plan.q stale.0
    stale.1.newer_is in
    let there = stamped i h stale.0.guard (let a = found.above in omega arith) in
    let here : at ≡ version i (made_in h) (length h) stale.0.guard - 1 = place ∙ found.place in
    let from : plan.q ≤ at = (let a = found.above in omega arith) in
    let inside : at < length h = (let b = there.0 in omega arith) in
    let touched : touches i (made_by (entry_at h at)) stale.0.guard ≡ true =
    ap (λ (n : ℕ). touches i (made_by (entry_at h n)) stale.0.guard) here ∙ there.1 in
    record {
      made = done.made
          ∙ (ap (λ (xs : List Entry). mine ++ drop (length h) xs) same
          ∙ (ap (λ (ys : List Entry). mine ++ ys) (drop-length h) ∙ append-nil mine));
      guarded = ap (is_guard i plan.mv.steps) g ∙ found.passes;
      from = from;
      within = omega (arith, ap length same);
      touched = ap (λ (x : Guard). touches i (made_by (entry_at seen' at)) x) g
          ∙ (ap (λ (xs : List Entry). touches i (made_by (entry_at xs at)) stale.0.guard) same ∙ touched);
      other = λ own'.
          (let before = later.seen at inside (ap (λ (xs : List Entry). (entry_at xs at).worker) (sym same) ∙ own') in
          absurd (omega arith));
    }))
    (λ more. absurd (let clash : Stale guard at ≡ Recorded (length h) more.0.verdict = done.answer ∙ more.1.reply in
    cc clash))
    (answered o h w plan later)
