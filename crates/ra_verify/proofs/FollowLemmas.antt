-- The one entry that may follow the entries of a legal journal, by its worker and the place of its plan.
use Rattle.std.proofs.Common.{◌≡◌, ℕ, zero, suc, ◌+◌, ◌<◌, ◌≤◌, Bool, true, false, eqb, List, [], ◌∷◌, ◌++◌, length, set, get_or, Option, Some, None, refl, sym, ap, ap₂, ◌∙◌, subst, ⊎_elim, arith}
use Rattle.std.proofs.lemmas.Bool.{cases_Bool, cases_eq, cases_lt, lt-leb, le-ltb, eqb-true}
use Rattle.std.proofs.lemmas.List.{length_push, get_or-set_same, get_or-set_other}
use Rattle.ra_base.specs.Sums.{count}
use Rattle.ra_base.proofs.Counts.{count_no}
use Rattle.ra_draws.specs.declared.budgets.Lots.{Lots}
use Rattle.ra_moves.specs.declared.verdicts.Plan.{Plan}
use Rattle.ra_moves.specs.Weighing.{weighed_of}
use Rattle.ra_guards.specs.declared.newest.Newer.{Newer}
use Rattle.ra_guards.proofs.NewestLemmas.{newest_is_right}
use Rattle.ra_journal.specs.declared.entries.Entry.{Entry}
use Rattle.ra_journal.specs.Committing.{next_number, next_entry, next_move, newer_since, committed, committed_by, IsCommit}
use Rattle.ra_journal.specs.Entries.{entry_at, made_in, entries_of, worker_count, budget}
use Rattle.ra_journal.specs.Keeping.{IsStart}
use Rattle.ra_journal.specs.Legal.{IsLegalAt, Legal}
use Rattle.ra_journal.specs.Openings.{Opening}
use Rattle.ra_journal.specs.States.{state_at}
use Rattle.ra_journal.proofs.EndLemmas.{planned_within, next_entry_is}
use Rattle.ra_journal.proofs.NewerLemmas.{committed_recorded}
use Rattle.ra_journal.proofs.NextLemmas.{carried}
use Rattle.ra_journal.proofs.RoomLemmas.{AreNumbered, entries_few, proposals_few, budgets_few}
use Rattle.ra_journal.proofs.Places.{same_added, same_fewer, same_turned, entry_before, entry_added}
use Rattle.ra_report.specs.Fronts.{IsSmallEntry, IsSmallFront}
use Rattle.ra_worker.specs.Skipping.{has_used, is_behind, is_skipped}
use Rattle.ra_worker.specs.declared.events.CoreReply.{CoreReply}
use Rattle.ra_worker.specs.declared.events.CoreReply.TheVariants.{Answer}
use Rattle.ra_worker.specs.Core.{Core, core_place_of, Turn, answered, turn}
use Rattle.ra_worker.proofs.CoreTurnLemmas.{turn_skipped, turn_answered}
use Rattle.ra_verify.specs.Checking.{IsBehind, NoneIsPast, is_recorded}

-- the last entry of a legal journal may come after the others, which are legal
pub last_legal : (o : Opening) (h : List Entry) (e : Entry) → Legal o (h ++ e ∷ []) → IsLegalAt o h (length h) e
last_legal o h e legal =
    carried o (h ++ e ∷ []) h (length h) e (same_turned (length h) h (h ++ e ∷ []) (same_added h e))
    (subst (IsLegalAt o (h ++ e ∷ []) (length h)) (entry_added h e)
    (legal.each (length h) (omega (arith, length_push h e))))

pub front_legal : (o : Opening) (h : List Entry) (e : Entry) → Legal o (h ++ e ∷ []) → Legal o h
front_legal o h e legal = record {
  each = λ j within.
      let same = same_fewer j (length h) (h ++ e ∷ []) h (omega arith)
      (same_turned (length h) h (h ++ e ∷ []) (same_added h e)) in
      carried o (h ++ e ∷ []) h j (entry_at h j) same
      (subst (IsLegalAt o (h ++ e ∷ []) j) (entry_before h e j within)
      (legal.each j (omega (arith, length_push h e))));
}

-- its plan
plan_in : Opening → List Entry → Entry → Plan
plan_in o h e = record {
  q = e.q;
  k = e.k;
  mv = e.mv;
  weighed = weighed_of (state_at o h e.q) e.mv.steps;
}

commits : (o : Opening) (h : List Entry) (e : Entry) → IsLegalAt o h (length h) e →
    IsCommit o h e.worker (plan_in o h e)
unfolding plan_in next_number
commits o h e legal = record {
  worker = legal.numbered.worker;
  number = legal.numbered.number;
  within = legal.numbered.budget;
  place = legal.placed.place;
  seen = legal.placed.seen;
  planned = legal.planned;
  weighed = refl;
}

-- it is the next entry of its worker, planned at its place
pub is_next : (o : Opening) (h : List Entry) (e : Entry) → IsLegalAt o h (length h) e → e ≡ next_entry o h e.worker e.q
unfolding plan_in
is_next o h e legal =
    next_entry_is o h e.worker (plan_in o h e) e.verdict (commits o h e legal) legal.judged

-- so there is one at most for a worker and a place
pub one_next_entry : (o : Opening) (h : List Entry) (e f : Entry) →
    Legal o (h ++ e ∷ []) → Legal o (h ++ f ∷ []) → e.worker ≡ f.worker → e.q ≡ f.q → e ≡ f
one_next_entry o h e f one other worker q =
    is_next o h e (last_legal o h e one)
    ∙ ap₂ (next_entry o h) worker q
    ∙ sym (is_next o h f (last_legal o h f other))

-- no guard of it is newer
none_newer : (o : Opening) (h : List Entry) (e : Entry) → IsStart o → Legal o h →
    IsLegalAt o h (length h) e → newer_since o.tables h e.q e.mv.steps ≡ None
unfolding newer_since plan_in
none_newer o h e start legal next =
    (newest_is_right.none o.tables (made_in h) e.q (length h) e.mv.steps start.limits
    (planned_within o h e.worker (plan_in o h e) start legal (commits o h e next))).1
    next.untouched

-- none passes after a number
count_cut : (q n : ℕ) (test : ℕ → Bool) → q ≤ n → ((j : ℕ) → q ≤ j → j < n → test j ≡ false) →
    count q test ≡ count n test
count_cut q zero test few none = let same : q ≡ 0 = omega arith in ap (λ (k : ℕ). count k test) same
count_cut q (suc n) test few none = ⊎_elim
    (λ (less : q < suc n). count_cut q n test (omega arith) (λ j from before. none j from (omega arith))
    ∙ sym (count_no n test (none n (omega arith) (omega arith)))
    ∙ ap (λ (k : ℕ). count k test) {x = n + 1} {y = suc n} (omega arith))
    (λ (all : suc n ≤ q). let same : q ≡ suc n = omega arith in ap (λ (k : ℕ). count k test) same)
    (cases_lt q (suc n))

-- its worker has no entry at its place or after it
none_from : (h : List Entry) (w q n : ℕ) → q ≤ n → ((j : ℕ) → j < n → (entry_at h j).worker ≡ w → j < q) →
    entries_of h q w ≡ entries_of h n w
unfolding entries_of
none_from h w q n few seen =
    count_cut q n (λ j. eqb (entry_at h j).worker w) few (λ j from before. not_own j from before)
  where
    not_own : (j : ℕ) → q ≤ j → j < n → eqb (entry_at h j).worker w ≡ false
    not_own j from before = ⊎_elim
        (λ (own : eqb (entry_at h j).worker w ≡ true). absurd (omega (arith, seen j before (eqb-true _ _ own))))
        (λ (other : eqb (entry_at h j).worker w ≡ false). other)
        (cases_Bool (eqb (entry_at h j).worker w))

-- so it isn't skipped
not_skipped : (o : Opening) (h : List Entry) (e : Entry) →
    IsLegalAt o h (length h) e → is_skipped o.lots h e.worker e.q ≡ false
unfolding is_skipped has_used is_behind next_number
not_skipped o h e next =
    let made : entries_of h e.q e.worker ≡ entries_of h (length h) e.worker =
    none_from h e.worker e.q (length h) next.placed.place next.placed.seen in
    rw (
      lt-leb (budget o.lots e.worker) (entries_of h (length h) e.worker)
          (omega (arith, next.numbered.number, next.numbered.budget)),
      le-ltb (entries_of h e.q e.worker) (entries_of h (length h) e.worker) (omega (arith, made)),
    ) refl

-- its worker's turn records it
recorded : (o : Opening) (h : List Entry) (e : Entry) → IsStart o → Legal o h →
    IsLegalAt o h (length h) e → is_recorded (turn o h e.worker e.q).reply ≡ true
unfolding is_recorded plan_in
recorded o h e start legal next =
    ap (λ (t : Turn). is_recorded t.reply) (turn_answered o h e.worker e.q (not_skipped o h e next))
    ∙ ap (λ c. is_recorded (Answer c.reply))
    (committed_recorded o h e.worker (plan_in o h e) (commits o h e next)
    (none_newer o h e start legal next))

-- if a turn records nothing, no entry of that worker and place may follow
pub none_may_follow : (o : Opening) (h : List Entry) (w q : ℕ) (reply : CoreReply) →
    IsStart o → reply ≡ (turn o h w q).reply → is_recorded reply ≡ false → (e : Entry) →
    Legal o (h ++ e ∷ []) → e.worker ≡ w → e.q ≡ q → ⊥
none_may_follow o h w q reply start reply_is none e legal worker_is q_is =
    let yes = recorded o h e start (front_legal o h e legal) (last_legal o h e legal) in
    let same : is_recorded reply ≡ true = ap is_recorded reply_is
    ∙ sym (ap₂ (λ v p. is_recorded (turn o h v p).reply) worker_is q_is) ∙ yes in
    (cc)

-- if it records something, that is the next entry
recorded_by : (newer : Option Newer) (h : List Entry) (e : Entry) →
    is_recorded (answered (committed_by newer h e)).reply ≡ true → (answered (committed_by newer h e)).journal ≡
    h ++ e ∷ []
unfolding committed_by answered is_recorded
recorded_by (Some newer) h e is = absurd (cc)
recorded_by None h e is = refl

skipped_none : (o : Opening) (h : List Entry) (w q : ℕ) → is_skipped o.lots h w q ≡ true →
    is_recorded (turn o h w q).reply ≡ false
unfolding is_recorded
skipped_none o h w q skipped = ap (λ (t : Turn). is_recorded t.reply) (turn_skipped o h w q skipped)

turn_is : (o : Opening) (h : List Entry) (w q : ℕ) → is_skipped o.lots h w q ≡ false → turn o h w q ≡
    answered (committed_by (newer_since o.tables h q (next_move o h w q).steps) h (next_entry o h w q))
unfolding answered committed
turn_is o h w q ready = turn_answered o h w q ready

turn_recorded : (o : Opening) (h : List Entry) (w q : ℕ) →
    is_recorded (turn o h w q).reply ≡ true → (turn o h w q).journal ≡ h ++ next_entry o h w q ∷ []
turn_recorded o h w q is = ⊎_elim
    (λ (skipped : is_skipped o.lots h w q ≡ true). absurd (let no = skipped_none o h w q skipped in (cc)))
    (λ (ready : is_skipped o.lots h w q ≡ false).
    ap (λ (t : Turn). t.journal) (turn_is o h w q ready)
    ∙ recorded_by (newer_since o.tables h q (next_move o h w q).steps) h (next_entry o h w q)
    (sym (ap (λ (t : Turn). is_recorded t.reply) (turn_is o h w q ready)) ∙ is))
    (cases_Bool (is_skipped o.lots h w q))

pub is_taken : (o : Opening) (h g : List Entry) (w q : ℕ) (reply : CoreReply) →
    g ≡ (turn o h w q).journal → reply ≡ (turn o h w q).reply → is_recorded reply ≡ true →
    g ≡ h ++ next_entry o h w q ∷ []
is_taken o h g w q reply g_is reply_is is = g_is ∙ turn_recorded o h w q (sym (ap is_recorded reply_is) ∙ is)

-- afterwards no replica is past the next plan of its worker
pub none_past : (l : Lots) (h g : List Entry) (c d : Core) (w q : ℕ) (e : Entry) → NoneIsPast l h c → g ≡ h ++ e ∷ [] →
    e.worker ≡ w → w < length c.places → q ≤ length h → d.places ≡ set c.places w q → NoneIsPast l g d
unfolding core_place_of
none_past l h g c d w q e none g_is own there few places = rw g_is (record {
  each = λ v p exists behind. ⊎_elim
      (λ (here : v ≡ w).
      let last : length h < p = behind.seen (length h) (omega (arith, length_push h e))
      (ap (λ (x : Entry). x.worker) (entry_added h e) ∙ own ∙ sym here) in
      let at : get_or d.places v 0 ≡ q = ap₂ (λ x k. get_or x k 0) places here ∙ get_or-set_same c.places w q 0 there in
      omega (arith, last, at, few))
      (λ (apart : v ≡ w → ⊥).
      let at : get_or d.places v 0 ≡ get_or c.places v 0 = ap (λ x. get_or x v 0) places
      ∙ get_or-set_other c.places w v q 0 apart in
      let before : IsBehind h v p = record {
        seen = λ j within is. behind.seen j (omega (arith, within, length_push h e))
            (ap (λ (x : Entry). x.worker) (entry_before h e j within) ∙ is);
      } in
      omega (arith, at, none.each v p exists before))
      (cases_eq v w);
})

-- and none does at the start
pub none_past_start : (l : Lots) (h : List Entry) (c : Core) → ((w : ℕ) → w < worker_count l → core_place_of c w ≡ 0) →
    NoneIsPast l h c
none_past_start l h c start = record { each = λ w q exists behind. omega (arith, start w exists) }

-- a legal journal has few entries
pub few_entries : (o : Opening) (h : List Entry) → Legal o h → length h ≤ 1000000
few_entries o h legal =
    let numbered : AreNumbered o.lots h (length h) = record { each = λ k there. (legal.each k there).numbered } in
    omega (arith, entries_few o.lots h (length h) numbered, proposals_few o.lots)

-- and what may follow them has small numbers
pub small_entry : (o : Opening) (h : List Entry) (e : Entry) → Legal o (h ++ e ∷ []) → IsSmallEntry e
unfolding worker_count
small_entry o h e legal =
    let next = last_legal o h e legal in
    let few = few_entries o (h ++ e ∷ []) legal in
    record {
      worker = omega (arith, next.numbered.worker, o.lots.fitting.few);
      q = omega (arith, next.placed.place, few, length_push h e);
    }

pub small_front : (o : Opening) (h : List Entry) (e : Entry) → Legal o (h ++ e ∷ []) → IsSmallFront (length h) e
small_front o h e legal =
    let next = last_legal o h e legal in
    record {
      place = omega (arith, few_entries o (h ++ e ∷ []) legal, length_push h e);
      entry = small_entry o h e legal;
      k = omega (arith, next.numbered.budget, budgets_few o.lots e.worker next.numbered.worker);
    }
