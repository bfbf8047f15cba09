-- A checker that takes entries in.
use Rattle.std.proofs.Common.{◌≡◌, ℕ, ◌+◌, ◌-◌, ◌<◌, ◌≤◌, true, List, [], ◌∷◌, ◌++◌, length, set, get_or, refl, sym, ap, ap₂, ◌∙◌, subst, arith}
use Rattle.std.proofs.lemmas.List.{length_push, length-map, get_or-map, get_or_default}
use Rattle.ra_draws.specs.declared.budgets.Lots.{Lots}
use Rattle.ra_journal.specs.declared.entries.Entry.{Entry}
use Rattle.ra_journal.specs.Committing.{next_entry}
use Rattle.ra_journal.specs.Entries.{entry_at, worker_count, proposal_count}
use Rattle.ra_journal.specs.Legal.{Legal}
use Rattle.ra_journal.specs.Openings.{Opening}
use Rattle.ra_journal.specs.Journals.{History, opening_in}
use Rattle.ra_journal.proofs.RoomLemmas.{AreNumbered, entries_few}
use Rattle.ra_journal.proofs.Places.{entry_added}
use Rattle.ra_report.specs.JournalTexts.{entry_line}
use Rattle.ra_worker.specs.Replicas.{Progress}
use Rattle.ra_worker.proofs.OpeningLemmas.{over_is}
use Rattle.ra_worker.specs.declared.events.CoreReply.{CoreReply}
use Rattle.ra_worker.specs.Core.{core_place_of, turn}
use Rattle.ra_worker.specs.AllReplicas.{AreAt, core_of}
use Rattle.ra_verify.specs.declared.checker.Checker.{Checker}
use Rattle.ra_verify.specs.Checking.{NoneIsPast, checker_entries, checker_core, IsOpen, MayFollow, HasTakenEntry, HasTakenSomeEntry, HasTakenLine, IsSameRun, MayStand, is_recorded}
use Rattle.ra_verify.proofs.FollowLemmas.{last_legal, one_next_entry, is_taken, none_past, none_past_start}

-- an entry that may follow may be at the next place
pub may_stand : (c : Checker) (e : Entry) (w q : ℕ) → IsOpen c → MayFollow c e → e.worker ≡ w → e.q ≡ q → MayStand c w q
may_stand c e w q ready legal own at =
    let j = c.journal in
    let next = last_legal (opening_in j) (checker_entries c) e legal in
    let exists : w < worker_count j.lots = subst (λ k. k < worker_count j.lots) own next.numbered.worker in
    record {
      worker = exists;
      place = subst (λ k. k ≤ length (checker_entries c)) at next.placed.place;
      ahead = ready.each w q exists (record {
        seen = λ n within is. subst (λ k. n < k) at (next.placed.seen n within (is ∙ sym own));
      });
    }

-- a turn that was recorded
next_own : (c : Checker) (w q : ℕ) →
    (next_entry (opening_in c.journal) (checker_entries c) w q).worker ≡ w
unfolding next_entry
next_own c w q = refl

places_long : (h : List Entry) (rs : List Progress) → length (core_of h rs).places ≡ length rs
unfolding core_of
places_long h rs = length-map rs (λ (r : Progress). r.place)

pub same_run : (c d : Checker) → IsSameRun c d → opening_in d.journal ≡ opening_in c.journal
same_run c d same = over_is c.journal d.journal same

pub same_lots : (c d : Checker) → IsSameRun c d → d.journal.lots ≡ c.journal.lots
same_lots c d same = ap (λ (j : History). j.lots) same

pub taken : (c d : Checker) (w q : ℕ) (reply : CoreReply) → IsOpen c → MayStand c w q → IsSameRun c d →
    checker_entries d ≡
    (turn (opening_in c.journal) (checker_entries c) w q).journal →
    reply ≡ (turn (opening_in c.journal) (checker_entries c) w q).reply →
    is_recorded reply ≡ true → (checker_core d).places ≡ set (checker_core c).places w q →
    HasTakenEntry c d
    (next_entry (opening_in c.journal) (checker_entries c) w q)
taken c d w q reply ready stands same journal reply_is was places =
    let j = c.journal in
    let e = next_entry (opening_in j) (checker_entries c) w q in
    let added : checker_entries d ≡ checker_entries c ++ e ∷ [] =
    is_taken (opening_in j) (checker_entries c) (checker_entries d) w q reply journal
    reply_is
    was in
    let legal : Legal (opening_in j) (checker_entries d) =
    subst (λ (o : Opening). Legal o (checker_entries d)) (same_run c d same) d.sound.legal in
    let there : w < length (checker_core c).places =
    omega (arith, places_long (checker_entries c) c.replicas.items, c.at.one_each, stands.worker) in
    record {
      entries = added;
      legal = subst (Legal (opening_in j)) added legal;
      ready = subst (λ (l : Lots). NoneIsPast l (checker_entries d) (checker_core d)) (sym (same_lots c d same))
          (none_past j.lots (checker_entries c) (checker_entries d) (checker_core c) (checker_core d) w q e ready
          added (next_own c w q)
          there stands.place places);
    }

-- the entry that was taken in is the last
pub last_taken : (c d : Checker) (e entry : Entry) (at : ℕ) → HasTakenEntry c d e → at ≡ length (checker_entries c) →
    entry ≡ entry_at (checker_entries d) at → entry ≡ e
last_taken c d e entry at has at_is entry_is = entry_is ∙ ap₂ entry_at has.entries at_is
    ∙ entry_added (checker_entries c) e

pub line_taken : (c d : Checker) (e entry : Entry) (at : ℕ) (line : List ℕ) → HasTakenEntry c d e →
    at ≡ length (checker_entries c) → entry ≡ entry_at (checker_entries d) at → line ≡ entry_line at entry →
    HasTakenLine c d line
line_taken c d e entry at line has at_is entry_is text = record {
  entry = e;
  taken = has;
  text = text ∙ ap₂ entry_line at_is (last_taken c d e entry at has at_is entry_is);
}

-- and it is the one that may follow
pub only_taken : (c d : Checker) (f e entry : Entry) (at : ℕ) → HasTakenEntry c d f → MayFollow c e →
    e.worker ≡ f.worker → e.q ≡ f.q → at ≡ length (checker_entries c) → entry ≡ entry_at (checker_entries d) at →
    entry_line at entry ≡ entry_line (length (checker_entries c)) e
only_taken c d f e entry at has legal own q at_is entry_is =
    let j = c.journal in
    ap₂ entry_line at_is (last_taken c d f entry at has at_is entry_is
    ∙ sym (one_next_entry (opening_in j) (checker_entries c) e f legal has.legal own q))

-- before the first entry
start_place : (o : Opening) (h : List Entry) (rs : List Progress) (w : ℕ) →
    AreAt o [] rs → w < length rs → core_place_of (core_of h rs) w ≡ 0
unfolding core_place_of core_of
start_place o h [] w at there = absurd (omega (arith, there))
start_place o h (r ∷ rs) w at there =
    let here : Progress = get_or (r ∷ rs) w r in
    let same : get_or (r ∷ rs) w here ≡ here = get_or_default (r ∷ rs) w here r there in
    let place : here.place ≤ 0 = (at.each w here there same).at.place in
    get_or-map (λ (x : Progress). x.place) (r ∷ rs) w here 0 there ∙ ap (λ (x : Progress). x.place) same
    ∙ omega (arith, place)

pub open_start : (o : Opening) (m : Lots) (h : List Entry) (rs : List Progress) → AreAt o [] rs → m ≡ o.lots →
    NoneIsPast m h (core_of h rs)
open_start o m h rs at lots =
    none_past_start m h (core_of h rs)
    (λ w exists. start_place o h rs w at (omega (arith, at.one_each, ap worker_count lots, exists)))

-- an entry more leaves fewer proposals
pub more_smaller : (c d : Checker) → HasTakenSomeEntry c d → IsSameRun c d →
    proposal_count d.journal.lots - length (checker_entries d) < proposal_count c.journal.lots
    - length (checker_entries c)
more_smaller c d more same =
    let j = d.journal in
    let long : length (checker_entries d) ≡ length (checker_entries c) + 1 =
    ap (λ (x : List Entry). length x) more.taken.entries
    ∙ omega (arith, length_push (checker_entries c) more.entry) in
    let numbered : AreNumbered j.lots (checker_entries d) (length (checker_entries d)) = record {
      each = λ k there. (d.sound.legal.each k there).numbered;
    } in
    omega (
      arith,
      long,
      entries_few j.lots (checker_entries d) (length (checker_entries d)) numbered,
      ap proposal_count (same_lots c d same),
    )
