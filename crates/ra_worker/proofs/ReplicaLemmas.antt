-- A replica that takes in one entry after another of a journal.
use Rattle.std.proofs.Common.{◌≡◌, ℕ, ◌+◌, ◌*◌, ◌^◌, ◌<◌, ◌≤◌, eqb, List, length, refl, sym, ap, ◌∙◌, subst, add-one, arith}
use Rattle.std.proofs.Math.Nat.{suc-mul}
use Rattle.ra_base.proofs.Counts.{count_none}
use Rattle.ra_draws.specs.declared.budgets.Lots.{Lots}
use Rattle.ra_model.specs.declared.raw.Tables.{Tables}
use Rattle.ra_model.specs.Limits.{WellFormed}
use Rattle.ra_model.specs.Numbers.{resource_count}
use Rattle.ra_model.specs.Situations.{Situation}
use Rattle.ra_model.specs.Assignments.{IsAssignment}
use Rattle.ra_journal.specs.declared.entries.Entry.{Entry}
use Rattle.ra_journal.specs.Entries.{entry_at, entries_of, budget}
use Rattle.ra_journal.specs.States.{state}
use Rattle.ra_journal.specs.Openings.{Opening}
use Rattle.ra_journal.proofs.QuietLemmas.{state_passed}
use Rattle.ra_journal.proofs.RoomLemmas.{AreNumbered, entries_few, proposals_few}
use Rattle.ra_worker.specs.Following.{IsJudged}
use Rattle.ra_worker.specs.Replicas.{Progress, beginning, opening_at, followed, IsAt, AreNextEntries, HasTaken, HasPassed}
use Rattle.ra_worker.proofs.FollowingLemmas.{entry_judged, next_state, next_count}
use Rattle.ra_worker.proofs.OpeningLemmas.{world_is}

-- at place 0
pub at_start : (o : Opening) (h : List Entry) (w : ℕ) → IsAt o h (beginning o w)
unfolding state entries_of
at_start o h w = record {
  opening = refl;
  place = omega arith;
  state = refl;
  number = sym (count_none (λ k. eqb (entry_at h k).worker w));
}

-- one entry more
pub at_next : (o : Opening) (h : List Entry) (r s : Progress) (e : Entry) →
    IsAt o h r → r.place < length h → e ≡ entry_at h r.place → s ≡ followed r e → IsAt o h s
at_next o h r s e at within e_is is = rw is (record {
  opening = at.opening;
  place = omega (arith, within);
  state = next_state o.start r.world.here _ h r.place e at.state e_is refl;
  number = next_count h r.place r.worker r.next e e_is at.number;
})

-- a replica that has taken in nothing, or one entry more
pub taken_none : (r : Progress) (b : List Entry) → HasTaken r r b 0
taken_none r b = record {
  opening = refl;
  worker = refl;
  place = omega arith;
  at = λ h next. next.here;
}

module _ (before r : Progress) (b h : List Entry) (j : ℕ) where
  -- where the next entry is in the journal
  place_there : AreNextEntries before b h → HasTaken before r b j →
      j < length b → r.place < length h
  place_there next taken within = omega (arith, next.part.within, taken.place)

  module _ (e : Entry) where
    entry_there : AreNextEntries before b h →
        HasTaken before r b j → j < length b → e ≡ entry_at b j → e ≡ entry_at h r.place
    entry_there next taken within is = rw taken.place (is ∙ next.part.each j within)

    -- the next entry was judged at the state of the replica
    pub next_judged : WellFormed before.world.tables →
        IsAssignment before.world.tables before.world.start → AreNextEntries before b h → HasTaken before r b j →
        j < length b → e ≡ entry_at b j → IsJudged r.world e.mv.steps e.verdict
    next_judged limits fits next taken within e_is =
        subst (λ (st : Situation). IsJudged st e.mv.steps e.verdict)
        (sym (world_is (opening_at before) h r (taken.at h next)))
        (entry_judged (opening_at before) h r.place e limits fits next.legal
        (place_there next taken within) (entry_there next taken within e_is))

    -- its worker has some budget left
    pub next_left : AreNextEntries before b h →
        HasTaken before r b j → j < length b → e ≡ entry_at b j → e.worker ≡ r.worker →
        r.next < budget r.lots r.worker
    next_left next taken within e_is own =
        let at = taken.at h next in
        let there = entry_there next taken within e_is in
        let numbered = (next.legal.each r.place (place_there next taken within)).numbered in
        let here : (entry_at h r.place).worker ≡ r.worker = ap (λ (x : Entry). x.worker) (sym there) ∙ own in
        let left : entries_of h r.place (entry_at h r.place).worker < budget before.lots
        (entry_at h r.place).worker = omega (arith, numbered.number, numbered.budget) in
        let number : r.next ≡ entries_of h r.place r.worker = at.number in
        let lots : r.lots ≡ before.lots = ap (λ (x : Opening). x.lots) at.opening in
        let some : entries_of h r.place r.worker < budget before.lots r.worker =
        subst (λ w. entries_of h r.place w < budget before.lots w) here left in
        omega (arith, number, some, ap (λ (l : Lots). budget l r.worker) lots)

  -- and there are few entries
  pub place_few : AreNextEntries before b h → HasTaken before r b j →
      j < length b → r.place < 2 ^ 63
  place_few next taken within =
      let l = before.lots in
      let numbered : AreNumbered l h (length h) = record { each = λ k there. (next.legal.each k there).numbered } in
      omega (arith, place_there next taken within, entries_few l h (length h) numbered, proposals_few l)

pub taken_more : (before r s : Progress) (b : List Entry) (j : ℕ) (e : Entry) → HasTaken before r b j → j < length b →
    e ≡ entry_at b j → s ≡ followed r e → HasTaken before s b (j + 1)
taken_more before r s b j e taken within e_is is = record {
  opening = rw is taken.opening;
  worker = rw is taken.worker;
  place = rw is (omega (arith, taken.place));
  at = λ h next. at_next (opening_at before) h r s e
      (taken.at h next) (place_there before r b h j next taken within)
      (entry_there before r b h j e next taken within e_is) is;
}

-- entries that are passed over
pub passed_over : (r s : Progress) (to : ℕ) → s ≡ record r { next = r.next + 1; place = to } → HasPassed r s to
passed_over r s to is = record {
  passed = is;
  at = λ h are. rw is (record {
    opening = refl;
    place = are.within;
    state = are.here.state ∙ sym (state_passed r.world.start h r.place to are.from are.refused);
    number = sym are.own;
  });
}

-- the requirements that were read, after one entry more
pub reads_more : {i k : Tables} → k ≡ i → (j before now then : ℕ) →
    now ≤ before + j * (3 * resource_count i) → then ≤ now + 3 * resource_count k →
    then ≤ before + (j + 1) * (3 * resource_count i)
reads_more {i} same j before now then read more =
    rw (add-one j, suc-mul j (3 * resource_count i)) (omega (arith, read, rw same at more))
