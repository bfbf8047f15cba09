-- What a worker has seen and made, in a history that is longer.
use Rattle.std.proofs.Common.{◌≡◌, ℕ, zero, suc, ◌+◌, ◌<◌, ◌≤◌, eqb, Bool, false, List, ◌++◌, length, slice_get}
use Rattle.std.proofs.Common.{Some, ap, sym, ◌∙◌, ⊎_elim, arith, length-append}
use Rattle.std.proofs.lemmas.Bool.{false_from_ne_true, eqb-true, eq-eqb}
use Rattle.std.proofs.lemmas.List.{get_or_append_left}
use Rattle.std.proofs.lemmas.Option.{slice_get-get_or, slice_get_within, get_or_from_slice_get}
use mathlib.Core.List.{IsPrefix}
use Rattle.ra_base.specs.Sums.{count}
use Rattle.ra_base.proofs.Counts.{count_no}
use Rattle.ra_model.specs.Situations.{situation}
use Rattle.ra_moves.specs.declared.verdicts.Plan.{Plan}
use Rattle.ra_moves.specs.Options.{plan_of}
use Rattle.ra_moves.specs.Weighing.{weighed_of}
use Rattle.ra_journal.specs.declared.entries.Entry.{Entry}
use Rattle.ra_journal.specs.Committing.{next_number, IsCommit}
use Rattle.ra_journal.specs.Entries.{entry_at, entries_of, words, allowed}
use Rattle.ra_journal.specs.States.{state}
use Rattle.ra_journal.specs.Openings.{Opening}
use Rattle.ra_journal.proofs.Places.{SameBelow, same_fewer, same_state, same_entries_of}
use Rattle.ra_turn.specs.Notes.{by}
use Rattle.ra_turn.proofs.Versions.{get_cases, filter_none, none_later}
use Rattle.ra_shared.specs.Books.{KnowsOwn}

-- what is at a place of a list of entries
pub entry_get : (h : List Entry) (j : ℕ) → j < length h → slice_get h j ≡ Some (entry_at h j)
unfolding entry_at
entry_get h j lt = slice_get-get_or h j _ lt

pub get_entry : (h : List Entry) (j : ℕ) (e : Entry) → slice_get h j ≡ Some e → entry_at h j ≡ e
unfolding entry_at
get_entry h j e is = get_or_from_slice_get h j e _ is

pub prefix_length : (h g : List Entry) → IsPrefix h g → length h ≤ length g
prefix_length h g p = omega (arith, ap length p.1, length-append h p.0)

-- a list and a longer one agree on the first
pub same_front : (h g : List Entry) → IsPrefix h g → SameBelow (length h) h g
unfolding entry_at
same_front h g p = grind (arith, get_or_append_left)

module _ (w : ℕ) (seen h mine : List Entry) (p : IsPrefix seen h) (told : KnowsOwn w seen mine)
    (all : KnowsOwn w h mine) where
  -- all entries of the worker are among those that it had seen
  pub own_seen : (j : ℕ) → j < length h → (entry_at h j).worker ≡ w → j < length seen
  own_seen j lt own =
      let author : Entry → ℕ = λ e. e.worker in
      let none : length (by author w p.0) ≡ 0 = none_later author w seen p.0 mine told (ap (by author w) p.1 ∙ all) in
      let here : slice_get (seen ++ p.0) j ≡ Some (entry_at h j) = ap (λ (xs : List Entry). slice_get xs j) p.1
      ∙ entry_get h j lt in
      ⊎_elim
      (λ (before : slice_get seen j ≡ Some (entry_at h j)). slice_get_within seen j (entry_at h j) before)
      (λ after. absurd
      (filter_none (λ e. eqb e.worker w) p.0 after.0 (entry_at h j) none after.2
      (eq-eqb (entry_at h j).worker w own)))
      (get_cases seen p.0 j (entry_at h j) here)

  -- so the number of its next proposal is the same
  counted : (n k : ℕ) (test : ℕ → Bool) → ((j : ℕ) → n ≤ j → j < n + k → test j ≡ false) →
      count (n + k) test ≡ count n test
  counted n zero test none = ap (λ m. count m test) (let e : n + zero ≡ n = omega arith in e)
  counted n (suc k) test none =
      let e : n + suc k ≡ (n + k) + 1 = omega arith in
      ap (λ m. count m test) e
      ∙ (count_no (n + k) test (none (n + k) (omega arith) (omega arith))
      ∙ counted n k test (λ j ge lt. none j ge (omega arith)))

  pub next_same : next_number h w ≡ next_number seen w
  unfolding next_number entries_of
  next_same = grind (arith, length-append, counted, false_from_ne_true, own_seen, eqb-true, same_entries_of, same_front)

  -- and the worker may still hand in its plan
  pub later_commit : (o : Opening) (plan : Plan) → IsCommit o seen w plan → IsCommit o h w plan
  later_commit o plan commit =
      let same = same_front seen h p in
      let place = commit.place in
      let st : state o.start seen plan.q ≡ state o.start h plan.q =
      same_state o.start plan.q seen h (same_fewer plan.q (length seen) seen h place same) in
      record {
        worker = commit.worker;
        number = commit.number ∙ sym next_same;
        within = commit.within;
        place = omega (arith, prefix_length seen h p);
        seen = λ j lt own.
            (let before = own_seen j lt own in
            commit.seen j before (ap (λ (e : Entry). e.worker) (same.each j before) ∙ own));
        planned = commit.planned ∙ ap (λ a. plan_of (situation o.tables o.start a) (words o.lots w plan.k) o.lots.drawing
            (allowed o.lots w plan.k)) st;
        weighed = commit.weighed ∙ ap (λ a. weighed_of (situation o.tables o.start a) plan.mv.steps) st;
      }
