-- With one lot the run of one worker is the one journal that is legal and whole.
use Rattle.std.proofs.Common.{◌≡◌, ℕ, zero, suc, ◌<◌, ◌≤◌, cond, Bool, true, false, List, [], ◌∷◌, ◌++◌, length, inl, inr}
use Rattle.std.proofs.Common.{sym, refl, ◌∙◌, subst, arith, eq-eqb}
use Rattle.std.proofs.lemmas.List.{length_push, ext_get_or}
use Rattle.std.proofs.lemmas.Bool.{cases_lt}
use Rattle.ra_base.specs.declared.ids.Guard.{Guard}
use Rattle.ra_base.proofs.Counts.{count_all}
use Rattle.ra_base.proofs.Greatest.{greatest_least}
use Rattle.ra_draws.specs.declared.budgets.Lots.{Lots}
use Rattle.ra_model.specs.declared.raw.Tables.{Tables}
use Rattle.ra_guards.specs.Versions.{touches, made_at, stamp, version}
use Rattle.ra_journal.specs.declared.entries.Entry.{Entry}
use Rattle.ra_journal.specs.Entries.{entry_at, made_in, entries_of, worker_count, budget}
use Rattle.ra_journal.specs.Legal.{IsLegalAt, Legal, Whole}
use Rattle.ra_journal.specs.Solo.{solo_entry, solo_entries, solo}
use Rattle.ra_journal.specs.Laws.{IsSoloRun, OneLotsJournal}
use Rattle.ra_journal.specs.Openings.{Opening}
use Rattle.ra_journal.proofs.Places.{SameBelow, same_fewer, same_added, same_state, entry_before, entry_added}

-- the first n entries are those of worker 0 alone, each planned and judged at its own place
pub record IsAlone (o : Opening) (h : List Entry) (n : ℕ) : Type 0 where
  pub each : (j : ℕ) → j < n → entry_at h j ≡ solo_entry o h j

same_journal : (h g : List Entry) → length h ≡ length g → SameBelow (length h) h g → h ≡ g
unfolding entry_at
same_journal h g long same = ext_get_or _ h g long same.each

-- all entries are of worker 0
-- the first n entries are
pub record IsOneWorkers (h : List Entry) (n : ℕ) : Type 0 where
  pub each : (j : ℕ) → j < n → (entry_at h j).worker ≡ 0

one_workers_count : (h : List Entry) (n : ℕ) → IsOneWorkers h n → entries_of h n 0 ≡ n
unfolding entries_of
one_workers_count h n one = grind (arith, count_all, eq-eqb)

-- such a journal is legal
-- no version is above the number of entries
version_at_most : (i : Tables) (h : List Entry) (n : ℕ) (g : Guard) → version i (made_in h) n g ≤ n
unfolding version stamp
version_at_most i h n g =
    greatest_least n n (stamp i (made_in h) g) (λ j before. at_most j (touches i (made_at (made_in h) j) g) before)
  where
    at_most : (j : ℕ) (touched : Bool) → j < n → cond touched (suc j) 0 ≤ n
    at_most j true before = omega arith
    at_most j false before = omega arith

-- and whole, if it has as many entries as the budget asks for
alone_whole : (l : Lots) (h : List Entry) → worker_count l ≡ 1 → length h ≡ budget l 0 → IsOneWorkers h (length h) →
    Whole l h
alone_whole l h one long workers = grind (arith, one_workers_count)

-- no other journal is legal and whole
place_is : (j q : ℕ) → q ≤ j → ((n : ℕ) → n < j → n < q) → q ≡ j
place_is zero q below seen = omega arith
place_is (suc j) q below seen = omega (arith, seen j (omega arith))

same_entry : (d e : Entry) → d.worker ≡ e.worker → d.k ≡ e.k → d.q ≡ e.q → d.mv ≡ e.mv → d.verdict ≡ e.verdict → d ≡ e
same_entry d e worker k q mv verdict = grind arith

whole_workers : (l : Lots) (h : List Entry) → worker_count l ≡ 1 → Whole l h → IsOneWorkers h (length h)
whole_workers l h one whole = grind arith

run_length : (l : Lots) (h : List Entry) → worker_count l ≡ 1 → Whole l h → length h ≡ budget l 0
run_length l h one whole = grind (arith, one_workers_count, whole_workers)

module _ (o : Opening) where
  module _ (h : List Entry) where
    -- the state at its place determines such an entry
    same_solo : (g : List Entry) (k : ℕ) → SameBelow k h g → solo_entry o h k ≡ solo_entry o g k
    unfolding solo_entry
    same_solo g k same = rw (same_state o.start k h g same) refl

    -- so there is one journal of each length that is so
    alone_same : (g : List Entry) (n : ℕ) → IsAlone o h n → IsAlone o g n → SameBelow n h g
    alone_same g zero one other = record { each = λ j before. absurd (omega arith) }
    alone_same g (suc n) one other =
        let fewer = alone_same g n (record { each = λ j before. one.each j (omega arith) })
        (record { each = λ j before. other.each j (omega arith) }) in
        record {
          each = λ j within. elim (cases_lt j n) [
            | inl before ↦ fewer.each j before
            | inr after ↦ let here : n ≡ j = omega arith in
                subst (λ k. entry_at h k ≡ entry_at g k) here (one.each n (omega arith) ∙ same_solo g n fewer
                ∙ sym (other.each n (omega arith)))
          ];
        }

    solo_entry_legal : (j : ℕ) → 0 < worker_count o.lots →
        j < budget o.lots 0 → IsOneWorkers h j → IsLegalAt o h j (solo_entry o h j)
    unfolding solo_entry
    solo_entry_legal j some within one = grind (arith, one_workers_count, version_at_most)

    module _ (n : ℕ) where
      -- one entry more
      alone_more : length h ≡ n → IsAlone o h n →
          IsAlone o (h ++ solo_entry o h n ∷ []) (suc n)
      alone_more long alone = grind (arith, SameBelow, same_fewer, same_added, entry_before, same_solo, entry_added)

      alone_workers : IsAlone o h n → IsOneWorkers h n
      unfolding solo_entry
      alone_workers alone = grind arith

      alone_legal : worker_count o.lots ≡ 1 →
          n ≤ budget o.lots 0 → IsAlone o h n → (j : ℕ) → j < n → IsLegalAt o h j (entry_at h j)
      alone_legal one few alone j before = grind (arith, alone_workers, solo_entry_legal)

    -- a legal entry of worker 0 after entries of worker 0 alone
    legal_solo : (j : ℕ) (e : Entry) → IsOneWorkers h j →
        e.worker ≡ 0 → IsLegalAt o h j e → e ≡ solo_entry o h j
    unfolding solo_entry
    legal_solo j e workers own legal = grind (arith, one_workers_count, place_is, same_entry)

  -- the run itself is so
  solo_length : (n : ℕ) → length (solo_entries o n) ≡ n
  unfolding solo_entries
  solo_length zero = refl
  solo_length (suc n) =
      omega (
        arith,
        length_push (solo_entries o n) (solo_entry o (solo_entries o n) n),
        solo_length n,
      )

  solo_alone : (n : ℕ) → IsAlone o (solo_entries o n) n
  unfolding solo_entries
  solo_alone zero = record { each = λ j before. absurd (omega arith) }
  solo_alone (suc n) = alone_more (solo_entries o n) n (solo_length n) (solo_alone n)

  legal_alone : (h : List Entry) → Legal o h → IsOneWorkers h (length h) → IsAlone o h (length h)
  legal_alone h legal workers = record {
    each = λ j within. legal_solo h j (entry_at h j) (record { each = λ k before. workers.each k (omega arith) })
        (workers.each j within) (legal.each j within);
  }

  -- with one lot
  solo_stands : worker_count o.lots ≡ 1 → IsSoloRun o (solo o)
  unfolding solo
  solo_stands one = grind (arith, solo_length, solo_alone, alone_legal, alone_whole, alone_workers)

  runs_are_one : (h g : List Entry) → worker_count o.lots ≡ 1 → IsSoloRun o h → IsSoloRun o g → h ≡ g
  runs_are_one h g one run other = grind (arith, run_length, same_journal, alone_same, legal_alone, whole_workers)

pub one_lot : OneLotsJournal
one_lot o one = record {
  stands = solo_stands o one;
  no_other = λ h run. runs_are_one o h (solo o) one run (solo_stands o one);
}
