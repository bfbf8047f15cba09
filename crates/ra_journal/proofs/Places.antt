-- Journals that agree on their first entries agree on all that those determine.
use Rattle.std.proofs.Common.{◌≡◌, ℕ, zero, suc, ◌<◌, ◌≤◌, List, ◌++◌, ◌∷◌, [], length, refl}
use Rattle.std.proofs.Common.{ap, ap₂, arith}
use Rattle.std.proofs.lemmas.List.{get_or_append_left, get_or_push}
use Rattle.std.proofs.Math.ListN.{get_or-map}
use Rattle.ra_base.specs.declared.ids.Guard.{Guard}
use Rattle.ra_base.specs.declared.ids.Machine.{Machine}
use Rattle.ra_base.proofs.Counts.{count_same}
use Rattle.ra_base.proofs.Greatest.{greatest_same}
use Rattle.ra_model.specs.declared.raw.Tables.{Tables}
use Rattle.ra_guards.specs.Versions.{made_at, stamp, version}
use Rattle.ra_journal.specs.declared.entries.Entry.{Entry}
use Rattle.ra_journal.specs.Entries.{entry_at, steps_made, made_by, made_in, entries_of}
use Rattle.ra_guards.specs.Made.{after_made}
use Rattle.ra_journal.specs.States.{state, kept_cost, cost_then}
use Rattle.ra_journal.specs.Openings.{Opening}

-- two journals have the same first n entries
pub record SameBelow (n : ℕ) (h g : List Entry) : Type 0 where
  pub each : (j : ℕ) → j < n → entry_at h j ≡ entry_at g j

module _ (h : List Entry) (e : Entry) where
  -- the entries of a journal with one entry more
  pub entry_before : (j : ℕ) → j < length h → entry_at (h ++ e ∷ []) j ≡ entry_at h j
  unfolding entry_at
  entry_before j before = get_or_append_left h (e ∷ []) _ j before

  pub entry_added : entry_at (h ++ e ∷ []) (length h) ≡ e
  unfolding entry_at
  entry_added = get_or_push h e _ (length h) refl

  pub same_added : SameBelow (length h) h (h ++ e ∷ [])
  same_added = grind (arith, entry_before)

-- what the entries make, place by place
pub made_place : (h : List Entry) (j : ℕ) → made_at (made_in h) j ≡ made_by (entry_at h j)
unfolding made_at made_in entry_at made_by steps_made
made_place h j = get_or-map made_by h j _

pub same_fewer : (m n : ℕ) (h g : List Entry) → m ≤ n → SameBelow n h g → SameBelow m h g
same_fewer m n h g few same = grind arith

pub same_turned : (n : ℕ) (h g : List Entry) → SameBelow n h g → SameBelow n g h
same_turned n h g same = grind arith

-- so they have the same state there, and keep the same cost
pub same_state : (a0 : List Machine) (n : ℕ) (h g : List Entry) → SameBelow n h g → state a0 h n ≡ state a0 g n
unfolding state
same_state a0 zero h g same = refl
same_state a0 (suc n) h g same = ap₂ after_made (same_state a0 n h g (same_fewer n (suc n) h g (omega arith) same))
    (ap made_by (same.each n (omega arith)))

pub same_kept : (o : Opening) (n : ℕ) (h g : List Entry) → SameBelow n h g → kept_cost o h n ≡ kept_cost o g n
unfolding kept_cost
same_kept o zero h g same = refl
same_kept o (suc n) h g same = ap₂ cost_then (same_kept o n h g (same_fewer n (suc n) h g (omega arith) same))
    (ap (λ (e : Entry). e.verdict) (same.each n (omega arith)))

-- they have as many entries of each worker
pub same_entries_of : (n w : ℕ) (h g : List Entry) → SameBelow n h g → entries_of h n w ≡ entries_of g n w
unfolding entries_of
same_entries_of n w h g same = grind (arith, count_same)

-- and the same versions
pub same_made : (n : ℕ) (h g : List Entry) → SameBelow n h g → (j : ℕ) → j < n →
    made_at (made_in h) j ≡ made_at (made_in g) j
same_made n h g same j before = grind (arith, made_place)

pub same_version : (i : Tables) (n : ℕ) (h g : List Entry) (guard : Guard) → SameBelow n h g →
    version i (made_in h) n guard ≡ version i (made_in g) n guard
unfolding version stamp
same_version i n h g guard same = grind (arith, greatest_same, same_made)
