-- A journal with one entry more: its counts of entries, its state, its kept cost and its versions.
use Rattle.std.proofs.Common.{◌≡◌, ℕ, suc, ◌+◌, ◌<◌, ◌≤◌, Bool, true, false, cond, eqb, max, List, [], ◌∷◌, ◌++◌}
use Rattle.std.proofs.Common.{length, Option, sym, ap, ap₂, ◌∙◌, arith}
use Rattle.ra_base.specs.Sums.{one_if}
use Rattle.ra_base.specs.declared.ids.Guard.{Guard}
use Rattle.ra_base.specs.declared.ids.Machine.{Machine}
use Rattle.ra_base.proofs.Greatest.{greatest_suc, greatest_least}
use Rattle.ra_base.proofs.Sums.{total_suc}
use Rattle.ra_model.specs.declared.raw.Tables.{Tables}
use Rattle.ra_moves.specs.declared.steps.Step.{Step}
use Rattle.ra_guards.specs.Versions.{made_at, touches, stamp, version}
use Rattle.ra_journal.specs.declared.entries.Entry.{Entry}
use Rattle.ra_journal.specs.Entries.{made_by, made_in, entries_of}
use Rattle.ra_journal.specs.States.{state, after_made, kept_cost, cost_then}
use Rattle.ra_journal.specs.Openings.{Opening}
use Rattle.ra_journal.proofs.Places.{SameBelow, same_added, same_state, same_kept, same_entries_of, same_version}
use Rattle.ra_journal.proofs.Places.{made_place, entry_added}

pub entries_added : (h : List Entry) (e : Entry) (w : ℕ) → entries_of (h ++ e ∷ []) (suc (length h)) w ≡
    entries_of h (length h) w + one_if (eqb e.worker w)
unfolding entries_of
entries_added h e w = grind (arith, total_suc, same_entries_of, same_added, entry_added)

pub state_added : (a0 : List Machine) (h : List Entry) (e : Entry) → state a0 (h ++ e ∷ []) (suc (length h)) ≡
    after_made (state a0 h (length h)) (made_by e)
unfolding state
state_added a0 h e = grind (arith, same_state, same_added, entry_added)

pub kept_added : (o : Opening) (h : List Entry) (e : Entry) →
    kept_cost o (h ++ e ∷ []) (suc (length h)) ≡ cost_then (kept_cost o h (length h)) e.verdict
unfolding kept_cost
kept_added o h e = grind (arith, same_kept, same_added, entry_added)

-- no version is above the number of entries
pub version_few : (i : Tables) (made : List (Option (List Step))) (n : ℕ) (g : Guard) → version i made n g ≤ n
unfolding version stamp
version_few i made n g = greatest_least n n (stamp i made g) (λ j before. few j (touches i (made_at made j) g) before)
  where
    few : (j : ℕ) (touched : Bool) → j < n → cond touched (suc j) 0 ≤ n
    few j true before = omega arith
    few j false before = omega arith

stamped : (touched : Bool) (n before : ℕ) → before ≤ n → max before (cond touched (suc n) 0) ≡
    cond touched (suc n) before
stamped true n before few = omega arith
stamped false n before few = omega arith

-- the guards that the entry touches get the version after it, and the others keep theirs
pub version_added : (i : Tables) (h : List Entry) (e : Entry) (g : Guard) →
    version i (made_in (h ++ e ∷ [])) (suc (length h)) g ≡ cond (touches i (made_by e) g) (suc (length h))
    (version i (made_in h) (length h) g)
unfolding version stamp
version_added i h e g =
    version_of (h ++ e ∷ []) (same_added h e) (made_place (h ++ e ∷ []) (length h) ∙ ap made_by (entry_added h e))
  where
    version_of : (k : List Entry) → SameBelow (length h) h k → made_at (made_in k) (length h) ≡ made_by e →
        version i (made_in k) (suc (length h)) g ≡ cond (touches i (made_by e) g) (suc (length h))
        (version i (made_in h) (length h) g)
    version_of k same here =
        greatest_suc (length h) (stamp i (made_in k) g)
        ∙ ap₂ (λ before made. max before (cond (touches i made g) (suc (length h)) 0))
        (sym (same_version i (length h) h k g same)) here
        ∙ stamped (touches i (made_by e) g) (length h) (version i (made_in h) (length h) g)
        (version_few i (made_in h) (length h) g)
