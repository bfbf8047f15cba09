-- A legal next entry keeps a journal legal, since the entries before it determine what it must meet.
use Rattle.std.proofs.Common.{◌≡◌, ℕ, ◌<◌, ◌≤◌, List, ◌++◌, ◌∷◌, [], length, sym, subst, ⊎_elim, arith}
use Rattle.std.proofs.lemmas.List.{length_push}
use Rattle.std.proofs.lemmas.Bool.{cases_lt}
use Rattle.ra_journal.specs.declared.entries.Entry.{Entry}
use Rattle.ra_journal.specs.Entries.{entry_at}
use Rattle.ra_journal.specs.Legal.{IsLegalAt}
use Rattle.ra_journal.specs.Laws.{NextKeepsLegal}
use Rattle.ra_journal.specs.Openings.{Opening}
use Rattle.ra_journal.proofs.Places.{SameBelow, same_fewer, same_added, same_state, same_entries_of, same_version}
use Rattle.ra_journal.proofs.Places.{entry_before, entry_added}

-- an entry that may be at place j after the entries of one journal may be there after those of another
pub carried : (o : Opening) (h g : List Entry) (j : ℕ) (e : Entry) → SameBelow j h g →
    IsLegalAt o h j e → IsLegalAt o g j e
carried o h g j e same legal = grind (arith, same_entries_of, same_state, same_fewer, same_version)

pub next_legal : NextKeepsLegal
next_legal o h e legal next = record {
  each = λ j within. ⊎_elim
      (λ (before : j < length h).
      let kept = carried o h (h ++ e ∷ []) j (entry_at h j)
      (same_fewer j (length h) h (h ++ e ∷ []) (omega arith) (same_added h e)) (legal.each j before) in
      subst (IsLegalAt o (h ++ e ∷ []) j) (sym (entry_before h e j before)) kept)
      (λ (after : length h ≤ j).
      let here : length h ≡ j = omega (arith, length_push h e) in
      let kept = carried o h (h ++ e ∷ []) (length h) e (same_added h e) next in
      subst (λ n. IsLegalAt o (h ++ e ∷ []) n (entry_at (h ++ e ∷ []) n)) here
      (subst (IsLegalAt o (h ++ e ∷ []) (length h)) (sym (entry_added h e)) kept))
      (cases_lt j (length h));
}
