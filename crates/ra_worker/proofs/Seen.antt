-- What a longer history keeps, and how many entries of it are a worker's own.
use Rattle.std.proofs.Common.{◌≡◌, ℕ, ◌+◌, ◌≤◌, Bool, true, false, cond, eqb, List, [], ◌∷◌, length, sym, ap, ◌∙◌, subst, arith}
use Rattle.std.proofs.lemmas.List.{length-append, get_or_append_left}
use mathlib.Core.List.{IsPrefix}
use Rattle.ra_base.specs.Sums.{one_if}
use Rattle.ra_base.proofs.Sums.{total_none, total_front}
use Rattle.ra_base.proofs.Counts.{count_grows}
use Rattle.ra_journal.specs.declared.entries.Entry.{Entry}
use Rattle.ra_journal.specs.Entries.{entry_at, entries_of, proposal_count}
use Rattle.ra_journal.specs.Legal.{Legal}
use Rattle.ra_journal.specs.Openings.{Opening}
use Rattle.ra_journal.proofs.Places.{SameBelow, same_fewer, same_state, same_entries_of}
use Rattle.ra_journal.proofs.RoomLemmas.{entries_few}
use Rattle.ra_turn.specs.Notes.{by}
use Rattle.ra_shared.specs.Books.{KnowsOwn}
use Rattle.ra_worker.specs.Replicas.{Progress, IsAt}

-- a legal journal has at most as many entries as all budgets together
pub legal_few : (o : Opening) (h : List Entry) → Legal o h → length h ≤ proposal_count o.lots
legal_few o h legal = entries_few o.lots h (length h) (record { each = λ j there. (legal.each j there).numbered })

module _ (h g : List Entry) where
  -- a beginning of a history
  pub prefix_long : IsPrefix h g → length h ≤ length g
  prefix_long p = omega (arith, length-append h p.0, ap (λ (x : List Entry). length x) p.1)

  pub prefix_same : IsPrefix h g → SameBelow (length h) h g
  unfolding entry_at
  prefix_same p = record {
    each = λ j before. subst (λ (x : List Entry). entry_at h j ≡ entry_at x j) p.1
        (sym (get_or_append_left h p.0 _ j before));
  }

  -- and as many entries before a place are a worker's
  pub prefix_entries : (n w : ℕ) → IsPrefix h g → n ≤ length h → entries_of g n w ≡ entries_of h n w
  prefix_entries n w p within = sym (same_entries_of n w h g (same_fewer n (length h) h g within (prefix_same p)))

-- a replica stays at a state
pub prefix_at : (o : Opening) (h g : List Entry) (r : Progress) → IsPrefix h g → IsAt o h r → IsAt o g r
prefix_at o h g r p at =
    let here = same_fewer r.place (length h) h g at.place (prefix_same h g p) in
    record {
      opening = at.opening;
      place = omega (arith, at.place, prefix_long h g p);
      state = at.state ∙ same_state o.start r.place h g here;
      number = at.number ∙ same_entries_of r.place r.worker h g here;
    }

-- more entries before a later place
pub entries_grow : (h : List Entry) (m n w : ℕ) → m ≤ n → entries_of h m w ≤ entries_of h n w
unfolding entries_of
entries_grow h m n w few = count_grows m n (λ j. eqb (entry_at h j).worker w) few

-- a worker's own entries, counted
abbrev by_worker : ℕ → List Entry → List Entry
by_worker w h = by (λ (e : Entry). e.worker) w h

one_more : (b : Bool) (e : Entry) (es : List Entry) → one_if b + length es ≡ length (cond b (e ∷ es) es)
one_more true e es = omega arith
one_more false e es = omega arith

own_here : (h : List Entry) (w : ℕ) → entries_of h (length h) w ≡ length (by_worker w h)
unfolding entries_of entry_at
own_here [] w = total_none (λ j. one_if (eqb (entry_at [] j).worker w))
own_here (e ∷ h) w =
    total_front (length h) (λ j. one_if (eqb (entry_at (e ∷ h) j).worker w))
    ∙ ap (λ n. one_if (eqb e.worker w) + n) (own_here h w)
    ∙ one_more (eqb e.worker w) e (by_worker w h)

pub own_count : (h mine : List Entry) (w : ℕ) → KnowsOwn w h mine → entries_of h (length h) w ≡ length mine
own_count h mine w own = own_here h w ∙ ap (λ (x : List Entry). length x) own
