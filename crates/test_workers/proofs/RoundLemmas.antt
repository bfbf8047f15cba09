-- Workers that take turns until the journal is whole.
use Rattle.std.proofs.Common.{◌≡◌, ℕ, suc, ◌+◌, ◌<◌, ◌≤◌, min, Bool, true, false, ◌||◌, eqb, List, [], ◌∷◌, ◌++◌, length, Option, Some, None, refl, sym, ap, subst, ⊎_elim, arith, eq-eqb}
use Rattle.std.proofs.lemmas.Bool.{cond-false, cases_Bool, cases_lt, cases_eq, or_from, leb-true, le-ltb}
use Rattle.std.proofs.lemmas.List.{length_push}
use Rattle.std.proofs.Math.Bool.{and-false}
use Rattle.ra_base.specs.declared.ids.Guard.{Guard}
use Rattle.ra_base.specs.declared.ids.Guard.TheVariants as guard
use Rattle.ra_base.proofs.Counts.{count_grows, one_if_true}
use Rattle.ra_base.proofs.Searches.{both_none, first_none_from}
use Rattle.ra_draws.specs.declared.budgets.Lots.{Lots}
use Rattle.ra_model.specs.declared.raw.Tables.{Tables}
use Rattle.ra_model.specs.Numbers.{machine_count, service_count}
use Rattle.ra_moves.specs.declared.steps.Step.{Step}
use Rattle.ra_guards.specs.declared.newest.Newer.{Newer}
use Rattle.ra_guards.specs.Guards.{is_guard}
use Rattle.ra_guards.specs.Newest.{newer_at, first_that, first_newer}
use Rattle.ra_journal.specs.declared.entries.Entry.{Entry}
use Rattle.ra_journal.specs.Committing.{next_number, next_move, next_entry, newer_since, committed_by, committed}
use Rattle.ra_journal.specs.Entries.{entry_at, made_in, entries_of, worker_count, budget}
use Rattle.ra_journal.specs.Legal.{Legal, Whole}
use Rattle.ra_journal.specs.Openings.{Opening}
use Rattle.ra_journal.proofs.AddedLemmas.{version_few, entries_added}
use Rattle.ra_journal.proofs.Places.{SameBelow, same_entries_of}
use Rattle.ra_journal.proofs.RoomLemmas.{AreNumbered, entries_within}
use Rattle.ra_worker.specs.Skipping.{has_used, is_behind, is_skipped}
use Rattle.ra_worker.specs.Core.{Turn, answered, turn}
use Rattle.ra_worker.proofs.CoreLemmas.{turn_longer, turn_same}
use Rattle.test_workers.specs.Rounds.{HaveMade}

-- at the end of the journal no guard is newer
not_newer : (test : Guard → Bool) (v : Guard → ℕ) (q : ℕ) (g : Guard) → v g ≤ q → newer_at test v q g ≡ None
unfolding newer_at
not_newer test v q g old = rw (le-ltb q (v g) old, and-false (test g)) refl

none_newer : (i : Tables) (steps : List Step) (v : Guard → ℕ) (q : ℕ) → ((g : Guard) → v g ≤ q) →
    first_newer i steps v q ≡ None
unfolding first_newer first_that
none_newer i steps v q old = both_none _ _
    (first_none_from (machine_count i) (λ m. newer_at (is_guard i steps) v q (guard.Machine (record { 0 = m })))
    (λ m within. not_newer (is_guard i steps) v q _ (old _)))
    (first_none_from (service_count i) (λ s. newer_at (is_guard i steps) v q (guard.Service (record { 0 = s })))
    (λ s within. not_newer (is_guard i steps) v q _ (old _)))

never_stale : (i : Tables) (h : List Entry) (steps : List Step) → newer_since i h (length h) steps ≡ None
unfolding newer_since
never_stale i h steps = none_newer i steps _ (length h) (λ g. version_few i (made_in h) (length h) g)

-- so a worker that hands in there has one entry more
one_more : (h : List Entry) (e : Entry) (w : ℕ) → e.worker ≡ w → next_number (h ++ e ∷ []) w ≡ next_number h w + 1
unfolding next_number
one_more h e w own =
    let long : length (h ++ e ∷ []) ≡ suc (length h) = omega (arith, length_push h e) in
    rw long (omega (arith, entries_added h e w, one_if_true (eqb e.worker w) (eq-eqb e.worker w own)))

by_more : (newer : Option Newer) (h : List Entry) (e : Entry) (w : ℕ) → newer ≡ None → e.worker ≡ w →
    next_number (committed_by newer h e).journal w ≡ next_number h w + 1
unfolding committed_by
by_more (Some newer) h e w none own = absurd (cc)
by_more None h e w none own = one_more h e w own

committed_more : (o : Opening) (h : List Entry) (w : ℕ) →
    next_number (committed o h w (length h)).journal w ≡ next_number h w + 1
unfolding committed next_entry
committed_more o h w = by_more (newer_since o.tables h (length h) (next_move o h w (length h)).steps) h
    (next_entry o h w (length h)) w (never_stale o.tables h (next_move o h w (length h)).steps) refl

-- no worker is behind there
never_behind : (h : List Entry) (w : ℕ) → is_behind h w (length h) ≡ false
unfolding is_behind next_number
never_behind h w = le-ltb _ _ (omega arith)

used_by : (l : Lots) (h : List Entry) (w : ℕ) → has_used l h w ≡ true → budget l w ≤ next_number h w
unfolding has_used
used_by l h w used = leb-true _ _ used

-- a worker's turn at the end of the journal adds an entry of its own, unless it has used its budget
turn_open : (o : Opening) (h : List Entry) (w : ℕ) → has_used o.lots h w ≡ false →
    (turn o h w (length h)).journal ≡ (committed o h w (length h)).journal
unfolding turn answered is_skipped
turn_open o h w unused =
    ap (λ (t : Turn). t.journal)
    (cond-false (has_used o.lots h w || is_behind h w (length h)) _ _
    (or_from (has_used o.lots h w) (is_behind h w (length h)) unused (never_behind h w)))

-- no worker loses an entry
number_grows : (h g : List Entry) (v : ℕ) → SameBelow (length h) h g → length h ≤ length g →
    next_number h v ≤ next_number g v
unfolding next_number entries_of
number_grows h g v same longer =
    omega (
      arith,
      same_entries_of (length h) v h g same,
      count_grows (length h) (length g) (λ j. eqb (entry_at g j).worker v) longer,
    )

turn_grows : (o : Opening) (h : List Entry) (w q v : ℕ) → next_number h v ≤ next_number (turn o h w q).journal v
turn_grows o h w q v =
    number_grows h (turn o h w q).journal v (turn_same o h w q) (turn_longer o h w q)

turn_makes : (o : Opening) (h : List Entry) (w r : ℕ) → min r (budget o.lots w) ≤ next_number h w →
    min (r + 1) (budget o.lots w) ≤ next_number (turn o h w (length h)).journal w
turn_makes o h w r made = ⊎_elim
    (λ (used : has_used o.lots h w ≡ true). omega (arith, used_by o.lots h w used, turn_grows o h w (length h) w))
    (λ (unused : has_used o.lots h w ≡ false).
    omega (
      arith,
      made,
      ap (λ (x : List Entry). next_number x w) (turn_open o h w unused),
      committed_more o h w,
    ))
    (cases_Bool (has_used o.lots h w))

-- the workers of a round so far
pub made_none : (l : Lots) (h : List Entry) (r : ℕ) → HaveMade l h 0 r
made_none l h r = record { each = λ w there. absurd (omega (arith, there)) }

pub none_made : (l : Lots) (h : List Entry) (n : ℕ) → HaveMade l h n 0
none_made l h n = record { each = λ w there. omega arith }

pub made_still : (o : Opening) (h g : List Entry) (w q n r : ℕ) →
    g ≡ (turn o h w q).journal → HaveMade o.lots h n r → HaveMade o.lots g n r
made_still o h g w q n r g_is made = rw g_is (record {
  each = λ v there. omega (arith, made.each v there, turn_grows o h w q v);
})

pub made_more : (o : Opening) (h g : List Entry) (n w r : ℕ) →
    g ≡ (turn o h w (length h)).journal → w < n → HaveMade o.lots h n r → HaveMade o.lots h w (r + 1) →
    HaveMade o.lots g (w + 1) (r + 1)
made_more o h g n w r g_is there all first = rw g_is (record {
  each = λ v before. ⊎_elim
      (λ (here : v ≡ w). subst (λ k. min (r + 1) (budget o.lots k) ≤ next_number (turn o h w (length h)).journal k)
      (sym here) (turn_makes o h w r (all.each w there)))
      (λ (apart : v ≡ w → ⊥). omega (arith, first.each v (below v w before apart), turn_grows o h w (length h) v))
      (cases_eq v w);
})
  where
    below : (v w : ℕ) → v < w + 1 → (v ≡ w → ⊥) → v < w
    below v w before apart =
        ⊎_elim (λ (less : v < w). less) (λ (more : w ≤ v). absurd (apart (omega arith))) (cases_lt v w)

pub made_all : (l : Lots) (h : List Entry) (n w r : ℕ) → HaveMade l h w r → w ≡ n → HaveMade l h n r
made_all l h n w r made is = rw (← is) made

-- when all budgets are used, the journal is whole
pub whole_by : (o : Opening) (h : List Entry) (r : ℕ) → Legal o h →
    HaveMade o.lots h (worker_count o.lots) r → ((w : ℕ) → w < worker_count o.lots → budget o.lots w ≤ r) →
    Whole o.lots h
unfolding next_number
whole_by o h r legal made longest =
    let numbered : AreNumbered o.lots h (length h) = record { each = λ k there. (legal.each k there).numbered } in
    record {
      each = λ w there. omega (
        arith,
        made.each w there,
        longest w there,
        entries_within o.lots h
            (length h) w numbered,
      );
      no_other = λ j within. (legal.each j within).numbered.worker;
    }

-- the greatest budget so far
pub most_more : (l : Lots) (w longest own most : ℕ) → ((v : ℕ) → v < w → budget l v ≤ longest) → own ≡ budget l w →
    longest ≤ most → own ≤ most → (v : ℕ) → v < w + 1 → budget l v ≤ most
most_more l w longest own most each own_is longest_in own_in v before = ⊎_elim
    (λ (less : v < w). omega (arith, each v less))
    (λ (last : w ≤ v). let here : v ≡ w = omega (arith, before) in
    subst (λ k. budget l k ≤ most) (sym here) (omega (arith, own_is)))
    (cases_lt v w)
