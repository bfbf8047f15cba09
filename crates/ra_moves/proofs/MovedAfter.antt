-- The moved counts after a move: those of its services are as its weighing says, and all others stay.
use Rattle.std.proofs.Common.{◌≡◌, ℕ, ◌<◌, zero, suc, true, false, List, length, get_or, Option, Some, None, refl, sym, ap, ◌∙◌, ◌⊎◌, inl, inr, ⊎_elim, arith, eq-eqb, ne_eqb}
use Rattle.std.specs.Prelude.{IfSome}
use Rattle.std.proofs.lemmas.Bool.{cases_Bool, cases_lt, cases_eq}
use Rattle.ra_base.specs.Sums.{is_named, greatest}
use Rattle.ra_base.specs.declared.costs.MovedCount.{MovedCount}
use Rattle.ra_base.specs.declared.ids.Machine.{Machine}
use Rattle.ra_base.proofs.Named.{is_named_from}
use Rattle.ra_base.proofs.Greatest.{greatest_same}
use Rattle.ra_model.specs.declared.raw.Tables.{Tables}
use Rattle.ra_model.specs.Numbers.{service_count}
use Rattle.ra_model.specs.Limits.{WellFormed}
use Rattle.ra_model.specs.Services.{moved_of}
use Rattle.ra_model.specs.Situations.{Situation, moved_at}
use Rattle.ra_moves.specs.Replacing.{after_move, applied}
use Rattle.ra_model.proofs.BoundLemmas.{moved_within}
use Rattle.ra_cells.specs.MovedCounts.{MovedCounts}
use Rattle.ra_cells.specs.Replaced.{counted_after, greatest_with, IsChange, AreOfDifferentServices}
use Rattle.ra_moves.specs.declared.steps.Step.{Step}
use Rattle.ra_moves.specs.Steps.{process_in}
use Rattle.ra_moves.specs.Touched.{service_in, moves_service}
use Rattle.ra_moves.specs.Moving.{IsMove}
use Rattle.ra_moves.specs.Weighing.{moved_count, services_moved, count_at, changed_count}
use Rattle.ra_moves.proofs.StayLemmas.{members_same}
use Rattle.ra_moves.proofs.MovedServices.{services_few, services_named, services_placed, services_apart, count_there, count_past}
use Rattle.ra_moves.specs.SettledNow.{AreMovedOf}

-- the service of a count has a process that moves, so it is one of the instance
service_within : (i : Tables) (a : List Machine) (steps : List Step) (s : ℕ) → WellFormed i → IsMove i a steps →
    is_named (length steps) (service_in i steps) s ≡ true → s < service_count i
unfolding service_in
service_within i a steps s limits is named =
    let found = is_named_from (length steps) (service_in i steps) s named in
    omega (
      arith,
      found.2,
      limits.services (process_in steps found.0)
          (omega (arith, is.stands.known found.0 found.1, is.fits.one_each)),
    )

-- the count of service s after a change that gives it v, and after one of another service
changed_here : (o : Option MovedCount) (c : MovedCount) (f : ℕ → ℕ) (s : ℕ) → o ≡ Some c → c.service.0 ≡ s →
    counted_after o f s ≡ c.after
unfolding counted_after
changed_here o c f s is here = rw (is, eq-eqb s c.service.0 (sym here)) refl

-- the moved counts with the three of a weighing put in
abbrev pub with_counts : Situation → List Step → (ℕ → ℕ) → ℕ → ℕ
with_counts st steps f =
    counted_after (changed_count st steps 2)
    (counted_after (changed_count st steps 1) (counted_after (changed_count st steps 0) f))

module _ (st : Situation) (steps : List Step) where
  -- the count of a service of which no process moves stays
  pub moved_stays : (s : ℕ) → IsMove st.tables st.here steps →
      moves_service st.tables steps s ≡ false → moved_at (after_move st steps) s ≡ moved_at st s
  unfolding moved_of
  moved_stays s is unmoved = members_same st.tables st.here steps s _ is unmoved

  -- the counts of a weighing
  count_cases : (k : ℕ) → (changed_count st steps k ≡ None) ⊎
      ((k < length (services_moved st.tables steps (length steps))) × (changed_count st steps k ≡ Some
      (moved_count st steps (get_or (services_moved st.tables steps (length steps)) k 0))))
  unfolding changed_count
  count_cases k = ⊎_elim
      (λ there.
      inr (there, count_there st steps (services_moved st.tables steps (length steps)) k there))
      (λ behind.
      inl (count_past st steps (services_moved st.tables steps (length steps)) k behind))
      (cases_lt k (length (services_moved st.tables steps (length steps))))

  is_change : (moved : MovedCounts) (s : ℕ) →
      AreMovedOf st moved → s < service_count st.tables → IsChange moved (moved_count st steps s)
  unfolding moved_count
  is_change moved s counts within = record {
    there = omega (arith, counts.one_each);
    before = counts.each s within;
    within = omega (arith, moved_within st.tables st.start (applied st.here steps) s, counts.limit);
  }

  -- each count is a change of the moved counts
  pub count_changes : (moved : MovedCounts) (k : ℕ) → WellFormed st.tables → IsMove st.tables st.here steps →
      AreMovedOf st moved → IfSome (changed_count st steps k) (λ c. IsChange moved c)
  count_changes moved k limits is counts = ⊎_elim
      (λ none. rw none tt)
      (λ some.
      rw some.1 (is_change moved _ counts
      (service_within st.tables st.here steps _ limits is (services_named st.tables steps (length steps) k some.0))))
      (count_cases k)

  -- of different services
  pub counts_apart : (j k : ℕ) → j < k → AreOfDifferentServices (changed_count st steps j) (changed_count st steps k)
  unfolding moved_count
  counts_apart j k before = ⊎_elim
      (λ none. rw none tt)
      (λ some.
      rw some.1 (⊎_elim
      (λ none. rw none tt)
      (λ also.
      rw also.1 (services_apart st.tables steps (length steps) j k before also.0))
      (count_cases k)))
      (count_cases j)

  module _ (k : ℕ) (f : ℕ → ℕ) (s : ℕ) where
    changed_or_kept : f s ≡ moved_at (after_move st steps) s → counted_after (changed_count st steps k) f s ≡
        moved_at (after_move st steps) s
    unfolding counted_after moved_count
    changed_or_kept already = ⊎_elim
        (λ none. rw none already)
        (λ some.
        let t = get_or (services_moved st.tables steps (length steps)) k 0 in
        rw some.1 (⊎_elim
        (λ same. rw (eq-eqb s t same) (rw (← same)))
        (λ other. rw (ne_eqb s t other) already)
        (cases_eq s t)))
        (count_cases k)

    -- the count at the place of service s gives the count of s
    changed_at : k < length (services_moved st.tables steps (length steps)) →
        get_or (services_moved st.tables steps (length steps)) k 0 ≡ s →
        counted_after (changed_count st steps k) f s ≡ moved_at (after_move st steps) s
    unfolding changed_count moved_count
    changed_at there here =
        changed_here (count_at st steps (services_moved st.tables steps (length steps)) k)
        (moved_count st steps (get_or (services_moved st.tables steps (length steps)) k 0)) f s
        (count_there st steps (services_moved st.tables steps (length steps)) k there) here
        ∙ ap (moved_at (after_move st steps)) here

  module _ (f : ℕ → ℕ) (s : ℕ) where
    placed_counts : (k : ℕ) → k < 3 → k < length (services_moved st.tables steps (length steps)) →
        get_or (services_moved st.tables steps (length steps)) k 0 ≡ s → with_counts st steps f s ≡ moved_at
        (after_move st steps) s
    placed_counts zero few there here =
        changed_or_kept 2 _ s (changed_or_kept 1 _ s (changed_at 0 f s there here))
    placed_counts (suc zero) few there here =
        changed_or_kept 2 _ s (changed_at 1 _ s there here)
    placed_counts (suc (suc zero)) few there here = changed_at 2 _ s there here
    placed_counts (suc (suc (suc k))) few there here = absurd (omega arith)

    -- with the counts of its weighing put in, the moved counts are those after the move
    pub counts_after : IsMove st.tables st.here steps →
        f s ≡ moved_at st s → with_counts st steps f s ≡ moved_at (after_move st steps) s
    unfolding moves_service
    counts_after is before = ⊎_elim
        (λ moves.
        let placed = services_placed st.tables steps (length steps) s moves in
        placed_counts placed.place
        (omega (arith, placed.within, services_few st.tables steps (length steps), is.few)) placed.within placed.here)
        (λ stays.
        let kept = before ∙ sym (moved_stays s is stays) in
        changed_or_kept 2 _ s (changed_or_kept 1 _ s (changed_or_kept 0 f s kept)))
        (cases_Bool (is_named _ _ s))

  -- so the greatest of them is the greatest moved count after the move
  pub greatest_after_move : (moved : MovedCounts) → IsMove st.tables st.here steps → AreMovedOf st moved →
      greatest_with moved.counts (changed_count st steps 0) (changed_count st steps 1)
      (changed_count st steps 2) ≡ greatest (service_count st.tables) (moved_at (after_move st steps))
  unfolding greatest_with
  greatest_after_move moved is counts =
      ap (λ n. greatest n (with_counts st steps (λ s. get_or moved.counts s 0))) counts.one_each
      ∙ greatest_same _ (with_counts st steps (λ s. get_or moved.counts s 0))
      _
      (λ s within. counts_after (λ s. get_or moved.counts s 0) s is (counts.each s within))
