-- Where one process goes to another machine: how the processes of its service, and those of others, are placed then.
use Rattle.std.proofs.Common.{◌≡◌, ◌≢◌, ℕ, ◌+◌, ◌<◌, ◌≤◌, List, Bool, true, ◌&&◌, eqb, ap, sym, ◌∙◌, ⊎_elim, arith, eq-eqb}
use Rattle.std.proofs.lemmas.Bool.{cases_eq, cases_lt, eqb-true, and_left, and_from, and_parts}
use Rattle.ra_base.specs.Sums.{one_if}
use Rattle.ra_base.specs.declared.ids.Machine.{Machine}
use Rattle.ra_base.proofs.Counts.{one_if_true, one_if_false, count_same, count_positive, count_some}
use Rattle.ra_model.specs.declared.raw.Tables.{Tables}
use Rattle.ra_model.specs.Numbers.{service_count, process_count, service_of, spread_of, location_of, neighbourhood_of, closed_at}
use Rattle.ra_model.specs.Assignments.{IsAssignment, machine_at}
use Rattle.ra_model.specs.Services.{is_of, of_service, members_at, on_machine, in_location, in_neighbourhood, locations_of}
use Rattle.ra_model.specs.Situations.{Situation, IsFeasible}
use Rattle.ra_model.proofs.TallyLemmas.{members_set, tally_term}
use Rattle.ra_model.proofs.SortingLemmas.{is_of_same, is_of_other}
use Rattle.ra_model.proofs.BrokenLemmas.{on_machine_count}
use Rattle.ra_shift.specs.Conditions.{shifted}
use Rattle.ra_shift.proofs.RoomLaws.{IsStart, placed, others}

-- the share of one process in a count of a service
share_mine : (i : Tables) (s p at : ℕ) (test : ℕ → ℕ → Bool) → service_of i p ≡ s →
    of_service i s test p at ≡ one_if (test p at)
unfolding of_service
share_mine i s p at test is = grind (arith, is_of_same)

share_other : (i : Tables) (s p at : ℕ) (test : ℕ → ℕ → Bool) → service_of i p ≢ s → of_service i s test p at ≡ 0
unfolding of_service
share_other i s p at test other = one_if_false _ (and_left _ _ (is_of_other i s p other))

module _ (i : Tables) (a : List Machine) where
  -- whether a process of the service other than p is on a machine
  on_mine : (q s m : ℕ) → q < process_count i → service_of i q ≡ s → machine_at a q ≡ m →
      0 < on_machine i a s m
  unfolding is_of
  on_mine q s m within is here =
      rw (on_machine_count i a s m) (count_some (process_count i) q (λ k. is_of i s k && eqb (machine_at a k) m) within
      (and_from _ _ (eq-eqb _ _ is) (eq-eqb _ _ here)))

  module _ (p : ℕ) where
    module _ (to s : ℕ) where
      -- counts of its own service, and of another
      pub members_mine : (test : ℕ → ℕ → Bool) → IsAssignment i a →
          p < process_count i → service_of i p ≡ s → members_at i (shifted a p to) s test + one_if (test p (machine_at a p)) ≡
          members_at i a s test + one_if (test p to)
      members_mine test fits within is = grind (arith, members_set, share_mine)

      pub members_other : (test : ℕ → ℕ → Bool) → IsAssignment i a →
          p < process_count i → service_of i p ≢ s → members_at i (shifted a p to) s test ≡ members_at i a s test
      members_other test fits within other = grind (arith, members_set, share_other)

      pub near_other : (label : ℕ) → IsAssignment i a → p < process_count i →
          service_of i p ≢ s → in_neighbourhood i (shifted a p to) s label ≡ in_neighbourhood i a s label
      unfolding in_neighbourhood
      near_other label fits within other = grind (arith, members_other)

      location_other : (label : ℕ) → IsAssignment i a → p < process_count i →
          service_of i p ≢ s → in_location i (shifted a p to) s label ≡ in_location i a s label
      unfolding in_location
      location_other label fits within other = grind (arith, members_other)

      pub locations_other : IsAssignment i a → p < process_count i →
          service_of i p ≢ s → locations_of i (shifted a p to) s ≡ locations_of i a s
      unfolding locations_of
      locations_other fits within other = grind (arith, count_same, location_other)

    members_some : (s : ℕ) (test : ℕ → ℕ → Bool) → p < process_count i →
        service_of i p ≡ s → one_if (test p (machine_at a p)) ≤ members_at i a s test
    unfolding members_at
    members_some s test within is = grind (arith, tally_term, share_mine)

    -- neighbourhoods
    pub near_mine : (to label : ℕ) → IsAssignment i a → p < process_count i →
        in_neighbourhood i (shifted a p to) (service_of i p) label
        + one_if (eqb (neighbourhood_of i (machine_at a p)) label) ≡ in_neighbourhood i a (service_of i p) label
        + one_if (eqb (neighbourhood_of i to) label)
    unfolding in_neighbourhood
    near_mine to label fits within = grind (arith, members_mine)

    -- locations
    pub location_mine : (to label : ℕ) → IsAssignment i a → p < process_count i →
        in_location i (shifted a p to) (service_of i p) label + one_if (eqb (location_of i (machine_at a p)) label) ≡
        in_location i a (service_of i p) label + one_if (eqb (location_of i to) label)
    unfolding in_location
    location_mine to label fits within = grind (arith, members_mine)

    pub location_some : p < process_count i →
        0 < in_location i a (service_of i p) (location_of i (machine_at a p))
    unfolding in_location
    location_some within = grind (arith, members_some, one_if_true, eq-eqb)

    -- another process of the service isn't where p goes
    not_there : (to q : ℕ) → on_machine i a (service_of i p) to ≡ 0 →
        q < process_count i → service_of i q ≡ service_of i p → machine_at a q ≢ to
    not_there to q alone within is here = grind (arith, on_mine)

  on_some : (s m : ℕ) → 0 < on_machine i a s m → (q : ℕ) × (q < process_count i)
      × (service_of i q ≡ s) × (machine_at a q ≡ m)
  unfolding is_of
  on_some s m some = grind (arith, count_positive, on_machine_count, and_parts, eqb-true)

module _ (st : Situation) (p to : ℕ) where
  -- conflict
  pub alone_from : IsStart st p to →
      IsFeasible (record st { here = shifted st.here p to }) →
      on_machine st.tables st.here (service_of st.tables p) to ≡ 0
  alone_from h after = ⊎_elim
      (λ (some : 0 < on_machine st.tables st.here (service_of st.tables p) to).
      let found = on_some st.tables st.here (service_of st.tables p) to some in
      let apart : found.0 ≢ p = λ e. h.apart (ap (machine_at st.here) (sym e) ∙ found.3) in
      absurd (after.conflict found.0 p found.1 h.known apart found.2 (others st.here p to found.0 apart ∙ found.3
      ∙ sym (placed st p to h))))
      (λ (none : on_machine st.tables st.here (service_of st.tables p) to ≤ 0). omega arith)
      (cases_lt 0 (on_machine st.tables st.here (service_of st.tables p) to))

  pub conflict_after : IsStart st p to →
      on_machine st.tables st.here (service_of st.tables p) to ≡ 0 → (k l : ℕ) → k < process_count st.tables →
      l < process_count st.tables → k ≢ l →
      service_of st.tables k ≡ service_of st.tables l → machine_at (shifted st.here p to) k ≢ machine_at
      (shifted st.here p to) l
  conflict_after h alone k l k_in l_in apart one_service = ⊎_elim
      (λ (k_is : k ≡ p). λ met.
      let other : l ≢ p = λ e. apart (k_is ∙ sym e) in
      not_there st.tables st.here p to l alone l_in (sym one_service ∙ ap (service_of st.tables) k_is)
      (sym (others st.here p to l other) ∙ sym met
      ∙ ap (machine_at (shifted st.here p to)) k_is ∙ placed st p to h))
      (λ (k_other : k ≢ p). ⊎_elim
      (λ (l_is : l ≡ p). λ met. not_there st.tables st.here p to k alone k_in
      (one_service ∙ ap (service_of st.tables) l_is)
      (sym (others st.here p to k k_other) ∙ met ∙ ap (machine_at (shifted st.here p to)) l_is ∙ placed st p to h))
      (λ (l_other : l ≢ p). λ met. h.feasible.conflict k l k_in l_in apart one_service
      (sym (others st.here p to k k_other)
      ∙ met ∙ others st.here p to l l_other))
      (cases_eq l p))
      (cases_eq k p)

  -- spread
  pub spread_after : IsStart st p to →
      spread_of st.tables (service_of st.tables p) ≤ locations_of st.tables (shifted st.here p to)
      (service_of st.tables p) → (s : ℕ) → s < service_count st.tables →
      spread_of st.tables s ≤ locations_of st.tables (shifted st.here p to) s
  spread_after h mine s within = grind (arith, locations_other)

  -- closed machines
  pub closed_after : IsStart st p to →
      (closed_at st.tables to ≡ true → machine_at st.start p ≡ to) → (q : ℕ) → q < process_count st.tables →
      closed_at st.tables (machine_at (shifted st.here p to) q) ≡ true →
      machine_at st.start q ≡ machine_at (shifted st.here p to) q
  closed_after h admitted q within closed = ⊎_elim
      (λ (same : q ≡ p).
      let here : machine_at (shifted st.here p to) q ≡ to = ap (machine_at (shifted st.here p to)) same
      ∙ placed st p to h in
      ap (machine_at st.start) same ∙ admitted (ap (closed_at st.tables) (sym here) ∙ closed) ∙ sym here)
      (λ (other : q ≢ p). h.feasible.closed q within (ap (closed_at st.tables) (sym (others st.here p to q other))
      ∙ closed)
      ∙ sym (others st.here p to q other))
      (cases_eq q p)
