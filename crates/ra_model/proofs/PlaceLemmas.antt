-- The first machine with each label.
use Rattle.std.proofs.Common.{◌≡◌, ℕ, ◌+◌, ◌<◌, ◌≤◌, ◌≢◌, cond, eqb, List, [], ◌∷◌, ◌++◌, length, get_or, Option, Some}
use Rattle.std.proofs.Common.{None, sym, refl, ap, ap₂, ◌∙◌, ⊎_elim, arith, length-append, eq-eqb, ne_eqb}
use Rattle.std.specs.Prelude.{unwrap_or}
use Rattle.std.proofs.Math.Seq.{get_or-append_seam}
use Rattle.std.proofs.lemmas.Bool.{cases_lt, cases_eq, cond-true, cond-false}
use Rattle.std.proofs.lemmas.List.{get_or_append_left}
use Rattle.ra_base.specs.Searches.{or_else, first}
use Rattle.ra_base.specs.declared.ids.Machine.{Machine}
use Rattle.ra_base.proofs.Searches.{first_none, first_more, first_some_at, first_none_at, or_else_none_right}
use Rattle.ra_model.specs.Assignments.{machine_at}
use Rattle.ra_model.specs.Places.{IsFirstLike, AreFirst}

-- machine m, if it has label x
unfoldable pub labelled : (ℕ → ℕ) → ℕ → ℕ → Option Machine
labelled label x m = cond (eqb (label m) x) (Some (record { 0 = m })) None

-- the first of n machines with label x
unfoldable pub first_labelled : (ℕ → ℕ) → ℕ → ℕ → Option Machine
first_labelled label n x = first n (labelled label x)

-- a lookup of a label gives the first of n machines with it
pub record IsKnown (label : ℕ → ℕ) (n : ℕ) (known : ℕ → Option Machine) : Type 0 where
  pub each : (x : ℕ) → known x ≡ first_labelled label n x

-- what was found before, else the machine itself
found_or : (old : Option Machine) (m : Machine) → or_else old (Some m) ≡ Some (unwrap_or old m)
unfolding or_else
found_or None m = refl
found_or (Some p) m = refl

module _ (label : ℕ → ℕ) where
  module _ (x m : ℕ) where
    labelled_yes : label m ≡ x → labelled label x m ≡ Some (record { 0 = m })
    unfolding labelled
    labelled_yes is = cond-true (eqb (label m) x) (Some (record { 0 = m })) None (eq-eqb (label m) x is)

    labelled_no : label m ≢ x → labelled label x m ≡ None
    unfolding labelled
    labelled_no other = cond-false (eqb (label m) x) (Some (record { 0 = m })) None (ne_eqb (label m) x other)

    labelled_means : (p : Machine) → labelled label x m ≡ Some p → (label m ≡ x) × (p.0 ≡ m)
    labelled_means p is = ⊎_elim
        (λ (same : label m ≡ x). let found = labelled_yes same in
        (same, number_is (record { 0 = m }) p (sym found ∙ is)))
        (λ (other : label m ≢ x). absurd (some_not_none p (sym is ∙ labelled_no other)))
        (cases_eq (label m) x)
      where
        number_is : (q p : Machine) → Some q ≡ Some p → p.0 ≡ q.0
        number_is q p e = let same : q ≡ p = cc in ap (λ (m : Machine). m.0) (sym same)

        some_not_none : (p : Machine) → Some p ≡ None → ⊥
        some_not_none p e = cc

  module _ (n : ℕ) where
    first_labelled_more : (x : ℕ) → first_labelled label (n + 1) x ≡ or_else (first_labelled label n x)
        (labelled label x n)
    unfolding first_labelled
    first_labelled_more x = first_more n (labelled label x)

    -- the first one found is the first machine with the label
    first_is : (x : ℕ) (p : Machine) → x ≡ label n → first_labelled label (n + 1) x ≡ Some p → IsFirstLike label n p.0
    unfolding first_labelled
    first_is x p is found =
        let at = first_some_at (n + 1) (labelled label x) p found in
        let means = labelled_means x at.0 p at.2 in
        record {
          alike = ap label means.1 ∙ means.0 ∙ is;
          first = λ j same. ⊎_elim
              (λ (before : j < at.0).
              absurd (not_labelled x j (same ∙ sym is) (first_none_at j at.0 (labelled label x) before at.3)))
              (λ (after : at.0 ≤ j). omega (arith, means.1))
              (cases_lt j at.0);
        }
      where
        not_labelled : (x j : ℕ) → label j ≡ x → labelled label x j ≡ None → ⊥
        not_labelled x j same none = let is = labelled_yes x j same in cc

    module _ (x : ℕ) (p : Machine) (known : ℕ → Option Machine) where
      -- machine n is looked up, and is known from then on if no other was
      pub place_found : IsKnown label n known →
          x ≡ label n → p ≡ unwrap_or (known x) (record { 0 = n }) → first_labelled label (n + 1) x ≡ Some p
      place_found h is found =
          first_labelled_more x
          ∙ ap₂ or_else (sym (h.each x)) (labelled_yes x n (sym is))
          ∙ found_or (known x) (record { 0 = n })
          ∙ ap (λ (q : Machine). Some q) (sym found)

      pub known_more : (new : ℕ → Option Machine) → IsKnown label n known → x ≡ label n →
          p ≡ unwrap_or (known x) (record { 0 = n }) → ((q : ℕ) → new q ≡ cond (eqb x q) (Some p) (known q)) →
          IsKnown label (n + 1) new
      known_more new h is found changed = record {
        each = λ q. changed q ∙ ⊎_elim
            (λ (same : x ≡ q). cond-true (eqb x q) (Some p) (known q) (eq-eqb x q same)
            ∙ sym (place_found h is found) ∙ ap (first_labelled label (n + 1)) same)
            (λ (apart : x ≢ q). cond-false (eqb x q) (Some p) (known q) (ne_eqb x q apart) ∙ h.each q
            ∙ sym (or_else_none_right (first_labelled label n q))
            ∙ ap (or_else (first_labelled label n q)) (sym (labelled_no q n (λ e. apart (is ∙ e))))
            ∙ sym (first_labelled_more q))
            (cases_eq x q);
      }

      pub places_more : (places : List Machine) → IsKnown label n known → AreFirst label n places → x ≡ label n →
          p ≡ unwrap_or (known x) (record { 0 = n }) → AreFirst label (n + 1) (places ++ p ∷ [])
      unfolding machine_at
      places_more places h before is found = record {
        one_each = omega (arith, length-append places (p ∷ []), before.one_each);
        each = λ m within. ⊎_elim
            (λ (earlier : m < n). first_at label m (get_or places m (record { 0 = 0 }))
            (get_or (places ++ p ∷ []) m (record { 0 = 0 }))
            (sym (get_or_append_left places (p ∷ []) (record { 0 = 0 }) m (omega (arith, before.one_each))))
            (before.each m earlier))
            (λ (after : n ≤ m).
            let here : length places ≡ m = omega (arith, before.one_each) in
            let same : n ≡ m = omega arith in
            first_at label m p (get_or (places ++ p ∷ []) m (record { 0 = 0 }))
            (sym (get_or-append_seam places p [] (record { 0 = 0 }))
            ∙ ap (λ k. get_or (places ++ p ∷ []) k (record { 0 = 0 })) here)
            (first_like label n m p.0 same (first_is x p is (place_found h is found))))
            (cases_lt m n);
      }
        where
          first_at : (label : ℕ → ℕ) (m : ℕ) (p q : Machine) → p ≡ q → IsFirstLike label m p.0 → IsFirstLike label m q.0
          first_at label m p q same h = rw (sym same) h

          first_like : (label : ℕ → ℕ) (n m k : ℕ) → n ≡ m → IsFirstLike label n k → IsFirstLike label m k
          first_like label n m k same h = rw (sym same) h

    -- a place is a machine, and no later one
    pub place_le : (m : ℕ) (places : List Machine) → AreFirst label n places → m < n → machine_at places m ≤ m
    place_le m places h within = (h.each m within).first m refl

    module _ (m k : ℕ) (places : List Machine) (h : AreFirst label n places) (m_within : m < n) (k_within : k < n) where
      -- two machines have one place if they have one label, and else two
      pub place_same : label m ≡ label k → machine_at places m ≡ machine_at places k
      place_same same =
          let at_m = h.each m m_within in
          let at_k = h.each k k_within in
          omega (
            arith,
            at_m.first (machine_at places k) (at_k.alike ∙ sym same),
            at_k.first (machine_at places m) (at_m.alike ∙ same),
          )

      pub label_same : machine_at places m ≡ machine_at places k → label m ≡ label k
      label_same same =
          sym (h.each m m_within).alike ∙ ap label same ∙ (h.each k k_within).alike

      pub place_test : eqb (machine_at places m) (machine_at places k) ≡ eqb (label m) (label k)
      place_test = ⊎_elim
          (λ (same : label m ≡ label k). eq-eqb (machine_at places m) (machine_at places k)
          (place_same same) ∙ sym (eq-eqb (label m) (label k) same))
          (λ (apart : label m ≢ label k). ne_eqb (machine_at places m) (machine_at places k)
          (λ e. apart (label_same e)) ∙ sym (ne_eqb (label m) (label k) apart))
          (cases_eq (label m) (label k))

  pub known_none : (known : ℕ → Option Machine) → ((x : ℕ) → known x ≡ None) → IsKnown label 0 known
  unfolding first_labelled
  known_none known empty = record { each = λ x. empty x ∙ sym (first_none (labelled label x)) }

  pub places_none : AreFirst label 0 []
  places_none = record { one_each = refl; each = λ m within. absurd (omega arith) }
