-- The processes that lack one that they need, counted by neighbourhood: what one process that moves can change of that.
use Rattle.std.proofs.Common.{inl, inr, ◌≡◌, ◌≢◌, ℕ, ◌+◌, ◌*◌, ◌^◌, ◌<◌, Bool, true, false, cond, eqb, ◌||◌, ◌&&◌, List}
use Rattle.std.proofs.Common.{set, sym}
use Rattle.std.proofs.Common.{refl, ap, ◌∙◌, ⊎_elim, arith, zero-mul, mul-zero, mul_comm, eq-eqb, ne_eqb}
use Rattle.std.proofs.lemmas.Bool.{cases_Bool, cond-true, cond-false, eqb-true, eqb-false, or_parts, both_ways}
use Rattle.std.proofs.lemmas.Bool.{and_left, and_right}
use Rattle.ra_base.specs.Sums.{total, count, one_if}
use Rattle.ra_base.specs.declared.ids.Machine.{Machine}
use Rattle.ra_base.proofs.Sums.{total_same, total_zero, total_balance, total_change_two, total_of_sum, total_grouped}
use Rattle.ra_base.proofs.Sums.{total_parts, total_point, total_times_right}
use Rattle.ra_model.specs.declared.raw.Tables.{Tables}
use Rattle.ra_model.specs.Numbers.{service_count, process_count, dependency_count, need_of, service_of}
use Rattle.ra_model.specs.Numbers.{neighbourhood_of}
use Rattle.ra_model.specs.Limits.{Small}
use Rattle.ra_model.specs.Assignments.{IsAssignment, machine_at, tally}
use Rattle.ra_model.specs.Services.{is_of, of_service, members_at, in_neighbourhood}
use Rattle.ra_model.proofs.TallyLemmas.{members_set}
use Rattle.ra_model.specs.Broken.{near_of}
use Rattle.ra_repair.specs.Penalty.{far_share, pair_far, service_far, dependency_penalty}
use Rattle.ra_repair.specs.Touched.{is_missing, missing_near, is_link, links, left_alone, all_alone, far_near}
use Rattle.ra_repair.specs.Touched.{far_between}

-- over plain functions: n u x is how many of u are in x

-- those of u in x, if none of v is there
pub alone : (ℕ → ℕ → ℕ) → ℕ → ℕ → ℕ → ℕ
alone n u v x = cond (eqb (n v x) 0) (n u x) 0

-- u or the one that it needs is s
pub is_tied : ℕ → ℕ → ℕ → Bool
is_tied s u v = eqb u s || eqb v s

-- how many processes of u are alone, if u or the one that it needs is s, and else zero
pub tied : (ℕ → ℕ → ℕ) → ℕ → ℕ → ℕ → ℕ → ℕ
tied n s u v x = cond (is_tied s u v) (alone n u v x) 0

-- n and f differ for s alone, and there in x and y alone
pub record Differ (n f : ℕ → ℕ → ℕ) (s x y : ℕ) : Type 0 where
  pub others : (u z : ℕ) → u ≢ s → f u z ≡ n u z
  pub elsewhere : (u z : ℕ) → z ≢ x → z ≢ y → f u z ≡ n u z

alone_same : (n f : ℕ → ℕ → ℕ) (u v x : ℕ) → f u x ≡ n u x → f v x ≡ n v x → alone f u v x ≡ alone n u v x
unfolding alone
alone_same n f u v x first second = rw (first, second) refl

-- neither is s
untied : (s u v : ℕ) → is_tied s u v ≡ false → (u ≢ s) × (v ≢ s)
unfolding is_tied
untied s u v is = (
  λ same. both_ways (eqb u s) (or_parts _ _ is).0 (eq-eqb u s same),
  λ same.
      both_ways (eqb v s) (or_parts _ _ is).1 (eq-eqb v s same),
)

-- the change of one sum over labels
pair_change : (m : ℕ) (n f : ℕ → ℕ → ℕ) (s u v x y : ℕ) → x < m → y < m → x ≢ y → Differ n f s x y →
    total m (alone f u v) + (tied n s u v x + tied n s u v y) ≡ total m (alone n u v)
    + (tied f s u v x + tied f s u v y)
unfolding tied
pair_change m n f s u v x y x_in y_in apart differ = elim (cases_Bool (is_tied s u v)) [
  | inl is ↦ rw is (total_change_two m x y (alone f u v) (alone n u v) x_in y_in apart
      (λ z h not_x not_y. alone_same n f u v z (differ.elsewhere u z not_x not_y)
      (differ.elsewhere v z not_x not_y)))
  | inr is ↦ rw is (ap (λ k. k + (0 + 0))
      (total_same m (alone f u v) (alone n u v)
      (λ z h. alone_same n f u v z (differ.others u z (untied s u v is).0)
      (differ.others v z (untied s u v is).1))))
]

-- the sums over the needs of u, and over all u
abbrev pub row_alone : ℕ → (ℕ → ℕ) → (ℕ → ℕ → ℕ) → (ℕ → ℕ → ℕ) → ℕ → ℕ
row_alone m d need n u = total (d u) (λ k. total m (alone n u (need u k)))

abbrev pub row_tied : (ℕ → ℕ) → (ℕ → ℕ → ℕ) → (ℕ → ℕ → ℕ) → ℕ → ℕ → ℕ → ℕ
row_tied d need n s x u = total (d u) (λ k. tied n s u (need u k) x)

row_change : (m : ℕ) (d : ℕ → ℕ) (need n f : ℕ → ℕ → ℕ) (s u x y : ℕ) → x < m → y < m → x ≢ y → Differ n f s x y →
    row_alone m d need f u + (row_tied d need n s x u + row_tied d need n s y u) ≡ row_alone m d need n u
    + (row_tied d need f s x u + row_tied d need f s y u)
row_change m d need n f s u x y x_in y_in apart differ =
    let old = total_of_sum (d u) (λ k. tied n s u (need u k) x) (λ k. tied n s u (need u k) y) in
    let new = total_of_sum (d u) (λ k. tied f s u (need u k) x) (λ k. tied f s u (need u k) y) in
    let both = total_balance (d u) (λ k. total m (alone f u (need u k)))
    (λ k. tied n s u (need u k) x + tied n s u (need u k) y) (λ k. total m (alone n u (need u k)))
    (λ k. tied f s u (need u k) x + tied f s u (need u k) y)
    (λ k h. pair_change m n f s u (need u k) x y x_in y_in apart differ) in
    omega (arith, old, new, both)

module _ (c m : ℕ) (d : ℕ → ℕ) (need : ℕ → ℕ → ℕ) where
  module _ (n f : ℕ → ℕ → ℕ) where
    all_change : (s x y : ℕ) → x < m → y < m → x ≢ y → Differ n f s x y →
        total c (row_alone m d need f) + (total c (row_tied d need n s x) + total c (row_tied d need n s y)) ≡
        total c (row_alone m d need n) + (total c (row_tied d need f s x) + total c (row_tied d need f s y))
    all_change s x y x_in y_in apart differ =
        let old = total_of_sum c (row_tied d need n s x) (row_tied d need n s y) in
        let new = total_of_sum c (row_tied d need f s x) (row_tied d need f s y) in
        let both = total_balance c (row_alone m d need f) (λ u. row_tied d need n s x u + row_tied d need n s y u)
        (row_alone m d need n) (λ u. row_tied d need f s x u + row_tied d need f s y u)
        (λ u h. row_change m d need n f s u x y x_in y_in apart differ) in
        omega (arith, old, new, both)

    -- if all counts are the same, so is the sum
    all_same : ((u z : ℕ) → f u z ≡ n u z) → total c (row_alone m d need f) ≡ total c (row_alone m d need n)
    all_same same = total_same c _ _
        (λ u h. total_same _ (λ k. total m (alone f u (need u k))) (λ k. total m (alone n u (need u k)))
        (λ k j. total_same m _ _
        (λ z l. alone_same n f u _ z (same u z) (same (need u k) z))))

-- what is tied to s, by s's own needs and by those of others

-- a choice of one value is a product
chosen_times : (t : Bool) (c : ℕ) → cond t c 0 ≡ one_if t * c
chosen_times true c = omega arith
chosen_times false c = omega arith

module _ (n : ℕ → ℕ → ℕ) (s : ℕ) where
  own_tied : (v x : ℕ) → tied n s s v x ≡ one_if (eqb (n v x) 0) * n s x
  unfolding tied is_tied alone
  own_tied v x = ap (λ t. cond (t || eqb v s) (cond (eqb (n v x) 0) (n s x) 0) 0) (eq-eqb s s refl)
      ∙ chosen_times (eqb (n v x) 0) (n s x)

  other_tied : (u v x : ℕ) → u ≢ s → tied n s u v x ≡ one_if (eqb v s) * alone n u s x
  unfolding tied is_tied
  other_tied u v x apart = ap (λ t. cond (t || eqb v s) (alone n u v x) 0) (ne_eqb u s apart) ∙ ⊎_elim
      (λ (is : eqb v s ≡ true). rw (is, eqb-true v s is) (omega arith))
      (λ (is : eqb v s ≡ false). rw is (omega arith))
      (cases_Bool (eqb v s))

-- the part of another u in x, if none of s is there
abbrev pub other_part : (ℕ → ℕ) → (ℕ → ℕ → ℕ) → (ℕ → ℕ → ℕ) → ℕ → ℕ → ℕ → ℕ
other_part d need n s x u = cond (eqb u s) 0 (count (d u) (λ k. eqb (need u k) s) * n u x)

module _ (d : ℕ → ℕ) (need : ℕ → ℕ → ℕ) where
  module _ (n : ℕ → ℕ → ℕ) (s : ℕ) where
    own_row : (x : ℕ) → row_tied d need n s x s ≡ n s x * count (d s) (λ k. eqb (n (need s k) x) 0)
    own_row x =
        let each = total_same _ (λ k. tied n s s (need s k) x) (λ k. one_if (eqb (n (need s k) x) 0) * n s x)
        (λ k h. own_tied n s _ x) in
        each ∙ total_times_right (d s) (n s x) (λ k. one_if (eqb (n (need s k) x) 0)) ∙ mul_comm _ (n s x)

    other_row : (u x : ℕ) → u ≢ s → row_tied d need n s x u ≡ count (d u) (λ k. eqb (need u k) s) * alone n u s x
    other_row u x apart =
        let each = total_same _ (λ k. tied n s u (need u k) x) (λ k. one_if (eqb (need u k) s) * alone n u s x)
        (λ k h. other_tied n s u _ x apart) in
        each ∙ total_times_right (d u) (alone n u s x) (λ k. one_if (eqb (need u k) s))

    empty_part : (x u : ℕ) → eqb (n s x) 0 ≡ true →
        cond (eqb u s) 0 (row_tied d need n s x u) ≡ other_part d need n s x u
    unfolding alone
    empty_part x u none = grind (arith, other_row, eqb-false)

    full_part : (x u : ℕ) → eqb (n s x) 0 ≡ false → cond (eqb u s) 0 (row_tied d need n s x u) ≡ 0
    unfolding alone
    full_part x u some = grind (arith, other_row, eqb-false, mul-zero)

-- all that is tied to s in x
pub tied_is : (c : ℕ) (d : ℕ → ℕ) (need n : ℕ → ℕ → ℕ) (s x : ℕ) → s < c →
    total c (row_tied d need n s x) ≡ cond (eqb (n s x) 0) (total c (other_part d need n s x))
    (n s x * count (d s) (λ k. eqb (n (need s k) x) 0))
tied_is c d need n s x within =
    let ties = row_tied d need n s x in
    let missing = count (d s) (λ k. eqb (n (need s k) x) 0) in
    let split = total_parts c (λ u. eqb u s) ties in
    let point = total_point c s ties within in
    let own = own_row d need n s x in
    elim (cases_Bool (eqb (n s x) 0)) [
      | inl none ↦ let zero_here : n s x ≡ 0 = eqb-true (n s x) 0 none in
          let no_own : n s x * missing ≡ 0 = rw zero_here (zero-mul missing) in
          let others = total_same c (λ u. cond (eqb u s) 0 (ties u)) _
          (λ u h. empty_part d need n s x u none) in
          let sum : total c ties ≡ total c (other_part d need n s x) =
          omega (arith, split, point, own, no_own, others) in
          sum ∙ sym (cond-true _ _ _ none)
      | inr some ↦ let others =
          total_zero c (λ u. cond (eqb u s) 0 (ties u)) (λ u h. full_part d need n s x u some) in
          let sum : total c ties ≡ n s x * missing = omega (arith, split, point, own, others) in
          sum ∙ sym (cond-false _ _ _ some)
    ]

not_of : (i : Tables) (u p : ℕ) (t : Bool) → u ≢ service_of i p → one_if (is_of i u p && t) ≡ 0
unfolding is_of
not_of i u p t apart = grind (arith, and_left)

not_in : (t : Bool) (x z : ℕ) → z ≢ x → one_if (t && eqb x z) ≡ 0
not_in t x z apart = grind (arith, and_right)

module _ (i : Tables) (a : List Machine) (s : ℕ) where
  -- over an instance

  all_there : (x : ℕ) → total (process_count i) (λ p. of_service i s (λ q at. eqb (neighbourhood_of i at) x) p
      (machine_at a p)) ≡ in_neighbourhood i a s x
  unfolding in_neighbourhood members_at tally
  all_there x = refl

  module _ (v : ℕ) where
    empty_share : (x p : ℕ) → eqb (in_neighbourhood i a v x) 0 ≡ true →
        cond (eqb (neighbourhood_of i (machine_at a p)) x) (one_if (is_of i s p && eqb (in_neighbourhood i a v
        (neighbourhood_of i (machine_at a p))) 0)) 0 ≡
        of_service i s (λ q at. eqb (neighbourhood_of i at) x) p (machine_at a p)
    unfolding of_service
    empty_share x p none = grind (arith, eqb-true, and_right)

    full_share : (x p : ℕ) → eqb (in_neighbourhood i a v x) 0 ≡ false →
        cond (eqb (neighbourhood_of i (machine_at a p)) x) (one_if (is_of i s p && eqb (in_neighbourhood i a v
        (neighbourhood_of i (machine_at a p))) 0)) 0 ≡ 0
    full_share x p some = grind (arith, eqb-true, and_right)

    -- the processes for which a dependency fails, by the label of the neighbourhood
    labelled : (m x : ℕ) → total (process_count i)
        (λ p. cond (eqb (neighbourhood_of i (machine_at a p)) x)
        (one_if (is_of i s p && eqb (in_neighbourhood i a v (neighbourhood_of i (machine_at a p))) 0)) 0) ≡
        alone (in_neighbourhood i a) s v x
    unfolding alone
    labelled m x = elim (cases_Bool (eqb (in_neighbourhood i a v x) 0)) [
      | inl none ↦ total_same _ _ (λ p. of_service i s (λ q at. eqb (neighbourhood_of i at) x) p (machine_at a p))
          (λ p h. empty_share x p none)
          ∙ rw none (all_there x)
      | inr some ↦ total_zero _ _ (λ p h. full_share x p some)
          ∙ rw some refl
    ]

module _ (m : ℕ) (i : Tables) (a : List Machine) where
  pair_by_label : (s k : ℕ) → ((at : ℕ) → neighbourhood_of i at < m) →
      pair_far i a s k ≡ total m (alone (in_neighbourhood i a) s (need_of i s k))
  unfolding pair_far far_share near_of
  pair_by_label s k small =
      let v = need_of i s k in
      let label = λ (p : ℕ). neighbourhood_of i (machine_at a p) in
      let share = λ (p : ℕ).
      one_if (is_of i s p && eqb (in_neighbourhood i a v (neighbourhood_of i (machine_at a p))) 0) in
      sym (total_grouped m (process_count i) label share (λ p h. small (machine_at a p)))
      ∙ total_same m (λ x. total (process_count i) (λ p. cond (eqb (label p) x) (share p) 0))
      (alone (in_neighbourhood i a) s v) (λ x h. labelled i a s v m x)

  penalty_by_label : ((at : ℕ) → neighbourhood_of i at < m) → dependency_penalty i a ≡ total (service_count i)
      (row_alone m (dependency_count i) (need_of i) (in_neighbourhood i a))
  unfolding dependency_penalty service_far
  penalty_by_label small =
      total_same _ _
      _
      (λ s h. total_same _ _
      (λ k. total m (alone (in_neighbourhood i a) s (need_of i s k))) (λ k l. pair_by_label s k small))

module _ (i : Tables) (a : List Machine) where
  -- what is tied to service s in a neighbourhood
  far_is : (s x : ℕ) → s < service_count i →
      total (service_count i) (row_tied (dependency_count i) (need_of i) (in_neighbourhood i a) s x) ≡ far_near i a s x
  unfolding far_near all_alone left_alone links is_link missing_near is_missing
  far_is s x within = grind (arith, tied_is)

  module _ (p : ℕ) (to : Machine) where
    -- counts in neighbourhoods, if process p of service s goes from a neighbourhood x to y
    in_set : (u z : ℕ) → IsAssignment i a → p < process_count i →
        in_neighbourhood i (set a p to) u z + one_if (is_of i u p && eqb (neighbourhood_of i (machine_at a p)) z) ≡
        in_neighbourhood i a u z + one_if (is_of i u p && eqb (neighbourhood_of i to.0) z)
    unfolding in_neighbourhood of_service
    in_set u z fits within = grind (arith, members_set)

    differ_set : IsAssignment i a → p < process_count i →
        Differ (in_neighbourhood i a) (in_neighbourhood i (set a p to)) (service_of i p) (neighbourhood_of i
        (machine_at a p)) (neighbourhood_of i to.0)
    differ_set fits within = record {
      others = λ u z apart.
          omega (arith, in_set, not_of);
      elsewhere = λ u z not_left not_come.
          omega (arith, in_set, not_in);
    }

    same_set : (u z : ℕ) → IsAssignment i a → p < process_count i →
        neighbourhood_of i (machine_at a p) ≡ neighbourhood_of i to.0 →
        in_neighbourhood i (set a p to) u z ≡ in_neighbourhood i a u z
    same_set u z fits within same = grind (arith, in_set)

far_changed : (m : ℕ) (i : Tables) (a : List Machine) (p : ℕ) (to : Machine) → ((at : ℕ) → neighbourhood_of i at < m) →
    IsAssignment i a → p < process_count i → service_of i p < service_count i →
    dependency_penalty i (set a p to) + far_between i a (service_of i p) (neighbourhood_of i (machine_at a p))
    (neighbourhood_of i to.0) ≡ dependency_penalty i a + far_between i (set a p to) (service_of i p)
    (neighbourhood_of i (machine_at a p)) (neighbourhood_of i to.0)
unfolding far_between
far_changed m i a p to small fits within known =
    let s = service_of i p in
    let x = neighbourhood_of i (machine_at a p) in
    let y = neighbourhood_of i to.0 in
    let d = dependency_count i in
    let need = need_of i in
    let n = in_neighbourhood i a in
    let f = in_neighbourhood i (set a p to) in
    let old = penalty_by_label m i a small in
    let new = penalty_by_label m i (set a p to) small in
    ⊎_elim
    (λ (is : eqb x y ≡ true).
    rw is (omega (
      arith,
      old,
      new,
      all_same (service_count i) m d need n f (λ u z. same_set i a p to u z fits within (eqb-true x y is)),
    )))
    (λ (is : eqb x y ≡ false).
    let change = all_change (service_count i) m d need n f s x y (small (machine_at a p)) (small to.0)
    (eqb-false x y is) (differ_set i a p to fits within) in
    let before = cond-false (eqb x y) 0 (far_near i a s x + far_near i a s y) is in
    let after = cond-false (eqb x y) 0 (far_near i (set a p to) s x + far_near i (set a p to) s y) is in
    omega (
      arith,
      old,
      new,
      change,
      before,
      after,
      far_is i a s x known,
      far_is i a s y known,
      far_is i (set a p to) s x known,
      far_is i (set a p to) s y known,
    ))
    (cases_Bool (eqb x y))

-- the change of how many processes lack one that they need
pub far_set : (i : Tables) (a : List Machine) (p : ℕ) (to : Machine) → Small i → IsAssignment i a →
    p < process_count i → service_of i p < service_count i →
    dependency_penalty i (set a p to) + far_between i a (service_of i p) (neighbourhood_of i (machine_at a p))
    (neighbourhood_of i to.0) ≡ dependency_penalty i a + far_between i (set a p to) (service_of i p)
    (neighbourhood_of i (machine_at a p)) (neighbourhood_of i to.0)
far_set i a p to small fits within known = far_changed (2 ^ 32) i a p to small.neighbourhoods fits within known
