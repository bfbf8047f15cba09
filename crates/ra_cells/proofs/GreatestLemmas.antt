-- The greatest of the counts, from how many services have each, if up to three counts change.
use Rattle.std.proofs.Common.{inl, inr, ◌≡◌, ℕ, ◌+◌, ◌-◌, ◌<◌, ◌≤◌, ◌≢◌, max, true, false, eqb, List, length, get_or}
use Rattle.std.proofs.Common.{set, Option}
use Rattle.std.proofs.Common.{Some, None, sym, refl, ap, ◌∙◌, ⊎_elim, arith, eq-eqb, ne_eqb, length-set}
use Rattle.std.proofs.Common.{get_or-set_other, get_or-set_same}
use Rattle.std.specs.Prelude.{IfSome}
use Rattle.std.proofs.Math.ListN.{replicate}
use Rattle.std.proofs.lemmas.List.{get_or_read, length-replicate, get_or-replicate}
use Rattle.std.proofs.lemmas.Bool.{cases_eq, eqb-true, cond-true, cond-false, both_ways}
use Rattle.ra_base.specs.Sums.{one_if, count, greatest}
use Rattle.ra_base.specs.declared.costs.MovedCount.{MovedCount}
use Rattle.ra_base.proofs.Counts.{count_change, count_some, count_le, count_zero, count_all, one_if_true, one_if_false}
use Rattle.ra_base.proofs.Greatest.{greatest_at, greatest_least, greatest_by_counts}
use Rattle.ra_cells.specs.MovedCounts.{MovedCounts}
use Rattle.ra_cells.specs.Replaced.{counted_after, greatest_with, IsChange, AreOfDifferentServices, lost_at, gained_at}
use Rattle.ra_cells.specs.Replaced.{after_in}
use Rattle.ra_cells.specs.Replaced.{is_free}
use Rattle.ra_cells.specs.Counted.{AreTallied, AreCounted, AreRetallied}

-- what a change of a count asks of counts that are a function
pub record Changes (n : ℕ) (f : ℕ → ℕ) (c : MovedCount) : Type 0 where
  pub there : c.service.0 < n
  pub before : f c.service.0 ≡ c.before

counted_other : (o : Option MovedCount) (f : ℕ → ℕ) (s : ℕ) → IfSome o (λ c. c.service.0 ≢ s) →
    counted_after o f s ≡ f s
unfolding counted_after
counted_other None f s apart = refl
counted_other (Some c) f s apart =
    cond-false _ c.after _ (ne_eqb s c.service.0 (λ e. apart (sym e)))

counted_here : (c : MovedCount) (f : ℕ → ℕ) → counted_after (Some c) f c.service.0 ≡ c.after
unfolding counted_after
counted_here c f = cond-true _ c.after _ (eq-eqb c.service.0 c.service.0 refl)

-- a count after a change is at most the greater of the count before and the new one
counted_le : (o : Option MovedCount) (f : ℕ → ℕ) (s : ℕ) → counted_after o f s ≤ max (f s) (after_in o)
unfolding counted_after after_in
counted_le None f s = omega arith
counted_le (Some c) f s = elim (cases_eq s c.service.0) [
  | inl here ↦ omega (arith, cond-true _ c.after (f s) (eq-eqb s c.service.0 here))
  | inr apart ↦ omega (arith, cond-false _ c.after (f s) (ne_eqb s c.service.0 apart))
]

-- how many counts are v before and after a change
counted_tally : (o : Option MovedCount) (n : ℕ) (f : ℕ → ℕ) (v : ℕ) → IfSome o (λ c. Changes n f c) →
    count n (λ s. eqb (counted_after o f s) v) + lost_at o v ≡ count n (λ s. eqb (f s) v) + gained_at o v
unfolding counted_after lost_at gained_at
counted_tally None n f v h = refl
counted_tally (Some c) n f v h =
    let change = count_change n c.service.0 (λ s. eqb (counted_after (Some c) f s) v) (λ s. eqb (f s) v) h.there
    (λ k within apart. ap (λ y. eqb y v) (counted_other (Some c) f k (λ e. apart (sym e)))) in
    omega (arith, change, ap (λ y. one_if (eqb y v)) h.before, ap (λ y. one_if (eqb y v)) (counted_here c f))

-- a change that is still one after another service's count has changed
still_change : (o : Option MovedCount) (n : ℕ) (f : ℕ → ℕ) (c : MovedCount) → Changes n f c →
    IfSome o (λ d. d.service.0 ≢ c.service.0) → Changes n (counted_after o f) c
still_change o n f c h apart = record { there = h.there; before = counted_other o f c.service.0 apart ∙ h.before }

still : (o p : Option MovedCount) (n : ℕ) (f : ℕ → ℕ) → IfSome p (λ c. Changes n f c) → AreOfDifferentServices o p →
    IfSome p (λ c. Changes n (counted_after o f) c)
still o None n f h apart = h
still None (Some c) n f h apart = still_change None n f c h apart
still (Some d) (Some c) n f h apart = still_change _ n f c h apart

changes_of : (moved : MovedCounts) (o : Option MovedCount) → IfSome o (λ c. IsChange moved c) →
    IfSome o (λ c. Changes (length moved.counts) (λ s. get_or moved.counts s 0) c)
changes_of moved None h = h
changes_of moved (Some c) h = record { there = h.there; before = h.before }

-- how many services have count v once up to three counts have changed
tally_after : (moved : MovedCounts) (first second third : Option MovedCount) (v : ℕ) →
    IfSome first (λ c. IsChange moved c) → IfSome second (λ c. IsChange moved c) →
    IfSome third (λ c. IsChange moved c) → AreOfDifferentServices first second → AreOfDifferentServices first third →
    AreOfDifferentServices second third → count (length moved.counts)
    (λ s. eqb (counted_after third (counted_after second (counted_after first (λ k. get_or moved.counts k 0))) s) v)
    + (lost_at first v + lost_at second v + lost_at third v) ≡ count (length moved.counts)
    (λ s. eqb (get_or moved.counts s 0) v) + (gained_at first v + gained_at second v + gained_at third v)
tally_after moved first second third v one two three one_two one_three two_three =
    let n = length moved.counts in
    let f = λ (s : ℕ). get_or moved.counts s 0 in
    let g = counted_after first f in
    let h = counted_after second g in
    let by_first = counted_tally first n f v (changes_of moved first one) in
    let by_second = counted_tally second n g v (still first second n f (changes_of moved second two) one_two) in
    let by_third =
    counted_tally third n h v
    (still second third n g (still first third n f (changes_of moved third three) one_three) two_three) in
    omega (arith, by_first, by_second, by_third)

module _ (tallies : List ℕ) (first : Option MovedCount) where
  module _ (second third : Option MovedCount) (v : ℕ) where
    -- a number that is free is not a service's count, and one that isn't free is
    free_means : is_free tallies first second third v ≡ true →
        get_or tallies v 0 + (gained_at first v + gained_at second v + gained_at third v) ≡
        lost_at first v + lost_at second v + lost_at third v
    unfolding is_free
    free_means free = eqb-true _ _ free

    taken_means : is_free tallies first second third v ≡ false →
        get_or tallies v 0 + (gained_at first v + gained_at second v + gained_at third v) ≢ lost_at first v + lost_at
        second v + lost_at third v
    unfolding is_free
    taken_means taken same = both_ways _ taken (eq-eqb _ _ same)

-- the highest number that isn't free is the greatest of the counts
pub highest_is : (moved : MovedCounts) (tallies : List ℕ) (top b : ℕ) (first second third : Option MovedCount) →
    AreTallied moved.counts tallies moved.limit → greatest_with moved.counts first second third ≤ top →
    top ≤ moved.limit → b ≤ top →
    IfSome first (λ c. IsChange moved c) → IfSome second (λ c. IsChange moved c) →
    IfSome third (λ c. IsChange moved c) → AreOfDifferentServices first second → AreOfDifferentServices first third →
    AreOfDifferentServices second third → ((v : ℕ) → b < v → v ≤ top → is_free tallies first second third v ≡ true) →
    (0 < b → is_free tallies first second third b ≡ false) → greatest_with moved.counts first second third ≡ b
unfolding greatest_with
highest_is moved tallies top b first second third tallied bound within below one two three one_two one_three two_three
    none some =
    let after = λ (v : ℕ). tally_after moved first second third v one two three one_two one_three two_three in
    greatest_by_counts (length moved.counts) b top
    (counted_after third (counted_after second (counted_after first (λ s. get_or moved.counts s 0)))) bound
    (λ v above up.
    omega (
      arith,
      after v,
      tallied.each v (omega arith),
      free_means tallies first second third v (none v above up),
    ))
    (λ positive.
    omega (
      arith,
      after b,
      tallied.each b (omega arith),
      taken_means tallies first second third b (some positive),
    ))

pub after_within : (moved : MovedCounts) (o : Option MovedCount) → IfSome o (λ c. IsChange moved c) →
    after_in o ≤ moved.limit
unfolding after_in
after_within moved None h = omega arith
after_within moved (Some c) h = h.within

module _ (old : List ℕ) where
  -- one count less at a place and one more at another
  pub retallied : (mid new : List ℕ) (left come x y : ℕ) → left < length old → come < length old →
      x ≡ get_or old left x → 0 < get_or old left 0 → mid ≡ set old left (x - 1) → y ≡ get_or mid come y →
      new ≡ set mid come (y + 1) → AreRetallied old new left come
  retallied mid new left come x y left_in come_in x_read some mid_is y_read new_is = record {
    same_length = ap length new_is ∙ length-set mid come (y + 1) ∙ ap length mid_is ∙ length-set old left (x - 1);
    changed = λ v. omega (arith, first v, second v);
  }
    where
      x_is : x ≡ get_or old left 0
      x_is = get_or_read old left x left_in x_read 0

      mid_length : length mid ≡ length old
      mid_length = ap length mid_is ∙ length-set old left (x - 1)

      y_is : y ≡ get_or mid come 0
      y_is = get_or_read mid come y (omega (arith, mid_length)) y_read 0

      first : (v : ℕ) → get_or mid v 0 + one_if (eqb left v) ≡ get_or old v 0
      first v = elim (cases_eq left v) [
        | inl here ↦ omega (
          arith,
          ap (λ xs. get_or xs v 0) mid_is,
          ap (λ k. get_or (set old k (x - 1)) v 0) here,
          get_or-set_same old v (x - 1) 0 (omega arith),
          one_if_true (eqb left v) (eq-eqb left v here),
          ap (λ k. get_or old k 0) here,
          x_is,
        )
        | inr apart ↦ omega (
          arith,
          ap (λ xs. get_or xs v 0) mid_is,
          get_or-set_other old left v (x - 1) 0 (λ e. apart (sym e)),
          one_if_false (eqb left v) (ne_eqb left v apart),
        )
      ]

      second : (v : ℕ) → get_or new v 0 ≡ get_or mid v 0 + one_if (eqb come v)
      second v = elim (cases_eq come v) [
        | inl here ↦ omega (
          arith,
          ap (λ xs. get_or xs v 0) new_is,
          ap (λ k. get_or (set mid k (y + 1)) v 0) here,
          get_or-set_same mid v (y + 1) 0 (omega (arith, mid_length)),
          one_if_true (eqb come v) (eq-eqb come v here),
          ap (λ k. get_or mid k 0) here,
          y_is,
        )
        | inr apart ↦ omega (
          arith,
          ap (λ xs. get_or xs v 0) new_is,
          get_or-set_other mid come v (y + 1) 0 (λ e. apart (sym e)),
          one_if_false (eqb come v) (ne_eqb come v apart),
        )
      ]

  -- what was one less at a place is at most what it was
  pub lowered_few : (mid : List ℕ) (left come x y : ℕ) → left < length old → come < length old → x ≡ get_or old left x →
      get_or old come 0 ≤ 50000 → mid ≡ set old left (x - 1) → y ≡ get_or mid come y → y ≤ 50000
  lowered_few mid left come x y left_in come_in x_read few mid_is y_read =
      grind (arith, length-set, get_or_read, get_or-set_same, get_or-set_other)

  pub left_positive : (left x : ℕ) → left < length old → x ≡ get_or old left x → 0 < get_or old left 0 → 0 < x
  left_positive left x left_in x_read some = omega (arith, get_or_read old left x left_in x_read 0)

pub ruleset retallying = (retallied, lowered_few, left_positive)

module _ (counts : List ℕ) where
  pub greatest_set : (s after most : ℕ) → s < length counts → most ≡ greatest (length counts) (λ k. get_or counts k 0) →
      greatest (length (set counts s after)) (λ k. get_or (set counts s after) k 0) ≤ max most after
  greatest_set s after most there is = greatest_least (length (set counts s after)) (max most after)
      (λ k. get_or (set counts s after) k 0) (λ k within. elim (cases_eq k s) [
        | inl here ↦ omega
            (arith, ap (λ j. get_or (set counts s after) j 0) here, get_or-set_same counts s after 0 there)
        | inr apart ↦ omega (
          arith,
          is,
          get_or-set_other counts s k after 0 apart,
          greatest_at (length counts) k (λ j. get_or counts j 0) (omega (arith, length-set counts s after)),
        )
      ])

  with_none : greatest_with counts None None None ≡ greatest (length counts) (λ k. get_or counts k 0)
  unfolding greatest_with counted_after
  with_none = refl

  module _ (tallies : List ℕ) (limit most : ℕ) where
    -- the least of what no count passes, once up to three counts have changed
    bounded : (top : ℕ) (first second third : Option MovedCount) → AreCounted counts tallies limit most → most ≤ top →
        after_in first ≤ top → after_in second ≤ top → after_in third ≤ top →
        greatest_with counts first second third ≤ top
    unfolding greatest_with
    bounded top first second third counted most_within first_within second_within third_within =
        let f = λ (s : ℕ). get_or counts s 0 in
        let g = counted_after first f in
        let h = counted_after second g in
        greatest_least (length counts) top (counted_after third h)
        (λ k within. omega (
          arith,
          counted_le third h k,
          counted_le second g k,
          counted_le first f k,
          greatest_at (length counts) k f within,
          counted.greatest_is,
        ))

    -- the most is within the limit
    pub most_within : AreCounted counts tallies limit most → most ≤ limit
    most_within counted = grind (arith, greatest_least)

  module _ (tallies : List ℕ) (limit s x : ℕ) (tallied : AreTallied counts tallies limit) (there : s < length counts)
      (read : x ≡ get_or counts s x) where
    -- a count read is within the limit, and some service has it
    pub count_within : x ≤ limit
    count_within =
        omega (arith, get_or_read counts s x there read 0, tallied.within s there)

    pub count_held : 0 < get_or tallies x 0
    count_held =
        omega (
          arith,
          tallied.each x (count_within),
          count_some (length counts) s (λ k. eqb (get_or counts k 0) x) there
              (eq-eqb (get_or counts s 0) x (sym (get_or_read counts s x there read 0))),
        )

module _ (counts tallies : List ℕ) where
  pub tally_few : (limit v : ℕ) → AreTallied counts tallies limit → v ≤ limit → get_or tallies v 0 ≤ 50000
  tally_few limit v tallied within = grind (arith, count_le)

  module _ (new : List ℕ) (limit s x after : ℕ) where
    -- the counts with that of one service changed
    pub tallied_set : AreTallied counts tallies limit → s < length counts → x ≡ get_or counts s x → after ≤ limit →
        AreRetallied tallies new x after → AreTallied (set counts s after) new limit
    tallied_set tallied there read within changed = record {
      few = omega (arith, length-set counts s after, tallied.few);
      one_each = changed.same_length ∙ tallied.one_each;
      within = λ k inside. elim (cases_eq k s) [
        | inl here ↦ omega
            (arith, ap (λ j. get_or (set counts s after) j 0) here, get_or-set_same counts s after 0 there)
        | inr apart ↦ omega (
          arith,
          get_or-set_other counts s k after 0 apart,
          tallied.within k (omega (arith, length-set counts s after)),
        )
      ];
      each = λ v v_in.
          omega (
            arith,
            changed.changed v,
            tallied.each v v_in,
            change v,
            ap (λ n. count n (λ k. eqb (get_or (set counts s after) k 0) v)) (length-set counts s after),
          );
    }
      where
        change : (v : ℕ) → count (length counts) (λ k. eqb (get_or (set counts s after) k 0) v) + one_if (eqb x v) ≡
            count (length counts) (λ k. eqb (get_or counts k 0) v) + one_if (eqb after v)
        change v = omega (
          arith,
          count_change (length counts) s (λ k. eqb (get_or (set counts s after) k 0) v)
              (λ k. eqb (get_or counts k 0) v) there
              (λ k k_in apart. ap (λ y. eqb y v) (get_or-set_other counts s k after 0 apart)),
          ap (λ y. one_if (eqb y v)) (get_or-set_same counts s after 0 there),
          ap (λ y. one_if (eqb y v)) (get_or_read counts s x there read 0),
        )

    pub counted_set : (most top b : ℕ) → AreCounted counts tallies limit most → s < length counts →
        x ≡ get_or counts s x → after ≤ limit → AreRetallied tallies new x after → top ≡ max most after → b ≤ top →
        ((v : ℕ) → b < v → v ≤ top → is_free new None None None v ≡ true) →
        (0 < b → is_free new None None None b ≡ false) → AreCounted (set counts s after) new limit b
    counted_set most top b counted there read within changed top_is below none some =
        let tallied = tallied_set counted.tallied there read within changed in
        let moved : MovedCounts = record { counts = set counts s after; limit = limit } in
        record {
          tallied = tallied;
          greatest_is =
              sym (highest_is moved new top b None None None tallied
              (omega (
                arith,
                with_none (set counts s after),
                greatest_set counts s after most there counted.greatest_is,
              ))
              (omega (arith, most_within counts tallies limit most counted)) below tt tt tt tt tt tt none some)
              ∙ with_none (set counts s after);
        }

-- after up to three changes: within the greatest of the most and the new counts
pub after_is : (moved : MovedCounts) (tallies : List ℕ) (most top b : ℕ) (first second third : Option MovedCount) →
    AreCounted moved.counts tallies moved.limit most → most ≤ top → after_in first ≤ top → after_in second ≤ top →
    after_in third ≤ top → top ≤ moved.limit → b ≤ top →
    IfSome first (λ c. IsChange moved c) → IfSome second (λ c. IsChange moved c) →
    IfSome third (λ c. IsChange moved c) → AreOfDifferentServices first second → AreOfDifferentServices first third →
    AreOfDifferentServices second third → ((v : ℕ) → b < v → v ≤ top → is_free tallies first second third v ≡ true) →
    (0 < b → is_free tallies first second third b ≡ false) → b ≡ greatest_with moved.counts first second third
after_is moved tallies most top b first second third counted most_in first_in second_in third_in within below one two
    three one_two one_three two_three none some =
    sym (highest_is moved tallies top b first second third counted.tallied
    (bounded moved.counts tallies moved.limit most top first second third counted most_in first_in second_in
    third_in) within below one two three one_two one_three two_three none some)

-- no process has moved
pub counted_none : (n limit : ℕ) (tallies : List ℕ) → n ≤ 50000 → tallies ≡ set (replicate {A = ℕ} (limit + 1) 0) 0 n →
    AreCounted (replicate {A = ℕ} n 0) tallies limit 0
counted_none n limit tallies few is = record {
  tallied = record {
    few = omega (arith, length-replicate {A = ℕ} n 0);
    one_each = ap length is ∙ length-set (replicate {A = ℕ} (limit + 1) 0) 0 n ∙ length-replicate {A = ℕ} (limit + 1) 0;
    within = λ s within. omega (arith, get_or-replicate {A = ℕ} n s 0 0 (omega (arith, length-replicate {A = ℕ} n 0)));
    each = λ v within. each v within
        ∙ sym (ap (λ m. count m (λ k. eqb (get_or (replicate {A = ℕ} n 0) k 0) v)) (length-replicate {A = ℕ} n 0));
  };
  greatest_is = let bound : greatest (length (replicate {A = ℕ} n 0)) (λ k. get_or (replicate {A = ℕ} n 0) k 0) ≤
      0 = greatest_least _ 0 (λ k. get_or (replicate {A = ℕ} n 0) k 0)
      (λ k inside. omega (arith, zero_at k (omega (arith, length-replicate {A = ℕ} n 0)))) in omega arith;
}
  where
    zero_at : (k : ℕ) → k < n → get_or (replicate {A = ℕ} n 0) k 0 ≡ 0
    zero_at k inside = get_or-replicate {A = ℕ} n k 0 0 inside

    each : (v : ℕ) → v ≤ limit → get_or tallies v 0 ≡ count n (λ k. eqb (get_or (replicate {A = ℕ} n 0) k 0) v)
    each v within = ap (λ xs. get_or xs v 0) is ∙ ⊎_elim
        (λ (here : v ≡ 0). ap (λ j. get_or (set (replicate {A = ℕ} (limit + 1) 0) 0 n) j 0) here
        ∙ get_or-set_same (replicate {A = ℕ} (limit + 1) 0) 0 n 0
        (omega (arith, length-replicate {A = ℕ} (limit + 1) 0))
        ∙ sym (count_all n (λ k. eqb (get_or (replicate {A = ℕ} n 0) k 0) v)
        (λ k inside. eq-eqb (get_or (replicate {A = ℕ} n 0) k 0) v (zero_at k inside ∙ sym here))))
        (λ (apart : v ≢ 0). get_or-set_other (replicate {A = ℕ} (limit + 1) 0) 0 v n 0 apart
        ∙ get_or-replicate {A = ℕ} (limit + 1) v 0 0 (omega arith)
        ∙ sym (count_zero n (λ k. eqb (get_or (replicate {A = ℕ} n 0) k 0) v)
        (λ k inside. ne_eqb (get_or (replicate {A = ℕ} n 0) k 0) v
        (λ e. apart (sym e ∙ zero_at k inside)))))
        (cases_eq v 0)
