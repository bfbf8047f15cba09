-- The least number of some guards, those with a version above a place.
use Rattle.std.proofs.Common.{◌≡◌, ℕ, ◌+◌, ◌-◌, ◌<◌, ◌≤◌, ◌⊎◌, Bool, true, false, not, ◌||◌, List}
use Rattle.std.proofs.Common.{length, get_or, Option, Some, None, sym, refl, ap, subst, ◌∙◌, inl, inr, ⊎_elim, arith}
use Rattle.std.proofs.Common.{lt-ltb, le-ltb}
use Rattle.std.proofs.lemmas.Bool.{cases_lt, cases_Bool, cond-true, ltb-true, both_ways, and_from}
use Rattle.std.proofs.lemmas.Bool.{and_parts, or_left, or_right, or_cases, false_from_ne_true, not_from_false, not-true}
use Rattle.std.proofs.Math.Bool.{or-false}
use Rattle.ra_base.specs.Searches.{or_else, first}
use Rattle.ra_base.specs.declared.ids.Guard.{Guard}
use Rattle.ra_base.specs.declared.ids.Guard.TheVariants as guard
use Rattle.ra_base.specs.declared.ids.Machine.{Machine}
use Rattle.ra_base.specs.declared.ids.Service.{Service}
use Rattle.ra_base.proofs.Searches.{first_found, first_none_from, or_else_none, or_else_some}
use Rattle.ra_base.specs.Sums.{is_named}
use Rattle.ra_base.proofs.Named.{is_named_at, is_named_from}
use Rattle.ra_base.proofs.Counts.{count_some, count_positive}
use Rattle.ra_model.specs.declared.raw.Tables.{Tables}
use Rattle.ra_model.specs.Numbers.{machine_count, service_count, service_of}
use Rattle.ra_model.specs.Relations.{are_joined}
use Rattle.ra_moves.specs.declared.steps.Step.{Step}
use Rattle.ra_moves.specs.Steps.{step_at, process_in, from_in, to_in}
use Rattle.ra_topology.specs.Lists.{service_at}
use Rattle.ra_moves.specs.Touched.{touches_machine, service_in, moves_service, reads_service}
use Rattle.ra_guards.specs.declared.newest.Newer.{Newer}
use Rattle.ra_guards.specs.Guards.{AreWithin, writes, reads, is_guard}
use Rattle.ra_guards.specs.Order.{IsKnown, number_in, guard_of}
use Rattle.ra_guards.specs.VersionTable.{VersionTable}
use Rattle.ra_guards.specs.Kept.{version_in, AreAtMost}
use Rattle.ra_guards.specs.Newest.{newer_at, first_that, first_newer, first_newer_read, reads_only, newer_of}
use Rattle.ra_guards.specs.Lowest.{IsFirstNumber, IsLower, lowered, IsReadOf, IsReadIn, IsReadBy, IsReadBelow}
use Rattle.ra_guards.specs.Lowest.{IsWrittenBy, IsWrittenBelow}
use Rattle.ra_guards.proofs.OrderLemmas.{of_machine, of_service, guard_below, guard_above, guard_number}

-- no guard at all has a version above q
pub all_old : (i : Tables) (test : Guard → Bool) (v : Guard → ℕ) (q n : ℕ) → ((g : Guard) → v g ≤ q) →
    n ≡ machine_count i + service_count i → IsFirstNumber i test v q n
all_old i test v q n old is = record {
  within = omega (arith, is);
  least = λ g known passes newer. absurd (omega (arith, old g, newer));
  passes = λ below. absurd (omega (arith, below, is));
  newer = λ below. absurd (omega (arith, below, is));
}

-- the guards of one group are those of two others
pub record AreBoth (one two both : Guard → Type 0) : Type 0 where
  pub left : (g : Guard) → one g → both g
  pub right : (g : Guard) → two g → both g
  pub cases : (g : Guard) → both g → one g ⊎ two g

-- a group that grows by one
below_both : (P : ℕ → Guard → Type 0) (n : ℕ) →
    AreBoth (λ g. (k : ℕ) × (k < n) × P k g) (P n) (λ g. (k : ℕ) × (k < n + 1) × P k g)
below_both P n = record {
  left = λ g is. (is.0, omega (arith, is.1), is.2);
  right = λ g is. (n, omega arith, is);
  cases = λ g is. elim (cases_lt is.0 n) [
    | inl earlier ↦ inl (is.0, earlier, is.2)
    | inr later ↦ let same : is.0 ≡ n = omega (arith, is.1) in inr (subst (λ (k : ℕ). P k g) same is.2)
  ];
}

pub service_there : (services : List Service) (k : ℕ) → (get_or services k (record { 0 = 0 })).0 ≡ service_at services k
unfolding service_at
service_there services k = refl

-- the guards that are read only, and all

machine_is : (m : Machine) (n : ℕ) → m.0 ≡ n → guard.Machine m ≡ of_machine n
machine_is m n same = ap (λ (k : ℕ). of_machine k) same

service_is : (s : Service) (n : ℕ) → s.0 ≡ n → guard.Service s ≡ of_service n
service_is s n same = ap (λ (k : ℕ). of_service k) same

module _ (i : Tables) (steps : List Step) where
  service_joined : (u : ℕ) → reads_service i steps u ≡ true → (k : ℕ)
      × (k < length steps) × (are_joined i (service_in i steps k) u ≡ true)
  unfolding reads_service
  service_joined u reads_u =
      count_positive _ (λ j. are_joined i (service_in i steps j) u) (ltb-true 0 _ reads_u)

  joined_service : (u k : ℕ) → k < length steps → are_joined i (service_in i steps k) u ≡
      true → reads_service i steps u ≡ true
  unfolding reads_service
  joined_service u k within joined =
      lt-ltb 0 _ (count_some (length steps) k (λ j. are_joined i (service_in i steps j) u) within joined)

  -- a guard that is read only is joined with the service of a step
  read_only_below : (g : Guard) → IsKnown i g → reads_only i steps g ≡ true → IsReadBelow i steps (length steps) g
  unfolding reads_only is_guard reads IsKnown
  read_only_below (guard.Machine m) known is =
      let parts = and_parts (writes i steps (guard.Machine m) || false) (not (writes i steps (guard.Machine m))) is in
      let unwritten = not-true (writes i steps (guard.Machine m)) parts.1 in
      absurd (both_ways (writes i steps (guard.Machine m)) unwritten (sym (or-false (writes i steps (guard.Machine m)))
      ∙ parts.0))
  read_only_below (guard.Service s) known is =
      let parts = and_parts (writes i steps (guard.Service s) || reads_service i steps s.0)
      (not (writes i steps (guard.Service s))) is in
      let unwritten = not-true (writes i steps (guard.Service s)) parts.1 in
      let found = service_joined s.0
      (⊎_elim (λ (written : writes i steps (guard.Service s) ≡ true).
      absurd (both_ways (writes i steps (guard.Service s)) unwritten written))
      (λ (is_read : reads_service i steps s.0 ≡ true). is_read)
      (or_cases (writes i steps (guard.Service s)) (reads_service i steps s.0) parts.0)) in
      (found.0, found.1, (s.0, known, found.2, (unwritten, refl)))

  service_read_only : (u : ℕ) → reads_service i steps u ≡ true →
      writes i steps (of_service u) ≡ false →
      reads_only i steps (of_service u) ≡ true
  unfolding reads_only is_guard reads
  service_read_only u is_read unwritten = grind (arith, and_from, or_right, not_from_false)

  below_read_only : (g : Guard) → IsReadBelow i steps (length steps) g → reads_only i steps g ≡ true
  below_read_only g below = grind (arith, service_read_only, joined_service)

  -- a guard that is written
  written_below : (g : Guard) → writes i steps g ≡ true → IsWrittenBelow i steps (length steps) g
  unfolding writes touches_machine moves_service
  written_below (guard.Machine m) written = ⊎_elim
      (λ (named : is_named (length steps) (from_in steps) m.0 ≡ true). let found = is_named_from _
      _ m.0 named in (found.0, found.1, inl (machine_is m _ (sym found.2))))
      (λ (named : is_named (length steps) (to_in steps) m.0 ≡ true). let found = is_named_from _
      _ m.0 named in (found.0, found.1, inr (inl (machine_is m _ (sym found.2)))))
      (or_cases (is_named (length steps) (from_in steps) m.0) (is_named (length steps) (to_in steps) m.0) written)
  written_below (guard.Service s) written =
      let found = is_named_from _ _ s.0 written in
      (found.0, found.1, inr (inr (service_is s _ (sym found.2))))

  module _ (g : Guard) where
    below_written : IsWrittenBelow i steps (length steps) g → writes i steps g ≡ true
    unfolding writes touches_machine moves_service
    below_written below =
        let k = below.0 in
        elim below.2 [
          | inl is ↦ subst (λ (h : Guard). writes i steps h ≡ true)
              (sym is) (or_left _
              (is_named (length steps) (to_in steps) (from_in steps k))
              (is_named_at (length steps) k (from_in steps) (from_in steps k) below.1 refl))
          | inr rest ↦ elim rest [
            | inl is ↦ subst (λ (h : Guard). writes i steps h ≡ true)
                (sym is)
                (or_right (is_named (length steps) (from_in steps) (to_in steps k))
                _
                (is_named_at (length steps) k (to_in steps) (to_in steps k) below.1 refl))
            | inr is ↦ subst
                (λ (h : Guard). writes i steps h ≡ true)
                (sym is) (is_named_at (length steps) k (service_in i steps) (service_in i steps k) below.1 refl)
          ]
        ]

    guard_written : writes i steps g ≡ true → is_guard i steps g ≡ true
    unfolding is_guard
    guard_written written = or_left _ _ written

    pub guard_read_only : reads_only i steps g ≡ true → is_guard i steps g ≡ true
    unfolding reads_only
    guard_read_only is = grind (arith, and_parts)

    pub unwritten_guard : is_guard i steps g ≡ true → writes i steps g ≡ false → reads_only i steps g ≡ true
    unfolding reads_only
    unwritten_guard guarded unwritten =
        and_from _ _ guarded (not_from_false _ unwritten)

-- the first number of a group
first_number : (i : Tables) (test : Guard → Bool) (v : Guard → ℕ) (q : ℕ) (among : Guard → Type 0) (all n : ℕ) →
    all ≡ machine_count i + service_count i → ((g : Guard) → IsKnown i g → test g ≡ true → among g) →
    ((g : Guard) → among g → test g ≡ true) → IsLower i v q among all n → IsFirstNumber i test v q n
first_number i test v q among all n count into back lower =
    let found : n < machine_count i + service_count i → (g : Guard) × among g × (q < v g)
    × (guard_of (machine_count i) n ≡ g) = λ below. ⊎_elim
    (λ (none : n ≡ all). absurd (omega arith))
    (λ some. (some.0, some.1, some.3, ap (guard_of (machine_count i)) some.4 ∙ guard_number i some.0 some.2))
    lower.from in
    record {
      within = omega (arith, lower.below);
      least = λ g known passes newer. lower.each g (into g known passes) newer;
      passes = λ below. let at = found below in subst (λ (h : Guard). test h ≡ true) (sym at.3) (back at.0 at.1);
      newer = λ below. let at = found below in subst (λ (h : Guard). q < v h) (sym at.3) at.2;
    }

module _ (test : Guard → Bool) (v : Guard → ℕ) (q : ℕ) (g : Guard) where
  -- the first number is that of the first guard

  pub newer_some : test g ≡ true → q < v g → newer_at test v q g ≡ Some (record { guard = g; at = v g - 1 })
  unfolding newer_at
  newer_some passes newer = grind (arith, and_from, lt-ltb)

  pub newer_none : (test g ≡ true → q < v g → ⊥) → newer_at test v q g ≡ None
  unfolding newer_at
  newer_none none = grind (arith, false_from_ne_true, and_parts, ltb-true)

module _ (i : Tables) (test : Guard → Bool) (v : Guard → ℕ) (q n : ℕ) (first_at : IsFirstNumber i test v q n) where
  abbrev machine : ℕ → Option Newer
  machine m = newer_at test v q (of_machine m)

  abbrev service : ℕ → Option Newer
  service s = newer_at test v q (of_service s)

  no_machine : (m : ℕ) → m < machine_count i → m < n → machine m ≡ None
  unfolding IsKnown number_in
  no_machine m known before = grind (arith, newer_none)

  no_service : (s : ℕ) → s < service_count i → machine_count i + s < n → service s ≡ None
  unfolding IsKnown number_in
  no_service s known before = grind (arith, newer_none)

  none_of_machines : machine_count i ≤ n → first (machine_count i) machine ≡ None
  none_of_machines above = grind (arith, first_none_from, machine, no_machine)

  is_machine : n < machine_count i → first_that i test v q ≡ newer_of i v n
  unfolding first_that newer_of
  is_machine below =
      let is = guard_below _ n below in
      let within : n < machine_count i + service_count i = omega arith in
      let g : Guard = guard.Machine (record { 0 = n }) in
      let here = newer_some test v q g (subst (λ (h : Guard). test h ≡ true) is (first_at.passes within))
      (subst (λ (h : Guard). q < v h) is (first_at.newer within)) in
      let found = first_found n _ machine (record { guard = g; at = v g - 1 }) below
      (first_none_from n machine (λ m before. no_machine m (omega arith) before)) here in
      ap (λ (o : Option Newer). or_else o (first (service_count i) service)) found
      ∙ or_else_some (record { guard = g; at = v g - 1 }) _
      ∙ sym (cond-true _ _ _ (lt-ltb n (machine_count i + service_count i) within)
      ∙ ap (λ (h : Guard). Some (record { guard = h; at = v h - 1 })) is)

  is_service : machine_count i ≤ n → n < machine_count i + service_count i → first_that i test v q ≡ newer_of i v n
  unfolding first_that newer_of
  is_service above within =
      let s = n - machine_count i in
      let is = guard_above _ n above in
      let g : Guard = guard.Service (record { 0 = n - machine_count i }) in
      let here = newer_some test v q g (subst (λ (h : Guard). test h ≡ true) is (first_at.passes within))
      (subst (λ (h : Guard). q < v h) is (first_at.newer within)) in
      let found = first_found s _ service (record { guard = g; at = v g - 1 }) (omega arith)
      (first_none_from s service (λ k before. no_service k (omega arith) (omega arith))) here in
      ap (λ (o : Option Newer). or_else o (first (service_count i) service)) (none_of_machines above)
      ∙ or_else_none _
      ∙ found
      ∙ sym (cond-true _ _ _ (lt-ltb n (machine_count i + service_count i) within)
      ∙ ap (λ (h : Guard). Some (record { guard = h; at = v h - 1 })) is)

  is_none : machine_count i + service_count i ≤ n → first_that i test v q ≡ newer_of i v n
  unfolding first_that newer_of
  is_none above = grind (arith, service, none_of_machines, or_else_none, first_none_from, no_service, le-ltb)

  pub first_that_is : first_that i test v q ≡ newer_of i v n
  first_that_is = grind (arith, is_machine, is_service, is_none)

module _ (i : Tables) where
  module _ (steps : List Step) (v : Guard → ℕ) (q n : ℕ) (r : Option Newer) where
    pub first_is : IsFirstNumber i (is_guard i steps) v q n → r ≡ newer_of i v n → r ≡ first_newer i steps v q
    unfolding first_newer
    first_is first_at is = grind (arith, first_that_is)

    pub first_read_is : IsFirstNumber i (reads_only i steps) v q n → r ≡ newer_of i v n →
        r ≡ first_newer_read i steps v q
    unfolding first_newer_read
    first_read_is first_at is = grind (arith, first_that_is)

  -- past all guards there is none
  past_all : (v : Guard → ℕ) → newer_of i v (machine_count i + service_count i) ≡ None
  unfolding newer_of
  past_all v = grind (arith, le-ltb)

  module _ (steps : List Step) (t : VersionTable) (q : ℕ) (old : AreAtMost q t) where
    pub first_none : None ≡ first_newer i steps (version_in t) q
    first_none =
        first_is steps _ q _ None (all_old i (is_guard i steps) (version_in t) q _ old refl)
        (sym (past_all (version_in t)))

    pub first_read_none : None ≡ first_newer_read i steps (version_in t) q
    first_read_none =
        first_read_is steps _ q _ None (all_old i (reads_only i steps) (version_in t) q _ old refl)
        (sym (past_all (version_in t)))

module _ (i : Tables) (v : Guard → ℕ) (q : ℕ) where
  -- lowering by no guard, by one, and by those of two groups

  pub lower_none : (among : Guard → Type 0) (n : ℕ) → ((g : Guard) → among g → ⊥) → IsLower i v q among n n
  lower_none among n none = record {
    below = omega arith;
    each = λ g is. absurd (none g is);
    from = inl refl;
  }

  pub lower_one : (g : Guard) (before n number : ℕ) → IsKnown i g → number ≡ number_in (machine_count i) g →
      n ≡ lowered (v g) q number before → IsLower i v q (λ h. h ≡ g) before n
  unfolding lowered
  lower_one g before n number known count is = grind (arith, lt-ltb, le-ltb)

  pub lower_both : (one two both : Guard → Type 0) (a b c : ℕ) → AreBoth one two both → IsLower i v q one a b →
      IsLower i v q two b c → IsLower i v q both a c
  lower_both one two both a b c parts first second = record {
    below = omega (arith, first.below, second.below);
    each = λ g is newer. elim (parts.cases g is) [
      | inl is_one ↦ omega (arith, first.each g is_one newer, second.below)
      | inr is_two ↦ second.each g is_two newer
    ];
    from = ⊎_elim
        (λ (same : c ≡ b). ⊎_elim
        (λ (as_before : b ≡ a). inl (same ∙ as_before))
        (λ found. inr (found.0, parts.left found.0 found.1, found.2, found.3, same ∙ found.4))
        first.from)
        (λ found. inr (found.0, parts.right found.0 found.1, found.2, found.3, found.4))
        second.from;
  }

  -- two groups that hold of the same guards have the same lowest guard
  pub lower_same : (one other : Guard → Type 0) (a b : ℕ) → ((g : Guard) → one g → other g) →
      ((g : Guard) → other g → one g) → IsLower i v q one a b → IsLower i v q other a b
  lower_same one other a b into back lower = record {
    below = lower.below;
    each = λ g is newer. lower.each g (back g is) newer;
    from = ⊎_elim (λ (same : b ≡ a). inl same) (λ found. inr (found.0, into found.0 found.1, found.2, found.3, found.4))
        lower.from;
  }

  module _ (steps : List Step) (services : List Service) where
    -- services of a list, one after another

    pub listed_none : (n : ℕ) → IsLower i v q (IsReadIn i steps services 0) n n
    listed_none n =
        lower_none _ n (λ g is. absurd (omega (arith, is.1)))

    pub listed_more : (k : ℕ) (s : Service) (a b c : ℕ) → IsLower i v q (IsReadIn i steps services k) a b →
        s.0 ≡ service_at services k → IsLower i v q (IsReadOf i steps s.0) b c →
        IsLower i v q (IsReadIn i steps services (k + 1)) a c
    listed_more k s a b c before is here =
        lower_both _ _
        _ a b c (below_both (λ j. IsReadOf i steps (service_at services j)) k) before
        (subst (λ u. IsLower i v q (IsReadOf i steps u) b c) is here)

  module _ (steps : List Step) (n : ℕ) where
    pub read_more : (s a b c : ℕ) → IsLower i v q (IsReadBelow i steps n) a b → service_in i steps n ≡ s →
        IsLower i v q (IsReadBy i steps s) b c → IsLower i v q (IsReadBelow i steps (n + 1)) a c
    read_more s a b c before is here =
        lower_both _ _ _ a b
        c (below_both (λ j. IsReadBy i steps (service_in i steps j)) n) before
        (subst (λ u. IsLower i v q (IsReadBy i steps u) b c) (sym is) here)

    pub read_none : IsLower i v q (IsReadBelow i steps 0) n n
    read_none = grind (arith, lower_none)

    pub written_none : IsLower i v q (IsWrittenBelow i steps 0) n n
    written_none = grind (arith, lower_none)

    pub written_more : (a b c : ℕ) → IsLower i v q (IsWrittenBelow i steps n) a b →
        IsLower i v q (IsWrittenBy i steps n) b c → IsLower i v q (IsWrittenBelow i steps (n + 1)) a c
    written_more a b c before here = lower_both _ _
        _ a b c (below_both _ n) before here

  module _ (steps : List Step) (j : ℕ) where
    pub read_all : (all n : ℕ) → all ≡ machine_count i + service_count i → j ≡ length steps →
        IsLower i v q (IsReadBelow i steps j) all n → IsFirstNumber i (reads_only i steps) v q n
    read_all all n count every lower =
        first_number i _ v q (IsReadBelow i steps (length steps)) all n count
        (read_only_below i steps)
        (below_read_only i steps) (subst (λ k. IsLower i v q (IsReadBelow i steps k) all n) every lower)

    pub written_all : (a n : ℕ) → IsFirstNumber i (reads_only i steps) v q a → j ≡ length steps →
        IsLower i v q (IsWrittenBelow i steps j) a n → IsFirstNumber i (is_guard i steps) v q n
    written_all a n first every below =
        let lower : IsLower i v q (IsWrittenBelow i steps (length steps)) a n =
        subst (λ k. IsLower i v q (IsWrittenBelow i steps k) a n) every below in
        let found : n < machine_count i + service_count i → (is_guard i steps (guard_of (machine_count i) n) ≡ true)
        × (q < v (guard_of (machine_count i) n)) = λ within. ⊎_elim
        (λ (same : n ≡ a).
        let within_a : a < machine_count i + service_count i = omega arith in
        subst (λ k. (is_guard i steps (guard_of (machine_count i) k) ≡ true) × (q < v (guard_of (machine_count i) k)))
        (sym same) (guard_read_only i steps _ (first.passes within_a), first.newer within_a))
        (λ some. subst (λ (h : Guard). (is_guard i steps h ≡ true) × (q < v h))
        (sym (ap (guard_of (machine_count i)) some.4 ∙ guard_number i some.0 some.2))
        (guard_written i steps some.0 (below_written i steps some.0 some.1), some.3))
        lower.from in
        record {
          within = omega (arith, lower.below, first.within);
          least = λ g known guarded newer. elim (cases_Bool (writes i steps g)) [
            | inl written ↦ lower.each g (written_below i steps g written) newer
            | inr unwritten ↦ omega
                (arith, lower.below, first.least g known (unwritten_guard i steps g guarded unwritten) newer)
          ];
          passes = λ within. (found within).0;
          newer = λ within. (found within).1;
        }

  -- a service, as it is looked at

  service_lower : (s : Service) (machines before n : ℕ) → machines ≡ machine_count i → s.0 < service_count i →
      n ≡ lowered (v (guard.Service s)) q (machines + s.0) before → IsLower i v q (λ h. h ≡ guard.Service s) before n
  unfolding IsKnown number_in
  service_lower s machines before n count known is =
      lower_one _ before n _ known (omega arith) is

module _ (i : Tables) (steps : List Step) (v : Guard → ℕ) where
  module _ (q : ℕ) (s : Service) where
    pub service_kept : (machines before n : ℕ) → machines ≡ machine_count i → s.0 < service_count i →
        n ≡ lowered (v (guard.Service s)) q (machines + s.0) before → n ≡ before →
        IsLower i v q (IsReadOf i steps s.0) before before
    service_kept machines before n count known is same =
        let lower = service_lower i v q s machines before n count known is in
        record {
          below = omega arith;
          each = λ g of newer. omega (arith, lower.each g of.1 newer);
          from = inl refl;
        }

    pub service_written : (before : ℕ) → moves_service i steps s.0 ≡ true →
        IsLower i v q (IsReadOf i steps s.0) before before
    unfolding writes
    service_written before moves =
        lower_none i v q _ before
        (λ g of. both_ways (writes i steps (guard.Service s))
        (subst (λ (h : Guard). writes i steps h ≡ false) of.1 of.0)
        moves)

    pub service_lowered : (machines before n : ℕ) → machines ≡ machine_count i → s.0 < service_count i →
        n ≡ lowered (v (guard.Service s)) q (machines + s.0) before → moves_service i steps s.0 ≡ false →
        IsLower i v q (IsReadOf i steps s.0) before n
    unfolding writes
    service_lowered machines before n count known is stays =
        lower_same i v q (λ h. h ≡ guard.Service s) _ before n
        (λ g same. (subst (λ (h : Guard). writes i steps h ≡ false) (sym same) stays, same))
        (λ g of. of.1)
        (service_lower i v q s machines before n count known is)

  -- the guards that a step writes
  pub step_lowered : (q j : ℕ) (s : Step) (service : Service) (machines a b c d : ℕ) → AreWithin i steps →
      j < length steps → s ≡ step_at steps j → machines ≡ machine_count i → service.0 ≡ service_of i s.process.0 →
      service.0 < service_count i → b ≡ lowered (v (guard.Machine s.from)) q s.from.0 a →
      c ≡ lowered (v (guard.Machine s.to)) q s.to.0 b →
      d ≡ lowered (v (guard.Service service)) q (machines + service.0) c → IsLower i v q (IsWrittenBy i steps j) a d
  unfolding IsKnown number_in from_in to_in service_in process_in
  step_lowered q j s service machines a b c d within inside is count of known one two three =
      let left = lower_one i v q _ a b s.from.0 (rw is (within.from j inside)) refl one in
      let rest = lower_both i v q (λ h. h ≡ guard.Machine s.to) (λ h. h ≡ guard.Service service)
      (λ h. (h ≡ guard.Machine s.to) ⊎ (h ≡ guard.Service service)) b c d (record {
        left = λ g same. inl same;
        right = λ g same. inr same;
        cases = λ g either. either;
      }) (lower_one i v q _ b c s.to.0 (rw is (within.to j inside)) refl two)
      (service_lower i v q service machines c d count known three) in
      let from_is : guard.Machine s.from ≡ of_machine (from_in steps j) =
      ap (λ (t : Step). guard.Machine t.from) is in
      let to_is : guard.Machine s.to ≡ of_machine (to_in steps j) =
      ap (λ (t : Step). guard.Machine t.to) is in
      let service_is_in : guard.Service service ≡ of_service (service_in i steps j) =
      ap (λ (n : ℕ). of_service n) (of ∙ ap (λ (t : Step). service_of i t.process.0) is) in
      lower_both i v q (λ h. h ≡ guard.Machine s.from) (λ h. (h ≡ guard.Machine s.to) ⊎ (h ≡ guard.Service service))
      _ a b d
      (record {
        left = λ g same. inl (same ∙ from_is);
        right = λ g either. inr (⊎_elim (λ same. inl (same ∙ to_is)) (λ same. inr (same ∙ service_is_in)) either);
        cases = λ g by. elim by [
          | inl same ↦ inl (same ∙ sym from_is)
          | inr more ↦ inr (⊎_elim
              (λ (same : g ≡ of_machine (to_in steps j)). inl (same ∙ sym to_is))
              (λ (same : g ≡ of_service (service_in i steps j)). inr (same ∙ sym service_is_in))
              more)
        ];
      })
      left rest
