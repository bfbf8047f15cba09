-- The first machine with two processes of a service, and the first conflict.
use Rattle.std.proofs.Common.{inl, inr, ◌≡◌, ℕ, ◌+◌, ◌<◌, ◌≤◌, ◌≢◌, true, false, Bool, cond, eqb, ltb, List, length}
use Rattle.std.proofs.Common.{get_or, Option, Some, None, option_map, sym, refl, ap, ◌∙◌, ⊎_elim, arith, eq-eqb, ne_eqb}
use Rattle.std.proofs.lemmas.Bool.{cases_lt, cases_eq, cond-true, cond-false, lt-ltb, le-ltb, ltb-true, ltb-false}
use Rattle.ra_base.specs.Sums.{count}
use Rattle.ra_base.specs.Searches.{first}
use Rattle.ra_base.specs.declared.ids.Machine.{Machine}
use Rattle.ra_base.specs.declared.ids.Process.{Process}
use Rattle.ra_base.specs.declared.causes.Cause.TheVariants.{Conflict}
use Rattle.ra_base.proofs.Counts.{count_none, count_yes, count_no}
use Rattle.ra_base.proofs.Named.{is_named_count}
use Rattle.ra_base.proofs.Searches.{first_none_from, first_none_at, first_found, first_some_at, first_same, first_map}
use Rattle.ra_model.specs.declared.raw.Tables.{Tables}
use Rattle.ra_model.specs.Numbers.{machine_count, service_count}
use Rattle.ra_model.specs.Assignments.{machine_at}
use Rattle.ra_model.specs.Services.{on_machine}
use Rattle.ra_model.specs.Broken.{cause_if, conflict_test, service_conflict}
use Rattle.ra_model.specs.Members.{member_at, members_of, AreProcessesOf, AreMembers}
use Rattle.ra_model.proofs.MemberLemmas.{members_at_is}
use Rattle.ra_check.specs.Stamps.{seat_of, AreStamped, crowd_test, least_with}
use Rattle.ra_check.proofs.StampLemmas.{below_grows, below_set, stamped_none, stamped_more, seated}

crowd_yes : (e : ℕ → ℕ) (n m : ℕ) → 1 < count n (λ k. eqb (e k) m) → crowd_test e n m ≡ Some (record { 0 = m })
unfolding crowd_test
crowd_yes e n m many = cond-true (ltb 1 (count n (λ k. eqb (e k) m))) (Some (record { 0 = m })) None
    (lt-ltb 1 (count n (λ k. eqb (e k) m)) many)

crowd_no : (e : ℕ → ℕ) (n m : ℕ) → count n (λ k. eqb (e k) m) ≤ 1 → crowd_test e n m ≡ None
unfolding crowd_test
crowd_no e n m few = cond-false (ltb 1 (count n (λ k. eqb (e k) m))) (Some (record { 0 = m })) None
    (le-ltb 1 (count n (λ k. eqb (e k) m)) few)

crowd_means : (e : ℕ → ℕ) (n m : ℕ) (p : Machine) → crowd_test e n m ≡ Some p → p ≡ record { 0 = m }
crowd_means e n m p is = elim (cases_lt 1 (count n (λ k. eqb (e k) m))) [
  | inl many ↦ let found =
      crowd_yes e n m many in cc
  | inr few ↦ let none = crowd_no e n m few in cc
]

crowd_same : (e : ℕ → ℕ) (n m : ℕ) → m ≢ e n → crowd_test e (n + 1) m ≡ crowd_test e n m
unfolding crowd_test
crowd_same e n m apart = ap (λ v. cond (ltb 1 v) (Some (record { 0 = m })) None)
    (count_no n (λ k. eqb (e k) m) (ne_eqb (e n) m (λ s. apart (sym s))))

-- one machine more, if it was there before
first_again : (n : ℕ) (f g : ℕ → Option Machine) (m : Machine) (o : Option Machine) → m.0 < n → g m.0 ≡ Some m →
    ((x : ℕ) → x ≢ m.0 → g x ≡ f x) → ((x : ℕ) (p : Machine) → f x ≡ Some p → p ≡ record { 0 = x }) → first n f ≡ o →
    least_with o true m ≡ first n g
unfolding least_with
first_again n f g m None within here same means none =
    sym (first_found m.0 n g m within
    (first_none_from m.0 g (λ x h. same x (omega arith) ∙ first_none_at x n f (omega arith) none)) here)
first_again n f g m (Some p) within here same means found =
    let at = first_some_at n f p found in
    let is : p.0 ≡ at.0 = cc (means at.0 p at.2) in
    let nones = λ (x : ℕ) (before : x < at.0). first_none_at x at.0 f before at.3 in
    ⊎_elim
    (λ (earlier : m.0 < p.0). cond-true (ltb m.0 p.0) (Some m) (Some p) (lt-ltb m.0 p.0 earlier)
    ∙ sym (first_found m.0 n g m within
    (first_none_from m.0 g (λ x h. same x (omega arith) ∙ nones x (omega arith))) here))
    (λ (later : p.0 ≤ m.0). cond-false (ltb m.0 p.0) (Some m) (Some p) (le-ltb m.0 p.0 later)
    ∙ sym (first_found at.0 n g p at.1 (first_none_from at.0 g (λ x h. same x (omega arith) ∙ nones x h))
    (found_at n f g m p at.0 here same is at.2)))
    (cases_lt m.0 p.0)
  where
    found_at : (n : ℕ) (f g : ℕ → Option Machine) (m p : Machine) (i : ℕ) → g m.0 ≡ Some m →
        ((x : ℕ) → x ≢ m.0 → g x ≡ f x) → p.0 ≡ i → f i ≡ Some p → g i ≡ Some p
    found_at n f g m p i here same is there = ⊎_elim
        (λ (one : i ≡ m.0). ap g one ∙ here ∙ ap (λ k. Some (record { 0 = k })) (sym one ∙ sym is))
        (λ (two : i ≢ m.0). same i two ∙ there)
        (cases_eq i m.0)

pub crowd_none : (size : ℕ) (e : ℕ → ℕ) → first size (crowd_test e 0) ≡ None
crowd_none size e =
    first_none_from size (crowd_test e 0) (λ m h. crowd_no e 0 m (omega (arith, count_none (λ k. eqb (e k) m))))

more_by : {again : Bool} (size n : ℕ) (e : ℕ → ℕ) (m : Machine) → m.0 ≡ e n → m.0 < size →
    again ≡ ltb 0 (count n (λ k. eqb (e k) m.0)) → least_with (first size (crowd_test e n)) again m ≡
    first size (crowd_test e (n + 1))
unfolding least_with
more_by {again = true} size n e m is within before =
    let many : 0 < count n (λ k. eqb (e k) m.0) = ltb-true 0 (count n (λ k. eqb (e k) m.0)) (sym before) in
    first_again size (crowd_test e n) (crowd_test e (n + 1)) m (first size (crowd_test e n)) within
    (crowd_yes e (n + 1) m.0 (omega (arith, many, count_yes n (λ k. eqb (e k) m.0) (eq-eqb (e n) m.0 (sym is)))))
    (λ x apart. crowd_same e n x (λ s. apart (s ∙ sym is)))
    (crowd_means e n)
    refl
more_by {again = false} size n e m is within before =
    let none : count n (λ k. eqb (e k) m.0) ≤ 0 = ltb-false 0 (count n (λ k. eqb (e k) m.0)) (sym before) in
    first_same size (crowd_test e n) (crowd_test e (n + 1)) (λ x h. ⊎_elim
    (λ (here : x ≡ m.0).
    rw here (crowd_no e n m.0 (omega arith)
    ∙ sym (crowd_no e (n + 1) m.0
    (omega (arith, none, count_yes n (λ k. eqb (e k) m.0) (eq-eqb (e n) m.0 (sym is)))))))
    (λ (apart : x ≢ m.0). sym (crowd_same e n x (λ s. apart (s ∙ sym is))))
    (cases_eq x m.0))

-- one process more
pub crowd_more : (marks : List ℕ) (size stamp n : ℕ) (e : ℕ → ℕ) (m : Machine) (again : Bool) (least : Option Machine) →
    AreStamped marks size stamp n e → m.0 ≡ e n → m.0 < size → again ≡ eqb (get_or marks m.0 0) stamp →
    least ≡ first size (crowd_test e n) → least_with least again m ≡ first size (crowd_test e (n + 1))
crowd_more marks size stamp n e m again least stamped is within before so_far =
    cc (more_by size n e m is within (before ∙ stamped.exactly m.0 within ∙ sym (is_named_count n e m.0)))

pub ruleset crowds = (crowd_none, crowd_more, stamped_none, stamped_more, below_grows, below_set)

mapped : (t : Bool) (s m : ℕ) → cause_if t (Conflict (record { 0 = s }) (record { 0 = m })) ≡
    option_map (λ n. Conflict (record { 0 = s }) n) (cond t (Some (record { 0 = m })) None)
unfolding cause_if
mapped true s m = refl
mapped false s m = refl

-- the conflict of a service is its first machine with two of its processes
conflict_is : {i : Tables} {s : ℕ} {processes : List Process} (a : List Machine) → AreProcessesOf i s processes →
    service_conflict i a s ≡ option_map (λ m. Conflict (record { 0 = s }) m)
    (first (machine_count i) (crowd_test (seat_of a processes) (length processes)))
unfolding service_conflict conflict_test on_machine crowd_test seat_of
conflict_is {i} {s} {processes} a h =
    first_same (machine_count i) (conflict_test i a s)
    (λ m. option_map (λ n. Conflict (record { 0 = s }) n) (crowd_test (seat_of a processes) (length processes) m))
    (λ m within. ap (λ v. cause_if (ltb 1 v) (Conflict (record { 0 = s }) (record { 0 = m })))
    (members_at_is i a s processes (λ p at. eqb at m) h)
    ∙ mapped (ltb 1 (count (length processes) (λ k. eqb (machine_at a (member_at processes k)) m))) s m)
    ∙ first_map (machine_count i) (λ m. Conflict (record { 0 = s }) m)
    (crowd_test (seat_of a processes) (length processes))

pub conflict_some : (i : Tables) (a : List Machine) (s size : ℕ) (members : List (List Process)) (m : Machine) →
    AreMembers members i → s < service_count i → size ≡ machine_count i →
    Some m ≡ first size (crowd_test (seat_of a (members_of members s)) (length (members_of members s))) →
    service_conflict i a s ≡ Some (Conflict (record { 0 = s }) m)
conflict_some i a s size members m are within same found =
    cc (conflict_is a (are.each s within))

pub conflict_none : (i : Tables) (a : List Machine) (s size : ℕ) (members : List (List Process)) →
    AreMembers members i → s < service_count i → size ≡ machine_count i →
    None ≡ first size (crowd_test (seat_of a (members_of members s)) (length (members_of members s))) →
    service_conflict i a s ≡ None
conflict_none i a s size members are within same none =
    cc (conflict_is a (are.each s within))

pub ruleset conflicts = (conflict_some, conflict_none, seated)
