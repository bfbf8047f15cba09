-- Marks of the neighbourhoods of services, and the first broken dependency.
use Rattle.std.proofs.Common.{inl, inr, ◌≡◌, ℕ, zero, suc, ◌+◌, ◌<◌, ◌≢◌, true, false, Bool, not, cond, eqb, ltb, ◌||◌}
use Rattle.std.proofs.Common.{List, Option, length, get_or, set, Some, None, option_map, sym, refl, ap, ◌∙◌, ⊎_elim}
use Rattle.std.proofs.Common.{add-one, arith, length-set, get_or-set_other, get_or-set_same, eq-eqb, ne_eqb}
use Rattle.std.proofs.lemmas.Bool.{cases_eq, cases_Bool, cond-true, cond-false, or_right, lt-ltb, both_ways}
use Rattle.ra_base.specs.Sums.{is_named}
use Rattle.ra_base.specs.Searches.{first}
use Rattle.ra_base.specs.declared.ids.Machine.{Machine}
use Rattle.ra_base.specs.declared.ids.Process.{Process}
use Rattle.ra_base.specs.declared.ids.Service.{Service}
use Rattle.ra_base.specs.declared.causes.Cause.{Cause}
use Rattle.ra_base.specs.declared.causes.Cause.TheVariants.{Dependency}
use Rattle.ra_base.proofs.Named.{is_named_none, is_named_more, is_named_count}
use Rattle.ra_base.proofs.Searches.{first_same, first_map, first_some_at}
use Rattle.ra_model.specs.declared.raw.Tables.{Tables}
use Rattle.ra_model.specs.Limits.{WellFormed}
use Rattle.ra_model.specs.Numbers.{machine_count, service_count, neighbourhood_of, dependency_count, dependency_start}
use Rattle.ra_model.specs.Numbers.{need_of}
use Rattle.ra_model.specs.Assignments.{machine_at, IsAssignment}
use Rattle.ra_model.specs.Services.{in_neighbourhood}
use Rattle.ra_model.specs.Broken.{cause_if, near_of, far_test, dependency_test, pair_dependency}
use Rattle.ra_model.specs.Members.{member_at, members_of, AreProcessesOf, AreMembers}
use Rattle.ra_model.specs.PlaceLists.{PlaceLists}
use Rattle.ra_model.specs.Places.{AreFirst, ArePlaces}
use Rattle.ra_model.proofs.MemberLemmas.{members_at_is, members_first}
use Rattle.ra_model.proofs.PlaceLemmas.{place_test}
use Rattle.ra_check.specs.Stamps.{seat_of, site_of, holds_site, AreSeated, ArePlacesBelow, AreMarksBelow, AreSet}
use Rattle.ra_check.specs.Stamps.{TellTrue, far_seat}
use Rattle.ra_check.proofs.StampLemmas.{seated, placed, site_within}
use Rattle.ra_check.proofs.SpreadLemmas.{named_like}

-- no place yet, and one more
pub set_none : (marks : List ℕ) (stamp : ℕ) (e : ℕ → ℕ) → AreSet marks marks stamp (is_named 0 e)
set_none marks stamp e = record {
  one_each = refl;
  each = λ x within. sym (cond-false (is_named 0 e x) stamp (get_or marks x 0) (is_named_none e x));
}

named_other : (n : ℕ) (e : ℕ → ℕ) (x : ℕ) → e n ≢ x → is_named (n + 1) e x ≡ is_named n e x
named_other n e x apart = is_named_more n e x ∙ or_no (is_named n e x) (eqb (e n) x) (ne_eqb (e n) x apart)
  where
    or_no : (s t : Bool) → t ≡ false → (s || t) ≡ s
    or_no true t none = refl
    or_no false t none = none

pub set_more : (old marks : List ℕ) (stamp n x : ℕ) (e : ℕ → ℕ) → AreSet old marks stamp (is_named n e) →
    x < length old → x ≡ e n → AreSet old (set marks x stamp) stamp (is_named (n + 1) e)
set_more old marks stamp n x e h within is = record {
  one_each = length-set marks x stamp ∙ h.one_each;
  each = λ y inside. ⊎_elim
      (λ (here : y ≡ x). ap (λ k. get_or (set marks x stamp) k 0) here
      ∙ get_or-set_same marks x stamp 0 (omega (arith, h.one_each))
      ∙ sym (cond-true (is_named (n + 1) e y) stamp (get_or old y 0) (is_named_more n e y
      ∙ or_right (is_named n e y) (eqb (e n) y) (eq-eqb (e n) y (sym (here ∙ is))))))
      (λ (apart : y ≢ x). get_or-set_other marks x y stamp 0 apart ∙ h.each y inside
      ∙ ap (λ t. cond t stamp (get_or old y 0)) (sym (named_other n e y (λ s. apart (sym s ∙ sym is)))))
      (cases_eq y x);
}

pub ruleset setting = (set_none, set_more, site_within)

-- clear marks tell the truth
pub true_clear : (members : List (List Process)) (places a : List Machine) (size : ℕ) (marks : List ℕ) →
    AreMarksBelow marks size 1 → TellTrue members places a size marks 0
true_clear members places a size marks h = record {
  one_each = h.one_each;
  sound = λ x u within is. absurd (omega (arith, h.below x within));
  whole = λ x u within is. absurd (omega arith);
}

-- with the places of one service stamped they still do
pub true_set : (members : List (List Process)) (places a : List Machine) (size last : ℕ) (old new : List ℕ)
    (u stamp : ℕ) → TellTrue members places a size old last → stamp ≡ u + 1 →
    AreSet old new stamp (holds_site places a (members_of members u)) → TellTrue members places a size new stamp
true_set members places a size last old new u stamp h is_stamp h_set = record {
  one_each = h_set.one_each ∙ h.one_each;
  sound = λ x w within is. elim (cases_Bool (holds_site places a (members_of members u) x)) [
    | inl here ↦
        let value : get_or new x 0 ≡ stamp = h_set.each x (omega (arith, h.one_each))
        ∙ cond-true (holds_site places a (members_of members u) x) stamp (get_or old x 0) here in
        let same : u ≡ w = omega arith in
        cc
    | inr none ↦ let value : get_or new x 0 ≡ get_or old x 0 = h_set.each x (omega (arith, h.one_each))
        ∙ cond-false (holds_site places a (members_of members u) x) stamp (get_or old x 0) none in
        h.sound x w within (sym value ∙ is)
  ];
  whole = λ x w within is held.
      let same : w ≡ u = omega arith in
      let here : holds_site places a (members_of members u) x ≡ true =
      cc in
      h_set.each x (omega (arith, h.one_each)) ∙ cond-true (holds_site places a (members_of members u) x) stamp
      (get_or old x 0) here ∙ is;
}

-- the mark of the service that was stamped last is exactly at its places
stamp_test : {members : List (List Process)} {places a : List Machine} {size last : ℕ} {marks : List ℕ} (u x : ℕ) →
    TellTrue members places a size marks last → last ≡ u + 1 → x < size →
    eqb (get_or marks x 0) (u + 1) ≡ holds_site places a (members_of members u) x
stamp_test {members} {places} {a} {marks} u x h is_last within =
    elim (cases_Bool (holds_site places a (members_of members u) x)) [
      | inl here ↦
          eq-eqb (get_or marks x 0) (u + 1) (h.whole x u within (is_last ∙ add-one u) here ∙ sym (add-one u))
          ∙ sym here
      | inr none ↦ ne_eqb (get_or marks x 0) (u + 1)
          (λ same. both_ways (holds_site places a (members_of members u) x) none
          (h.sound x u within (same ∙ add-one u))) ∙ sym none
    ]

-- the machine of a process that is found far, and none if all are near
pub far_yes : (marks : List ℕ) (stamp : ℕ) (places a : List Machine) (processes : List Process) (k : ℕ) (m : Machine)
    (place : ℕ) → place ≡ site_of places a processes k → m.0 ≡ seat_of a processes k →
    eqb (get_or marks place 0) stamp ≡ false → far_seat marks stamp places a processes k ≡ Some m
unfolding far_seat
far_yes marks stamp places a processes k m place is_place is_seat apart =
    cond-false (eqb (get_or marks (site_of places a processes k) 0) stamp) None
    (Some (record { 0 = seat_of a processes k })) (cc)
    ∙ ap (λ n. Some (record { 0 = n })) (sym is_seat)

pub far_no : (marks : List ℕ) (stamp : ℕ) (places a : List Machine) (processes : List Process) (k place : ℕ) →
    place ≡ site_of places a processes k → eqb (get_or marks place 0) stamp ≡ true →
    far_seat marks stamp places a processes k ≡ None
unfolding far_seat
far_no marks stamp places a processes k place is_place same =
    cond-true (eqb (get_or marks (site_of places a processes k) 0) stamp) None
    (Some (record { 0 = seat_of a processes k })) (cc)

far_means : (marks : List ℕ) (stamp : ℕ) (places a : List Machine) (processes : List Process) (k : ℕ) (m : Machine) →
    far_seat marks stamp places a processes k ≡ Some m → m.0 ≡ seat_of a processes k
unfolding far_seat
far_means marks stamp places a processes k m found =
    chosen (eqb (get_or marks (site_of places a processes k) 0) stamp) (record { 0 = seat_of a processes k }) m found
  where
    chosen : (t : Bool) (n m : Machine) → cond t None (Some n) ≡ Some m → m.0 ≡ n.0
    chosen true n m found = cc
    chosen false n m found = let same : n ≡ m = cc in cc

pub ruleset far_seats = (far_yes, far_no, site_within)

-- a needed service has a process near exactly if its mark is there
near_named : {i : Tables} {u : ℕ} {processes : List Process} (a : List Machine) (label : ℕ) →
    AreProcessesOf i u processes →
    ltb 0 (in_neighbourhood i a u label) ≡ is_named (length processes) (λ k. neighbourhood_of i (seat_of a processes k))
    label
unfolding in_neighbourhood seat_of
near_named {i} {u} {processes} a label h =
    ap (λ n. ltb 0 n) (members_at_is i a u processes (λ p at. eqb (neighbourhood_of i at) label) h)
    ∙ is_named_count (length processes) (λ k. neighbourhood_of i (machine_at a (member_at processes k))) label

site_near : {i : Tables} {a places : List Machine} {u size : ℕ} {processes own : List Process} (j : ℕ) →
    AreProcessesOf i u processes → AreSeated a processes size → AreSeated a own size →
    AreFirst (neighbourhood_of i) size places → j < length own →
    holds_site places a processes (site_of places a own j) ≡
    ltb 0 (in_neighbourhood i a u (neighbourhood_of i (seat_of a own j)))
unfolding holds_site site_of
site_near {i} {a} {places} {size} {processes} {own} j h seats own_seats first within =
    named_like (length processes) (site_of places a processes) (λ k. neighbourhood_of i (seat_of a processes k))
    (site_of places a own j) (neighbourhood_of i (seat_of a own j))
    (λ k below. place_test (neighbourhood_of i) size (seat_of a processes k) (seat_of a own j) places first
    (seats.within k below) (own_seats.within j within))
    ∙ sym (near_named a (neighbourhood_of i (seat_of a own j)) h)

zero_test : (n : ℕ) → eqb n 0 ≡ not (ltb 0 n)
zero_test zero = refl
zero_test (suc n) = ne_eqb (suc n) 0 (λ e. omega arith) ∙ ap not (sym (lt-ltb 0 (suc n) (omega arith)))

-- what is said of a machine that is far
cause_at : Tables → ℕ → ℕ → Machine → Cause
cause_at i s u m = Dependency (record { 0 = s }) (record { 0 = u }) (neighbourhood_of i m.0)

far_mapped : (i : Tables) (s u : ℕ) (m : Machine) (t : Bool) → cause_if (not t) (cause_at i s u m) ≡
    option_map (cause_at i s u) (cond t None (Some m))
unfolding cause_if
far_mapped i s u m true = refl
far_mapped i s u m false = refl

far_is : {i : Tables} {a : List Machine} {places : PlaceLists} {members : List
    (List Process)} {marks : List ℕ} {size last : ℕ} (s k j : ℕ) → IsAssignment i a → AreMembers members i →
    ArePlaces places i → s < service_count i →
    need_of i s k < service_count i → size ≡ machine_count i →
    TellTrue members places.neighbourhoods a size marks last → last ≡ need_of i s k + 1 →
    j < length (members_of members s) → far_test i a s k (member_at (members_of members s) j) ≡
    option_map (cause_at i s (need_of i s k))
    (far_seat marks (need_of i s k + 1) places.neighbourhoods a (members_of members s) j)
unfolding far_test near_of far_seat cause_at seat_of
far_is {i} {a} {places} {members} {marks} {size} s k j assigned are placed_all within need_in same truth is_last
    below =
    let u = need_of i s k in
    let own = members_of members s in
    let m : Machine = record { 0 = seat_of a own j } in
    let own_seats = seated i a members s size assigned are within same in
    let firsts : AreFirst (neighbourhood_of i) size places.neighbourhoods = rw same placed_all.neighbourhoods in
    let test : eqb (get_or marks (site_of places.neighbourhoods a own j) 0) (u + 1) ≡
    ltb 0 (in_neighbourhood i a u (neighbourhood_of i (seat_of a own j))) =
    stamp_test u (site_of places.neighbourhoods a own j) truth is_last
    (site_within places.neighbourhoods a own size j own_seats
    (placed (neighbourhood_of i) size places.neighbourhoods firsts) below)
    ∙ site_near j (are.each u need_in) (seated i a members u size assigned are need_in same) own_seats
    firsts below in
    cc (
      zero_test (in_neighbourhood i a u (neighbourhood_of i (seat_of a own j))),
      far_mapped i s u m (eqb
          (get_or marks (site_of places.neighbourhoods a own j) 0) (u + 1)),
    )

pair_is : {i : Tables} {a : List Machine} {places : PlaceLists} {members : List
    (List Process)} {marks : List ℕ} {size last : ℕ} (s k : ℕ) → IsAssignment i a → AreMembers members i →
    ArePlaces places i → s < service_count i →
    need_of i s k < service_count i → size ≡ machine_count i →
    TellTrue members places.neighbourhoods a size marks last → last ≡ need_of i s k + 1 →
    pair_dependency i a s k ≡ option_map (cause_at i s (need_of i s k))
    (first (length (members_of members s))
    (far_seat marks (need_of i s k + 1) places.neighbourhoods a (members_of members s)))
unfolding pair_dependency dependency_test
pair_is {i} {a} {places} {members} {marks} s k assigned are placed_all within need_in same truth is_last =
    let own = members_of members s in
    let far = far_seat marks (need_of i s k + 1) places.neighbourhoods a own in
    sym (members_first i s own (far_test i a s k) (are.each s within))
    ∙ first_same (length own) (λ j. far_test i a s k (member_at own j))
    (λ j. option_map (cause_at i s (need_of i s k)) (far j))
    (λ j below. far_is s k j assigned are placed_all within need_in same truth
    is_last below)
    ∙ first_map (length own) (cause_at i s (need_of i s k)) far

-- what the search over the processes of a service found, or that it found none
pub pair_found : {i : Tables} {a : List Machine} {places : PlaceLists} {members : List (List Process)} {marks : List ℕ}
    {size last : ℕ} {found : Option Machine} (s k : ℕ) (needs : Service) → IsAssignment i a → AreMembers members i →
    ArePlaces places i → s < service_count i → needs.0 ≡ need_of i s k → need_of i s k < service_count i →
    size ≡ machine_count i → TellTrue members places.neighbourhoods a size marks last → last ≡ needs.0 + 1 →
    found ≡ first (length (members_of members s))
    (far_seat marks (needs.0 + 1) places.neighbourhoods a (members_of members s)) →
    pair_dependency i a s k ≡ option_map (λ (m : Machine). Dependency (record { 0 = s }) needs (neighbourhood_of i m.0))
    found
unfolding cause_at
pair_found {i} {a} {places} {members} {marks} s k needs assigned are placed_all within is need_in same truth is_last
    found =
    pair_is s k assigned are placed_all within need_in same truth (cc)
    ∙ ap (λ u. option_map (λ (n : Machine). Dependency (record { 0 = s }) (record { 0 = u }) (neighbourhood_of i n.0))
    (first (length (members_of members s))
    (far_seat marks (u + 1) places.neighbourhoods a (members_of members s)))) (sym is)
    ∙ ap (λ o. option_map (λ (n : Machine). Dependency (record { 0 = s }) needs (neighbourhood_of i n.0)) o) (sym found)

-- a needed service is one of the instance
pub need_within : (i : Tables) (s k : ℕ) → WellFormed i → s < service_count i → k < dependency_count i s →
    need_of i s k < service_count i
unfolding need_of dependency_count
need_within i s k formed within below =
    formed.needs (dependency_start i s + k) (omega (arith, formed.in_order s within, formed.within s within))

-- the places of an instance are below its number of machines
pub placed_neighbourhoods : (i : Tables) (places : PlaceLists) (size : ℕ) → ArePlaces places i →
    size ≡ machine_count i → ArePlacesBelow places.neighbourhoods size
placed_neighbourhoods i places size are same = record {
  one_each = are.neighbourhoods.one_each ∙ sym same;
  within = λ m within.
      omega (
        arith,
        (placed (neighbourhood_of i) (machine_count i) places.neighbourhoods are.neighbourhoods).within m
            (omega arith),
      );
}

-- a machine that is found far is one of the instance
pub far_within : (marks : List ℕ) (stamp size : ℕ) (places a : List Machine) (processes : List Process) (m : Machine) →
    AreSeated a processes size → Some m ≡ first (length processes) (far_seat marks stamp places a processes) →
    m.0 < size
far_within marks stamp size places a processes m seated found =
    let at = first_some_at (length processes) (far_seat marks stamp places a processes) m (sym found) in
    omega (arith, far_means marks stamp places a processes at.0 m at.2, seated.within at.0 at.1)

pub ruleset pairs = (need_within, seated, placed_neighbourhoods)
