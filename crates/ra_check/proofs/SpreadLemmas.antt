-- The number of locations of a service, and the first service in too few.
use Rattle.std.proofs.Common.{◌≡◌, ℕ, zero, suc, ◌+◌, ◌^◌, ◌<◌, ◌≤◌, true, false, not, cond, eqb, ltb, List, length}
use Rattle.std.proofs.Common.{get_or, Some, None, sym, refl, ap, ap₂, ◌∙◌, arith}
use Rattle.std.proofs.lemmas.Bool.{lt-ltb, le-ltb, cond-true, cond-false}
use Rattle.ra_base.specs.Sums.{one_if, count, is_named, fresh}
use Rattle.ra_base.specs.declared.ids.Machine.{Machine}
use Rattle.ra_base.specs.declared.ids.Process.{Process}
use Rattle.ra_base.specs.declared.causes.Cause.TheVariants.{Spread}
use Rattle.ra_base.proofs.Sums.{total_same}
use Rattle.ra_base.proofs.Counts.{count_le}
use Rattle.ra_base.proofs.Named.{is_named_none, is_named_count, count_named, count_named_more, count_named_none}
use Rattle.ra_model.specs.declared.raw.Tables.{Tables}
use Rattle.ra_model.specs.Limits.{WellFormed, Small}
use Rattle.ra_model.specs.Numbers.{machine_count, service_count, process_count, location_of, spread_of}
use Rattle.ra_model.specs.Assignments.{machine_at, IsAssignment}
use Rattle.ra_model.specs.Services.{in_location, locations_of, is_of}
use Rattle.ra_model.specs.Broken.{cause_if, spread_test}
use Rattle.ra_model.specs.Members.{member_at, members_of, AreProcessesOf, AreMembers}
use Rattle.ra_model.specs.PlaceLists.{PlaceLists}
use Rattle.ra_model.specs.Places.{AreFirst, ArePlaces}
use Rattle.ra_model.proofs.MemberLemmas.{members_at_is, members_length}
use Rattle.ra_model.proofs.PlaceLemmas.{place_test}
use Rattle.ra_check.specs.Stamps.{seat_of, site_of, holds_site, AreSeated, ArePlacesBelow, AreStamped}
use Rattle.ra_check.proofs.StampLemmas.{below_grows, below_set, stamped_none, stamped_more, seated, placed}

-- a name among the first n, at two lists of names whose tests agree
pub named_like : (n : ℕ) (e f : ℕ → ℕ) (x y : ℕ) → ((k : ℕ) → k < n → eqb (e k) x ≡ eqb (f k) y) →
    is_named n e x ≡ is_named n f y
unfolding is_named
named_like zero e f x y alike = refl
named_like (suc n) e f x y alike = cc (named_like n e f x y (λ k h. alike k (omega arith)), alike n (omega arith))

-- as many different names
pub count_like : (size many n : ℕ) (e f : ℕ → ℕ) → ((k : ℕ) → k < n → e k < size) → ((k : ℕ) → k < n → f k < many) →
    ((j k : ℕ) → j < n → k < n → eqb (e j) (e k) ≡ eqb (f j) (f k)) →
    count size (is_named n e) ≡ count many (is_named n f)
unfolding fresh
count_like size many n e f e_in f_in alike =
    count_named size n e e_in
    ∙ total_same n (fresh e (λ m. 1)) (fresh f (λ m. 1))
    (λ k h. ap (λ t. cond t 0 1) (named_like k e f (e k) (f k) (λ j before. alike j k (omega arith) h)))
    ∙ sym (count_named many n f f_in)

-- the first place, and one more
pub sites_new : (marks : List ℕ) (size stamp n x : ℕ) (e : ℕ → ℕ) → AreStamped marks size stamp n e → x < size →
    x ≡ e n → eqb (get_or marks x 0) stamp ≡ false → count size (is_named (n + 1) e) ≡ count size (is_named n e) + 1
sites_new marks size stamp n x e stamped within is new =
    let not_yet : is_named n e (e n) ≡ false = cc (stamped.exactly x within) in
    count_named_more size n e (omega arith) ∙ ap (λ t. count size (is_named n e) + one_if (not t)) not_yet

pub sites_old : (marks : List ℕ) (size stamp n x : ℕ) (e : ℕ → ℕ) → AreStamped marks size stamp n e → x < size →
    x ≡ e n → eqb (get_or marks x 0) stamp ≡ true → count size (is_named (n + 1) e) ≡ count size (is_named n e)
sites_old marks size stamp n x e stamped within is old =
    let already : is_named n e (e n) ≡ true = cc (stamped.exactly x within) in
    omega (arith, count_named_more size n e (omega arith), ap (λ t. one_if (not t)) already)

pub ruleset spreading = (count_named_none, sites_new, sites_old, stamped_none, stamped_more, below_grows, below_set)

-- the processes of a service are in as many locations as their places are different
named_in_location : {i : Tables} {s : ℕ} {processes : List Process} (a : List Machine) (label : ℕ) →
    AreProcessesOf i s processes → ltb 0 (in_location i a s label) ≡ is_named (length processes)
    (λ k. location_of i (seat_of a processes k)) label
unfolding in_location seat_of
named_in_location {i} {s} {processes} a label h =
    ap (λ n. ltb 0 n) (members_at_is i a s processes (λ p at. eqb (location_of i at) label) h)
    ∙ is_named_count (length processes) (λ k. location_of i (machine_at a (member_at processes k))) label

locations_are : {i : Tables} {a : List Machine} {s size : ℕ} {processes : List Process} {places : List Machine} →
    Small i → AreProcessesOf i s processes → AreSeated a processes size → AreFirst (location_of i) size places →
    count size (holds_site places a processes) ≡ locations_of i a s
unfolding locations_of holds_site site_of
locations_are {i} {a} {s} {size} {processes} {places} small h seated first =
    count_like size (2 ^ 32) (length processes) (site_of places a processes)
    (λ k. location_of i (seat_of a processes k))
    (λ k within. (placed (location_of i) size places first).within (seat_of a processes k) (seated.within k within))
    (λ k within. small.locations (seat_of a processes k))
    (λ j k j_in k_in. place_test (location_of i) size (seat_of a processes j) (seat_of a processes k) places first
    (seated.within j j_in) (seated.within k k_in))
    ∙ total_same (2 ^ 32) (λ x. one_if (is_named (length processes) (λ k. location_of i (seat_of a processes k)) x))
    (λ x. one_if (ltb 0 (in_location i a s x)))
    (λ x within. ap one_if (sym (named_in_location a x h)))

-- a service has no more processes than there are
pub few_members : (i : Tables) (members : List (List Process)) (s : ℕ) → WellFormed i → AreMembers members i →
    s < service_count i → length (members_of members s) < 2 ^ 32
few_members i members s formed are within =
    omega (
      arith,
      members_length i s (members_of members s) (are.each s within),
      count_le (process_count i) (is_of i s),
      formed.few_processes,
    )

counted : (i : Tables) (a : List Machine) (s size has : ℕ) (members : List (List Process)) (places : PlaceLists) →
    Small i → IsAssignment i a → AreMembers members i → ArePlaces places i → s < service_count i →
    size ≡ machine_count i → has ≡ count size (holds_site places.locations a (members_of members s)) →
    has ≡ locations_of i a s
counted i a s size has members places small assigned are placed within same is =
    cc (locations_are small (are.each s within) (seated i a members s
    (machine_count i) assigned are within refl) placed.locations)

pub spread_some : (i : Tables) (a : List Machine) (s size has wants : ℕ) (members : List (List Process))
    (places : PlaceLists) → Small i → IsAssignment i a → AreMembers members i → ArePlaces places i →
    s < service_count i → size ≡ machine_count i →
    has ≡ count size (holds_site places.locations a (members_of members s)) → wants ≡ spread_of i s → has < wants →
    spread_test i a s ≡ Some (Spread (record { 0 = s }) has wants)
unfolding cause_if spread_test
spread_some i a s size has wants members places small assigned are placed within same is wanted fewer =
    (ap₂ (λ h w. cause_if (ltb h w) (Spread (record { 0 = s }) h w)) (sym
    (counted i a s size has members places small assigned are placed within same is)) (sym wanted))
    ∙ cond-true (ltb has wants) (Some (Spread (record { 0 = s }) has wants)) None (lt-ltb has wants fewer)

pub spread_none : (i : Tables) (a : List Machine) (s size has wants : ℕ) (members : List (List Process))
    (places : PlaceLists) → Small i → IsAssignment i a → AreMembers members i → ArePlaces places i →
    s < service_count i → size ≡ machine_count i →
    has ≡ count size (holds_site places.locations a (members_of members s)) → wants ≡ spread_of i s → wants ≤ has →
    spread_test i a s ≡ None
unfolding cause_if spread_test
spread_none i a s size has wants members places small assigned are placed within same is wanted enough =
    (ap₂ (λ h w. cause_if (ltb h w) (Spread (record { 0 = s }) h w)) (sym
    (counted i a s size has members places small assigned are placed within same is)) (sym wanted))
    ∙ cond-false (ltb has wants) (Some (Spread (record { 0 = s }) has wants)) None (le-ltb has wants enough)

-- the places of an instance are below its number of machines
pub placed_locations : (i : Tables) (places : PlaceLists) (size : ℕ) → ArePlaces places i → size ≡ machine_count i →
    ArePlacesBelow places.locations size
placed_locations i places size are same = record {
  one_each = are.locations.one_each ∙ sym same;
  within = λ m within.
      omega (arith, (placed (location_of i) (machine_count i) places.locations are.locations).within m (omega arith));
}

pub ruleset spreads = (few_members, seated, placed_locations, spread_some, spread_none)
