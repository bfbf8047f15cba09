-- What the numbers that were found say of each test.
use Rattle.std.proofs.lemmas.Grind.{common_steps}
use Rattle.std.proofs.Common.{◌≡◌, ◌≢◌, ℕ, zero, suc, ◌<◌, ◌≤◌, Bool, true, false, cond, List, length, get_or, Option}
use Rattle.std.proofs.Common.{Some, None, refl, sym, ap, ◌∙◌, arith, lt-ltb, le-ltb, ne_eqb, eq-eqb}
use Rattle.std.proofs.lemmas.Bool.{and_from, and_left, and_right}
use Rattle.std.proofs.Math.ListN.{get_or-map}
use Rattle.std.proofs.lemmas.List.{length-map}
use Rattle.ra_base.specs.declared.ids.Service.{Service}
use Rattle.ra_base.specs.declared.causes.Cause.{Cause}
use Rattle.ra_base.specs.declared.causes.Cause.TheVariants.{Capacity, Transient, Conflict, Spread, Dependency}
use Rattle.ra_model.specs.declared.raw.Tables.{Tables}
use Rattle.ra_model.specs.Numbers.{service_row, service_count}
use Rattle.ra_model.specs.Numbers.{dependency_count, dependency_start, dependency_end, transient_at, capacity_of}
use Rattle.ra_model.specs.Numbers.{spread_of, need_of, need_at, neighbourhood_of, service_weight_of}
use Rattle.ra_model.specs.Usage.{use_of, transient_of}
use Rattle.ra_model.specs.Relations.{depends}
use Rattle.ra_model.specs.Services.{on_machine, in_neighbourhood, locations_of}
use Rattle.ra_model.specs.Broken.{capacity_test, row_capacity, transient_test, row_transient, conflict_test}
use Rattle.ra_model.specs.Broken.{spread_test}
use Rattle.ra_model.proofs.BrokenLemmas.{failed_if, held_if}
use Rattle.ra_topology.specs.Lists.{service_at, is_dependant, numbers_of, AreDependantsOf}
use Rattle.ra_edit.specs.Drafts.{Drafted, with_process_rows, instance_of}
use Rattle.ra_edit.specs.Touched.{far_from, cause_if_left_alone, left_by, first_of_two, resized_breaks}
use Rattle.ra_base.specs.Searches.{or_else, first}
use Rattle.ra_base.proofs.Searches.{or_else_none, first_none_from, first_same}
use Rattle.ra_base.proofs.Picks.{pick_first}
use Rattle.ra_edit.proofs.BrokenLaws.{dependencies_with, capacity_with, transient_with, need_with, spread_with}
use Rattle.ra_edit.proofs.BrokenLaws.{services_with}
use Rattle.ra_edit.proofs.ShareLaws.{neighbourhood_with}

pub capacity_over : (e : Drafted) (m r used cap : ℕ) → used ≡ use_of (instance_of e) e.current m r →
    cap ≡ capacity_of e.origin m r → cap < used → Some (Capacity (record { 0 = m }) (record { 0 = r }) used cap) ≡
    capacity_test (instance_of e) e.current m r
unfolding capacity_test
capacity_over e m r used cap use_is cap_is over =
    rw (← use_is, capacity_with e m r, ← cap_is) (failed_if _ (lt-ltb cap used over))

pub capacity_within : (e : Drafted) (m r used cap : ℕ) → used ≡ use_of (instance_of e) e.current m r →
    cap ≡ capacity_of e.origin m r → used ≤ cap → None ≡ capacity_test (instance_of e) e.current m r
unfolding capacity_test
capacity_within e m r used cap use_is cap_is within =
    rw (← use_is, capacity_with e m r, ← cap_is) (held_if _ (le-ltb cap used within))

pub transient_over : (e : Drafted) (m r used cap : ℕ) → used ≡ transient_of (instance_of e) e.initial e.current m r →
    cap ≡ capacity_of e.origin m r → transient_at e.origin r ≡ true → cap < used →
    Some (Transient (record { 0 = m }) (record { 0 = r }) used cap) ≡ transient_test (instance_of e) e.initial e.current
    m r
unfolding transient_test
transient_over e m r used cap use_is cap_is twice over =
    rw (← use_is, capacity_with e m r, ← cap_is)
    (failed_if _ (and_from _ _ (transient_with e r ∙ twice) (lt-ltb cap used over)))

pub transient_within : (e : Drafted) (m r used cap : ℕ) → used ≡ transient_of (instance_of e) e.initial e.current m r →
    cap ≡ capacity_of e.origin m r → used ≤ cap → None ≡ transient_test (instance_of e) e.initial e.current m r
unfolding transient_test
transient_within e m r used cap use_is cap_is within =
    rw (← use_is, capacity_with e m r, ← cap_is) (held_if _ (and_right _ _ (le-ltb cap used within)))

pub transient_once : (e : Drafted) (m r : ℕ) → transient_at e.origin r ≡ false →
    None ≡ transient_test (instance_of e) e.initial e.current m r
unfolding transient_test
transient_once e m r once = held_if _ (and_left _ _ (transient_with e r ∙ once))

pub conflict_some : (e : Drafted) (s m n : ℕ) → n ≡ on_machine (instance_of e) e.current s m → 1 < n →
    Some (Conflict (record { 0 = s }) (record { 0 = m })) ≡ conflict_test (instance_of e) e.current s m
unfolding conflict_test
conflict_some e s m n count more = rw (← count) (failed_if _ (lt-ltb 1 n more))

pub conflict_none : (e : Drafted) (s m n : ℕ) → n ≡ on_machine (instance_of e) e.current s m → n ≤ 1 →
    None ≡ conflict_test (instance_of e) e.current s m
unfolding conflict_test
conflict_none e s m n count few = rw (← count) (held_if _ (le-ltb 1 n few))

pub spread_few : (e : Drafted) (s has wants : ℕ) → has ≡ locations_of (instance_of e) e.current s →
    wants ≡ spread_of e.origin s → has < wants → Some (Spread (record { 0 = s }) has wants) ≡
    spread_test (instance_of e) e.current s
unfolding spread_test
spread_few e s has wants has_is wants_is fewer =
    rw (← has_is, spread_with e s, ← wants_is) (failed_if _ (lt-ltb has wants fewer))

pub spread_enough : (e : Drafted) (s has wants : ℕ) → has ≡ locations_of (instance_of e) e.current s →
    wants ≡ spread_of e.origin s → wants ≤ has → None ≡ spread_test (instance_of e) e.current s
unfolding spread_test
spread_enough e s has wants has_is wants_is enough =
    rw (← has_is, spread_with e s, ← wants_is) (held_if _ (le-ltb has wants enough))

pub need_far : (e : Drafted) (s label k need n : ℕ) → need ≡ need_of (instance_of e) s k →
    n ≡ in_neighbourhood (instance_of e) e.current need label → n ≡ 0 →
    Some (Dependency (record { 0 = s }) (record { 0 = need }) label) ≡ far_from (instance_of e) e.current s label k
unfolding far_from
need_far e s label k need n need_is count none = rw (← need_is, ← count) (failed_if _ (eq-eqb n 0 none))

pub need_near : (e : Drafted) (s label k need n : ℕ) → need ≡ need_of (instance_of e) s k →
    n ≡ in_neighbourhood (instance_of e) e.current need label → n ≢ 0 →
    None ≡ far_from (instance_of e) e.current s label k
unfolding far_from
need_near e s label k need n need_is count some = rw (← need_is, ← count) (held_if _ (ne_eqb n 0 some))

pub left_some : (e : Drafted) (s label u n : ℕ) → in_neighbourhood (instance_of e) e.current s label ≡ 0 →
    n ≡ in_neighbourhood (instance_of e) e.current u label → 0 < n →
    Some (Dependency (record { 0 = u }) (record { 0 = s }) label)
    ≡ cause_if_left_alone (instance_of e) e.current s label u
unfolding cause_if_left_alone
left_some e s label u n gone count some = rw (← count) (failed_if _ (and_from _ _ (eq-eqb _ 0 gone) (lt-ltb 0 n some)))

pub left_none : (e : Drafted) (s label u n : ℕ) → n ≡ in_neighbourhood (instance_of e) e.current u label → n ≤ 0 →
    None ≡ cause_if_left_alone (instance_of e) e.current s label u
unfolding cause_if_left_alone
left_none e s label u n count none = rw (← count) (held_if _ (and_right _ _ (le-ltb 0 n none)))

pub ruleset conflicts = (conflict_some, conflict_none)

pub ruleset spreads = (spread_few, spread_enough)

pub ruleset needs = (need_far, need_near)

pub ruleset lefts = (left_some, left_none)

pub service_weight_in : (e : Drafted) → service_weight_of (instance_of e) ≡ service_weight_of e.origin
unfolding with_process_rows service_weight_of
service_weight_in e = refl

-- who depends on whom

depends_in : (e : Drafted) (s u : ℕ) → depends (instance_of e) s u ≡ depends e.origin s u
unfolding with_process_rows depends dependency_count dependency_end dependency_start need_of need_at service_row
depends_in e zero u = refl
depends_in e (suc s) u = refl

-- a search over listed services is one over their numbers
listed_first : {X : Type 0} → (list : List Service) (f : ℕ → Option X) →
    first (length list) (λ k. f (service_at list k)) ≡
    first (length (numbers_of list)) (λ k. f (get_or (numbers_of list) k 0))
unfolding service_at
listed_first list f = grind (arith, common_steps, first_same, get_or-map, length-map)

-- what is found among the dependants of a service is what is found among all services
pub left_listed : {i : Tables} {s : ℕ} {list : List Service} (e : Drafted) (label : ℕ) → e.origin ≡ i →
    AreDependantsOf i s list →
    first (length list) (λ k. cause_if_left_alone (instance_of e) e.current s label (service_at list k)) ≡
    first (service_count (instance_of e)) (left_by (instance_of e) e.current s label)
unfolding left_by is_dependant
left_listed {i} {s} {list} e label same are =
    let alone = cause_if_left_alone (instance_of e) e.current s label in
    listed_first list alone
    ∙ ap (λ (numbers : List ℕ). first (length numbers) (λ k. alone (get_or numbers k 0))) are.numbers
    ∙ pick_first (service_count i) (is_dependant i s) alone
    ∙ first_same (service_count i) _ (left_by (instance_of e) e.current s label)
    (λ u within. cc (depends_in e u s))
    ∙ ap (λ n. first n (left_by (instance_of e) e.current s label)) (sym (services_with e ∙ ap service_count same))

either_none : {X : Type 0} {x : Option X} (b : Bool) → x ≡ None → cond b x None ≡ None
either_none true none = none
either_none false none = refl

-- no service is left alone while one of its processes is near
pub none_left : (e : Drafted) (s label n : ℕ) → 0 < in_neighbourhood (instance_of e) e.current s label →
    None ≡ first n (left_by (instance_of e) e.current s label)
unfolding left_by cause_if_left_alone
none_left e s label n some = grind (arith, common_steps, first_none_from, either_none, held_if, and_left, ne_eqb)

-- two machines in the order of their numbers

pub resized_up : {x : Option Cause} (e : Drafted) (home here : ℕ) → row_capacity (instance_of e) e.current here ≡ None →
    home < here → x ≡ or_else (row_transient (instance_of e) e.initial e.current home)
    (row_transient (instance_of e) e.initial e.current here) →
    x ≡ resized_breaks (instance_of e) e.initial e.current home here
unfolding resized_breaks first_of_two
resized_up e home here none up is = is ∙ sym (rw (none, lt-ltb home here up, or_else_none) refl)

pub resized_down : {x : Option Cause} (e : Drafted) (home here : ℕ) → row_capacity (instance_of e) e.current here ≡
    None → here ≤ home → x ≡ or_else (row_transient (instance_of e) e.initial e.current here)
    (row_transient (instance_of e) e.initial e.current home) →
    x ≡ resized_breaks (instance_of e) e.initial e.current home here
unfolding resized_breaks first_of_two
resized_down e home here none down is = is ∙ sym (rw (none, le-ltb home here down, or_else_none) refl)

-- what is found first, or after what isn't there

pub found_first : {X : Type 0} {a : Option X} (b : Option X) (x : X) → a ≡ Some x → Some x ≡ or_else a b
unfolding or_else
found_first b x is = rw is refl

pub found_later : {X : Type 0} {a b y : Option X} → a ≡ None → y ≡ b → y ≡ or_else a b
unfolding or_else
found_later none is = rw none is

-- numbers of an instance with the same other lists

pub dependencies_from : {i : Tables} (e : Drafted) (s : ℕ) → e.origin ≡ i → dependency_count (instance_of e) s ≡
    dependency_count i s
dependencies_from e s same = cc (dependencies_with e s)

pub label_from : {i : Tables} (e : Drafted) (m : ℕ) → e.origin ≡ i → neighbourhood_of (instance_of e) m ≡
    neighbourhood_of i m
label_from e m same = cc (neighbourhood_with e.origin e.rows e.requirements m)

pub need_from : {i : Tables} (e : Drafted) (s k : ℕ) → e.origin ≡ i → need_of (instance_of e) s k ≡ need_of i s k
need_from e s k same = cc (need_with e s k)

pub services_from : (e : Drafted) (i : Tables) → e.origin ≡ i → service_count (instance_of e) ≡ service_count i
services_from e i same = cc (services_with e)
