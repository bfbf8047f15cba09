-- What one process more adds to each sum over the processes.
use Rattle.std.proofs.lemmas.Grind.{common_steps}
use Rattle.std.proofs.Common.{◌≡◌, ◌≢◌, ℕ, ◌+◌, ◌*◌, ◌^◌, ◌<◌, ◌≤◌, Bool, true, false, cond, eqb, ltb, ◌&&◌, ◌||◌, List}
use Rattle.std.proofs.Common.{refl, sym, ap, ◌∙◌, arith, eq-eqb, ne_eqb}
use Rattle.std.proofs.lemmas.Bool.{lt-ltb}
use Rattle.ra_base.specs.Sums.{total, one_if}
use Rattle.ra_base.proofs.Sums.{total_change, total_term}
use Rattle.ra_base.proofs.Counts.{count_change, count_same}
use Rattle.ra_model.specs.declared.raw.ProcessRow.{ProcessRow}
use Rattle.ra_model.specs.declared.raw.Tables.{Tables}
use Rattle.ra_model.specs.Limits.{WellFormed}
use Rattle.ra_model.specs.Numbers.{resource_count, machine_count, process_count, balance_count, machine_row}
use Rattle.ra_model.specs.Numbers.{resource_row, location_of, neighbourhood_of, service_of, requirement_of}
use Rattle.ra_model.specs.Numbers.{process_cost_of, way_cost_of, process_weight_of, machine_weight_of, capacity_of}
use Rattle.ra_model.specs.Numbers.{safety_of, load_weight_of, balance_row, first_of, second_of, target_of}
use Rattle.ra_model.specs.Numbers.{balance_weight_of}
use Rattle.ra_model.specs.Assignments.{machine_at, tally}
use Rattle.ra_model.specs.Usage.{use_share, use_of, transient_share, transient_of}
use Rattle.ra_model.specs.Services.{is_of, of_service, members_at, on_machine, in_location, in_neighbourhood}
use Rattle.ra_model.specs.Services.{locations_of, moved_of}
use Rattle.ra_model.specs.Costs.{load_cost, balance_cost, process_share, process_cost, way_share, machine_cost}
use Rattle.ra_model.specs.MachineCosts.{load_share, row_load, row_left, balance_share, row_balance, machine_load}
use Rattle.ra_model.specs.MachineCosts.{machine_balance}
use Rattle.ra_model.proofs.MachineLemmas.{load_by_machine, balance_by_machine, row_load_same, row_balance_same}
use Rattle.ra_edit.specs.Drafts.{Drafted, with_process_rows, instance_of}
use Rattle.ra_edit.specs.OneMore.{IsSame, OneMore}

-- numbers that edits leave alone

pub neighbourhood_with : (i : Tables) (rows : List ProcessRow) (requirements : List ℕ) (m : ℕ) →
    neighbourhood_of (with_process_rows i rows requirements) m ≡ neighbourhood_of i m
unfolding with_process_rows neighbourhood_of machine_row
neighbourhood_with i rows requirements m = refl

pub location_with : (i : Tables) (rows : List ProcessRow) (requirements : List ℕ) (m : ℕ) →
    location_of (with_process_rows i rows requirements) m ≡ location_of i m
unfolding with_process_rows location_of machine_row
location_with i rows requirements m = refl

pub row_load_with : (i : Tables) (rows : List ProcessRow) (requirements : List ℕ) (m : ℕ) (u : ℕ → ℕ) →
    row_load (with_process_rows i rows requirements) m u ≡ row_load i m u
unfolding with_process_rows row_load load_share load_weight_of safety_of resource_count resource_row
row_load_with i rows requirements m u = refl

pub row_balance_with : (i : Tables) (rows : List ProcessRow) (requirements : List ℕ) (m : ℕ) (u : ℕ → ℕ) →
    row_balance (with_process_rows i rows requirements) m u ≡ row_balance i m u
unfolding with_process_rows row_balance balance_share balance_weight_of target_of row_left first_of second_of
    balance_row capacity_of resource_count balance_count
row_balance_with i rows requirements m u = refl

-- use

pub use_more : {d e : Drafted} {p : ℕ} (m r : ℕ) → OneMore d e p → r < resource_count d.origin →
    use_of (instance_of e) e.current m r ≡ use_of (instance_of d) d.current m r + cond (eqb (machine_at e.current p) m)
    (requirement_of (instance_of e) p r) 0
unfolding use_of tally use_share process_count with_process_rows
use_more {d} {e} m r more column = grind (arith, common_steps)

pub transient_more : {d e : Drafted} {p : ℕ} (m r : ℕ) → OneMore d e p → r < resource_count d.origin →
    transient_of (instance_of e) e.initial e.current m r ≡ transient_of (instance_of d) d.initial d.current m r
    + cond (eqb (machine_at e.initial p) m || eqb (machine_at e.current p) m) (requirement_of (instance_of e) p r) 0
unfolding transient_of tally transient_share process_count with_process_rows
transient_more {d} {e} m r more column = grind (arith, common_steps)

-- members

pub members_more : {d e : Drafted} {p : ℕ} (s : ℕ) (f g : ℕ → ℕ → Bool) → OneMore d e p →
    ((k q : ℕ) → IsSame d k e q → f k (machine_at d.current k) ≡ g q (machine_at e.current q)) →
    members_at (instance_of e) e.current s g ≡ members_at (instance_of d) d.current s f
    + one_if (eqb (service_of (instance_of e) p) s && g p (machine_at e.current p))
unfolding members_at tally of_service is_of process_count with_process_rows
members_more {d} {e} s f g more tests = grind (arith, common_steps)

pub machine_more : {d e : Drafted} {p : ℕ} (s m : ℕ) → OneMore d e p → on_machine (instance_of e) e.current s m ≡
    on_machine (instance_of d) d.current s m
    + one_if (eqb (service_of (instance_of e) p) s && eqb (machine_at e.current p) m)
unfolding on_machine
machine_more s m more = members_more s (λ k at. eqb at m) (λ k at. eqb at m) more (λ k q same. cc (same.here))

place_more : {d e : Drafted} {p : ℕ} (label : Tables → ℕ → ℕ) →
    ((g : Drafted) (m : ℕ) → label (instance_of g) m ≡ label g.origin m) → (s x : ℕ) → OneMore d e p →
    members_at (instance_of e) e.current s (λ k at. eqb (label (instance_of e) at) x) ≡
    members_at (instance_of d) d.current s (λ k at. eqb (label (instance_of d) at) x)
    + one_if (eqb (service_of (instance_of e) p) s && eqb (label d.origin (machine_at e.current p)) x)
place_more {d} {e} {p} label same s x more = cc (
  members_more s (λ k at. eqb (label (instance_of d) at) x) (λ k at. eqb (label (instance_of e) at) x) more
      (λ k q alike. cc (same d (machine_at d.current k), alike.here, more.origin, same e (machine_at e.current q))),
  same e (machine_at e.current p),
  more.origin,
)

pub neighbourhood_more : {d e : Drafted} {p : ℕ} (s x : ℕ) → OneMore d e p →
    in_neighbourhood (instance_of e) e.current s x ≡ in_neighbourhood (instance_of d) d.current s x
    + one_if (eqb (service_of (instance_of e) p) s && eqb (neighbourhood_of d.origin (machine_at e.current p)) x)
unfolding in_neighbourhood
neighbourhood_more = place_more neighbourhood_of (λ g. neighbourhood_with g.origin g.rows g.requirements)

pub location_more : {d e : Drafted} {p : ℕ} (s x : ℕ) → OneMore d e p → in_location (instance_of e) e.current s x ≡
    in_location (instance_of d) d.current s x
    + one_if (eqb (service_of (instance_of e) p) s && eqb (location_of d.origin (machine_at e.current p)) x)
unfolding in_location
location_more = place_more location_of (λ g. location_with g.origin g.rows g.requirements)

pub moved_more : {d e : Drafted} {p : ℕ} (s : ℕ) → OneMore d e p → moved_of (instance_of e) e.initial e.current s ≡
    moved_of (instance_of d) d.initial d.current s
    + one_if (eqb (service_of (instance_of e) p) s && cond (eqb (machine_at e.initial p) (machine_at e.current p)) false
    true)
unfolding moved_of
moved_more {d} {e} s more = members_more s (λ k at. cond (eqb (machine_at d.initial k) at) false true)
    (λ q at. cond (eqb (machine_at e.initial q) at) false true) more (λ k q same. cc (same.home, same.here))

-- locations

pub locations_other : {d e : Drafted} {p : ℕ} (s : ℕ) → OneMore d e p → service_of (instance_of e) p ≢ s →
    locations_of (instance_of e) e.current s ≡ locations_of (instance_of d) d.current s
unfolding locations_of
locations_other {d} {e} {p} s more other = count_same (2 ^ 32) (λ x. ltb 0 (in_location (instance_of e) e.current s x))
    (λ x. ltb 0 (in_location (instance_of d) d.current s x)) (λ x within. ap (ltb 0) (unchanged x))
  where
    unchanged : (x : ℕ) → in_location (instance_of e) e.current s x ≡ in_location (instance_of d) d.current s x
    unchanged x = omega (arith, rw (ne_eqb (service_of (instance_of e) p) s other) at (location_more s x more))

pub locations_more : {d e : Drafted} {p s x : ℕ} → OneMore d e p → service_of (instance_of e) p ≡ s →
    location_of d.origin (machine_at e.current p) ≡ x → x < 2 ^ 32 →
    locations_of (instance_of e) e.current s + one_if (ltb 0 (in_location (instance_of d) d.current s x)) ≡
    locations_of (instance_of d) d.current s + 1
unfolding locations_of
locations_more {d} {e} {p} {s} {x} more mine is within =
    let high : ℕ → Bool = λ y. ltb 0 (in_location (instance_of e) e.current s y) in
    let low : ℕ → Bool = λ y. ltb 0 (in_location (instance_of d) d.current s y) in
    let changed = count_change (2 ^ 32) x high low within (λ y y_in apart. ap (ltb 0) (elsewhere y apart)) in
    let some = lt-ltb 0 (in_location (instance_of e) e.current s x) (omega (arith, here)) in
    let one : one_if (high x) ≡ 1 = cc in
    omega (arith, changed, one)
  where
    here : in_location (instance_of e) e.current s x ≡ in_location (instance_of d) d.current s x + 1
    here = (rw (
      eq-eqb (service_of (instance_of e) p) s mine,
      eq-eqb (location_of d.origin (machine_at e.current p)) x is,
    ) at (location_more s x more))

    elsewhere : (y : ℕ) → y ≢ x → in_location (instance_of e) e.current s y ≡ in_location (instance_of d) d.current s y
    elsewhere y apart = omega (
      arith,
      rw (
        eq-eqb (service_of (instance_of e) p) s mine,
        (ne_eqb (location_of d.origin (machine_at e.current p)) y (λ same. apart (sym same ∙ is))),
      ) at (location_more s y more),
    )

-- costs

load_here : (f : Drafted) (i : Tables) (m : ℕ) → f.origin ≡ i → machine_load (instance_of f) f.current m ≡
    row_load i m (use_of (instance_of f) f.current m)
unfolding machine_load
load_here f i m origin = cc (row_load_with f.origin f.rows f.requirements m (use_of (instance_of f) f.current m))

load_elsewhere : {d e : Drafted} {p : ℕ} (m : ℕ) → OneMore d e p → machine_at e.current p ≢ m →
    machine_load (instance_of e) e.current m ≡ machine_load (instance_of d) d.current m
load_elsewhere {d} {e} {p} m more apart = load_here e d.origin m more.origin
    ∙ row_load_same d.origin m (use_of (instance_of e) e.current m) (use_of (instance_of d) d.current m)
    (λ r column. omega (arith, rw (ne_eqb (machine_at e.current p) m apart) at (use_more m r more column)))
    ∙ sym (load_here d d.origin m refl)

-- a sum over the machines that changes at one machine
machines_more : (d e : Drafted) (m high_cost low_cost : ℕ) (high low : ℕ → ℕ) → e.origin ≡ d.origin →
    m < machine_count d.origin → ((k : ℕ) → k ≢ m → high k ≡ low k) →
    high_cost ≡ total (machine_count (instance_of e)) high → low_cost ≡ total (machine_count (instance_of d)) low →
    high_cost + low m ≡ low_cost + high m
unfolding machine_count with_process_rows
machines_more d e m high_cost low_cost high low origin within others high_is low_is =
    cc (total_change (machine_count d.origin) m high low within (λ k k_in apart. others k apart))

pub load_more : (d e : Drafted) (p m : ℕ) → OneMore d e p → machine_at e.current p ≡ m → m < machine_count d.origin →
    load_cost (instance_of e) e.current + row_load d.origin m (use_of (instance_of d) d.current m) ≡
    load_cost (instance_of d) d.current + row_load d.origin m (use_of (instance_of e) e.current m)
load_more d e p m more here within = rw (← load_here d d.origin m refl, ← load_here e d.origin m more.origin)
    (machines_more d e m _ _ (machine_load (instance_of e) e.current) (machine_load (instance_of d) d.current)
    more.origin within (λ k apart. load_elsewhere k more (λ same. apart (sym same ∙ here)))
    (load_by_machine (instance_of e) e.current) (load_by_machine (instance_of d) d.current))

balance_here : (f : Drafted) (i : Tables) (m : ℕ) → f.origin ≡ i → machine_balance (instance_of f) f.current m ≡
    row_balance i m (use_of (instance_of f) f.current m)
unfolding machine_balance
balance_here f i m origin = cc (row_balance_with f.origin f.rows f.requirements m (use_of (instance_of f) f.current m))

balance_elsewhere : {d e : Drafted} {p : ℕ} (m : ℕ) → WellFormed d.origin → OneMore d e p → machine_at e.current p ≢ m →
    machine_balance (instance_of e) e.current m ≡ machine_balance (instance_of d) d.current m
balance_elsewhere {d} {e} {p} m limits more apart = balance_here e d.origin m more.origin
    ∙ row_balance_same d.origin m (use_of (instance_of e) e.current m) (use_of (instance_of d) d.current m) limits
    (λ r column. omega (arith, rw (ne_eqb (machine_at e.current p) m apart) at (use_more m r more column)))
    ∙ sym (balance_here d d.origin m refl)

pub balance_more : (d e : Drafted) (p m : ℕ) → WellFormed d.origin → OneMore d e p → machine_at e.current p ≡ m →
    m < machine_count d.origin → balance_cost (instance_of e) e.current + row_balance d.origin m
    (use_of (instance_of d) d.current m) ≡ balance_cost (instance_of d) d.current + row_balance d.origin m
    (use_of (instance_of e) e.current m)
balance_more d e p m limits more here within =
    rw (← balance_here d d.origin m refl, ← balance_here e d.origin m more.origin)
    (machines_more d e m _ _ (machine_balance (instance_of e) e.current) (machine_balance (instance_of d) d.current)
    more.origin within (λ k apart. balance_elsewhere k limits more (λ same. apart (sym same ∙ here)))
    (balance_by_machine (instance_of e) e.current) (balance_by_machine (instance_of d) d.current))

weighted : (v w x y z : ℕ) → v ≡ w → x ≡ y + z → v * x ≡ w * y + w * z
weighted v w x y z same sum = rw (same, sum) (grind arith)

pub process_more : {d e : Drafted} {p : ℕ} → OneMore d e p → process_cost (instance_of e) e.initial e.current ≡
    process_cost (instance_of d) d.initial d.current + process_weight_of d.origin
    * cond (eqb (machine_at e.current p) (machine_at e.initial p)) 0 (process_cost_of (instance_of e) p)
unfolding process_cost tally process_share process_count with_process_rows process_weight_of
process_more {d} {e} more = grind (arith, common_steps, weighted)

pub way_more : {d e : Drafted} {p : ℕ} → OneMore d e p → machine_cost (instance_of e) e.initial e.current ≡
    machine_cost (instance_of d) d.initial d.current + machine_weight_of d.origin * way_cost_of d.origin
    (machine_at e.initial p) (machine_at e.current p)
unfolding machine_cost tally way_share process_count with_process_rows machine_weight_of way_cost_of machine_count
way_more {d} {e} more = grind (arith, common_steps, weighted)

pub load_term : (d : Drafted) (m : ℕ) → m < machine_count d.origin →
    row_load d.origin m (use_of (instance_of d) d.current m) ≤ load_cost (instance_of d) d.current
unfolding machine_count with_process_rows
load_term d m within = omega (
  arith,
  load_here d d.origin m refl,
  load_by_machine (instance_of d) d.current,
  total_term (machine_count d.origin) m (machine_load (instance_of d) d.current) within,
)

pub balance_term : (d : Drafted) (m : ℕ) → m < machine_count d.origin →
    row_balance d.origin m (use_of (instance_of d) d.current m) ≤ balance_cost (instance_of d) d.current
unfolding machine_count with_process_rows
balance_term d m within = omega (
  arith,
  balance_here d d.origin m refl,
  balance_by_machine (instance_of d) d.current,
  total_term (machine_count d.origin) m (machine_balance (instance_of d) d.current) within,
)
