-- Other requirements of a process break what they touch, or nothing.
use Rattle.std.proofs.lemmas.Grind.{common_steps}
use Rattle.std.proofs.Common.{◌≡◌, ◌≢◌, ℕ, zero, suc, ◌<◌, ◌≤◌, List, Option, refl, sym, ap, ◌∙◌, arith}
use Rattle.ra_base.specs.declared.ids.Machine.{Machine}
use Rattle.ra_base.specs.declared.causes.Cause.{Cause}
use Rattle.ra_base.proofs.Searches.{or_else_none, or_else_none_right, first_same}
use Rattle.ra_model.specs.declared.raw.ProcessRow.{ProcessRow}
use Rattle.ra_model.specs.declared.raw.Tables.{Tables}
use Rattle.ra_model.specs.Numbers.{resource_count, machine_count, service_count, process_count, machine_row}
use Rattle.ra_model.specs.Numbers.{service_row, process_row, spread_of, dependency_count, dependency_start}
use Rattle.ra_model.specs.Numbers.{dependency_end, need_of, need_at, service_of, location_of, neighbourhood_of}
use Rattle.ra_model.specs.Numbers.{closed_at}
use Rattle.ra_model.specs.Assignments.{machine_at, tally}
use Rattle.ra_model.specs.Usage.{use_of, transient_of}
use Rattle.ra_model.specs.Services.{is_of, of_service, members_at, on_machine, in_location, in_neighbourhood}
use Rattle.ra_model.specs.Services.{locations_of}
use Rattle.ra_model.specs.Broken.{conflict_test, service_conflict, broken_conflict, spread_test, broken_spread, near_of}
use Rattle.ra_model.specs.Broken.{far_test, dependency_test, pair_dependency, service_dependency, broken_dependency}
use Rattle.ra_model.specs.Broken.{closed_test, broken_closed, first_broken}
use Rattle.ra_model.proofs.BrokenLemmas.{fine_from_unbroken}
use Rattle.ra_edit.specs.Drafts.{with_process_rows, instance_of}
use Rattle.ra_edit.specs.Touched.{resized_breaks}
use Rattle.ra_edit.specs.Locality.{ResizesAreLocal}
use Rattle.ra_edit.proofs.BrokenLaws.{use_elsewhere, transient_elsewhere, capacity_only, transient_only, renamed}

conflict_with : (i : Tables) (rows : List ProcessRow) (t u : List ℕ) (a0 a : List Machine) →
    broken_conflict (with_process_rows i rows t) a ≡ broken_conflict (with_process_rows i rows u) a
unfolding with_process_rows broken_conflict service_conflict conflict_test on_machine members_at tally of_service is_of
    service_of process_row process_count machine_count service_count
conflict_with i rows t u a0 a = refl

spreads_with : (i : Tables) (rows : List ProcessRow) (t u : List ℕ) (a0 a : List Machine) →
    broken_spread (with_process_rows i rows t) a ≡ broken_spread (with_process_rows i rows u) a
unfolding with_process_rows broken_spread spread_test locations_of in_location members_at tally of_service is_of
    service_of process_row process_count machine_row location_of service_count spread_of service_row
spreads_with i rows t u a0 a = refl

pairs_with : (i : Tables) (rows : List ProcessRow) (t u : List ℕ) (a : List Machine) (s k : ℕ) → s < service_count i →
    pair_dependency (with_process_rows i rows t) a s k ≡ pair_dependency (with_process_rows i rows u) a s k
unfolding with_process_rows pair_dependency dependency_test far_test near_of in_neighbourhood members_at tally
    of_service
    is_of service_of process_row process_count machine_row neighbourhood_of need_of need_at dependency_start
    dependency_end service_row
pairs_with i rows t u a zero k s_in = refl
pairs_with i rows t u a (suc s) k s_in = refl

counts : (i : Tables) (rows : List ProcessRow) (t u : List ℕ) (s : ℕ) →
    dependency_count (with_process_rows i rows t) s ≡ dependency_count (with_process_rows i rows u) s
unfolding with_process_rows dependency_count dependency_end dependency_start service_row
counts i rows t u zero = refl
counts i rows t u (suc s) = refl

there : (i : Tables) (rows : List ProcessRow) (t : List ℕ) (s : ℕ) → s < service_count (with_process_rows i rows t) →
    s < service_count i
unfolding with_process_rows service_count
there i rows t s h = h

depending_with : (i : Tables) (rows : List ProcessRow) (t u : List ℕ) (a0 a : List Machine) →
    broken_dependency (with_process_rows i rows t) a ≡ broken_dependency (with_process_rows i rows u) a
unfolding broken_dependency service_dependency with_process_rows service_count
depending_with i rows t u a = grind (arith, common_steps, first_same, counts, pairs_with, there)

shut_with : (i : Tables) (rows : List ProcessRow) (t u : List ℕ) (a0 a : List Machine) →
    broken_closed (with_process_rows i rows t) a0 a ≡ broken_closed (with_process_rows i rows u) a0 a
unfolding with_process_rows broken_closed closed_test closed_at process_count
shut_with i rows t u a0 a = refl

pub resized_law : ResizesAreLocal
unfolding first_broken resized_breaks
resized_law low d e p home here more_d more_e rows initial current unbroken home_is here_is home_in here_in =
    let fine = fine_from_unbroken (instance_of d) d.initial d.current unbroken in
    let origin : e.origin ≡ d.origin = more_e.origin ∙ sym more_d.origin in
    let resources : resource_count d.origin ≡ resource_count low.origin = ap resource_count more_d.origin in
    let machines : machine_count d.origin ≡ machine_count low.origin = ap machine_count more_d.origin in
    let home_e : machine_at e.initial p ≡ home = cc in
    let here_e : machine_at e.current p ≡ here = cc in
    let used : (k r : ℕ) → r < resource_count d.origin → k ≢ here → use_of (instance_of e) e.current k r ≤
    use_of (instance_of d) d.current k r = λ k r column apart.
    omega (
      arith,
      use_elsewhere k r more_d (omega (arith, resources, column)) (λ same. apart (sym same ∙ here_is)),
      use_elsewhere k r more_e (omega (arith, resources, column)) (λ same. apart (sym same ∙ here_e)),
    ) in
    let between : (k r : ℕ) → r < resource_count d.origin → k ≢ home → k ≢ here →
    transient_of (instance_of e) e.initial e.current k r ≤ transient_of (instance_of d) d.initial d.current k r =
    λ k r column first second.
    omega (
      arith,
      transient_elsewhere k r more_d (omega (arith, resources, column))
          (λ same. first (sym same ∙ home_is)) (λ same. second (sym same ∙ here_is)),
      transient_elsewhere k r more_e (omega (arith, resources, column))
          (λ same. first (sym same ∙ home_e)) (λ same. second (sym same ∙ here_e)),
    ) in
    let same : (f : Tables → List Machine → List Machine → Option Cause) →
    ((i : Tables) (rows : List ProcessRow) (t u : List ℕ) (a0 a : List Machine) →
    f (with_process_rows i rows t) a0 a ≡ f (with_process_rows i rows u) a0 a) →
    f (instance_of e) e.initial e.current ≡ f (instance_of d) d.initial d.current =
    λ f with. sym (renamed f d e with origin rows initial current) in
    rw (
      capacity_only d e here origin fine.capacity (omega (arith, here_in, machines)) used,
      transient_only d e home here origin fine.transient (omega (arith, home_in, machines))
          (omega (arith, here_in, machines)) between,
      same (λ i a0 a. broken_conflict i a) conflict_with ∙ fine.conflict,
      same (λ i a0 a. broken_spread i a) spreads_with ∙ fine.spread,
      same (λ i a0 a. broken_dependency i a) depending_with ∙ fine.dependency,
      same broken_closed shut_with ∙ fine.closed,
      or_else_none,
      or_else_none,
      or_else_none,
      or_else_none_right,
    ) refl
