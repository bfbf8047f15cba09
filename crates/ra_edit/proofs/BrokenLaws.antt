-- What an edit leaves alone of the constraints: searches with one answer, and numbers that stay.
use Rattle.std.proofs.lemmas.Grind.{common_steps}
use Rattle.std.proofs.Common.{◌≡◌, ◌≢◌, ℕ, zero, suc, ◌+◌, ◌<◌, ◌≤◌, ltb, List, length, Option, Some, None}
use Rattle.std.proofs.Common.{IsTrue, refl, sym, ap, ◌∙◌, ⊎_elim, arith, ne_eqb}
use Rattle.std.proofs.lemmas.Bool.{cases_lt, cases_eq, cond-true, cond-false, lt-ltb, le-ltb}
use Rattle.ra_base.specs.Searches.{or_else, first}
use Rattle.ra_base.specs.declared.ids.Machine.{Machine}
use Rattle.ra_base.specs.declared.causes.Cause.{Cause}
use Rattle.ra_base.proofs.Searches.{or_else_none, first_more, first_skip, first_none_from}
use Rattle.ra_model.specs.declared.raw.ProcessRow.{ProcessRow}
use Rattle.ra_model.specs.declared.raw.Tables.{Tables}
use Rattle.ra_model.specs.Numbers.{resource_count, machine_count, service_count, process_count, resource_row}
use Rattle.ra_model.specs.Numbers.{service_row, transient_at, capacity_of, spread_of, dependency_count}
use Rattle.ra_model.specs.Numbers.{dependency_start, dependency_end, need_of, need_at, neighbourhood_of, closed_at}
use Rattle.ra_model.specs.Assignments.{machine_at}
use Rattle.ra_model.specs.Usage.{use_of, transient_of}
use Rattle.ra_model.specs.Broken.{capacity_test, row_capacity, broken_capacity, transient_test, row_transient}
use Rattle.ra_model.specs.Broken.{broken_transient}
use Rattle.ra_model.proofs.BrokenLemmas.{cause_free, capacity_met, transient_met}
use Rattle.ra_edit.specs.Drafts.{Drafted, with_process_rows, instance_of}
use Rattle.ra_edit.specs.OneMore.{IsSame, OneMore}
use Rattle.ra_edit.specs.Touched.{first_of_two}
use Rattle.ra_edit.proofs.ShareLaws.{neighbourhood_with, use_more, transient_more}

-- searches

-- only one place may have an answer
pub first_only : {X : Type 0} → (n i : ℕ) (f : ℕ → Option X) → i < n → ((k : ℕ) → k < n → k ≢ i → f k ≡ None) →
    first n f ≡ f i
first_only n i f within others =
    first_skip (i + 1) n f (omega arith) (λ k above below. others k below (λ (e : k ≡ i). omega (arith, e)))
    ∙ first_more i f
    ∙ ap (λ a. or_else a (f i))
    (first_none_from i f (λ k below. others k (omega arith) (λ (e : k ≡ i). omega (arith, e))))
    ∙ or_else_none (f i)

or_else_same : {X : Type 0} → (a : Option X) → or_else a a ≡ a
unfolding or_else
or_else_same None = refl
or_else_same (Some x) = refl

-- only two places may have an answer
first_two_up : (n i j : ℕ) (f : ℕ → Option Cause) → i < j → j < n → ((k : ℕ) → k < n → k ≢ i → k ≢ j → f k ≡ None) →
    first n f ≡ or_else (f i) (f j)
first_two_up n i j f order within others =
    first_skip (j + 1) n f (omega arith)
    (λ k above below. others k below (λ (e : k ≡ i). omega (arith, e)) (λ (e : k ≡ j). omega (arith, e)))
    ∙ first_more j f
    ∙ ap (λ a. or_else a (f j))
    (first_only j i f order (λ k below apart. others k (omega arith) apart (λ (e : k ≡ j). omega (arith, e))))

pub first_two : (n i j : ℕ) (f : ℕ → Option Cause) → i < n → j < n → ((k : ℕ) → k < n → k ≢ i → k ≢ j → f k ≡ None) →
    first n f ≡ first_of_two i j f
unfolding first_of_two
first_two n i j f i_in j_in others = ⊎_elim
    (λ (up : i < j). first_two_up n i j f up j_in others
    ∙ sym (cond-true (ltb i j) (or_else (f i) (f j)) (or_else (f j) (f i)) (lt-ltb i j up)))
    (λ (not_up : j ≤ i). ⊎_elim
    (λ (same : i ≡ j). first_only n j f j_in (λ k k_in apart. others k k_in (λ e. apart (e ∙ same)) apart)
    ∙ sym (or_else_same (f j)) ∙ ap (λ m. or_else (f j) (f m)) (sym same)
    ∙ sym (cond-false (ltb i j) (or_else (f i) (f j)) (or_else (f j) (f i)) (le-ltb i j not_up)))
    (λ (apart : i ≢ j). first_two_up n j i f (omega arith) i_in (λ k k_in a b. others k k_in b a)
    ∙ sym (cond-false (ltb i j) (or_else (f i) (f j)) (or_else (f j) (f i)) (le-ltb i j not_up)))
    (cases_eq i j))
    (cases_lt i j)

-- rows that hold

pub capacity_free : (i : Tables) (a : List Machine) (m : ℕ) →
    ((r : ℕ) → r < resource_count i → use_of i a m r ≤ capacity_of i m r) → row_capacity i a m ≡ None
unfolding row_capacity capacity_test
capacity_free i a m met = first_none_from _ _ (λ r r_in. cause_free _ _ (le-ltb _ _ (met r r_in)))

pub transient_free : (i : Tables) (a0 a : List Machine) (m : ℕ) →
    ((r : ℕ) → r < resource_count i → IsTrue (transient_at i r) → transient_of i a0 a m r ≤ capacity_of i m r) →
    row_transient i a0 a m ≡ None
unfolding row_transient transient_test
transient_free i a0 a m met = grind (arith, common_steps, first_none_from, cause_free, le-ltb)

-- numbers that edits leave alone

pub resources_with : (d : Drafted) → resource_count (instance_of d) ≡ resource_count d.origin
unfolding with_process_rows resource_count
resources_with d = refl

pub machines_with : (d : Drafted) → machine_count (instance_of d) ≡ machine_count d.origin
unfolding with_process_rows machine_count
machines_with d = refl

pub services_with : (d : Drafted) → service_count (instance_of d) ≡ service_count d.origin
unfolding with_process_rows service_count
services_with d = refl

pub processes_with : (d : Drafted) → process_count (instance_of d) ≡ length d.rows
unfolding with_process_rows process_count
processes_with d = refl

pub capacity_with : (d : Drafted) (m r : ℕ) → capacity_of (instance_of d) m r ≡ capacity_of d.origin m r
unfolding with_process_rows capacity_of resource_count
capacity_with d m r = refl

pub transient_with : (d : Drafted) (r : ℕ) → transient_at (instance_of d) r ≡ transient_at d.origin r
unfolding with_process_rows transient_at resource_row
transient_with d r = refl

pub spread_with : (d : Drafted) (s : ℕ) → spread_of (instance_of d) s ≡ spread_of d.origin s
unfolding with_process_rows spread_of service_row
spread_with d s = refl

pub dependencies_with : (d : Drafted) (s : ℕ) → dependency_count (instance_of d) s ≡ dependency_count d.origin s
unfolding with_process_rows dependency_count dependency_end dependency_start service_row
dependencies_with d zero = refl
dependencies_with d (suc s) = refl

pub need_with : (d : Drafted) (s k : ℕ) → need_of (instance_of d) s k ≡ need_of d.origin s k
unfolding with_process_rows need_of need_at dependency_start dependency_end service_row
need_with d zero k = refl
need_with d (suc s) k = refl

pub closed_with : (d : Drafted) (m : ℕ) → closed_at (instance_of d) m ≡ closed_at d.origin m
unfolding with_process_rows closed_at
closed_with d m = refl

-- a number that edits leave alone, in two drafts of one instance
pub with_both : (d e : Drafted) (f : Tables → ℕ) → e.origin ≡ d.origin →
    ((g : Drafted) → f (instance_of g) ≡ f g.origin) → f (instance_of e) ≡ f (instance_of d)
with_both d e f origin same = cc (same e, same d)

-- what only requirements could change of two drafts with the same processes and machines
pub renamed : {X : Type 0} (f : Tables → List Machine → List Machine → X) (d e : Drafted) →
    ((i : Tables) (rows : List ProcessRow) (t u : List ℕ) (a0 a : List Machine) →
    f (with_process_rows i rows t) a0 a ≡ f (with_process_rows i rows u) a0 a) → e.origin ≡ d.origin → e.rows ≡ d.rows →
    e.initial ≡ d.initial → e.current ≡ d.current → f (instance_of d) d.initial d.current ≡
    f (instance_of e) e.initial e.current
renamed f d e same origin rows initial current =
    cc (same d.origin d.rows d.requirements e.requirements d.initial d.current)

pub capacity_both : (d e : Drafted) (m r : ℕ) → e.origin ≡ d.origin →
    capacity_of (instance_of e) m r ≡ capacity_of (instance_of d) m r
capacity_both d e m r origin = with_both d e (λ i. capacity_of i m r) origin (λ g. capacity_with g m r)

pub transient_both : (d e : Drafted) (r : ℕ) → e.origin ≡ d.origin →
    transient_at (instance_of e) r ≡ transient_at (instance_of d) r
transient_both d e r origin = cc (transient_with e r, transient_with d r)

-- a process more uses its machine alone

pub use_elsewhere : {d e : Drafted} {p : ℕ} (m r : ℕ) → OneMore d e p → r < resource_count d.origin →
    machine_at e.current p ≢ m → use_of (instance_of e) e.current m r ≡ use_of (instance_of d) d.current m r
use_elsewhere {e} {p} m r more column apart = omega (
  arith,
  rw (ne_eqb (machine_at e.current p) m apart) at (use_more m r more column),
)

pub transient_elsewhere : {d e : Drafted} {p : ℕ} (m r : ℕ) → OneMore d e p → r < resource_count d.origin →
    machine_at e.initial p ≢ m → machine_at e.current p ≢ m → transient_of (instance_of e) e.initial e.current m r ≡
    transient_of (instance_of d) d.initial d.current m r
transient_elsewhere {e} {p} m r more column home here = omega (
  arith,
  rw (ne_eqb (machine_at e.initial p) m home, ne_eqb (machine_at e.current p) m here) at
      (transient_more m r more column),
)

-- capacity and transient use of a draft before its edit, which share all processes but one with it

pub capacity_only : (d e : Drafted) (m : ℕ) → e.origin ≡ d.origin → broken_capacity (instance_of d) d.current ≡ None →
    m < machine_count d.origin →
    ((k r : ℕ) → r < resource_count d.origin → k ≢ m → use_of (instance_of e) e.current k r ≤
    use_of (instance_of d) d.current k r) → broken_capacity (instance_of e) e.current ≡
    row_capacity (instance_of e) e.current m
unfolding broken_capacity
capacity_only d e m origin fine within less =
    let count : machine_count (instance_of e) ≡ machine_count d.origin = cc (machines_with e) in
    first_only (machine_count (instance_of e)) m (row_capacity (instance_of e) e.current) (omega (arith, count))
    (λ k k_in apart.
    capacity_free (instance_of e) e.current k (λ r column.
    let r_in : r < resource_count d.origin = omega (arith, column, resources_with e, ap resource_count origin) in
    omega (
      arith,
      less k r r_in apart,
      capacity_both d e k r origin,
      capacity_met (instance_of d) d.current fine k r
          (omega (arith, k_in, count, machines_with d)) (omega (arith, r_in, resources_with d)),
    )))

pub transient_only : (d e : Drafted) (m n : ℕ) → e.origin ≡ d.origin →
    broken_transient (instance_of d) d.initial d.current ≡ None → m < machine_count d.origin →
    n < machine_count d.origin →
    ((k r : ℕ) → r < resource_count d.origin → k ≢ m → k ≢ n → transient_of (instance_of e) e.initial e.current k r ≤
    transient_of (instance_of d) d.initial d.current k r) → broken_transient (instance_of e) e.initial e.current ≡
    first_of_two m n (row_transient (instance_of e) e.initial e.current)
unfolding broken_transient
transient_only d e m n origin fine m_in n_in less = grind (
  arith,
  common_steps,
  machines_with,
  first_two,
  transient_free,
  resources_with,
  capacity_both,
  transient_met,
  transient_both,
)

pub first_same_two : (m : ℕ) (f : ℕ → Option Cause) → first_of_two m m f ≡ f m
unfolding first_of_two
first_same_two m f =
    cond-false (ltb m m) (or_else (f m) (f m)) (or_else (f m) (f m)) (le-ltb m m (omega arith)) ∙ or_else_same (f m)

pub label_both : {d e : Drafted} {k q : ℕ} → e.origin ≡ d.origin → IsSame d k e q →
    neighbourhood_of (instance_of d) (machine_at d.current k) ≡ neighbourhood_of (instance_of e)
    (machine_at e.current q)
label_both {d} {e} {k} {q} origin same = grind (arith, common_steps, neighbourhood_with)
