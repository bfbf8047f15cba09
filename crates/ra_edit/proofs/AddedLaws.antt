-- A process more breaks what it touches, or nothing.
use Rattle.std.proofs.Common.{inl, inr, ◌≡◌, ◌≢◌, ℕ, ◌^◌, ◌<◌, ◌≤◌, false, eqb, ltb, ◌&&◌, length, None}
use Rattle.std.proofs.Common.{refl, sym, ap, ◌∙◌, ⊎_elim, arith, eq-eqb, ne_eqb}
use Rattle.std.proofs.lemmas.Bool.{cases_eq, cases_Bool, cond-true, cond-false, le-ltb, ltb-false, eqb-true}
use Rattle.ra_base.specs.Searches.{first}
use Rattle.ra_base.proofs.Searches.{or_else_none, or_else_none_right, first_none_from, first_same, first_none_at}
use Rattle.ra_model.specs.declared.raw.Tables.{Tables}
use Rattle.ra_model.specs.Numbers.{machine_count, service_count, process_count, machine_row, spread_of}
use Rattle.ra_model.specs.Numbers.{dependency_count, need_of, service_of, location_of, neighbourhood_of}
use Rattle.ra_model.specs.Assignments.{machine_at}
use Rattle.ra_model.specs.Services.{is_of, on_machine, in_location, in_neighbourhood, locations_of}
use Rattle.ra_model.specs.Broken.{row_transient, conflict_test, service_conflict, broken_conflict, broken_spread}
use Rattle.ra_model.specs.Broken.{near_of, far_test, dependency_test, pair_dependency, service_dependency}
use Rattle.ra_model.specs.Broken.{broken_dependency, broken_closed, first_broken}
use Rattle.ra_model.proofs.BrokenLemmas.{cause_free, cause_none, spread_met, spread_unbroken, dependency_met}
use Rattle.ra_model.proofs.BrokenLemmas.{closed_met, closed_unbroken, count_from_near, fine_from_unbroken}
use Rattle.ra_edit.specs.Drafts.{Drafted, instance_of}
use Rattle.ra_edit.specs.OneMore.{OneMore}
use Rattle.ra_edit.specs.Touched.{far_from, added_breaks}
use Rattle.ra_edit.specs.Locality.{AddsAreLocal}
use Rattle.ra_edit.proofs.LocationLaws.{one_most}
use Rattle.ra_edit.proofs.ShareLaws.{machine_more, neighbourhood_more, locations_other, locations_more}
use Rattle.ra_edit.proofs.BrokenLaws.{first_only, machines_with, services_with, processes_with, spread_with}
use Rattle.ra_edit.proofs.BrokenLaws.{dependencies_with, need_with, closed_with, with_both, use_elsewhere}
use Rattle.ra_edit.proofs.BrokenLaws.{transient_elsewhere, capacity_only, transient_only, first_same_two, label_both}

added_conflict : {d e : Drafted} {p s m : ℕ} → OneMore d e p → broken_conflict (instance_of d) d.current ≡ None →
    service_of (instance_of e) p ≡ s → machine_at e.current p ≡ m → s < service_count d.origin →
    m < machine_count d.origin → broken_conflict (instance_of e) e.current ≡ conflict_test (instance_of e) e.current s m
unfolding broken_conflict service_conflict conflict_test
added_conflict {d} {e} {p} {s} {m} more fine mine here s_in m_in =
    let machines : machine_count (instance_of e) ≡ machine_count d.origin = cc (machines_with e, more.origin) in
    let services : service_count (instance_of e) ≡ service_count d.origin = cc (services_with e, more.origin) in
    first_only (service_count (instance_of e)) s _ (omega (arith, services))
    (λ u u_in apart. first_none_from (machine_count (instance_of e)) (conflict_test (instance_of e) e.current u)
    (λ k k_in. unbroken u k (omega (arith, u_in, services)) (omega (arith, k_in, machines))
    (rw (ne_eqb (service_of (instance_of e) p) u (λ same. apart (sym same ∙ mine))) refl)))
    ∙ first_only (machine_count (instance_of e)) m (conflict_test (instance_of e) e.current s) (omega (arith, machines))
    (λ k k_in apart. unbroken s k s_in (omega (arith, k_in, machines))
    (rw (
      eq-eqb (service_of (instance_of e) p) s mine,
      (ne_eqb (machine_at e.current p) k (λ same. apart (sym same
          ∙ here))),
    ) refl))
  where
    unbroken : (u k : ℕ) → u < service_count d.origin → k < machine_count d.origin →
        (eqb (service_of (instance_of e) p) u && eqb (machine_at e.current p) k) ≡ false →
        conflict_test (instance_of e) e.current u k ≡ None
    unbroken u k u_in k_in none =
        let before = first_none_at k (machine_count (instance_of d)) (conflict_test (instance_of d) d.current u)
        (omega (arith, k_in, machines_with d))
        (first_none_at u (service_count (instance_of d)) _ (omega (arith, u_in, services_with d)) fine) in
        cause_free _ _ (le-ltb 1 (on_machine (instance_of e) e.current u k) (omega (
          arith,
          ltb-false 1 (on_machine (instance_of d) d.current u k) (cause_none _ _ before),
          rw none at (machine_more u k more),
        )))

locations_up : {d e : Drafted} {p x : ℕ} (s : ℕ) → OneMore d e p → location_of d.origin (machine_at e.current p) ≡ x →
    x < 2 ^ 32 → locations_of (instance_of d) d.current s ≤ locations_of (instance_of e) e.current s
locations_up {d} {e} {p} {x} s more is small = elim (cases_eq (service_of (instance_of e) p) s) [
  | inl mine ↦
      omega (arith, locations_more more mine is small, one_most (ltb 0 (in_location (instance_of d) d.current s x)))
  | inr other ↦ omega (arith, locations_other s more other)
]

added_spread : {d e : Drafted} {p : ℕ} (x : ℕ) → OneMore d e p → location_of d.origin (machine_at e.current p) ≡ x →
    x < 2 ^ 32 → broken_spread (instance_of d) d.current ≡ None → broken_spread (instance_of e) e.current ≡ None
added_spread {d} {e} x more is small fine =
    spread_unbroken (instance_of e) e.current
    (λ s s_in. omega (
      arith,
      locations_up s more is small,
      spread_met (instance_of d) d.current fine s
          (omega (arith, s_in, services_with e, services_with d, ap service_count more.origin)),
      with_both d e (λ i. spread_of i s) more.origin (λ g. spread_with g s),
    ))

-- no process but p of a feasible draft is far after process p has come
added_near : {d e : Drafted} {p : ℕ} (s k q : ℕ) → OneMore d e p → broken_dependency (instance_of d) d.current ≡ None →
    s < service_count d.origin → k < dependency_count d.origin s → q < length e.rows → q ≢ p →
    dependency_test (instance_of e) e.current s k q ≡ None
unfolding dependency_test far_test near_of is_of
added_near {d} {e} s k q more fine s_in k_in q_in apart =
    elim (cases_Bool (eqb (service_of (instance_of e) q) s)) [
      | inl member ↦ let was = more.others q q_in apart in
          let j = was.0 in
          let same = was.2 in
          let near = dependency_met (instance_of d) d.current fine s k j (omega (arith, s_in, services_with d))
          (omega (arith, k_in, dependencies_with d s)) (omega (arith, was.1, processes_with d))
          (same.service ∙ eqb-true _ _ member) in
          let need : need_of (instance_of d) s k ≡ need_of (instance_of e) s k =
          sym (with_both d e (λ i. need_of i s k) more.origin (λ g. need_with g s k)) in
          let there : 0 < in_neighbourhood (instance_of d) d.current (need_of (instance_of e) s k)
          (neighbourhood_of (instance_of e) (machine_at e.current q)) =
          rw (← need, ← label_both more.origin same) (count_from_near (instance_of d) d.current (need_of
          (instance_of d) s k)
          (neighbourhood_of (instance_of d) (machine_at d.current j)) near) in
          cond-true _ _ _ member
          ∙ cause_free _ _
          (ne_eqb (in_neighbourhood (instance_of e) e.current (need_of (instance_of e) s k)
          (neighbourhood_of (instance_of e) (machine_at e.current q))) 0
          (λ none. omega (
            arith,
            none,
            neighbourhood_more (need_of (instance_of e) s k) (neighbourhood_of (instance_of e) (machine_at e.current q))
                more,
            there,
          )))
      | inr other ↦ cond-false _ _ _ other
    ]

not_of : (d e : Drafted) (p s k : ℕ) → service_of (instance_of e) p ≢ s →
    dependency_test (instance_of e) e.current s k p ≡ None
unfolding dependency_test is_of
not_of d e p s k apart = cond-false _ _ _ (ne_eqb (service_of (instance_of e) p) s apart)

one_dependency : {d e : Drafted} {p s : ℕ} → OneMore d e p → broken_dependency (instance_of d) d.current ≡ None →
    service_of (instance_of e) p ≡ s → s < service_count d.origin → broken_dependency (instance_of e) e.current ≡
    service_dependency (instance_of e) e.current s
unfolding broken_dependency service_dependency pair_dependency
one_dependency {d} {e} {p} {s} more fine mine s_in =
    let services : service_count (instance_of e) ≡ service_count d.origin = cc (services_with e, more.origin) in
    first_only (service_count (instance_of e)) s (service_dependency (instance_of e) e.current)
    (omega (arith, services))
    (λ u u_in apart. others u (omega (arith, u_in, services)) (λ same. apart (sym same ∙ mine)))
  where
    others : (u : ℕ) → u < service_count d.origin → service_of (instance_of e) p ≢ u →
        service_dependency (instance_of e) e.current u ≡ None
    others u u_in apart = first_none_from _ _ (λ k k_in. first_none_from _ _ (λ q q_in. ⊎_elim
        (λ (here : q ≡ p). cc (not_of d e p u k apart))
        (λ (other : q ≢ p). added_near u k q more fine u_in
        (omega (arith, k_in, dependencies_with e u, ap (λ (i : Tables). dependency_count i u) more.origin))
        (omega (arith, q_in, processes_with e)) other)
        (cases_eq q p)))

-- what a process that has come is too far from
pub added_pair : {d e : Drafted} {p s : ℕ} (k : ℕ) → OneMore d e p →
    broken_dependency (instance_of d) d.current ≡ None →
    service_of (instance_of e) p ≡ s → s < service_count d.origin → k < dependency_count d.origin s →
    pair_dependency (instance_of e) e.current s k ≡ far_test (instance_of e) e.current s k p
unfolding pair_dependency dependency_test is_of
added_pair {e} {p} {s} k more fine mine s_in k_in =
    first_only (process_count (instance_of e)) p (dependency_test (instance_of e) e.current s k)
    (omega (arith, more.there, processes_with e))
    (λ q q_in apart. added_near s k q more fine s_in k_in (omega (arith, q_in, processes_with e)) apart)
    ∙ is_member
  where
    is_member : dependency_test (instance_of e) e.current s k p ≡ far_test (instance_of e) e.current s k p
    is_member = cond-true _ _ _ (eq-eqb (service_of (instance_of e) p) s mine)

added_dependency : {d e : Drafted} {p s m : ℕ} → OneMore d e p → broken_dependency (instance_of d) d.current ≡ None →
    service_of (instance_of e) p ≡ s → machine_at e.current p ≡ m → s < service_count d.origin →
    broken_dependency (instance_of e) e.current ≡ first (dependency_count (instance_of e) s)
    (far_from (instance_of e) e.current s (neighbourhood_of (instance_of e) m))
unfolding far_test near_of far_from service_dependency
added_dependency {e} {p} {s} {m} more fine mine here s_in = one_dependency more fine mine s_in ∙ each_need
  where
    far_here : (k : ℕ) → far_test (instance_of e) e.current s k p ≡ far_from (instance_of e) e.current s
        (neighbourhood_of (instance_of e) m) k
    far_here k = rw here refl

    each_need : service_dependency (instance_of e) e.current s ≡ first (dependency_count (instance_of e) s)
        (far_from (instance_of e) e.current s (neighbourhood_of (instance_of e) m))
    each_need = first_same (dependency_count (instance_of e) s) (pair_dependency (instance_of e) e.current s)
        (far_from (instance_of e) e.current s (neighbourhood_of (instance_of e) m))
        (λ k k_in. added_pair k more fine mine s_in
        (omega (arith, k_in, dependencies_with e s, ap (λ (i : Tables). dependency_count i s) more.origin))
        ∙ far_here k)

added_closed : {d e : Drafted} {p : ℕ} → OneMore d e p → broken_closed (instance_of d) d.initial d.current ≡ None →
    machine_at e.initial p ≡ machine_at e.current p → broken_closed (instance_of e) e.initial e.current ≡ None
added_closed {d} {e} {p} more fine home = closed_unbroken (instance_of e) e.initial e.current (λ q q_in shut. ⊎_elim
    (λ (here : q ≡ p). cc)
    (λ (apart : q ≢ p).
    let was = more.others q (omega (arith, q_in, processes_with e)) apart in
    let same = was.2 in
    sym same.home ∙ closed_met (instance_of d) d.initial d.current fine was.0 (omega (arith, was.1, processes_with d))
    (cc (closed_with d (machine_at d.current was.0), same.here, more.origin, closed_with e (machine_at e.current q)))
    ∙ same.here)
    (cases_eq q p))

pub location_small : (i : Tables) (m : ℕ) → location_of i m < 2 ^ 32
unfolding location_of
location_small i m = (machine_row i m).small_location

pub added_law : AddsAreLocal
unfolding first_broken added_breaks
added_law d e p s m more unbroken mine home here s_in m_in =
    let fine = fine_from_unbroken (instance_of d) d.initial d.current unbroken in
    rw (
      capacity_only d e m more.origin fine.capacity m_in
          (λ k r column apart. omega (arith, use_elsewhere k r more column (λ same. apart (sym same ∙ here)))),
      transient_only d e m m more.origin fine.transient m_in m_in
          (λ k r column apart _.
          omega (
            arith,
            transient_elsewhere k r more column (λ same. apart (sym same ∙ home)) (λ same. apart (sym same ∙ here)),
          )),
      first_same_two m (row_transient (instance_of e) e.initial e.current),
      added_conflict more fine.conflict mine here s_in m_in,
      added_spread (location_of d.origin (machine_at e.current p)) more refl
          (location_small d.origin (machine_at e.current p)) fine.spread,
      added_dependency more fine.dependency mine here s_in,
      added_closed more fine.closed (home ∙ sym here),
      or_else_none,
      or_else_none_right,
    ) refl
