-- A process less breaks what it touches, or nothing.
use Rattle.std.proofs.lemmas.Grind.{common_steps}
use Rattle.std.proofs.Common.{◌≡◌, ◌≢◌, ◌⊎◌, inl, inr, ℕ, zero, suc, ◌<◌, Bool, true, false, cond, eqb, ◌&&◌}
use Rattle.std.proofs.Common.{length, Option, Some, None, refl, sym, ap, ◌∙◌, arith, eq-eqb, ne_eqb}
use Rattle.std.proofs.lemmas.Bool.{cases_lt, cases_eq, cases_Bool, cond-true, cond-false, lt-ltb, le-ltb, ltb-false}
use Rattle.std.proofs.lemmas.Bool.{eqb-true}
use Rattle.ra_base.specs.Searches.{or_else, first}
use Rattle.ra_base.specs.Sums.{is_named}
use Rattle.ra_base.specs.declared.causes.Cause.{Cause}
use Rattle.ra_base.specs.declared.causes.Cause.TheVariants.{Dependency}
use Rattle.ra_base.proofs.Searches.{or_else_none, or_else_none_right, first_none_from, first_same, first_none_at}
use Rattle.ra_model.specs.declared.raw.Tables.{Tables}
use Rattle.ra_model.specs.Numbers.{resource_count, machine_count, service_count, process_count, spread_of}
use Rattle.ra_model.specs.Numbers.{dependency_count, need_of, service_of, neighbourhood_of}
use Rattle.ra_model.specs.Assignments.{machine_at}
use Rattle.ra_model.specs.Services.{is_of, on_machine, in_neighbourhood}
use Rattle.ra_model.specs.Relations.{depends}
use Rattle.ra_model.specs.Broken.{cause_if, broken_capacity, broken_transient, conflict_test, service_conflict}
use Rattle.ra_model.specs.Broken.{broken_conflict, spread_test, broken_spread, near_of, far_test, dependency_test}
use Rattle.ra_model.specs.Broken.{pair_dependency, service_dependency, broken_dependency, broken_closed, first_broken}
use Rattle.ra_model.proofs.BrokenLemmas.{cause_free, cause_none, capacity_met, capacity_unbroken, transient_met}
use Rattle.ra_model.proofs.BrokenLemmas.{transient_unbroken, spread_met, dependency_met, closed_met, closed_unbroken}
use Rattle.ra_model.proofs.BrokenLemmas.{count_from_near, near_from_count, fine_from_unbroken}
use Rattle.ra_edit.specs.Drafts.{Drafted, instance_of}
use Rattle.ra_edit.specs.OneMore.{OneMore}
use Rattle.ra_edit.specs.Touched.{cause_if_left_alone, left_by, retired_breaks}
use Rattle.ra_edit.specs.Locality.{RetiresAreLocal}
use Rattle.ra_edit.proofs.ShareLaws.{neighbourhood_with, machine_more, neighbourhood_more, locations_other, use_more}
use Rattle.ra_edit.proofs.ShareLaws.{transient_more}
use Rattle.ra_edit.proofs.BrokenLaws.{first_only, resources_with, machines_with, services_with, processes_with}
use Rattle.ra_edit.proofs.BrokenLaws.{spread_with, dependencies_with, need_with, closed_with, with_both, capacity_both}
use Rattle.ra_edit.proofs.BrokenLaws.{transient_both, label_both}

retired_conflict : {d e : Drafted} {p : ℕ} → OneMore d e p → broken_conflict (instance_of e) e.current ≡ None →
    broken_conflict (instance_of d) d.current ≡ None
unfolding broken_conflict service_conflict conflict_test
retired_conflict {d} {e} more fine =
    first_none_from (service_count (instance_of d)) _
    (λ u u_in. first_none_from (machine_count (instance_of d)) _ (λ k k_in.
    let before = first_none_at k (machine_count (instance_of e)) (conflict_test (instance_of e) e.current u)
    (omega (arith, k_in, machines_with d, machines_with e, ap machine_count more.origin))
    (first_none_at u (service_count (instance_of e)) _
    (omega (arith, u_in, services_with d, services_with e, ap service_count more.origin)) fine) in
    cause_free _ _
    (le-ltb 1 (on_machine (instance_of d) d.current u k) (omega (
      arith,
      ltb-false 1 (on_machine (instance_of e) e.current u k) (cause_none _ _ before),
      machine_more u k more,
    )))))

retired_spread : {d e : Drafted} {p s : ℕ} → OneMore d e p → broken_spread (instance_of e) e.current ≡ None →
    service_of (instance_of e) p ≡ s → s < service_count d.origin → broken_spread (instance_of d) d.current ≡
    spread_test (instance_of d) d.current s
unfolding broken_spread spread_test
retired_spread {d} {e} {p} {s} more fine mine s_in =
    first_only (service_count (instance_of d)) s (spread_test (instance_of d) d.current)
    (omega (arith, s_in, services_with d)) (λ u u_in apart. enough u u_in (λ same. apart (sym same ∙ mine)))
  where
    enough : (u : ℕ) → u < service_count (instance_of d) → service_of (instance_of e) p ≢ u →
        spread_test (instance_of d) d.current u ≡ None
    enough u u_in apart =
        cause_free _ _
        (le-ltb _ _ (omega (
          arith,
          locations_other u more apart,
          spread_met (instance_of e) e.current fine u
              (omega (arith, u_in, services_with e, services_with d, ap service_count more.origin)),
          with_both d e (λ i. spread_of i u) more.origin (λ g. spread_with g u),
        )))

-- who needs another service, or is in another neighbourhood, has it as near as before
retired_near : {d e : Drafted} {p s u : ℕ} (k q : ℕ) → OneMore d e p →
    broken_dependency (instance_of e) e.current ≡ None →
    u < service_count d.origin → k < dependency_count d.origin u → q < length d.rows →
    service_of (instance_of d) q ≡ u → service_of (instance_of e) p ≡ s →
    (need_of d.origin u k ≡ s → neighbourhood_of d.origin (machine_at d.current q) ≡ neighbourhood_of d.origin
    (machine_at e.current p) → ⊥) → 0 < in_neighbourhood (instance_of d) d.current (need_of d.origin u k)
    (neighbourhood_of d.origin (machine_at d.current q))
retired_near {d} {e} {p} {u} k q more fine u_in k_in q_in member mine apart =
    let was = more.kept q q_in in
    let j = was.0 in
    let same = was.3 in
    let need : need_of (instance_of e) u k ≡ need_of d.origin u k = cc (need_with e u k, more.origin) in
    let label : neighbourhood_of (instance_of e) (machine_at e.current j) ≡ neighbourhood_of d.origin
    (machine_at d.current q) = sym (label_both more.origin same)
    ∙ neighbourhood_with d.origin d.rows d.requirements (machine_at d.current q) in
    let near = dependency_met (instance_of e) e.current fine u k j
    (omega (arith, u_in, services_with e, ap service_count more.origin))
    (omega (arith, k_in, dependencies_with e u, ap (λ (i : Tables). dependency_count i u) more.origin))
    (omega (arith, was.1, processes_with e)) (sym same.service ∙ member) in
    let none = not_both (eqb (service_of (instance_of e) p) (need_of d.origin u k))
    (eqb (neighbourhood_of d.origin (machine_at e.current p)) (neighbourhood_of d.origin (machine_at d.current q)))
    (λ a b. apart (sym (eqb-true _ _ a) ∙ mine) (sym (eqb-true _ _ b))) in
    omega (
      arith,
      rw none at (neighbourhood_more (need_of d.origin u k) (neighbourhood_of d.origin (machine_at d.current q)) more),
      rw (need, label) at (count_from_near (instance_of e) e.current (need_of (instance_of e) u k)
          (neighbourhood_of (instance_of e) (machine_at e.current j)) near),
    )
  where
    not_both : (a b : Bool) → (a ≡ true → b ≡ true → ⊥) → (a && b) ≡ false
    not_both true true f = absurd (f refl refl)
    not_both true false f = refl
    not_both false b f = refl

-- what a process of service u is too far from after process p has left
left_test : {d e : Drafted} {p s : ℕ} (u k q : ℕ) → OneMore d e p → broken_dependency (instance_of e) e.current ≡ None →
    u < service_count d.origin → k < dependency_count d.origin u → q < length d.rows →
    service_of (instance_of e) p ≡ s →
    (need_of d.origin u k ≡ s → (service_of (instance_of d) q ≡ u) →
    neighbourhood_of d.origin (machine_at d.current q) ≡ neighbourhood_of d.origin (machine_at e.current p) →
    0 < in_neighbourhood (instance_of d) d.current s (neighbourhood_of d.origin (machine_at e.current p))) →
    dependency_test (instance_of d) d.current u k q ≡ None
unfolding dependency_test far_test near_of is_of
left_test {d} {e} {p} {s} u k q more fine u_in k_in q_in mine near_enough = grind (
  arith,
  common_steps,
  eqb,
  eqb-true,
  retired_near,
  need_with,
  neighbourhood_with,
  cond-true,
  cause_free,
  ne_eqb,
  cond-false,
)

-- a search that can have one answer alone
no_other : {X : Type 0} → (n : ℕ) (f : ℕ → Option X) (x : X) → ((k : ℕ) → k < n → (f k ≡ None) ⊎ (f k ≡ Some x)) →
    (first n f ≡ None) ⊎ (first n f ≡ Some x)
unfolding first or_else
no_other zero f x each = inl refl
no_other (suc n) f x each = elim (no_other n f x (λ k below. each k (omega arith))) [
  | inl none ↦
      elim (each n (omega arith)) [ inl here ↦ inl (rw (none, here) refl) | inr here ↦ inr (rw (none, here) refl) ]
  | inr some ↦ inr (rw some refl)
]

the_answer : {X : Type 0} → (n i : ℕ) (f : ℕ → Option X) (x : X) → ((k : ℕ) → k < n → (f k ≡ None) ⊎ (f k ≡ Some x)) →
    i < n → f i ≡ Some x → first n f ≡ Some x
the_answer n i f x each within here = elim (no_other n f x each) [
  | inl none ↦ absurd (let e : Some x ≡ None = sym here
      ∙ first_none_at i n f within none in cc)
  | inr some ↦ some
]

either : {X : Type 0} → (x : Option X) (b : Bool) → or_else x (cond b x None) ≡ x
unfolding or_else
either None true = refl
either None false = refl
either (Some x) b = refl

-- one answer at the names of one number
first_named : {X : Type 0} → (n : ℕ) (e : ℕ → ℕ) (m : ℕ) (x : Option X) → first n (λ k. cond (eqb (e k) m) x None) ≡
    cond (is_named n e m) x None
unfolding first is_named
first_named zero e m x = refl
first_named (suc n) e m x = elim (cases_Bool (is_named n e m)) [
  | inl named ↦
      ap (λ a. or_else a (cond (eqb (e n) m) x None))
      (first_named n e m x ∙ cond-true _ _ _ named) ∙ either x (eqb (e n) m) ∙ sym (rw named refl)
  | inr unnamed ↦
      ap (λ a. or_else a (cond (eqb (e n) m) x None))
      (first_named n e m x ∙ cond-false _ _ _ unnamed) ∙ or_else_none (cond (eqb (e n) m) x None)
      ∙ sym (rw unnamed refl)
]

cause_is : (c : Cause) → cause_if true c ≡ Some c
unfolding cause_if
cause_is c = refl

left_found : {d e : Drafted} {p s : ℕ} (u k label : ℕ) → OneMore d e p →
    broken_dependency (instance_of e) e.current ≡ None →
    u < service_count d.origin → k < dependency_count d.origin u → service_of (instance_of e) p ≡ s →
    neighbourhood_of d.origin (machine_at e.current p) ≡ label → need_of d.origin u k ≡ s →
    in_neighbourhood (instance_of d) d.current s label ≡ 0 → 0 < in_neighbourhood (instance_of d) d.current u label →
    first (process_count (instance_of d)) (dependency_test (instance_of d) d.current u k) ≡
    Some (Dependency (record { 0 = u }) (record { 0 = s }) label)
unfolding dependency_test far_test near_of is_of
left_found {d} {s} u k label more fine u_in k_in mine label_is needs gone some =
    let near = near_from_count (instance_of d) d.current u label some in
    let cause = Dependency (record { 0 = u }) (record { 0 = s }) label in
    let far : (q : ℕ) → neighbourhood_of (instance_of d) (machine_at d.current q) ≡ label →
    cause_if (eqb
    (in_neighbourhood (instance_of d) d.current (need_of (instance_of d) u k)
    (neighbourhood_of (instance_of d) (machine_at d.current q))) 0)
    (Dependency (record { 0 = u }) (record { 0 = need_of (instance_of d) u k })
    (neighbourhood_of (instance_of d) (machine_at d.current q))) ≡ Some cause = λ q there.
    rw (need_with d u k ∙ needs, there, gone) (cause_is cause) in
    the_answer (process_count (instance_of d)) near.0 (dependency_test (instance_of d) d.current u k) cause
    (λ q q_in. elim (cases_Bool (eqb (service_of (instance_of d) q) u)) [
      | inl member ↦
          elim (cases_eq (neighbourhood_of (instance_of d) (machine_at d.current q)) label) [
            | inl there ↦
                inr (cond-true _ _ _ member ∙ far q there)
            | inr away ↦
                inl (left_test u k q more fine u_in k_in (omega (arith, q_in, processes_with d)) mine
                (λ a of there.
                absurd (away (neighbourhood_with d.origin d.rows d.requirements (machine_at d.current q) ∙ there
                ∙ label_is))))
          ]
      | inr other ↦ inl (cond-false _ _ _ other)
    ])
    near.1 (cond-true _ _ _ (eq-eqb (service_of (instance_of d) near.0) u near.2) ∙ far near.0 near.3)

left_pair : {d e : Drafted} {p s : ℕ} (u k : ℕ) → OneMore d e p → broken_dependency (instance_of e) e.current ≡ None →
    u < service_count d.origin → k < dependency_count d.origin u → service_of (instance_of e) p ≡ s →
    pair_dependency (instance_of d) d.current u k ≡ cond (eqb (need_of d.origin u k) s)
    (cause_if_left_alone (instance_of d) d.current s (neighbourhood_of d.origin (machine_at e.current p)) u) None
unfolding pair_dependency cause_if_left_alone
left_pair {d} {e} {p} {s} u k more fine u_in k_in mine =
    let label = neighbourhood_of d.origin (machine_at e.current p) in
    elim (cases_eq (need_of d.origin u k) s) [
      | inl needs ↦
          elim (cases_eq (in_neighbourhood (instance_of d) d.current s label) 0) [
            | inl gone ↦
                elim (cases_lt 0 (in_neighbourhood (instance_of d) d.current u label)) [
                  | inl some ↦
                      left_found u k label more fine u_in k_in mine refl needs gone some
                      ∙ sym (rw (
                        eq-eqb (need_of d.origin u k) s needs,
                        eq-eqb (in_neighbourhood (instance_of d) d.current s label) 0 gone,
                        lt-ltb 0 (in_neighbourhood (instance_of d) d.current u label) some,
                      )
                      (cause_is (Dependency (record { 0 = u }) (record { 0 = s }) label)))
                  | inr none ↦ first_none_from _ _
                      (λ q q_in. left_test u k q more fine u_in k_in (omega (arith, q_in, processes_with d)) mine
                      (λ a of there.
                      absurd (let some = count_from_near (instance_of d) d.current u label (
                        q,
                        q_in,
                        of,
                        neighbourhood_with d.origin d.rows d.requirements (machine_at d.current q)
                            ∙ there,
                      ) in
                      omega (arith, some, none))))
                      ∙ sym (rw (
                        eq-eqb (need_of d.origin u k) s needs,
                        eq-eqb (in_neighbourhood (instance_of d) d.current s label) 0 gone,
                        le-ltb 0 (in_neighbourhood (instance_of d) d.current u label) none,
                      ) (cause_free _ _ refl))
                ]
            | inr near ↦ first_none_from _ _
                (λ q q_in. left_test u k q more fine u_in k_in (omega (arith, q_in, processes_with d)) mine
                (λ a of there. omega (arith, near)))
                ∙ sym (rw (
                  eq-eqb (need_of d.origin u k) s needs,
                  ne_eqb (in_neighbourhood (instance_of d) d.current s label) 0 near,
                ) (cause_free _ _ refl))
          ]
      | inr other ↦ first_none_from _ _
          (λ q q_in. left_test u k q more fine u_in k_in (omega (arith, q_in, processes_with d)) mine
          (λ a of there. absurd (other a)))
          ∙ sym (cond-false _ _ _ (ne_eqb (need_of d.origin u k) s other))
    ]

retired_dependency : {d e : Drafted} {p s : ℕ} → OneMore d e p → broken_dependency (instance_of e) e.current ≡ None →
    service_of (instance_of e) p ≡ s → broken_dependency (instance_of d) d.current ≡
    first (service_count (instance_of d))
    (λ u. cond (depends (instance_of d) u s)
    (cause_if_left_alone (instance_of d) d.current s (neighbourhood_of d.origin (machine_at e.current p)) u) None)
unfolding broken_dependency service_dependency depends
retired_dependency {d} {e} {p} {s} more fine mine =
    first_same (service_count (instance_of d)) _ _ (λ u u_in.
    first_same (dependency_count (instance_of d) u) (pair_dependency (instance_of d) d.current u)
    (λ k. cond (eqb (need_of (instance_of d) u k) s)
    (cause_if_left_alone (instance_of d) d.current s (neighbourhood_of d.origin (machine_at e.current p)) u) None)
    (λ k k_in. left_pair u k more fine (omega (arith, u_in, services_with d))
    (omega (arith, k_in, dependencies_with d u)) mine
    ∙ ap (λ n. cond (eqb n s)
    (cause_if_left_alone (instance_of d) d.current s (neighbourhood_of d.origin (machine_at e.current p)) u) None)
    (sym (need_with d u k)))
    ∙ first_named (dependency_count (instance_of d) u) (need_of (instance_of d) u) s
    (cause_if_left_alone (instance_of d) d.current s (neighbourhood_of d.origin (machine_at e.current p)) u))

retired_closed : {d e : Drafted} {p : ℕ} → OneMore d e p → broken_closed (instance_of e) e.initial e.current ≡ None →
    broken_closed (instance_of d) d.initial d.current ≡ None
retired_closed {d} {e} more fine = closed_unbroken (instance_of d) d.initial d.current (λ q q_in shut.
    let was = more.kept q (omega (arith, q_in, processes_with d)) in
    let same = was.3 in
    same.home ∙ closed_met (instance_of e) e.initial e.current fine was.0 (omega (arith, was.1, processes_with e))
    (cc (closed_with e (machine_at e.current was.0), more.origin, same.here, closed_with d (machine_at d.current q)))
    ∙ sym same.here)

pub retired_law : RetiresAreLocal
unfolding first_broken retired_breaks left_by
retired_law d e p s label more unbroken mine s_in there =
    let fine = fine_from_unbroken (instance_of e) e.initial e.current unbroken in
    let capacity : broken_capacity (instance_of d) d.current ≡ None = capacity_unbroken (instance_of d) d.current
    (λ k r k_in r_in. omega (
      arith,
      use_more k r more (omega (arith, r_in, resources_with d)),
      capacity_both d e k r more.origin,
      capacity_met (instance_of e) e.current fine.capacity k r
          (omega (arith, k_in, machines_with d, machines_with e, ap machine_count more.origin))
          (omega (arith, r_in, resources_with d, resources_with e, ap resource_count more.origin)),
    )) in
    let transient : broken_transient (instance_of d) d.initial d.current ≡ None =
    transient_unbroken (instance_of d) d.initial d.current
    (λ k r k_in r_in twice. omega (
      arith,
      transient_more k r more (omega (arith, r_in, resources_with d)),
      capacity_both d e k r more.origin,
      transient_met (instance_of e) e.initial e.current fine.transient k r
          (omega (arith, k_in, machines_with d, machines_with e, ap machine_count more.origin))
          (omega (arith, r_in, resources_with d, resources_with e, ap resource_count more.origin))
          (transient_both d e r more.origin ∙ twice),
    )) in
    rw (
      capacity,
      transient,
      retired_conflict more fine.conflict,
      retired_spread more fine.spread mine s_in,
      retired_dependency more fine.dependency mine,
      retired_closed more fine.closed,
      there,
      or_else_none,
      or_else_none,
      or_else_none,
      or_else_none_right,
    )
    refl
