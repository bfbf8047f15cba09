-- If one process goes to another machine: what its service needs there, and who needs it where it was.
use Rattle.std.proofs.Common.{◌≡◌, ◌≢◌, ℕ, ◌<◌, ◌≤◌, true, eqb, refl, ap, sym, ◌∙◌, ⊎_elim, arith, eq-eqb, ne_eqb}
use Rattle.std.proofs.lemmas.Bool.{cases_eq, cases_lt}
use Rattle.ra_base.specs.Sums.{one_if}
use Rattle.ra_base.proofs.Counts.{one_if_true, one_if_false, one_if_le}
use Rattle.ra_base.proofs.Named.{is_named_at, is_named_from}
use Rattle.ra_model.specs.declared.raw.Tables.{Tables}
use Rattle.ra_model.specs.Numbers.{service_count, process_count, service_of, dependency_count, need_of, neighbourhood_of}
use Rattle.ra_model.specs.Assignments.{machine_at}
use Rattle.ra_model.specs.Services.{in_neighbourhood}
use Rattle.ra_model.specs.Relations.{depends}
use Rattle.ra_model.specs.Feasible.{HasNear}
use Rattle.ra_model.specs.Situations.{Situation, IsFeasible}
use Rattle.ra_model.proofs.BrokenLemmas.{near_from_count, count_from_near}
use Rattle.ra_shift.specs.Conditions.{shifted, FindsOtherNeeds, MayLeave}
use Rattle.ra_shift.proofs.RoomLaws.{IsStart, placed, others}
use Rattle.ra_shift.proofs.MemberLaws.{near_mine, near_other}

-- a dependency says that one service depends on the other, and the other way round
pub depends_at : (i : Tables) (s k u : ℕ) → k < dependency_count i s → need_of i s k ≡ u → depends i s u ≡ true
unfolding depends
depends_at i s k u within is = is_named_at (dependency_count i s) k (need_of i s) u within is

depends_from : (i : Tables) (s u : ℕ) → depends i s u ≡ true → (k : ℕ) × (k < dependency_count i s)
    × (need_of i s k ≡ u)
unfolding depends
depends_from i s u needs = is_named_from (dependency_count i s) (need_of i s) u needs

module _ (st : Situation) (p to : ℕ) where
  -- what p needs is where it goes
  pub needs_from : IsStart st p to →
      IsFeasible (record st { here = shifted st.here p to }) →
      FindsOtherNeeds st.tables st.here p to
  needs_from h after = record {
    each = λ k within other.
        let s = service_of st.tables p in
        let u = need_of st.tables s k in
        let near = after.dependency s k p (h.formed.services p h.known) within h.known refl in
        let counted = count_from_near st.tables (shifted st.here p to) u
        (neighbourhood_of st.tables (machine_at (shifted st.here p to) p)) near in
        let there = ap (λ m. in_neighbourhood st.tables (shifted st.here p to) u (neighbourhood_of st.tables m))
        (placed st p to h) in
        omega (
          arith,
          counted,
          there,
          near_other st.tables st.here p to u (neighbourhood_of st.tables to) h.fits h.known
              (λ e. other (sym e)),
        );
  }

  -- if p was the last of its service in a neighbourhood that it leaves, none is left
  gone_from : IsStart st p to → neighbourhood_of st.tables (machine_at st.here p) ≢
      neighbourhood_of st.tables to → in_neighbourhood st.tables st.here (service_of st.tables p)
      (neighbourhood_of st.tables (machine_at st.here p)) ≤ 1 →
      in_neighbourhood st.tables (shifted st.here p to) (service_of st.tables p)
      (neighbourhood_of st.tables (machine_at st.here p)) ≡ 0
  gone_from h leaves last = grind (arith, near_mine, one_if_true, eq-eqb, one_if_false)

  -- so no other service may be there that depends on it
  pub leaves_from : IsStart st p to →
      IsFeasible (record st { here = shifted st.here p to }) →
      neighbourhood_of st.tables (machine_at st.here p) ≢ neighbourhood_of st.tables to → MayLeave st.tables st.here p
  leaves_from h after leaves = record {
    each = λ d within needs other last. ⊎_elim
        (λ some.
        absurd (stranded d within needs other last some))
        (λ none. omega
        arith)
        (cases_lt 0 (in_neighbourhood st.tables st.here d (neighbourhood_of st.tables (machine_at st.here p))));
  }
    where
      stranded : (d : ℕ) → d < service_count st.tables → depends st.tables d (service_of st.tables p) ≡ true →
          d ≢ service_of st.tables p →
          in_neighbourhood st.tables st.here (service_of st.tables p) (neighbourhood_of st.tables (machine_at st.here p))
          ≤ 1 →
          0 < in_neighbourhood st.tables st.here d (neighbourhood_of st.tables (machine_at st.here p)) → ⊥
      stranded d within needs other last some =
          let label = neighbourhood_of st.tables (machine_at st.here p) in
          let found = near_from_count st.tables st.here d label some in
          let q = found.0 in
          let q_other : q ≢ p = λ e. other (sym found.2 ∙ ap (service_of st.tables) e) in
          let dep = depends_from st.tables d (service_of st.tables p) needs in
          let counted = count_from_near st.tables (shifted st.here p to) (need_of st.tables d dep.0)
          (neighbourhood_of st.tables (machine_at (shifted st.here p to) q))
          (after.dependency d dep.0 q within dep.1 found.1 found.2) in
          let there = ap (λ m. in_neighbourhood st.tables (shifted st.here p to) (need_of st.tables d dep.0)
          (neighbourhood_of st.tables m))
          (others st.here p to q q_other) in
          let mine = ap (λ u. in_neighbourhood st.tables (shifted st.here p to) u label) dep.2 in
          omega (
            arith,
            counted,
            there,
            ap (in_neighbourhood st.tables (shifted st.here p to)
                (need_of st.tables d dep.0)) found.3,
            mine,
            gone_from h leaves last,
          )

  -- the other way round: p itself finds what its service needs
  near_p : (k : ℕ) → IsStart st p to → FindsOtherNeeds st.tables st.here p to →
      k < dependency_count st.tables (service_of st.tables p) →
      HasNear st.tables (shifted st.here p to) (need_of st.tables (service_of st.tables p) k)
      (neighbourhood_of st.tables to)
  near_p k h needs within = ⊎_elim
      (λ own.
      (p, h.known, sym own, rw (placed st p to h)))
      (λ other.
      near_from_count st.tables (shifted st.here p to) (need_of st.tables (service_of st.tables p) k)
      (neighbourhood_of st.tables to)
      (omega (
        arith,
        needs.each k within other,
        near_other st.tables st.here p to (need_of st.tables (service_of st.tables p) k) (neighbourhood_of st.tables to)
            h.fits h.known (λ e. other (sym e)),
      )))
      (cases_eq (need_of st.tables (service_of st.tables p) k) (service_of st.tables p))

  module _ (s k q : ℕ) where
    -- a process of p's service stays in each neighbourhood where another process needs it
    kept_near : IsStart st p to →
        (neighbourhood_of st.tables (machine_at st.here p) ≢ neighbourhood_of st.tables to → MayLeave st.tables st.here p) →
        s < service_count st.tables →
        k < dependency_count st.tables s → q < process_count st.tables → service_of st.tables q ≡ s → q ≢ p →
        need_of st.tables s k ≡ service_of st.tables p →
        HasNear st.tables (shifted st.here p to) (service_of st.tables p)
        (neighbourhood_of st.tables (machine_at st.here q))
    kept_near h may s_in k_in q_in one_service other mine = ⊎_elim
        (λ own. (
          q,
          q_in,
          one_service ∙ own,
          rw (others st.here p to q other),
        ))
        (λ apart. near_from_count st.tables (shifted st.here p to) (service_of st.tables p)
        label (left apart))
        (cases_eq s (service_of st.tables p))
      where
        label : ℕ
        label = neighbourhood_of st.tables (machine_at st.here q)

        near_q : 0 < in_neighbourhood st.tables st.here (service_of st.tables p)
            (neighbourhood_of st.tables (machine_at st.here q))
        near_q = omega (
          arith,
          count_from_near st.tables st.here (need_of st.tables s k) (neighbourhood_of st.tables (machine_at st.here q))
              (h.feasible.dependency s k q s_in k_in q_in one_service),
          ap (λ u. in_neighbourhood st.tables st.here u (neighbourhood_of st.tables (machine_at st.here q))) mine,
        )

        here_q : 0 < in_neighbourhood st.tables st.here s (neighbourhood_of st.tables (machine_at st.here q))
        here_q = count_from_near st.tables st.here s (neighbourhood_of st.tables (machine_at st.here q))
            (q, q_in, one_service, refl)

        leaving_it : s ≢ service_of st.tables p → neighbourhood_of st.tables (machine_at st.here p)
            ≡ neighbourhood_of st.tables (machine_at st.here q) →
            neighbourhood_of st.tables (machine_at st.here p) ≢ neighbourhood_of st.tables to →
            1 < in_neighbourhood st.tables st.here (service_of st.tables p)
            (neighbourhood_of st.tables (machine_at st.here q))
        leaving_it apart at_q leaves = ⊎_elim
            (λ two. two)
            (λ last.
            absurd (omega (
              arith,
              here_q,
              ap (in_neighbourhood st.tables st.here s) at_q,
              (may leaves).each s s_in (depends_at st.tables s k (service_of st.tables p) k_in mine) apart
                  (omega (arith, last, ap (in_neighbourhood st.tables st.here (service_of st.tables p)) at_q)),
            )))
            (cases_lt 1 (in_neighbourhood st.tables st.here (service_of st.tables p)
            (neighbourhood_of st.tables (machine_at st.here q))))

        left : s ≢ service_of st.tables p → 0 < in_neighbourhood st.tables (shifted st.here p to) (service_of st.tables p)
            (neighbourhood_of st.tables (machine_at st.here q))
        left apart = ⊎_elim
            (λ at_q. ⊎_elim
            (λ stays.
            omega (
              arith,
              near_q,
              near_mine st.tables st.here p to (neighbourhood_of st.tables (machine_at st.here q)) h.fits h.known,
              ap (λ x. one_if (eqb x (neighbourhood_of st.tables (machine_at st.here q)))) stays,
            ))
            (λ leaves.
            omega (
              arith,
              leaving_it apart at_q leaves,
              near_mine st.tables st.here p to (neighbourhood_of st.tables (machine_at st.here q)) h.fits
                  h.known,
              one_if_le (eqb (neighbourhood_of st.tables (machine_at st.here p))
                  (neighbourhood_of st.tables (machine_at st.here q))),
            ))
            (cases_eq (neighbourhood_of st.tables (machine_at st.here p)) (neighbourhood_of st.tables to)))
            (λ away.
            omega (
              arith,
              near_q,
              near_mine st.tables st.here p to (neighbourhood_of st.tables (machine_at st.here q)) h.fits h.known,
              one_if_false (eqb (neighbourhood_of st.tables (machine_at st.here p))
                  (neighbourhood_of st.tables (machine_at st.here q)))
                  (ne_eqb _ _ away),
            ))
            (cases_eq (neighbourhood_of st.tables (machine_at st.here p))
            (neighbourhood_of st.tables (machine_at st.here q)))

    near_moved : IsStart st p to → FindsOtherNeeds st.tables st.here p to →
        k < dependency_count st.tables s → service_of st.tables q ≡ s → q ≡ p →
        HasNear st.tables (shifted st.here p to) (need_of st.tables s k)
        (neighbourhood_of st.tables (machine_at (shifted st.here p to) q))
    near_moved h needs k_in one_service same =
        let own : service_of st.tables p ≡ s = ap (service_of st.tables) (sym same) ∙ one_service in
        let at : machine_at (shifted st.here p to) q ≡ to = ap (machine_at (shifted st.here p to)) same
        ∙ placed st p to h in
        rw at (rw (sym own) (near_p k h needs (rw own k_in)))

    near_stayed : IsStart st p to →
        (neighbourhood_of st.tables (machine_at st.here p) ≢ neighbourhood_of st.tables to → MayLeave st.tables st.here p) →
        s < service_count st.tables →
        k < dependency_count st.tables s → q < process_count st.tables → service_of st.tables q ≡ s → q ≢ p →
        HasNear st.tables (shifted st.here p to) (need_of st.tables s k)
        (neighbourhood_of st.tables (machine_at (shifted st.here p to) q))
    near_stayed h may s_in k_in q_in one_service other = ⊎_elim
        (λ (mine : need_of st.tables s k ≡ service_of st.tables p).
        rw (others st.here p to q other, mine) (kept_near h may s_in k_in q_in one_service other mine))
        (λ (foreign : need_of st.tables s k ≢ service_of st.tables p).
        rw (others st.here p to q other)
        (near_from_count st.tables (shifted st.here p to) (need_of st.tables s k)
        (neighbourhood_of st.tables (machine_at st.here q))
        (omega (
          arith,
          count_from_near st.tables st.here (need_of st.tables s k) (neighbourhood_of st.tables (machine_at st.here q))
              (h.feasible.dependency s k q s_in k_in q_in one_service),
          near_other st.tables st.here p to (need_of st.tables s k) (neighbourhood_of st.tables (machine_at st.here q))
              h.fits h.known
              (λ e. foreign (sym e)),
        ))))
        (cases_eq (need_of st.tables s k) (service_of st.tables p))

  pub dependency_after : IsStart st p to → FindsOtherNeeds st.tables st.here p to →
      (neighbourhood_of st.tables (machine_at st.here p) ≢ neighbourhood_of st.tables to → MayLeave st.tables st.here p) →
      (s k q : ℕ) → s < service_count st.tables →
      k < dependency_count st.tables s → q < process_count st.tables → service_of st.tables q ≡ s →
      HasNear st.tables (shifted st.here p to) (need_of st.tables s k)
      (neighbourhood_of st.tables (machine_at (shifted st.here p to) q))
  dependency_after h needs may s k q s_in k_in q_in one_service = ⊎_elim
      (λ same. near_moved s k q h needs k_in one_service same)
      (λ other. near_stayed s k q h may s_in k_in q_in one_service other)
      (cases_eq q p)
