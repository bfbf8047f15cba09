-- Laws of the numbers of moved processes by service.
use Rattle.std.proofs.Common.{◌≡◌, ◌≢◌, ℕ, ◌+◌, ◌<◌, ◌≤◌, ⊎_elim, true, false, eqb, List, length, replicate, get_or}
use Rattle.std.proofs.Common.{set, refl, sym, ap, ◌∙◌, arith, eq-eqb, ne_eqb, get_or-set_other, get_or-set_same, ◌*◌}
use Rattle.std.proofs.lemmas.Bool.{cases_eq, cond-true, cond-false, cond_both, and_from, and_left, and_right}
use Rattle.ra_base.specs.Sums.{greatest}
use Rattle.ra_base.proofs.Sums.{total_none, total_more, total_bound}
use Rattle.ra_base.proofs.Greatest.{greatest_same}
use Rattle.ra_base.specs.declared.ids.Machine.{Machine}
use Rattle.ra_model.specs.declared.raw.Tables.{Tables}
use Rattle.ra_model.specs.Numbers.{service_of, service_count, process_count, service_weight_of}
use Rattle.ra_model.specs.Assignments.{machine_at, tally}
use Rattle.ra_model.specs.Services.{is_of, of_service, members_at, moved_of}
use Rattle.ra_model.specs.Costs.{service_cost}
use Rattle.ra_check.specs.Stands.{has_moved, HasMoved, AddsMoved, AreBelow}
use Rattle.ra_base.proofs.Tables.{zeros_at}

pub counts_at_most_one : (i : Tables) (a0 : List Machine) (s p at : ℕ) → of_service i s (has_moved a0) p at ≤ 1
unfolding of_service
counts_at_most_one i a0 s p at = cond_both _ 1 0 (λ x. x ≤ 1) (λ e. omega arith) (λ e. omega arith)

-- a process that stays leaves the numbers
pub adds_moved_stays : (i : Tables) (a0 a : List Machine) (p : ℕ) (counts : List ℕ) →
    eqb (machine_at a0 p) (machine_at a p) ≡ true → AddsMoved i a0 a p counts counts
unfolding of_service is_of
adds_moved_stays i a0 a p counts stays = record {
  each = λ s. omega (
    arith,
    (cond-false {A = ℕ} _ 1 0
        (and_right (eqb (service_of i p) s) (has_moved a0 p (machine_at a p)) (cond-true (eqb (machine_at a0 p)
        (machine_at a p)) false true stays))),
  );
}

-- a process that has moved raises the number of its service by one
pub adds_moved_one : (i : Tables) (a0 a : List Machine) (p place value : ℕ) (old new : List ℕ) →
    eqb (machine_at a0 p) (machine_at a p) ≡ false → place ≡ service_of i p → place < length old →
    value ≡ get_or old place 0 + 1 → new ≡ set old place value → AddsMoved i a0 a p old new
unfolding of_service is_of
adds_moved_one i a0 a p place value old new moved of within raised written = record {
  each = λ s. ⊎_elim
      (λ (here : place ≡ s).
      rw (written, ← here)
      (omega (
        arith,
        get_or-set_same old place value 0 within,
        (cond-true {A = ℕ} _ 1 0 (and_from (eqb (service_of i p) place) (has_moved a0 p (machine_at a p)) (eq-eqb
            (service_of i p) place (sym of))
            (cond-false (eqb (machine_at a0 p) (machine_at a p)) false true moved))),
      )))
      (λ (apart : place ≢ s).
      rw written (omega (
        arith,
        get_or-set_other old place s value 0 (λ e. apart (sym e)),
        (cond-false {A = ℕ} _ 1 0 (and_left (eqb (service_of i p) s) (has_moved a0 p (machine_at a p)) (ne_eqb
            (service_of i p) s (λ e. apart (of ∙ e))))),
      )))
      (cases_eq place s);
}

pub moved_start : (i : Tables) (a0 a : List Machine) (n : ℕ) (counts : List ℕ) → counts ≡ replicate n 0 →
    HasMoved i a0 a 0 counts
unfolding tally
moved_start i a0 a n counts zeros = record {
  each = λ s. rw zeros (zeros_at n s ∙ sym (total_none (λ q. of_service i s (has_moved a0) q (machine_at a q))));
}

pub moved_next : (i : Tables) (a0 a : List Machine) (p : ℕ) (old new : List ℕ) → HasMoved i a0 a p old →
    AddsMoved i a0 a p old new → HasMoved i a0 a (p + 1) new
unfolding tally
moved_next i a0 a p old new before adds = record {
  each = λ s. omega (
    arith,
    total_more p (λ q. of_service i s (has_moved a0) q (machine_at a q)),
    before.each s,
    adds.each s,
  );
}

pub moved_below : {i : Tables} {a0 a : List Machine} {p : ℕ} {counts : List ℕ} → p < 50000 → HasMoved i a0 a p counts →
    AreBelow 50000 counts
unfolding tally
moved_below {i} {a0} {a} {p} few has = record {
  each = λ s. omega (
    arith,
    has.each s,
    total_bound p 1 (λ q. of_service i s (has_moved a0) q (machine_at a q))
        (λ q h. counts_at_most_one i a0 s q (machine_at a q)),
  );
}

-- the greatest of the numbers is that of the definition
pub service_cost_from : {i : Tables} {a0 a : List Machine} {counts : List ℕ} {weight most : ℕ} →
    HasMoved i a0 a (process_count i) counts → length counts ≡ service_count i → weight ≡ service_weight_of i →
    most ≡ greatest (length counts) (λ s. get_or counts s 0) → weight * most ≡ service_cost i a0 a
unfolding service_cost moved_of members_at
service_cost_from {i} {a0} {a} {counts} {most} has slots heavy greatest_is =
    let same : most ≡ greatest (service_count i) (moved_of i a0 a) = greatest_is
    ∙ ap (λ n. greatest n (λ s. get_or counts s 0)) slots ∙ greatest_same (service_count i) (λ s. get_or counts s 0)
    (moved_of i a0 a) (λ s h. has.each s) in
    rw (heavy, same) refl
