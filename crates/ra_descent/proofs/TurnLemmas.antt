-- The processes in turn: those that were looked at since the last move, and those that are left.
use Rattle.std.proofs.Common.{◌≡◌, ℕ, ◌+◌, ◌-◌, ◌*◌, ◌<◌, ◌≤◌, arith, mul-le-mul_right, ⊎_elim, inl, inr, ◌⊎◌, subst}
use Rattle.std.proofs.lemmas.Bool.{cases_lt, cases_eq}
use Rattle.ra_model.specs.Numbers.{process_count}
use Rattle.ra_model.specs.Situations.{Situation}
use Rattle.ra_descent.specs.Optimal.{NoShiftOf, NoShiftCheaper}

-- of all processes but the `left` ones from `next` on, going round, no shift makes the list cheaper
pub record AreSettled (st : Situation) (processes next left : ℕ) : Type 0 where
  pub from : (p : ℕ) → p < processes → next + left ≤ p → NoShiftOf st p
  pub before : (p : ℕ) → p < next → next + left ≤ p + processes → NoShiftOf st p

module _ (st : Situation) (processes : ℕ) where
  -- none yet
  pub none_settled : (next : ℕ) → next < processes → AreSettled st processes next processes
  none_settled next below = record {
    from = λ p within past. absurd (omega arith);
    before = λ p low past. absurd (omega arith);
  }

  -- all of them
  pub all_settled : (next left : ℕ) → processes ≡ process_count st.tables → left ≡ 0 → next ≤ processes →
      AreSettled st processes next left → NoShiftCheaper st
  all_settled next left all none within are = record {
    each = λ p m cost known. (⊎_elim
        (λ low. are.before p low (omega arith))
        (λ high. are.from p (omega arith) (omega arith))
        (cases_lt p next)).each m cost;
  }

  -- the process after one, and after the last one the first
  pub goes_on : (next after : ℕ) → next < processes → (next + 1 < processes → after ≡ next + 1) →
      (next + 1 ≡ processes → after ≡ 0) → ((next + 1 < processes) × (after ≡ next + 1))
      ⊎ ((next + 1 ≡ processes) × (after ≡ 0))
  goes_on next after within on round = ⊎_elim
      (λ more. inl (more, on more))
      (λ last. let all : next + 1 ≡ processes = omega arith in inr (all, round all))
      (cases_lt (next + 1) processes)

  -- one more
  pub one_settled : (next left after : ℕ) → next < processes → 0 < left →
      ((next + 1 < processes) × (after ≡ next + 1)) ⊎ ((next + 1 ≡ processes) × (after ≡ 0)) →
      AreSettled st processes next left → NoShiftOf st next → AreSettled st processes after (left - 1)
  one_settled next left after within some goes are here = record {
    from = λ p known past. ⊎_elim
        (λ same. subst (NoShiftOf st) same here)
        (λ apart. ⊎_elim
        (λ low. are.before p low (omega arith))
        (λ high. are.from p known (omega arith))
        (cases_lt p next))
        (cases_eq next p);
    before = λ p low past. ⊎_elim
        (λ same. subst (NoShiftOf st) same here)
        (λ apart. are.before p (omega arith) (omega arith))
        (cases_eq next p);
  }

-- a lower cost, however many processes are left then
pub cost_falls : (after before processes some left : ℕ) → after < before → some ≤ processes →
    after * (processes + 1) + some < before * (processes + 1) + left
cost_falls after before processes some left lower few =
    let more : after + 1 ≤ before = omega arith in
    omega (arith, mul-le-mul_right (processes + 1) more)
