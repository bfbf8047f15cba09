-- The penalty is 0 exactly if no constraint is broken, sum by sum.
use Rattle.std.proofs.Common.{◌≡◌, ℕ, ◌-◌, Bool, true, false, cond, ltb, ◌&&◌, List, None, refl, arith}
use Rattle.std.specs.Prelude.{Option}
use Rattle.std.proofs.lemmas.Bool.{ltb-false, le-ltb}
use Rattle.ra_base.specs.Sums.{total, one_if}
use Rattle.ra_base.specs.Searches.{first}
use Rattle.ra_base.specs.declared.ids.Machine.{Machine}
use Rattle.ra_base.specs.declared.causes.Cause.{Cause}
use Rattle.ra_base.proofs.Counts.{one_if_zero, one_if_false}
use Rattle.ra_base.proofs.Sums.{total_zero, total_zero_at}
use Rattle.ra_base.proofs.Searches.{first_none_at, first_none_from}
use Rattle.ra_model.specs.declared.raw.Tables.{Tables}
use Rattle.ra_model.specs.Assignments.{tally}
use Rattle.ra_model.specs.Broken.{cause_if, capacity_test, row_capacity, broken_capacity, transient_test, row_transient}
use Rattle.ra_model.specs.Broken.{broken_transient, conflict_test, service_conflict, broken_conflict, spread_test}
use Rattle.ra_model.specs.Broken.{broken_spread, far_test, dependency_test, pair_dependency}
use Rattle.ra_model.specs.Broken.{service_dependency, broken_dependency, closed_test, broken_closed}
use Rattle.ra_model.proofs.BrokenLemmas.{Fine, cause_none, cause_free, feasible_from_fine, fine_from_feasible}
use Rattle.ra_repair.specs.Penalty.{use_above, row_above, capacity_penalty, transient_above, row_transient_above}
use Rattle.ra_repair.specs.Penalty.{transient_penalty, crowd_on, service_crowd, conflict_penalty, spread_lack}
use Rattle.ra_repair.specs.Penalty.{spread_penalty, far_share, pair_far, service_far, dependency_penalty, closed_share}
use Rattle.ra_repair.specs.Penalty.{closed_penalty, penalty}
use Rattle.ra_repair.specs.Laws.{ZeroIsFeasible}

-- a sum is 0 exactly if a search over the same places finds nothing, if each term is 0 exactly if the test finds
-- nothing

-- a term of a sum and the test of its place
pub record Agree (term : ℕ) (found : Option Cause) : Type 0 where
  pub none : term ≡ 0 → found ≡ None
  pub zero : found ≡ None → term ≡ 0

all_agree : (n : ℕ) (f : ℕ → ℕ) (found : ℕ → Option Cause) → ((k : ℕ) → Agree (f k) (found k)) →
    Agree (total n f) (first n found)
all_agree n f found each = record {
  none = λ zeros. first_none_from n found (λ k within. (each k).none (total_zero_at n k f zeros within));
  zero = λ nones. total_zero n f (λ k within. (each k).zero (first_none_at k n found within nones));
}

-- what is above a bound is more than 0 if the test is true
above_agrees : (used bound : ℕ) (cause : Cause) → Agree (used - bound) (cause_if (ltb bound used) cause)
above_agrees used bound cause = record {
  none = λ zeros. cause_free (ltb bound used) cause (le-ltb bound used (omega arith));
  zero = λ nones. omega (arith, ltb-false bound used (cause_none (ltb bound used) cause nones));
}

flag_agrees : (t : Bool) (cause : Cause) → Agree (one_if t) (cause_if t cause)
flag_agrees t cause = record {
  none = λ zeros. cause_free t cause (one_if_zero t zeros);
  zero = λ nones. one_if_false t (cause_none t cause nones);
}

transient_term : (t : Bool) (used bound : ℕ) (cause : Cause) →
    Agree (cond t (used - bound) 0) (cause_if (t && ltb bound used) cause)
transient_term true used bound cause = above_agrees used bound cause
transient_term false used bound cause = record { none = λ zeros. cause_free false cause refl; zero = λ nones. refl }

far_agrees : (t u : Bool) (cause : Cause) → Agree (one_if (t && u)) (cond t (cause_if u cause) None)
far_agrees true u cause = flag_agrees u cause
far_agrees false u cause = record { none = λ zeros. refl; zero = λ nones. refl }

module _ (i : Tables) where
  module _ (a : List Machine) where
    capacity_agrees : Agree (capacity_penalty i a) (broken_capacity i a)
    unfolding capacity_penalty row_above use_above broken_capacity row_capacity capacity_test
    capacity_agrees =
        all_agree _ _ _
        (λ m. all_agree _ _ _ (λ r. above_agrees _ _ _))

    conflict_agrees : Agree (conflict_penalty i a) (broken_conflict i a)
    unfolding conflict_penalty service_crowd crowd_on broken_conflict service_conflict conflict_test
    conflict_agrees =
        all_agree _ _ _
        (λ s. all_agree _ _ _ (λ m. above_agrees _ 1 _))

    spread_agrees : Agree (spread_penalty i a) (broken_spread i a)
    unfolding spread_penalty spread_lack broken_spread spread_test
    spread_agrees = all_agree _ _ _ (λ s. above_agrees _ _ _)

    dependency_agrees : Agree (dependency_penalty i a) (broken_dependency i a)
    unfolding dependency_penalty service_far pair_far far_share broken_dependency service_dependency pair_dependency
        dependency_test far_test
    dependency_agrees =
        all_agree _ _ _
        (λ s. all_agree _ _ _
        (λ k. all_agree _ _ _ (λ p. far_agrees _ _ _)))

  module _ (a0 a : List Machine) where
    transient_agrees : Agree (transient_penalty i a0 a) (broken_transient i a0 a)
    unfolding transient_penalty row_transient_above transient_above broken_transient row_transient transient_test
    transient_agrees =
        all_agree _ _ _
        (λ m. all_agree _ _ _
        (λ r. transient_term _ _ _ _))

    closed_agrees : Agree (closed_penalty i a0 a) (broken_closed i a0 a)
    unfolding closed_penalty tally closed_share broken_closed closed_test
    closed_agrees =
        all_agree _ _ _
        (λ p. flag_agrees _ _)

    fine_from_zero : penalty i a0 a ≡ 0 → Fine i a0 a
    unfolding penalty
    fine_from_zero zeros = record {
      capacity = (capacity_agrees a).none (omega arith);
      transient = (transient_agrees).none (omega arith);
      conflict = (conflict_agrees a).none (omega arith);
      spread = (spread_agrees a).none (omega arith);
      dependency = (dependency_agrees a).none (omega arith);
      closed = (closed_agrees).none (omega arith);
    }

    zero_from_fine : Fine i a0 a → penalty i a0 a ≡ 0
    unfolding penalty
    zero_from_fine fine =
        omega (
          arith,
          (capacity_agrees a).zero fine.capacity,
          (transient_agrees).zero fine.transient,
          (conflict_agrees a).zero fine.conflict,
          (spread_agrees a).zero fine.spread,
          (dependency_agrees a).zero fine.dependency,
          (closed_agrees).zero fine.closed,
        )

pub zero_is_feasible : ZeroIsFeasible
zero_is_feasible i a0 a limits fits =
    grind (arith, feasible_from_fine, fine_from_zero, zero_from_fine, fine_from_feasible)
