-- The cheapest machine so far, one machine after another.
use Rattle.std.proofs.Common.{◌≡◌, ◌≢◌, ℕ, ◌+◌, ◌-◌, ◌^◌, ◌<◌, ◌≤◌, arith, Option, Some, None, List, slice_index, refl, ◌∙◌, subst, ⊎_elim}
use Rattle.std.proofs.Math.Nat.{mod-eq_of_lt}
use Rattle.std.proofs.lemmas.Bool.{cases_lt, cases_eq}
use Rattle.std.specs.Int.{bit_at}
use Rattle.ra_base.specs.declared.ids.Machine.{Machine}
use Rattle.ra_model.specs.Numbers.{machine_count}
use Rattle.ra_model.specs.Assignments.{machine_at}
use Rattle.ra_model.specs.Situations.{Situation, cost_at, IsSound}
use Rattle.ra_model.proofs.BoundLemmas.{objective_under}
use Rattle.ra_shift.specs.Arriving.{IsCostBelow, sum_at}
use Rattle.ra_shift.specs.Lanes.{machine_in, AreCheapMarked}
use Rattle.ra_descent.specs.Cheapest.{IsDear, LowersTo, IsOffer, HasAlso, IsCheapest}
use Rattle.ra_descent.specs.declared.cheapest.Cheapest.{Cheapest}

module _ (st : Situation) (p : ℕ) where
  -- what costs a bound costs a lower one
  pub dear_lower : (m : ℕ) {high low : ℕ} → IsDear st p m high → low ≤ high → IsDear st p m low
  dear_lower m dear below free = omega (arith, dear free)

  pub dear_from : (m bound : ℕ) → IsCostBelow st p m bound None → IsDear st p m bound
  dear_from m bound below = below.none refl

  -- it costs at most what the present list does
  offer_low_by : (best : Cheapest) (to : Option Machine) → best.to ≡ to → IsOffer st p best → best.cost ≤ cost_at st
  offer_low_by best None is offer = omega (arith, offer.none is)
  offer_low_by best (Some to) is offer = omega (arith, (offer.some to is).lower)

  pub offer_low : {best : Cheapest} → IsOffer st p best → best.cost ≤ cost_at st
  offer_low {best} offer = offer_low_by best best.to refl offer

  pub offer_fits : {best : Cheapest} → IsSound st → IsOffer st p best → best.cost ≤ 2 ^ 120
  offer_fits sound offer =
      omega (arith, offer_low offer, objective_under st.tables st.start st.here sound.well_formed sound.small)

  module _ (to : Machine) {before : Cheapest} (offer : IsOffer st p before) where
    -- a cost below that of the cheapest so far is that of the cheapest from then on
    pub taken : (cost : ℕ) → to.0 < machine_count st.tables → IsCostBelow st p to.0 before.cost (Some cost) →
        HasAlso st p to.0 before (record { cost = cost; to = Some to })
    taken cost within below =
        let low : cost < before.cost = below.below cost refl in
        let is = below.found cost refl in
        record {
          offer = record {
            none = λ none. absurd (cc);
            some = λ other same. subst (λ (m : Machine). LowersTo st p m.0 cost) (cc) (record {
              within = within;
              free = below.free cost refl;
              is = is;
              lower = omega (arith, low, offer_low offer);
            });
          };
          lower = omega (arith, low);
          dear = λ free. omega (arith, is);
        }

    pub passed : IsCostBelow st p to.0 before.cost None → HasAlso st p to.0 before before
    passed below = record { offer = offer; lower = omega arith; dear = dear_from to.0 before.cost below }

  module _ {n : ℕ} {best : Cheapest} (is : IsCheapest st p n best) where
    -- one machine more
    pub also : {after : Cheapest} → HasAlso st p n best after → IsCheapest st p (n + 1) after
    also {after} has = record {
      offer = has.offer;
      home = dear_lower _ is.home has.lower;
      each = λ m below. ⊎_elim
          (λ before. dear_lower m (is.each m before) has.lower)
          (λ past. subst (λ k. IsDear st p k after.cost) (omega arith) has.dear)
          (cases_lt m n);
    }

    -- machines that are too dear
    pub skips : (end : ℕ) → ((m : ℕ) → n ≤ m → m < end → IsDear st p m best.cost) → IsCheapest st p end best
    skips end dear = record {
      offer = is.offer;
      home = is.home;
      each = λ m below. ⊎_elim (λ before. is.each m before) (λ past. dear m past below) (cases_lt m n);
    }

  module _ {first bound marks : ℕ} {sums : List ℕ} (marked : AreCheapMarked st p first bound marks sums) (k : ℕ)
      (few : k < 64) (within : first + k < machine_count st.tables) where
    -- the machine of a place of a window that doesn't go past the last machine
    place_is : machine_in st first k ≡ first + k
    place_is = mod-eq_of_lt {n = first + k} {m = machine_count st.tables} within

    -- a machine without a mark is too dear
    unmarked : IsDear st p (machine_at st.start p) bound → bit_at marks k ≢ 1 → IsDear st p (first + k) bound
    unmarked home unset = ⊎_elim
        (λ same. subst (λ m. IsDear st p m bound) same home)
        (λ apart. subst (λ m. IsDear st p m bound) place_is
        (dear_from _ bound (marked.dear k few unset (λ at. apart (at ∙ place_is)))))
        (cases_eq (machine_at st.start p) (first + k))

    pub marked_sum : bit_at marks k ≡ 1 → machine_at st.start p ≢ first + k → slice_index sums k ≡ sum_at st p (first + k)
    marked_sum set =
        subst (λ m. machine_at st.start p ≢ m → slice_index sums k ≡ sum_at st p m) place_is (marked.each k few set)

  -- the machines of a window from one place to another, if none of them is marked
  pub skips_unmarked : {first bound marks : ℕ} {sums : List ℕ} (from to : ℕ) {best : Cheapest} →
      AreCheapMarked st p first bound marks sums → IsDear st p (machine_at st.start p) bound → best.cost ≤ bound →
      to ≤ 64 → first + to ≤ machine_count st.tables →
      ((k : ℕ) → from ≤ k → k < to → bit_at marks k ≢ 1) → IsCheapest st p (first + from) best →
      IsCheapest st p (first + to) best
  skips_unmarked {first} {bound} from to {best} marked home low few within unset is =
      skips is (first + to) (λ m after before.
      let k : ℕ = m - first in
      let here : first + k ≡ m = omega arith in
      dear_lower m
      (subst (λ n. IsDear st p n bound) here
      (unmarked marked k (omega arith) (omega arith) home (unset k (omega arith) (omega arith))))
      low)
