-- A pinned process stays: in no feasible assignment is it on a machine from which it is blocked.
use Rattle.std.proofs.Common.{inl, inr, ◌≡◌, ◌≢◌, ℕ, zero, suc, ◌+◌, ◌<◌, ◌≤◌, Bool, true, cond, eqb}
use Rattle.std.proofs.Common.{List, refl, sym, ap, ◌∙◌, arith, eq-eqb, ne_eqb}
use Rattle.std.proofs.lemmas.Bool.{cases_eq, and_parts, or_left, or_right, both_ways, cond-true, cond-false}
use Rattle.std.proofs.lemmas.Bool.{ltb-true, eqb-true}
use Rattle.ra_base.specs.Sums.{total}
use Rattle.ra_base.specs.declared.ids.Machine.{Machine}
use Rattle.ra_base.proofs.Sums.{total_of_sum, total_point, total_le}
use Rattle.ra_model.specs.declared.raw.Tables.{Tables}
use Rattle.ra_model.specs.Numbers.{resource_count, machine_count, process_count}
use Rattle.ra_model.specs.Numbers.{requirement_of, closed_at, service_of}
use Rattle.ra_model.specs.Assignments.{IsAssignment, machine_at, tally}
use Rattle.ra_model.specs.Usage.{use_share, use_of, transient_share, transient_of}
use Rattle.ra_model.specs.Services.{is_of}
use Rattle.ra_model.specs.Feasible.{Feasible}
use Rattle.ra_model.proofs.TallyLemmas.{use_share_here, use_share_elsewhere}
use Rattle.ra_pins.specs.Pinned.{flagged_share, flagged_use, lacks, lacks_between, holds, flagged_starts_on}
use Rattle.ra_pins.specs.Pinned.{rounds}
use Rattle.ra_pins.specs.Pinned.{is_pinned}
use Rattle.ra_pins.specs.Laws.{PinnedStay}
use Rattle.ra_pins.proofs.RoundLemmas.{some_found, flagged_share_yes, flagged_share_free, flagged_share_elsewhere, Why}
use Rattle.ra_pins.proofs.RoundLemmas.{why_blocked, stuck_blocked, round_cases, rounds_none, rounds_next}
use Rattle.ra_pins.proofs.RoundLemmas.Why.{shut, full, between, twin}

-- a sum that has more at each place, and at one place e more
pub total_room : (n p e : ℕ) (f g : ℕ → ℕ) → p < n → ((k : ℕ) → k < n → k ≢ p → f k ≤ g k) → f p + e ≤ g p →
    total n f + e ≤ total n g
total_room n p e f g within each more = omega (
  arith,
  total_of_sum n f (λ k. cond (eqb k p) e 0),
  total_point n p (λ k. e) within,
  total_le n (λ k. f k + cond (eqb k p) e 0) g (λ k h. elim (cases_eq k p) [
    | inl here ↦ omega (arith, ap f here, ap g here, cond-true _ e 0 (eq-eqb k p here))
    | inr apart ↦ omega (arith, each k h apart, cond-false _ e 0 (ne_eqb k p apart))
  ]),
)

module _ (i : Tables) where
  module _ (a0 : List Machine) (m r p at : ℕ) where
    between_home : machine_at a0 p ≡ m → transient_share i a0 m r p at ≡ requirement_of i p r
    unfolding transient_share
    between_home here = grind (arith, or_left, eq-eqb)

    between_there : at ≡ m → transient_share i a0 m r p at ≡ requirement_of i p r
    unfolding transient_share
    between_there here = grind (arith, or_right, eq-eqb)

-- the flagged processes are on their initial machines
pub record Agree (i : Tables) (a0 a : List Machine) (x : ℕ → Bool) : Type 0 where
  pub each : (z : ℕ) → z < process_count i → x z ≡ true → machine_at a z ≡ machine_at a0 z

module _ (i : Tables) (a0 a : List Machine) where
  module _ (x : ℕ → Bool) (m r : ℕ) where
    -- what the flagged processes use
    flagged_part : (z : ℕ) → Agree i a0 a x → z < process_count i →
        flagged_share i x m r z (machine_at a0 z) ≤ use_share i m r z (machine_at a z)
    flagged_part z agree h =
        grind (arith, flagged_share_yes, use_share_here, flagged_share_elsewhere, flagged_share_free)

    -- the flagged processes of a machine are a part of its use
    pub flagged_below : Agree i a0 a x → flagged_use i a0 x m r ≤ use_of i a m r
    unfolding flagged_use use_of tally
    flagged_below agree = grind (arith, total_le, flagged_part)

  between_part : (m r z : ℕ) → use_share i m r z (machine_at a0 z) ≤
      transient_share i a0 m r z (machine_at a z)
  between_part m r z = grind (arith, use_share_here, between_home, use_share_elsewhere)

  module _ (p m r : ℕ) where
    -- beside all that start on a machine another process that comes there
    transient_beside : p < process_count i → machine_at a p ≡ m → m ≢ machine_at a0 p →
        use_of i a0 m r + requirement_of i p r ≤ transient_of i a0 a m r
    unfolding use_of transient_of tally
    transient_beside h at apart = total_room _ p _
        (λ z. use_share i m r z (machine_at a0 z)) (λ z. transient_share i a0 m r z (machine_at a z)) h
        (λ z z_in other. between_part m r z)
        (omega (
          arith,
          use_share_elsewhere i m r p (machine_at a0 p) (λ e. apart (sym e)),
          between_there i a0 m r p _ at,
        ))

    between_clash : Feasible i a0 a → p < process_count i → m < machine_count i → r < resource_count i →
        machine_at a p ≡ m → m ≢ machine_at a0 p → lacks_between i a0 p m r ≡ true → ⊥
    unfolding lacks_between
    between_clash feasible h m_in r_in at apart e = grind (arith, and_parts, ltb-true, transient_beside)

  module _ (x : ℕ → Bool) (p m : ℕ) where
    -- beside them another process on the machine
    use_beside : (r : ℕ) → Agree i a0 a x → p < process_count i → machine_at a p ≡ m → m ≢ machine_at a0 p →
        flagged_use i a0 x m r + requirement_of i p r ≤ use_of i a m r
    unfolding flagged_use use_of tally
    use_beside r agree h at apart = total_room _ p _
        (λ z. flagged_share i x m r z (machine_at a0 z)) (λ z. use_share i m r z (machine_at a z)) h
        (λ z z_in other. flagged_part x m r z agree z_in)
        (omega (
          arith,
          flagged_share_elsewhere i x m r p (machine_at a0 p) (λ e. apart (sym e)),
          use_share_here i m r p _ at,
        ))

    lack_clash : (r : ℕ) → Feasible i a0 a → Agree i a0 a x → p < process_count i → m < machine_count i →
        r < resource_count i → machine_at a p ≡ m → m ≢ machine_at a0 p → lacks i a0 x p m r ≡ true → ⊥
    unfolding lacks
    lack_clash r feasible agree h m_in r_in at apart e = grind (arith, ltb-true, use_beside)

    twin_clash : (z : ℕ) → Feasible i a0 a → Agree i a0 a x → p < process_count i → z < process_count i →
        machine_at a p ≡ m → m ≢ machine_at a0 p → holds i a0 x (service_of i p) m z ≡ true → ⊥
    unfolding holds is_of
    twin_clash z feasible agree h z_in at apart e = grind (arith, and_parts, eqb-true)

    why_clash : Feasible i a0 a → Agree i a0 a x → p < process_count i → m < machine_count i → machine_at a p ≡ m →
        m ≢ machine_at a0 p → Why i a0 x p m → ⊥
    unfolding flagged_starts_on
    why_clash feasible agree h m_in at apart (shut e) =
        apart (sym at ∙ sym (feasible.closed p h (ap (closed_at i) at ∙ e)))
    why_clash feasible agree h m_in at apart (full e) =
        let found = some_found _ _ e in
        lack_clash found.0 feasible agree h m_in found.1 at apart found.2
    why_clash feasible agree h m_in at apart (between e) =
        let found = some_found _ _ e in
        between_clash p m found.0 feasible h m_in found.1 at apart found.2
    why_clash feasible agree h m_in at apart (twin e) =
        let found = some_found _ _ e in
        twin_clash found.0 feasible agree h found.1 at apart found.2

  -- round by round: a process that is stuck between processes that stay stays
  rounds_stay : (n : ℕ) → IsAssignment i a → Feasible i a0 a → Agree i a0 a (rounds i a0 n)
  rounds_stay zero fits feasible = record { each = λ p h e. absurd (both_ways _ (rounds_none i a0 p) e) }
  rounds_stay (suc n) fits feasible = rw rounds_next (record {
    each = λ p h e. elim (round_cases i a0 _ p e) [
      | inl flag ↦ (rounds_stay n fits feasible).each p h flag
      | inr shut_now ↦ elim (cases_eq (machine_at a p) (machine_at a0 p)) [
        | inl here ↦ here
        | inr apart ↦ absurd (why_clash _ p _ feasible (rounds_stay n fits feasible)
            h (fits.in_range p h) refl apart
            (why_blocked i a0 _ p _
            (stuck_blocked i a0 _ p (machine_at a p) shut_now (fits.in_range p h) apart)))
      ]
    ];
  })

  pub pinned_agree : IsAssignment i a → Feasible i a0 a → Agree i a0 a (is_pinned i a0)
  unfolding is_pinned
  pinned_agree fits feasible = rounds_stay _ fits feasible

pub pinned_stay : PinnedStay
pinned_stay i a0 p h e a fits feasible = (pinned_agree i a0 a fits feasible).each p h e
