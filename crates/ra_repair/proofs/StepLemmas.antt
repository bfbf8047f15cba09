-- What one process that goes to another machine changes of the penalty.
use Rattle.std.proofs.Common.{◌≡◌, ◌≢◌, ℕ, ◌+◌, ◌-◌, ◌<◌, Bool, false, cond, eqb, ltb, ◌||◌, List, set, ap}
use Rattle.std.proofs.Common.{◌∙◌, arith}
use Rattle.std.proofs.lemmas.Bool.{and_left, and_right}
use Rattle.ra_base.specs.declared.ids.Machine.{Machine}
use Rattle.ra_base.proofs.Sums.{total_same, total_change, total_change_two}
use Rattle.ra_base.proofs.Counts.{count_same}
use Rattle.ra_model.specs.declared.raw.Tables.{Tables}
use Rattle.ra_model.specs.Numbers.{machine_count, service_count, process_count, service_of}
use Rattle.ra_model.specs.Numbers.{requirement_of, transient_at, capacity_of}
use Rattle.ra_model.specs.Limits.{WellFormed, Small}
use Rattle.ra_model.specs.Assignments.{IsAssignment, machine_at}
use Rattle.ra_model.specs.Usage.{use_of, transient_share, transient_of}
use Rattle.ra_model.specs.Services.{is_of, of_service, members_at, on_machine, in_location, locations_of}
use Rattle.ra_model.proofs.TallyLemmas.{machine_at_set_same, tally_set, use_set, transient_set, members_set}
use Rattle.ra_model.proofs.TallyLemmas.{use_share_elsewhere}
use Rattle.ra_repair.specs.Penalty.{use_above, row_above, capacity_penalty, transient_above, row_transient_above}
use Rattle.ra_repair.specs.Penalty.{transient_penalty, crowd_on, service_crowd, conflict_penalty, spread_lack}
use Rattle.ra_repair.specs.Penalty.{spread_penalty, closed_share, closed_penalty, penalty}
use Rattle.ra_repair.specs.Touched.{rows_touched, transient_touched, crowds_touched, touched}
use Rattle.ra_repair.proofs.FarLemmas.{far_set}

-- a process that goes to another machine
pub record Goes (i : Tables) (a : List Machine) (p from : ℕ) (to : Machine) : Type 0 where
  pub fits : IsAssignment i a
  pub known : p < process_count i
  pub at : machine_at a p ≡ from
  pub there : to.0 < machine_count i
  pub apart : from ≢ to.0

pub goes : {i : Tables} {a : List Machine} (p : ℕ) {from : ℕ} (to : Machine) → IsAssignment i a → p < process_count i →
    machine_at a p ≡ from → to.0 < machine_count i → from ≢ to.0 → Goes i a p from to
goes p to fits known at there apart = record { fits = fits; known = known; at = at; there = there; apart = apart }

-- transient use

transient_elsewhere : (i : Tables) (a0 : List Machine) (m r p at : ℕ) → at ≢ m →
    transient_share i a0 m r p at ≡ cond (eqb (machine_at a0 p) m || false) (requirement_of i p r) 0
unfolding transient_share
transient_elsewhere i a0 m r p at apart = grind arith

-- counts of services

-- of another service nothing changes
share_of_other : (i : Tables) (u : ℕ) (test : ℕ → ℕ → Bool) (p at : ℕ) → u ≢ service_of i p →
    of_service i u test p at ≡ 0
unfolding of_service is_of
share_of_other i u test p at apart = grind (arith, and_left)

-- nor on another machine
share_on_other : (i : Tables) (u m p at : ℕ) → m ≢ at → of_service i u (λ q there. eqb there m) p at ≡ 0
unfolding of_service
share_on_other i u m p at apart = grind (arith, and_right)

module _ (i : Tables) (a : List Machine) (p : ℕ) where
  module _ (from : ℕ) (to : Machine) where
    -- the machine that it leaves exists
    left_there : Goes i a p from to → from < machine_count i
    left_there goes = omega (arith, goes.at, goes.fits.in_range p goes.known)

    -- use

    use_kept : (m r : ℕ) → Goes i a p from to → m ≢ from → m ≢ to.0 → use_of i (set a p to) m r ≡ use_of i a m r
    use_kept m r goes not_from not_to = grind (arith, use_set, use_share_elsewhere)

    row_kept : (m : ℕ) → Goes i a p from to → m ≢ from → m ≢ to.0 → row_above i (set a p to) m ≡ row_above i a m
    unfolding row_above use_above
    row_kept m goes not_from not_to = total_same _ _
        _ (λ r h. ap (λ u. u - capacity_of i m r) (use_kept m r goes not_from not_to))

    rows_set : Goes i a p from to →
        capacity_penalty i (set a p to) + rows_touched i a from to.0 ≡
        capacity_penalty i a + rows_touched i (set a p to) from to.0
    unfolding capacity_penalty rows_touched
    rows_set goes = total_change_two _ from to.0 _ _
        (left_there goes) goes.there goes.apart
        (λ m h not_from not_to. row_kept m goes not_from not_to)

  module _ (to : Machine) (u : ℕ) where
    others_kept : (test : ℕ → ℕ → Bool) → IsAssignment i a → p < process_count i → u ≢ service_of i p →
        members_at i (set a p to) u test ≡ members_at i a u test
    others_kept test fits known apart =
        omega (arith, members_set, share_of_other)

    crowd_of_other : (m : ℕ) → IsAssignment i a → p < process_count i → u ≢ service_of i p →
        crowd_on i (set a p to) u m ≡ crowd_on i a u m
    unfolding crowd_on on_machine
    crowd_of_other m fits known apart = grind (arith, others_kept, fits)

  module _ (from : ℕ) (to : Machine) where
    crowd_on_other : (u m : ℕ) → Goes i a p from to → m ≢ from → m ≢ to.0 →
        crowd_on i (set a p to) u m ≡ crowd_on i a u m
    unfolding crowd_on on_machine
    crowd_on_other u m goes not_from not_to =
        ap (λ n. n - 1)
        (omega (
          arith,
          members_set i a p to u (λ q at. eqb at m) goes.fits goes.known,
          share_on_other i u m p (machine_at a p) (λ here. not_from (here ∙ goes.at)),
          share_on_other i u m p to.0 not_to,
        ))

    crowds_set : service_of i p < service_count i → Goes i a p from to →
        conflict_penalty i (set a p to) + crowds_touched i a (service_of i p) from to.0 ≡
        conflict_penalty i a + crowds_touched i (set a p to) (service_of i p) from to.0
    unfolding conflict_penalty service_crowd crowds_touched
    crowds_set known goes =
        let s = service_of i p in
        let b = set a p to in
        let outer = total_change (service_count i) s (service_crowd i b) (service_crowd i a) known
        (λ u h apart. total_same (machine_count i) (crowd_on i b u) (crowd_on i a u)
        (λ m l. crowd_of_other to u m goes.fits goes.known apart)) in
        let inner = total_change_two (machine_count i) from to.0 (crowd_on i b s) (crowd_on i a s)
        (left_there from to goes) goes.there goes.apart
        (λ m h not_from not_to. crowd_on_other s m goes not_from not_to) in
        omega (arith, outer, inner)

  -- locations

  in_other_location : (to : Machine) (u label : ℕ) → IsAssignment i a → p < process_count i → u ≢ service_of i p →
      in_location i (set a p to) u label ≡ in_location i a u label
  unfolding in_location
  in_other_location to u label fits known apart = grind (arith, others_kept, fits)

  module _ (to : Machine) (u : ℕ) (fits : IsAssignment i a) (known : p < process_count i)
      (apart : u ≢ service_of i p) where
    locations_of_other : locations_of i (set a p to) u ≡ locations_of i a u
    unfolding locations_of
    locations_of_other =
        count_same _ (λ label. ltb 0 (in_location i (set a p to) u label))
        (λ label. ltb 0 (in_location i a u label))
        (λ label within. ap (ltb 0) (in_other_location to u label fits known apart))

    lack_of_other : spread_lack i (set a p to) u ≡ spread_lack i a u
    unfolding spread_lack
    lack_of_other = grind (arith, locations_of_other)

  spread_set : (to : Machine) → service_of i p < service_count i → IsAssignment i a → p < process_count i →
      spread_penalty i (set a p to) + spread_lack i a (service_of i p) ≡
      spread_penalty i a + spread_lack i (set a p to) (service_of i p)
  unfolding spread_penalty
  spread_set to within fits known = total_change _ _ _
      _ within (λ u h apart. lack_of_other to u fits known apart)

module _ (i : Tables) (a0 a : List Machine) (p : ℕ) where
  -- closed machines

  closed_set : (to : Machine) → IsAssignment i a → p < process_count i →
      closed_penalty i a0 (set a p to) + closed_share i a0 p (machine_at a p) ≡
      closed_penalty i a0 a + closed_share i a0 p to.0
  unfolding closed_penalty
  closed_set to fits known = grind (arith, tally_set)

  module _ (from : ℕ) (to : Machine) where
    transient_kept : (m r : ℕ) → Goes i a p from to → m ≢ from → m ≢ to.0 →
        transient_of i a0 (set a p to) m r ≡ transient_of i a0 a m r
    transient_kept m r goes not_from not_to = grind (arith, transient_set, transient_elsewhere)

    row_transient_kept : (m : ℕ) → Goes i a p from to → m ≢ from → m ≢ to.0 →
        row_transient_above i a0 (set a p to) m ≡ row_transient_above i a0 a m
    unfolding row_transient_above transient_above
    row_transient_kept m goes not_from not_to =
        total_same _ _ _
        (λ r h. ap (λ u. cond (transient_at i r) (u - capacity_of i m r) 0)
        (transient_kept m r goes not_from not_to))

    transients_set : Goes i a p from to →
        transient_penalty i a0 (set a p to) + transient_touched i a0 a from to.0 ≡
        transient_penalty i a0 a + transient_touched i a0 (set a p to) from to.0
    unfolding transient_penalty transient_touched
    transients_set goes =
        total_change_two _ from to.0 _
        _
        (left_there i a p from to goes) goes.there goes.apart
        (λ m h not_from not_to. row_transient_kept m goes not_from not_to)

    -- all together

    pub penalty_set : WellFormed i → Small i → Goes i a p from to →
        penalty i a0 (set a p to) + touched i a0 a p from to.0 ≡ penalty i a0 a + touched i a0 (set a p to) p from to.0
    unfolding penalty touched
    penalty_set limits small goes =
        grind (arith, rows_set, goes, transients_set, crowds_set, spread_set, far_set, closed_set, machine_at_set_same)
