-- The start of a trial is an assignment and meets all constraints.
use Rattle.std.proofs.Common.{◌≡◌, ◌≢◌, ℕ, ◌+◌, ◌*◌, ◌/◌, ◌%◌, ◌^◌, ◌<◌, ◌≤◌, Bool, true, false, cond, eqb, ltb, ◌&&◌}
use Rattle.std.proofs.Common.{◌||◌, length, refl, sym, ap, ap₂, ◌∙◌, arith, eq-eqb, lt-ltb}
use Rattle.std.proofs.lemmas.Bool.{and_from}
use Rattle.ra_base.specs.declared.ids.Machine.{Machine}
use Rattle.ra_base.specs.Sums.{total}
use Rattle.ra_base.proofs.Sums.{total_same}
use Rattle.ra_base.proofs.Counts.{count_some}
use Rattle.ra_model.specs.declared.raw.Tables.{Tables}
use Rattle.ra_model.specs.Assignments.{machine_at, tally, IsAssignment}
use Rattle.ra_model.specs.Feasible.{HasNear, Feasible}
use Rattle.ra_model.specs.Services.{is_of, in_location, locations_of}
use Rattle.ra_model.specs.Usage.{use_share, use_of, transient_share, transient_of}
use Rattle.ra_model.specs.Numbers as model
use Rattle.ra_model.proofs.TallyLemmas.{members_count}
use Rattle.ra_trial.specs.Numbers.{trial_start_of, start_share, start_use_of, trial_capacity_of, trial_spread_of}
use Rattle.ra_trial.specs.Trials.{start_machine}
use Rattle.ra_trial.specs.InstanceNumbers.{HasNumbers}
use Rattle.ra_trial.specs.Instances.{start_list}
use Rattle.ra_trial.proofs.LineLemmas.{length_listed, listed_at}
use Rattle.ra_trial.proofs.Places.{apart_in_service, location_of_start, locations_apart, service_later, machine_later}
use Rattle.ra_trial.proofs.Places.{count_distinct}

-- the machine of a process
start_at : (p : ℕ) → p < 1000 → machine_at start_list p ≡ p % 100
unfolding machine_at start_list start_machine trial_start_of
start_at p within = ap (λ m. m.0) (listed_at 1000 start_machine p _ within)

pub start_many : length start_list ≡ 1000
unfolding start_list
start_many = length_listed 1000 start_machine

module _ (g : ℕ → ℕ) (i : Tables) (has : HasNumbers g i) where
  pub start_fits : IsAssignment i start_list
  start_fits = record {
    one_each = start_many ∙ sym has.processes;
    in_range = λ p within. omega (arith, has.processes, has.machines, start_at p (omega (arith, has.processes)));
  }

  -- nothing has moved
  or_itself : (b : Bool) → (b || b) ≡ b
  or_itself true = refl
  or_itself false = refl

  module _ (m r : ℕ) where
    -- what process p uses of a resource of a machine
    share_is : (p : ℕ) → p < 1000 → r < 4 → use_share i m r p (machine_at start_list p) ≡ start_share g m r p
    unfolding use_share start_share trial_start_of
    share_is p p_in r_in = grind (arith, start_at)

    use_is : r < 4 → use_of i start_list m r ≡ start_use_of g m r
    unfolding use_of tally start_use_of
    use_is r_in = grind (arith, total_same, share_is)

    use_fits : m < 100 → r < 4 → use_of i start_list m r ≤ model.capacity_of i m r
    unfolding trial_capacity_of
    use_fits m_in r_in = omega (arith, use_is r_in, has.capacity m r m_in r_in)

    transient_is : transient_of i start_list start_list m r ≡ use_of i start_list m r
    unfolding transient_of use_of tally transient_share use_share
    transient_is =
        total_same (model.process_count i) _
        _
        (λ p within. rw (or_itself _))

  -- two processes of one service are apart
  starts_apart : (p q : ℕ) → p < 1000 → q < 1000 → p ≢ q → model.service_of i p ≡ model.service_of i q →
      machine_at start_list p ≢ machine_at start_list q
  starts_apart p q p_in q_in apart one same = grind (arith, apart_in_service, start_at)

  -- the location of process j of service s is one in which the service is
  in_location_of : (s j : ℕ) → s < 250 → j < 3 → ltb 0 (in_location i start_list s ((4 * s + j) % 10)) ≡ true
  unfolding in_location is_of
  in_location_of s j s_in j_in =
      let p_in : 4 * s + j < 1000 = omega arith in
      let m_in : (4 * s + j) % 100 < 100 = omega arith in
      let its : model.service_of i (4 * s + j) ≡ s = has.service (4 * s + j) p_in
      ∙ (let e : (4 * s + j) / 4 ≡ s = omega arith in e) in
      let there : model.location_of i (machine_at start_list (4 * s + j)) ≡ (4 * s + j) % 10 =
      ap (model.location_of i) (start_at (4 * s + j) p_in) ∙ has.location ((4 * s + j) % 100) m_in
      ∙ location_of_start (4 * s + j) in
      let test = λ (p : ℕ). is_of i s p && eqb (model.location_of i (machine_at start_list p)) ((4 * s + j) % 10) in
      lt-ltb 0 _ (omega (
        arith,
        members_count i start_list s (λ p at. eqb (model.location_of i at) ((4 * s + j) % 10)),
        count_some (model.process_count i) (4 * s + j) test (omega (arith, has.processes))
            (and_from _ _ (eq-eqb _ s its) (eq-eqb _ _ there)),
      ))

  three_locations : (s : ℕ) → s < 250 → 3 ≤ locations_of i start_list s
  unfolding locations_of
  three_locations s s_in =
      count_distinct _ 3 (λ label. ltb 0 _) _
      (λ j j_in. omega arith)
      (λ j j_in. in_location_of s j s_in j_in)
      (λ k j k_in j_in apart. locations_apart s k j k_in j_in apart)

  spread_fits : (s : ℕ) → s < 250 → model.spread_of i s ≤ locations_of i start_list s
  unfolding trial_spread_of
  spread_fits s s_in = omega (arith, has.spread s s_in, three_locations s s_in)

  -- the process 100 numbers on is near
  near_is : (s k p : ℕ) → s < 250 → k < model.dependency_count i s → p < 1000 → model.service_of i p ≡ s →
      HasNear i start_list (model.need_of i s k) (model.neighbourhood_of i (machine_at start_list p))
  near_is s k p s_in k_in p_in its =
      let q_in : (p + 100) % 1000 < 1000 = omega arith in (
        (p + 100) % 1000,
        omega (arith, has.processes),
        has.service ((p + 100) % 1000) q_in ∙ service_later p p_in
            ∙ ap (λ t. (t + 25) % 250) (sym (has.service p p_in) ∙ its) ∙ sym (has.need s k s_in k_in),
        rw (start_at ((p + 100) % 1000) q_in ∙ machine_later p p_in ∙ sym (start_at p p_in)),
      )

  pub start_feasible : Feasible i start_list start_list
  start_feasible = record {
    capacity = λ m r m_in r_in. use_fits m r (omega (arith, has.machines)) (omega (arith, has.resources));
    transient = λ m r m_in r_in its.
        omega (arith, transient_is m r, use_fits m r (omega (arith, has.machines)) (omega (arith, has.resources)));
    conflict = λ p q p_in q_in apart one. starts_apart p q (omega (arith, has.processes)) (omega (arith, has.processes))
        apart one;
    spread = λ s s_in. spread_fits s (omega (arith, has.services));
    dependency =
        λ s k p s_in k_in p_in its. near_is s k p (omega (arith, has.services)) k_in (omega (arith, has.processes)) its;
    closed = λ p p_in is_closed. refl;
  }
