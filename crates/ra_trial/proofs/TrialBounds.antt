-- All numbers in a trial's model file are small, and its text is short.
use Rattle.std.proofs.Common.{inl, inr, ◌≡◌, ◌≢◌, ℕ, ◌+◌, ◌/◌, ◌%◌, ◌^◌, ◌<◌, ◌≤◌, Bool, true, false, List, cond, eqb}
use Rattle.std.proofs.Common.{[], ◌∷◌, sym, subst, arith}
use Rattle.std.proofs.Common.{eq-eqb, ne_eqb}
use Rattle.std.proofs.lemmas.Bool.{cases_eq, cond-true, cond-false}
use Rattle.ra_base.proofs.Sums.{total_bound}
use Rattle.ra_trial.specs.Lines.{listed}
use Rattle.ra_trial.specs.Numbers.{trial_transient_of, trial_requirement_of, trial_process_cost_of, trial_start_of}
use Rattle.ra_trial.specs.Numbers.{start_share, start_use_of}
use Rattle.ra_trial.specs.Numbers.{trial_capacity_of, trial_safety_of, trial_way_cost_of, trial_spread_of}
use Rattle.ra_trial.specs.Trials.{resource_line, machine_front, machine_line, service_line, process_line}
use Rattle.ra_trial.specs.Trials.{resource_lines, machine_lines, service_lines, process_lines, last_lines}
use Rattle.ra_trial.proofs.LineNumbers.{all_lines}
use Rattle.ra_trial.proofs.LineBounds.{IsShort, AreShort, one_short, short_append, group_short, numbers_short}
use Rattle.ra_trial.proofs.LineBounds.{number_short, none_short, numbers_append}

chosen_low : (t : Bool) {x y most : ℕ} → x ≤ most → y ≤ most → cond t x y ≤ most
chosen_low true x_low y_low = x_low
chosen_low false x_low y_low = y_low

either_short : (t : Bool) {c : ℕ} {xs ys : List ℕ} → IsShort c xs → IsShort c ys → IsShort c (cond t xs ys)
either_short true one other = one
either_short false one other = other

pub way_cost_low : (a b : ℕ) → trial_way_cost_of a b ≤ 5
unfolding trial_way_cost_of
way_cost_low a b = chosen_low (eqb a b) (omega arith) (omega arith)

-- the lines
resource_short : (r : ℕ) → IsShort 2 (resource_line r)
unfolding resource_line trial_transient_of
resource_short r =
    number_short 2 (omega arith)
    (omega (arith, chosen_low (eqb r 0) {x = 1} {y = 0} {most = 1} (omega arith) (omega arith)))
    (number_short 1 (omega arith) (omega arith) none_short)

-- a line of one number, and one of three
one_number : (n : ℕ) → n < 2 ^ 32 → IsShort 1 (n ∷ [])
one_number n small = number_short 1 (omega arith) small none_short

three_numbers : (a b c : ℕ) → a < 2 ^ 32 → b < 2 ^ 32 → c < 2 ^ 32 → IsShort 3 (a ∷ b ∷ c ∷ [])
three_numbers a b c a_small b_small c_small =
    number_short 3 (omega arith) a_small (number_short 2 (omega arith) b_small (one_number c c_small))

last_short : AreShort 92 last_lines
unfolding last_lines
last_short =
    short_append 12 80 92 (omega arith) (one_short (one_number 1 (omega arith)))
    (short_append 34 46 80 (omega arith)
    (one_short (three_numbers 0 1 2 (omega arith) (omega arith) (omega arith)))
    (short_append 12 34 46 (omega arith) (one_short (one_number 10 (omega arith)))
    (one_short (three_numbers 1 10 100 (omega arith) (omega arith) (omega arith)))))

module _ (g : ℕ → ℕ) where
  -- the numbers that are drawn, and those made of them
  pub requirement_low : (p r : ℕ) → trial_requirement_of g p r ≤ 100
  unfolding trial_requirement_of
  requirement_low p r = omega arith

  pub process_cost_low : (p : ℕ) → trial_process_cost_of g p ≤ 10
  unfolding trial_process_cost_of
  process_cost_low p = omega arith

  pub spread_low : (s : ℕ) → trial_spread_of g s ≤ 3
  unfolding trial_spread_of
  spread_low s = omega arith

  module _ (m r : ℕ) where
    use_low : start_use_of g m r ≤ 100000
    unfolding start_use_of start_share
    use_low =
        total_bound 1000 100 (start_share g m r)
        (λ p within. chosen_low (eqb _ m) (requirement_low p r) (omega arith))

    pub capacity_low : trial_capacity_of g m r ≤ 100299
    unfolding trial_capacity_of
    capacity_low = omega (arith, use_low)

    pub safety_low : trial_safety_of g m r ≤ 100299
    unfolding trial_safety_of
    safety_low = omega (arith, capacity_low)

  machine_short : (m : ℕ) → m < 100 → IsShort 110 (machine_line g m)
  unfolding machine_line machine_front
  machine_short m within =
      numbers_append 110 (omega arith)
      (number_short 10 (omega arith) (omega arith) (number_short 9 (omega arith) (omega arith)
      (numbers_append 8 (omega arith)
      (numbers_short (λ r r_in. omega (arith, capacity_low m r)))
      (numbers_short (λ r r_in. omega (arith, safety_low m r))))))
      (numbers_short (λ b b_in. omega (arith, way_cost_low m b)))

  service_short : (s : ℕ) → s < 250 → IsShort 3 (service_line g s)
  unfolding service_line
  service_short s within = either_short _
      (number_short 3 (omega arith) (omega (arith, spread_low s)) (number_short 2 (omega arith) (omega arith)
      (number_short 1 (omega arith) (omega arith) none_short)))
      (number_short 3 (omega arith) (omega (arith, spread_low s)) (number_short 1 (omega arith)
      (omega arith) none_short))

  process_short : (p : ℕ) → p < 1000 → IsShort 6 (process_line g p)
  unfolding process_line
  process_short p within =
      number_short 6 (omega arith) (omega arith)
      (numbers_append 5 (omega arith)
      (numbers_short (λ r r_in. omega (arith, requirement_low p r)))
      (number_short 1 (omega arith) (omega (arith, process_cost_low p)) none_short))

  pub all_short : AreShort 196832 (all_lines g)
  unfolding all_lines resource_lines machine_lines service_lines process_lines
  all_short =
      short_append 104 196728 196832 (omega arith)
      (group_short (omega arith) (omega arith) (λ r within. resource_short r))
      (short_append 121112 75616 196728 (omega arith)
      (group_short (omega arith) (omega arith)
      machine_short)
      (short_append 8512 67104 75616 (omega arith)
      (group_short (omega arith) (omega arith) service_short)
      (short_append 67012 92 67104 (omega arith)
      (group_short (omega arith) (omega arith) process_short)
      last_short)))
