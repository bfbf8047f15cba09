-- The options by kind.
use Rattle.std.proofs.Common.{◌≡◌, ℕ, zero, suc, ◌+◌, ◌%◌, ◌<◌, List, length, refl, sym, ap, ◌∙◌, arith}
use Rattle.std.specs.Prelude.{slice_index}
use Rattle.ra_base.specs.declared.ids.Machine.{Machine}
use Rattle.ra_base.specs.declared.causes.Drawing.{Drawing}
use Rattle.ra_base.specs.declared.causes.Drawing.TheVariants.{One, Two}
use Rattle.ra_model.specs.Assignments.{machine_at}
use Rattle.ra_moves.specs.declared.steps.MoveKind.{MoveKind}
use Rattle.ra_moves.specs.declared.steps.Step.{Step}
use Rattle.ra_moves.specs.Steps.{step_at, process_in, from_in, to_in, StandsAt}
use Rattle.ra_moves.specs.declared.steps.MoveKind.TheVariants.{Shift, Swap, Chain}
use Rattle.ra_moves.specs.Options.{kind_of, count_of, option_count, drawn, target, leaving, shift_of, swap_of, chain_of, option_of, option_at}

module _ (x : List ℕ) (m : ℕ) (d : Drawing) (i : ℕ) where
  pub shift_named : kind_of x ≡ Shift → i < option_count x m d → i < count_of Shift d m
  unfolding option_count
  shift_named is named = rw is at named

  pub swap_few : kind_of x ≡ Swap → i < option_count x m d → i < 4
  unfolding option_count count_of
  swap_few is named = rw is at named

-- each step of an option leaves the machine of its process, and enters one of the machines
-- step j of these steps, if each machine of a is below m
record Stepping (a : List Machine) (m : ℕ) (steps : List Step) (j : ℕ) : Type 0 where
  known : process_in steps j < length a
  at : machine_at a (process_in steps j) ≡ from_in steps j
  reaches : ((p : ℕ) → p < length a → machine_at a p < m) → to_in steps j < m

to_is : (a : List Machine) (steps : List Step) (j p to : ℕ) → step_at steps j ≡ leaving a p to → to_in steps j ≡ to
unfolding to_in leaving
to_is a steps j p to is = ap (λ s. s.to.0) is

target_below : (d : Drawing) (x : List ℕ) (m i : ℕ) → 0 < m → target d x m i < m
unfolding target
target_below One x m i some = omega arith
target_below Two x m i some = omega arith

module _ (a : List Machine) where
  module _ (x : List ℕ) (m : ℕ) (d : Drawing) (i : ℕ) where
    pub option_shift : (p to : ℕ) → kind_of x ≡ Shift →
        p ≡ slice_index x 1 % length a → to ≡ target d x m i → shift_of a p to ≡ option_at a x m d i
    unfolding option_at option_of drawn
    option_shift p to is p_is to_is = rw (is, p_is, to_is) refl

    pub option_swap : (p q : ℕ) → kind_of x ≡ Swap →
        p ≡ slice_index x 1 % length a → q ≡ slice_index x (2 + i) % length a → swap_of a p q ≡ option_at a x m d i
    unfolding option_at option_of drawn
    option_swap p q is p_is q_is = rw (is, p_is, q_is) refl

    pub option_chain : (p q r to : ℕ) → kind_of x ≡ Chain →
        p ≡ slice_index x 1 % length a → q ≡ slice_index x 2 % length a → r ≡ slice_index x 3 % length a →
        to ≡ slice_index x 4 % m → chain_of a p q r to ≡ option_at a x m d i
    unfolding option_at option_of drawn
    option_chain p q r to is p_is q_is r_is to_is = rw (is, p_is, q_is, r_is, to_is) refl

  module _ (steps : List Step) (j p to : ℕ) (is : step_at steps j ≡ leaving a p to) where
    process_is : process_in steps j ≡ p
    unfolding process_in leaving
    process_is = ap (λ s. s.process.0) is

    from_is : from_in steps j ≡ machine_at a p
    unfolding from_in leaving
    from_is = ap (λ s. s.from.0) is

  step_to : (m : ℕ) (steps : List Step) (j p to : ℕ) → step_at steps j ≡ leaving a p to →
      p < length a → to < m → Stepping a m steps j
  step_to m steps j p to is known below =
      let process = process_is steps j p to is in
      let enters = to_is a steps j p to is in
      record {
        known = omega arith;
        at = ap (machine_at a) process ∙ sym (from_is steps j p to is);
        reaches = λ in_range. omega arith;
      }

  step_on : (m : ℕ) (steps : List Step) (j p q : ℕ) → step_at steps j ≡ leaving a p (machine_at a q) →
      p < length a → q < length a → Stepping a m steps j
  step_on m steps j p q is known other =
      let process = process_is steps j p _ is in
      let enters = to_is a steps j p _ is in
      record {
        known = omega arith;
        at = ap (machine_at a) process ∙ sym (from_is steps j p _ is);
        reaches = λ in_range. omega (arith, in_range q other);
      }

  shift_steps : (m p to : ℕ) → p < length a → to < m → (j : ℕ) → j < length (shift_of a p to).steps →
      Stepping a m (shift_of a p to).steps j
  unfolding shift_of step_at
  shift_steps m p to known below zero within = step_to m _ 0 p to refl known below
  shift_steps m p to known below (suc j) within = absurd (omega arith)

  swap_steps : (m p q : ℕ) → p < length a → q < length a → (j : ℕ) → j < length (swap_of a p q).steps →
      Stepping a m (swap_of a p q).steps j
  unfolding swap_of step_at
  swap_steps m p q p_known q_known zero within = step_on m _ 0 p q refl p_known q_known
  swap_steps m p q p_known q_known (suc zero) within = step_on m _ 1 q p refl q_known p_known
  swap_steps m p q p_known q_known _ within = absurd (omega arith)

  module _ (m p q r to : ℕ) (p_known : p < length a) (q_known : q < length a) (r_known : r < length a)
      (below : to < m) where
    chain_steps : (j : ℕ) → j < length (chain_of a p q r to).steps → Stepping a m (chain_of a p q r to).steps j
    unfolding chain_of step_at
    chain_steps zero within = step_on m _ 0 p q refl p_known q_known
    chain_steps (suc zero) within = step_on m _ 1 q r refl q_known r_known
    chain_steps (suc (suc zero)) within = step_to m _ 2 r to refl r_known below
    chain_steps _ within = absurd (omega arith)

  drawn_known : (x : List ℕ) (j : ℕ) → 0 < length a → drawn a x j < length a
  unfolding drawn
  drawn_known x j some = omega arith

option_steps : (k : MoveKind) (a : List Machine) (x : List ℕ) (m : ℕ) (d : Drawing) (i : ℕ) → 0 < length a → 0 < m →
    (j : ℕ) → j < length (option_of k a x m d i).steps → Stepping a m (option_of k a x m d i).steps j
unfolding option_of
option_steps Shift a x m d i some below j within =
    shift_steps a m _ _ (drawn_known a x 1 some) (target_below d x m i below) j within
option_steps Swap a x m d i some below j within =
    swap_steps a m _ _ (drawn_known a x 1 some) (drawn_known a x _ some) j within
option_steps Chain a x m d i some below j within =
    chain_steps a m _ _ _ _ (drawn_known a x 1 some) (drawn_known a x 2 some) (drawn_known a x 3 some) (omega arith) j
    within

module _ (a : List Machine) (x : List ℕ) (m : ℕ) (d : Drawing) (i : ℕ) where
  pub option_stands : 0 < length a → 0 < m → StandsAt from_in (option_at a x m d i).steps a
  unfolding option_at
  option_stands some below = record {
    known = λ j within. (option_steps _ a x m d i some below j within).known;
    at = λ j within. (option_steps _ a x m d i some below j within).at;
  }

  pub option_reaches : 0 < length a → 0 < m → ((p : ℕ) → p < length a → machine_at a p < m) → (j : ℕ) →
      j < length (option_at a x m d i).steps → to_in (option_at a x m d i).steps j < m
  unfolding option_at
  option_reaches some below in_range j within =
      (option_steps (kind_of x) a x m d i some below j within).reaches in_range
