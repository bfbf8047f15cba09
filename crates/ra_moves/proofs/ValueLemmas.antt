-- Sums over the processes after a move, step by step; and the machines that are no end of it, whose use stays.
use Rattle.std.proofs.Common.{◌≡◌, ℕ, zero, suc, ◌+◌, ◌<◌, ◌≤◌, ltb, List, length, set, sym, refl, ap, ◌∙◌, arith}
use Rattle.std.proofs.lemmas.Bool.{cond-true, cond-false}
use Rattle.ra_base.specs.Sums.{total}
use Rattle.ra_base.specs.declared.ids.Machine.{Machine}
use Rattle.ra_base.proofs.Sums.{total_none, total_suc}
use Rattle.ra_model.specs.declared.raw.Tables.{Tables}
use Rattle.ra_model.specs.Numbers.{machine_count}
use Rattle.ra_model.specs.Assignments.{IsAssignment, machine_at, tally}
use Rattle.ra_model.proofs.TallyLemmas.{tally_set, fits_set}
use Rattle.ra_moves.specs.declared.steps.Step.{Step}
use Rattle.ra_moves.specs.Steps.{step_at, process_in, from_in, to_in, StandsAt, Distinct}
use Rattle.ra_moves.specs.Replacing.{after_steps}
use Rattle.ra_moves.specs.Values.{gone, come, end_in}
use Rattle.ra_moves.proofs.Applying.{length_after, after_stayed}

module _ (a : List Machine) (steps : List Step) (k : ℕ) where
  -- before its step a process is where it was, since no process is named twice
  pub after_before : k < length steps → StandsAt from_in steps a →
      Distinct steps → machine_at (after_steps a steps k) (process_in steps k) ≡ from_in steps k
  after_before within stands distinct =
      after_stayed a steps k _ (λ j before. distinct.apart j k before within) ∙ stands.at k within

  -- one step
  pub after_suc : after_steps a steps (suc k) ≡ set (after_steps a steps k) (process_in steps k) (step_at steps k).to
  unfolding after_steps
  after_suc = refl

module _ (n : ℕ) (f : ℕ → ℕ → ℕ) (a : List Machine) (steps : List Step) where
  tally_step : (k : ℕ) → k < length steps → length a ≡ n → StandsAt from_in steps a → Distinct steps →
      tally n f (after_steps a steps (suc k)) + gone f steps k ≡ tally n f (after_steps a steps k) + come f steps k
  unfolding gone come to_in
  tally_step k within long stands distinct =
      let now = after_steps a steps k in
      let p = process_in steps k in
      let moves = tally_set n p f now (step_at steps k).to (omega (arith, stands.known k within))
      (omega (arith, length_after a steps k, stands.known k within)) in
      ap (λ b. tally n f b + f p (from_in steps k)) (after_suc a steps k)
      ∙ ap (λ m. tally n f (set now p (step_at steps k).to) + f p m)
      (sym (after_before a steps k within stands distinct))
      ∙ moves

  -- a sum over the processes after the first k steps
  pub tally_after : (k : ℕ) → k ≤ length steps → length a ≡ n → StandsAt from_in steps a → Distinct steps →
      tally n f (after_steps a steps k) + total k (gone f steps) ≡ tally n f a + total k (come f steps)
  unfolding after_steps
  tally_after zero few long stands distinct =
      omega (arith, total_none (gone f steps), total_none (come f steps))
  tally_after (suc k) few long stands distinct =
      let earlier = tally_after k (omega arith) long stands distinct in
      let here = tally_step k few long stands distinct in
      omega (arith, earlier, here, total_suc k (gone f steps), total_suc k (come f steps))

module _ (steps : List Step) where
  -- the ends
  pub end_from : (j : ℕ) → j < length steps → end_in steps j ≡ from_in steps j
  unfolding end_in
  end_from j within = cond-true (ltb j _) _ _ (grind arith)

  pub end_to : (j : ℕ) → end_in steps (length steps + j) ≡ to_in steps j
  unfolding end_in
  end_to j = cond-false (ltb (length steps + j) (length steps)) _ _ (grind arith) ∙ ap (to_in steps) (omega arith)

module _ (i : Tables) (a : List Machine) (steps : List Step) where
  -- an assignment stays one, if each machine that is entered exists
  pub fits_after : (k : ℕ) → k ≤ length steps → IsAssignment i a → StandsAt from_in steps a →
      ((j : ℕ) → j < length steps → to_in steps j < machine_count i) → IsAssignment i (after_steps a steps k)
  unfolding after_steps to_in
  fits_after zero few fits stands there = fits
  fits_after (suc k) few fits stands there = fits_set i _ _
      (step_at steps k).to (fits_after k (omega arith) fits stands there)
      (omega (arith, fits.one_each, stands.known k few)) (there k few)
