-- What is read of the steps of a move, and sums over the processes after one more step.
use Rattle.std.proofs.Common.{inl, inr, ◌≡◌, ◌≢◌, ℕ, suc, ◌+◌, ◌-◌, ◌<◌, ◌≤◌, false, List, length, refl, sym, ap, ◌∙◌, add-one, arith}
use Rattle.std.proofs.lemmas.Bool.{cases_lt, or_from}
use Rattle.ra_base.specs.Sums.{total, is_named}
use Rattle.ra_base.specs.declared.ids.Machine.{Machine}
use Rattle.ra_base.proofs.Named.{is_named_more}
use Rattle.ra_base.proofs.Sums.{total_suc}
use Rattle.ra_model.specs.declared.raw.Tables.{Tables}
use Rattle.ra_model.specs.Numbers.{machine_count, process_count, service_count, service_of}
use Rattle.ra_model.specs.Limits.{WellFormed}
use Rattle.ra_model.specs.Assignments.{IsAssignment, tally}
use Rattle.ra_moves.specs.declared.steps.Step.{Step}
use Rattle.ra_moves.specs.Steps.{step_at, process_in, from_in, to_in}
use Rattle.ra_moves.specs.Replacing.{after_steps, applied}
use Rattle.ra_moves.specs.Values.{gone, come, end_count, end_in}
use Rattle.ra_moves.proofs.ValueLemmas.{tally_after, fits_after, end_from, end_to}
use Rattle.ra_moves.specs.Touched.{service_in}
use Rattle.ra_moves.specs.Moving.{IsMove}
use Rattle.ra_world.proofs.RequiredLaws.{process_read}

module _ (steps : List Step) (j : ℕ) (s : Step) (is : s ≡ step_at steps j) where
  -- the numbers of a step
  pub from_read : s.from.0 ≡ from_in steps j
  unfolding from_in
  from_read = ap (λ (x : Step). x.from.0) is

  pub to_read : s.to.0 ≡ to_in steps j
  unfolding to_in
  to_read = ap (λ (x : Step). x.to.0) is

pub service_read : (i : Tables) (steps : List Step) (j n : ℕ) (s : Step) → s ≡ step_at steps j →
    n ≡ service_of i s.process.0 → n ≡ service_in i steps j
unfolding service_in
service_read i steps j n s is read = read ∙ ap (service_of i) (process_read steps j s is)

pub service_known : (i : Tables) (n p : ℕ) → WellFormed i → p < process_count i → n ≡ service_of i p →
    n < service_count i
service_known i n p limits within read = omega (arith, read, limits.services p within)

module _ (steps : List Step) (j : ℕ) where
  -- the ends
  pub end_within : (n : ℕ) → j < end_count steps → n ≡ length steps → n ≤ j → j - n < length steps
  unfolding end_count
  end_within n within is above = omega arith

  module _ {n : ℕ} {s : Step} (is : n ≡ length steps) where
    pub end_left_read : j < n → s ≡ step_at steps j → s.from.0 ≡ end_in steps j
    end_left_read below read = from_read steps j s read ∙ sym (end_from steps j (omega arith))

    pub end_entered_read : n ≤ j → s ≡ step_at steps (j - n) → s.to.0 ≡ end_in steps j
    end_entered_read above read =
        to_read steps _ s read ∙ sym (end_to steps (j - n)) ∙ ap (end_in steps) (omega (arith, is))

module _ (i : Tables) (a : List Machine) (steps : List Step) where
  -- one more step
  pub tally_next : (f : ℕ → ℕ → ℕ) (j : ℕ) → IsMove i a steps → j < length steps →
      tally (process_count i) f (after_steps a steps (j + 1)) + f (process_in steps j) (from_in steps j) ≡
      tally (process_count i) f (after_steps a steps j) + f (process_in steps j) (to_in steps j)
  unfolding gone come
  tally_next f j move within =
      let now = tally_after _ f a steps j (omega arith) move.fits.one_each move.stands move.distinct in
      let next : tally (process_count i) f (after_steps a steps (j + 1)) + total (suc j) (gone f steps) ≡
      tally (process_count i) f a + total (suc j) (come f steps) =
      rw add-one (tally_after _ f a steps (suc j) within move.fits.one_each move.stands
      move.distinct) in
      omega (arith, now, next, total_suc j (gone f steps), total_suc j (come f steps))

  module _ (j : ℕ) (s : Step) (move : IsMove i a steps) (within : j < length steps) (is : s ≡ step_at steps j) where
    -- they are those of the instance
    pub process_known : s.process.0 < process_count i
    process_known =
        omega (arith, process_read steps j s is, move.stands.known j within, move.fits.one_each)

    pub to_known : s.to.0 < machine_count i
    to_known = omega (arith, to_read steps j s is, move.reaches j within)

    pub from_known : s.from.0 < machine_count i
    from_known = grind (arith, from_read)

  module _ (j : ℕ) (move : IsMove i a steps) where
    pub end_known : j < end_count steps → end_in steps j < machine_count i
    unfolding end_count
    end_known within = elim (cases_lt j (length steps)) [
      | inl first ↦ omega (
        arith,
        end_from steps j first,
        move.stands.at j first,
        move.fits.in_range (process_in steps j) (omega (arith, move.stands.known j first, move.fits.one_each)),
      )
      | inr second ↦ let here : j ≡ length steps + (j - length steps) = omega arith in
          omega (
            arith,
            ap (end_in steps) here,
            end_to steps (j - length steps),
            move.reaches (j - length steps) (omega arith),
          )
    ]

    pub fits_at : j ≤ length steps → IsAssignment i (after_steps a steps j)
    fits_at few = fits_after i a steps j few move.fits move.stands move.reaches

module _ (a : List Machine) (steps : List Step) where
  pub applied_all : (n : ℕ) → n ≡ length steps → after_steps a steps n ≡ applied a steps
  unfolding applied
  applied_all n is = ap (after_steps a steps) is

  pub after_zero : a ≡ after_steps a steps 0
  unfolding after_steps
  after_zero = refl

-- one more name that isn't m
pub unnamed_more : (k : ℕ) {x : ℕ} (e : ℕ → ℕ) (m : ℕ) → is_named k e m ≡ false → x ≡ e k → x ≢ m →
    is_named (k + 1) e m ≡ false
unnamed_more k {x} e m before is apart = grind (arith, is_named_more, or_from)
