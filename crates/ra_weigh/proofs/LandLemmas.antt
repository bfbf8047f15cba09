-- Where a process is after a move.
use Rattle.std.proofs.Common.{◌≡◌, ℕ, ◌<◌, false, List, length, sym, ap, ◌∙◌, arith}
use Rattle.ra_base.specs.Sums.{is_named}
use Rattle.ra_base.specs.declared.ids.Machine.{Machine}
use Rattle.ra_model.specs.declared.raw.Tables.{Tables}
use Rattle.ra_model.specs.Numbers.{machine_count, process_count}
use Rattle.ra_model.specs.Assignments.{machine_at}
use Rattle.ra_moves.specs.declared.steps.Step.{Step}
use Rattle.ra_moves.specs.Steps.{step_at, process_in}
use Rattle.ra_moves.specs.Replacing.{applied}
use Rattle.ra_moves.proofs.ValueLemmas.{fits_after}
use Rattle.ra_moves.specs.Moving.{IsMove}
use Rattle.ra_moves.proofs.StayLemmas.{applied_of, process_stays}
use Rattle.ra_weigh.proofs.StepLemmas.{process_read, to_read}

module _ {i : Tables} {a : List Machine} {steps : List Step} where
  -- the machine to which its step leads
  pub lands_read : (j p : ℕ) {s : Step} → IsMove i a steps → s ≡ step_at steps j → j < length steps → s.process.0 ≡ p →
      s.to.0 ≡ machine_at (applied a steps) p
  lands_read j p {s} move is within same =
      sym (ap (machine_at (applied a steps)) (sym (process_read steps j is ∙ same))
      ∙ (applied_of i a steps move).moved j within ∙ to_read steps j is)

  -- or where it was
  pub stays_read : (n p m : ℕ) → IsMove i a steps → n ≡ length steps → is_named n (process_in steps) p ≡ false →
      m ≡ machine_at a p → m ≡ machine_at (applied a steps) p
  stays_read n p m move all unnamed is = is ∙ sym (process_stays i a steps p move (rw all at unnamed))

  pub after_there : (p : ℕ) → IsMove i a steps → p < process_count i → machine_at (applied a steps) p < machine_count i
  unfolding applied
  after_there p move within =
      (fits_after i a steps (length steps) (omega arith) move.fits move.stands move.reaches).in_range p within

pub ruleset landing = (lands_read, stays_read, after_there)
