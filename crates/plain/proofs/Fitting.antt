-- A move whose steps enter machines of the instance gives an assignment of the instance.
use Rattle.std.proofs.Common.{◌≡◌, ℕ, ◌<◌, true, false, List, length, sym, ap, ◌∙◌, ⊎_elim, arith}
use Rattle.std.proofs.lemmas.Bool.{cases_Bool, both_ways}
use Rattle.ra_base.specs.Sums.{is_named}
use Rattle.ra_base.specs.declared.ids.Machine.{Machine}
use Rattle.ra_base.proofs.Named.{is_named_at, is_named_from}
use Rattle.ra_model.specs.declared.raw.Tables.{Tables}
use Rattle.ra_model.specs.Numbers.{machine_count}
use Rattle.ra_model.specs.Assignments.{IsAssignment, machine_at}
use Rattle.ra_moves.specs.declared.steps.Step.{Step}
use Rattle.ra_moves.specs.Steps.{process_in, to_in}
use Rattle.ra_moves.specs.Replacing.{Applied}

pub fits_after : (i : Tables) (steps : List Step) (a b : List Machine) → Applied steps a b → IsAssignment i a →
    ((j : ℕ) → j < length steps → to_in steps j < machine_count i) → IsAssignment i b
fits_after i steps a b outcome fits reaches = record {
  one_each = outcome.same_length ∙ fits.one_each;
  in_range = λ p within. ⊎_elim
      (λ (named : is_named (length steps) (process_in steps) p ≡ true).
      let found = is_named_from (length steps) (process_in steps) p named in
      let goes : machine_at b p ≡ to_in steps found.0 = ap (machine_at b) (sym found.2)
      ∙ outcome.moved found.0 found.1 in
      omega (arith, goes, reaches found.0 found.1))
      (λ (unnamed : is_named (length steps) (process_in steps) p ≡ false).
      let stays : machine_at b p ≡ machine_at a p =
      outcome.stayed p
      (λ j before same. both_ways _ unnamed (is_named_at (length steps) j (process_in steps) p before same)) in
      omega (arith, stays, fits.in_range p within))
      (cases_Bool (is_named (length steps) (process_in steps) p));
}
