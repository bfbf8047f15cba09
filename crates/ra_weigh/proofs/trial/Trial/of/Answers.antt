-- What a world keeps is what a trial needs.
use Rattle.std.proofs.Common.{refl, arith}
use Rattle.ra_model.proofs.BrokenLemmas.{fine_from_unbroken}
use Rattle.ra_moves.proofs.Local.{failures_are_local}
use Rattle.ra_weigh.proofs.StepLemmas.{none_each}
use Rattle.ra_weigh.proofs.trial.Trial.of.Goals as goal

pub invariant_of-result : goal.invariant_of-result
invariant_of-result c = record {
  moves = rw (c.instance.ensures.value, c.assignment.ensures.value) c.requires.moves;
  begins = rw (c.instance.ensures.value, c.initial.ensures.value) c.instance.ensures.sound.starts;
  fine = rw (c.instance.ensures.value, c.initial.ensures.value, c.assignment.ensures.value)
      (fine_from_unbroken _ _ _ c.instance.ensures.sound.unbroken);
  local = rw (c.instance.ensures.value, c.initial.ensures.value, c.assignment.ensures.value)
      (failures_are_local _ _ _ _ c.instance.ensures.sound.well_formed c.requires.moves
      c.instance.ensures.sound.unbroken);
  topology = rw c.instance.ensures.value c.topology.ensures.fits;
  rows_tables = rw c.instance.ensures.value c.rows.ensures.instance;
  rows_start = rw c.initial.ensures.value c.rows.ensures.initial;
  rows_stand = rw c.assignment.ensures.value c.rows.ensures.stand;
  cells_tables = rw c.instance.ensures.value c.cells.ensures.instance;
  cells_stand = rw (c.instance.ensures.value, c.initial.ensures.value, c.assignment.ensures.value)
      c.cells.ensures.stand;
  known = rw c.instance.ensures.value c.requires.required;
  read = c.steps_of.ensures;
  counted = c.steps.ensures.value;
  nothing_each = none_each 20;
  nothing_width = refl;
}
