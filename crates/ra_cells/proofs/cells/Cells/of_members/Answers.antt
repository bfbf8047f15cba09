-- No process has moved from the initial assignment.
use Rattle.std.proofs.Common.{ℕ, ◌∙◌, refl, ap, sym, get_or, length}
use Rattle.std.proofs.lemmas.List.{get_or-replicate, length-replicate}
use Rattle.ra_model.specs.Numbers.{service_count}
use Rattle.ra_cells.proofs.CellLemmas.{moved_none}
use Rattle.ra_cells.proofs.cells.Cells.of_members.Goals as goal

pub invariant_of-result : goal.invariant_of-result
invariant_of-result c = record {
  starts_there = c.in_ok-starts.ensures;
  machines_sorted = c.in_ok-machines.ensures.sorted;
  locations_sorted = c.in_ok-locations.ensures.sorted;
  neighbourhoods_sorted = c.in_ok-neighbourhoods.ensures.sorted;
  spreads_there = c.in_ok-spreads.ensures;
  counts_there = ap (length {A = ℕ}) c.in_ok-greatest.ensures.counts
      ∙ length-replicate {A = ℕ} (service_count c.args.inst.now.tables) 0;
  limit_there = c.in_ok-greatest.ensures.limit;
  start_fits = c.requires.assigned;
}

pub returns : goal.returns
returns c = record {
  instance = refl;
  start = refl;
  fits = c.requires.assigned;
  on_machines = c.in_ok-machines.ensures.marks;
  in_locations = c.in_ok-locations.ensures.marks;
  in_neighbourhoods = c.in_ok-neighbourhoods.ensures.marks;
  moved = λ s within. ap (λ xs. get_or xs s 0) c.in_ok-greatest.ensures.counts
      ∙ get_or-replicate {A = ℕ} (service_count c.args.inst.now.tables) s 0 0 within
      ∙ sym (moved_none c.args.inst.now.tables c.args.a0.now.items s);
}
