-- The tables of the process's service follow its marks, and its moved count follows too.
use Rattle.std.proofs.Common.{◌∙◌, length, refl, ap, arith, length-set, ℕ}
use Rattle.ra_model.proofs.TallyLemmas.{machine_at_read, fits_set}
use Rattle.ra_cells.specs.declared.marks.Mark.TheVariants.{OnMachine, InLocation, InNeighbourhood}
use Rattle.ra_cells.specs.Marks.{mark_of}
use Rattle.ra_cells.proofs.MakingLemmas.{labels_few}
use Rattle.ra_cells.proofs.CellLemmas.{part, ordered, ends, held_there, own, recount_some, recount_room, sorted_after}
use Rattle.ra_cells.proofs.CellLemmas.{different_after_change, marks_after, moved_after}
use Rattle.ra_cells.proofs.cells.Cells.change.Goals as goal

pub replace-requires-clause-part : goal.replace-requires-clause-part
replace-requires-clause-part c =
    ordered (part c.args.p.0 c.args.self.now.inst.now.well_formed c.requires.process c.service_of-s.ensures
    c.start_at-start.ensures.value c.start_at-end.ensures.value)

pub replace-requires-clause-there : goal.replace-requires-clause-there
replace-requires-clause-there c =
    ends (part c.args.p.0 c.args.self.now.inst.now.well_formed c.requires.process c.service_of-s.ensures
    c.start_at-start.ensures.value c.start_at-end.ensures.value) c.args.self.now.machines_sorted

pub replace-requires-clause-held : goal.replace-requires-clause-held
unfolding mark_of
replace-requires-clause-held c =
    held_there (part c.args.p.0 c.args.self.now.inst.now.well_formed c.requires.process c.service_of-s.ensures
    c.start_at-start.ensures.value c.start_at-end.ensures.value) OnMachine
    (own c.requires.here.stand).on_machines c.requires.here.here refl

pub replace-requires-2-clause-part : goal.replace-requires-2-clause-part
replace-requires-2-clause-part c =
    ordered (part c.args.p.0 c.args.self.now.inst.now.well_formed c.requires.process c.service_of-s.ensures
    c.start_at-start.ensures.value c.start_at-end.ensures.value)

pub replace-requires-2-clause-there : goal.replace-requires-2-clause-there
replace-requires-2-clause-there c =
    ends (part c.args.p.0 c.args.self.now.inst.now.well_formed c.requires.process c.service_of-s.ensures
    c.start_at-start.ensures.value c.start_at-end.ensures.value) c.args.self.now.neighbourhoods_sorted

pub replace-requires-2-clause-held : goal.replace-requires-2-clause-held
unfolding mark_of
replace-requires-2-clause-held c =
    held_there (part c.args.p.0 c.args.self.now.inst.now.well_formed c.requires.process c.service_of-s.ensures
    c.start_at-start.ensures.value c.start_at-end.ensures.value) InNeighbourhood
    (own c.requires.here.stand).in_neighbourhoods c.requires.here.here c.neighbourhood-left.ensures

pub relabel-spread-requires-clause-part : goal.relabel-spread-requires-clause-part
relabel-spread-requires-clause-part c =
    ordered (part c.args.p.0 c.args.self.now.inst.now.well_formed c.requires.process c.service_of-s.ensures
    c.start_at-start.ensures.value c.start_at-end.ensures.value)

pub relabel-spread-requires-clause-there : goal.relabel-spread-requires-clause-there
relabel-spread-requires-clause-there c =
    ends (part c.args.p.0 c.args.self.now.inst.now.well_formed c.requires.process c.service_of-s.ensures
    c.start_at-start.ensures.value c.start_at-end.ensures.value) c.args.self.now.locations_sorted

pub relabel-spread-requires-clause-few : goal.relabel-spread-requires-clause-few
relabel-spread-requires-clause-few c =
    omega (
      arith,
      labels_few c.args.self.now.inst.now.tables c.args.self.now.locations.items
          c.args.self.now.inst.now.well_formed c.args.self.now.locations_sorted,
    )

pub relabel-spread-requires-clause-held : goal.relabel-spread-requires-clause-held
unfolding mark_of
relabel-spread-requires-clause-held c =
    held_there (part c.args.p.0 c.args.self.now.inst.now.well_formed c.requires.process c.service_of-s.ensures
    c.start_at-start.ensures.value c.start_at-end.ensures.value) InLocation
    (own c.requires.here.stand).in_locations c.requires.here.here c.location-left.ensures

pub recount-requires-clause-some : goal.recount-requires-clause-some
recount-requires-clause-some c =
    recount_some (part c.args.p.0 c.args.self.now.inst.now.well_formed c.requires.process c.service_of-s.ensures
    c.start_at-start.ensures.value c.start_at-end.ensures.value)
    (machine_at_read c.args.self.now.start.now.items c.args.p.0 c.get-home.result
    (omega (arith, c.requires.process, c.args.self.now.start_fits.one_each)) c.get-home.ensures) c.requires.here

pub recount-requires-clause-room : goal.recount-requires-clause-room
recount-requires-clause-room c =
    recount_room (part c.args.p.0 c.args.self.now.inst.now.well_formed c.requires.process c.service_of-s.ensures
    c.start_at-start.ensures.value c.start_at-end.ensures.value)
    (machine_at_read c.args.self.now.start.now.items c.args.p.0 c.get-home.result
    (omega (
      arith,
      c.requires.process,
      c.args.self.now.start_fits.one_each,
    )) c.get-home.ensures) c.args.to c.requires.here

pub invariant_of-self : goal.invariant_of-self
invariant_of-self c =
    let place = part c.args.p.0 c.args.self.now.inst.now.well_formed c.requires.process c.service_of-s.ensures
    c.start_at-start.ensures.value c.start_at-end.ensures.value in
    record {
      starts_there = c.args.self.now.starts_there;
      machines_sorted =
          sorted_after place c.replace.ensures.changed c.args.self.now.machines_sorted c.replace.ensures.ascends;
      locations_sorted = sorted_after place c.relabel-spread.ensures.changed c.args.self.now.locations_sorted
          c.relabel-spread.ensures.ascends;
      neighbourhoods_sorted = sorted_after place c.replace-2.ensures.changed c.args.self.now.neighbourhoods_sorted
          c.replace-2.ensures.ascends;
      spreads_there = rw c.set.ensures.items (different_after_change place c.relabel-spread.ensures.changed
          c.args.self.now.spreads_there c.relabel-spread.ensures.different);
      counts_there = ap (length {A = ℕ}) c.recount.ensures.counts
          ∙ length-set c.args.self.now.greatest.counts c.service_of-s.result.0 _ ∙ c.args.self.now.counts_there;
      limit_there = c.recount.ensures.limit ∙ c.args.self.now.limit_there;
      start_fits = c.args.self.now.start_fits;
    }

pub returns : goal.returns
unfolding mark_of
returns c = record {
  stand = λ i a0 a stand here.
      let place = part c.args.p.0 c.args.self.now.inst.now.well_formed c.requires.process c.service_of-s.ensures
      c.start_at-start.ensures.value c.start_at-end.ensures.value in
      let held = own stand in
      rw (← stand.instance, ← stand.start) (record {
        instance = refl;
        start = refl;
        fits = fits_set c.args.self.now.inst.now.tables a c.args.p.0 c.args.to held.fits c.requires.process
            c.requires.machine;
        on_machines = marks_after place c.replace.ensures.changed OnMachine c.args.to held.fits here refl refl
            held.on_machines;
        in_locations = marks_after place c.relabel-spread.ensures.changed InLocation c.args.to held.fits here
            c.location-left.ensures c.location-come.ensures held.in_locations;
        in_neighbourhoods = marks_after place c.replace-2.ensures.changed InNeighbourhood c.args.to held.fits here
            c.neighbourhood-left.ensures c.neighbourhood-come.ensures held.in_neighbourhoods;
        moved = moved_after place (machine_at_read c.args.self.now.start.now.items c.args.p.0 c.get-home.result
            (omega (arith, c.requires.process, c.args.self.now.start_fits.one_each)) c.get-home.ensures) c.args.to
            held here c.recount.ensures.counts;
      });
}
