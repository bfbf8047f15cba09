-- The assignment is one that the cells represent, and so is the changed one.
use Rattle.std.proofs.Common.{◌≡◌, ◌<◌, ◌%◌, length, sym, arith}
use Rattle.ra_model.specs.Assignments.{machine_at}
use Rattle.ra_model.proofs.TallyLemmas.{machine_at_read}
use Rattle.ra_cells.proofs.CellLemmas.{placed}
use Rattle.test_replica.proofs.cells.mirror.Mirror.put.Goals as goal

pub change-requires-clause-here : goal.change-requires-clause-here
change-requires-clause-here c =
    let mirror = c.args.self.now in
    let p = c.args.p % c.processes.result in
    let within : p < length mirror.now.items =
    omega (arith, mirror.stand.fits.one_each, mirror.inst.now.well_formed.some_process, c.processes.ensures) in
    let here : machine_at mirror.now.items p ≡ c.get-from.result.0 =
    sym (machine_at_read mirror.now.items p c.get-from.result within c.get-from.ensures) in
    placed mirror.cells mirror.inst.now.tables mirror.start.now.items mirror.now.items p c.get-from.result.0
    mirror.stand here

pub invariant_of-self : goal.invariant_of-self
invariant_of-self c =
    let mirror = c.args.self.now in
    let p = c.args.p % c.processes.result in
    let within : p < length mirror.now.items =
    omega (arith, mirror.stand.fits.one_each, mirror.inst.now.well_formed.some_process, c.processes.ensures) in
    let here : machine_at mirror.now.items p ≡ c.get-from.result.0 =
    sym (machine_at_read mirror.now.items p c.get-from.result within c.get-from.ensures) in
    record {
      stand = rw c.set.ensures.items
          (c.change.ensures.stand mirror.inst.now.tables mirror.start.now.items mirror.now.items mirror.stand here);
    }
