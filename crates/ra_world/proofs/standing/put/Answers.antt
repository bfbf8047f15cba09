-- The rows and the counters of the kept assignment follow the step.
use Rattle.std.proofs.Common.{refl, arith}
use Rattle.ra_model.proofs.TallyLemmas.{fits_set}
use Rattle.ra_world.proofs.standing.put.Goals as goal

pub shift-requires-clause-stands : goal.shift-requires-clause-stands
shift-requires-clause-stands g c = record {
  assignment = c.args.kept.now.assignment.items;
  stands = c.requires.stand.rows;
  at = c.requires.at_from;
}

pub change-requires-clause-process : goal.change-requires-clause-process
change-requires-clause-process g c = rw c.requires.stand.cells.instance c.requires.process

pub change-requires-clause-machine : goal.change-requires-clause-machine
change-requires-clause-machine g c = rw c.requires.stand.cells.instance c.requires.to

pub change-requires-clause-here : goal.change-requires-clause-here
change-requires-clause-here g c = record {
  tables = c.args.kept.now.rows.tables;
  initial = c.args.kept.now.rows.start;
  assignment = c.args.kept.now.assignment.items;
  stand = c.requires.stand.cells;
  here = c.requires.at_from;
}

pub set-requires : goal.set-requires
set-requires g c = omega (arith, c.requires.process, c.requires.stand.fits.one_each)

pub returns-clause-moves : goal.returns-clause-moves
returns-clause-moves g c =
    let a = c.args.kept.now.assignment.items in
    let stand = c.requires.stand in
    record {
      stand = record {
        fits = rw c.set.ensures.items
            (fits_set _ a c.args.step.process.0 c.args.step.to stand.fits c.requires.process c.requires.to);
        instance = c.shift.ensures.tables;
        start = c.shift.ensures.start;
        rows = rw c.set.ensures.items (c.shift.ensures.stands a stand.rows c.requires.at_from);
        cells = rw c.set.ensures.items (c.change.ensures.stand _ _ a stand.cells c.requires.at_from);
      };
      loads = refl;
      balances = refl;
      filters = refl;
      parts = refl;
    }
