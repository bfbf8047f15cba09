-- A process that is there already stays.
use Rattle.std.proofs.Common.{sym, arith}
use Rattle.ra_repair.proofs.ShiftLemmas.{stays}
use Rattle.ra_repair.proofs.shifting.carry.Goals as goal

pub returns-else-from-to-clause-assignment : goal.returns-else-from-to-clause-assignment
returns-else-from-to-clause-assignment g c =
    sym (stays c.args.kept.now.assignment.items c.args.process.0 c.args.to
    (omega (arith, c.machine_of-from.ensures, c.if-from-to.false)))
