-- What is read is there.
use Rattle.std.proofs.Common.{arith}
use Rattle.std.proofs.lemmas.List.{get_or_read}
use Rattle.ra_repair.specs.Repairs.{try_in}
use Rattle.ra_repair.proofs.repair.Repair.entry.Goals as goal

pub returns : goal.returns
unfolding try_in
returns c = get_or_read c.args.self.now.tries.items c.args.i c.get.result (omega (arith, c.requires)) c.get.ensures _
