-- The numbers are what the shift keeps of them.
use Rattle.std.proofs.Common.{arith}
use Rattle.ra_shift.proofs.shift.Shift.room_below.Goals as goal

pub returns : goal.returns
returns c = omega (arith, c.saturating_sub.ensures, c.args.self.now.taken_is, c.args.self.now.added_is)
