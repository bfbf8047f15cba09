-- Each initial machine is one of the instance.
use Rattle.std.proofs.Common.{arith}
use Rattle.ra_shift.proofs.shift.Shift.home.Goals as goal

pub returns-clause-within : goal.returns-clause-within
returns-clause-within c =
    let shift = c.args.self.now in
    omega (
      arith,
      shift.home_is,
      shift.sound.starts.in_range shift.process.0
          (omega (arith, shift.sound.starts.one_each, shift.process_known)),
    )
