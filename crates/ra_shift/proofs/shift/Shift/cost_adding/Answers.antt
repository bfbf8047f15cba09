-- The cost is the cost with what is added, and the sum, less what is taken away.
use Rattle.std.proofs.Common.{◌∙◌, sym, arith}
use Rattle.ra_shift.proofs.FilterLaws.{broken_cost, cost_summed, summed_few, summed_below}
use Rattle.ra_shift.proofs.shift.Shift.cost_adding.Goals as goal

pub returns-then-not-fits-clause-below : goal.returns-then-not-fits-clause-below
returns-then-not-fits-clause-below c = λ bound low. broken_cost _ _ _ bound (λ free.
    cc (c.fits.ensures.fits.1 free, c.if-not-fits.true))

pub overflow_add-result : goal.overflow_add-result
overflow_add-result c =
    let shift = c.args.self.now in
    omega (
      arith,
      shift.taken_small,
      summed_few shift.world.now shift.process.0 c.args.to.0 shift.taken shift.added c.args.sum
          shift.sound shift.process_known c.requires.machine (λ same. c.requires.apart (sym (shift.home_is ∙ same)))
          shift.taken_is shift.added_is c.requires.sum (c.fits.ensures.fits.0 c.if-not-fits.false),
    )

pub overflow_sub-result : goal.overflow_sub-result
overflow_sub-result c =
    let shift = c.args.self.now in
    omega (
      arith,
      cost_summed shift.world.now shift.process.0 c.args.to.0 shift.taken shift.added c.args.sum
          shift.sound shift.process_known c.requires.machine (λ same. c.requires.apart (sym (shift.home_is ∙ same)))
          shift.taken_is shift.added_is c.requires.sum (c.fits.ensures.fits.0 c.if-not-fits.false),
    )

pub returns-clause-below : goal.returns-clause-below
returns-clause-below c =
    let shift = c.args.self.now in
    summed_below shift.world.now shift.process.0 c.args.to.0 shift.taken shift.added c.args.sum
    shift.sound shift.process_known c.requires.machine (λ same. c.requires.apart (sym (shift.home_is ∙ same)))
    shift.taken_is shift.added_is c.requires.sum (c.fits.ensures.fits.0 c.if-not-fits.false)
