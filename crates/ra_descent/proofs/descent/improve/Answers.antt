-- The cheapest machine, if there is one.
use Rattle.std.proofs.Common.{refl, arith}
use Rattle.ra_descent.proofs.ShiftLemmas.{no_shift}
use Rattle.ra_descent.proofs.descent.improve.Goals as goal

pub shift_to-requires-clause-machine : goal.shift_to-requires-clause-machine
shift_to-requires-clause-machine g c = (c.cheapest_of.ensures.offer.some c.in-Some.to c.in-Some.is).within

pub returns-in-None-clause-none : goal.returns-in-None-clause-none
returns-in-None-clause-none g c = λ same. no_shift _ _ c.cheapest_of.result refl c.cheapest_of.ensures c.in-None.is

pub returns-in-Some-clause-gone : goal.returns-in-Some-clause-gone
returns-in-Some-clause-gone g c = λ same.
    let is = c.cheapest_of.ensures in
    let best = is.offer.some c.in-Some.to c.in-Some.is in (
      c.in-Some.to.0,
      record {
        within = best.within;
        free = best.free;
        least = λ other below free. omega (arith, best.is, is.each other below free);
        after = c.shift_to.ensures;
      },
    )
