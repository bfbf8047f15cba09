-- A process that is there already moves nothing.
use Rattle.std.proofs.Common.{◌∙◌, sym, arith}
use Rattle.ra_world.proofs.StandingLaws.{put_here, apart_one, apart_none}
use Rattle.ra_world.proofs.standing.put_unless_there.Goals as goal

pub machine_of-from-requires : goal.machine_of-from-requires
machine_of-from-requires g c = omega (arith, c.requires.process, c.requires.stand.fits.one_each)

pub returns-else-from-to-clause-assignment : goal.returns-else-from-to-clause-assignment
returns-else-from-to-clause-assignment g c =
    sym (put_here _ c.args.p.0 c.args.to (sym c.machine_of-from.ensures ∙ c.if-from-to.false))

pub returns-then-from-to-clause-counted : goal.returns-then-from-to-clause-counted
returns-then-from-to-clause-counted g c =
    rw (apart_one _ _ (λ e. c.if-from-to.true (c.machine_of-from.ensures ∙ e))) (omega arith)

pub returns-else-from-to-clause-counted : goal.returns-else-from-to-clause-counted
returns-else-from-to-clause-counted g c =
    rw (apart_none _ _ (sym c.machine_of-from.ensures ∙ c.if-from-to.false)) (omega arith)
