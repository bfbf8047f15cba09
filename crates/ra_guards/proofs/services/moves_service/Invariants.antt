use Rattle.std.proofs.Common.{◌≡◌, false}
use Rattle.ra_base.specs.Sums.{is_named}
use Rattle.ra_moves.specs.Touched.{service_in}
use Rattle.ra_guards.proofs.services.moves_service.Given as goal

abbrev pub invariant-loop-j : goal.invariant-loop-j
invariant-loop-j l = is_named l.j (service_in l.fn.inst.tables l.fn.mv.steps) l.fn.service.0 ≡ false
