-- The processes so far have looked.
use Rattle.ra_pins.specs.Searches.{IsWithin}
use Rattle.ra_pins.proofs.looks.pass.Given as goal

abbrev pub invariant-loop-p : goal.invariant-loop-p
invariant-loop-p g l = IsWithin l.inst.tables l.a0.items l.initial.search l.search l.t l.p l.some
