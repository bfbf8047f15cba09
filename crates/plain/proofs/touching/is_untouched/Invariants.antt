-- Apart from what was made so far.
use Rattle.ra_guards.specs.Versions.{ApartSince}
use Rattle.ra_journal.specs.Entries.{made_in}
use Rattle.plain.proofs.touching.is_untouched.Given as goal

abbrev pub invariant-loop-p : goal.invariant-loop-p
invariant-loop-p l = ApartSince l.inst.tables (made_in l.entries) l.e.q l.p l.e.mv.steps
