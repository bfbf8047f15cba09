-- The entries so far are legal.
use Rattle.ra_journal.specs.Legal.{IsLegal}
use Rattle.ra_journal.specs.Openings.{opening}
use Rattle.plain.specs.Benches.{IsBenchFor}
use Rattle.plain.proofs.search.first_illegal.Given as goal

abbrev pub invariant-loop-j : goal.invariant-loop-j
invariant-loop-j l = record {
  legal : IsLegal (opening l.inst.tables l.a0.items l.lots) l.entries l.j;
  bench : IsBenchFor l.bench l.inst.tables;
}
