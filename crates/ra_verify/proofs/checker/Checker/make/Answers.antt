use Rattle.std.proofs.Common.{[], sym, ap, subst, arith}
use Rattle.ra_worker.specs.AllReplicas.{AreAt}
use Rattle.ra_journal.specs.Journals.{opening_in, IsJournal}
use Rattle.ra_journal.specs.Openings.{Opening}
use Rattle.ra_verify.proofs.CheckerLemmas.{open_start}
use Rattle.ra_verify.proofs.checker.Checker.make.Goals as goal

pub invariant_of-result : goal.invariant_of-result
invariant_of-result c =
    let j = c.in_ok-journal.journal in
    record {
      sound = subst IsJournal (sym c.in_ok-journal.ensures) (record {
        topology = c.requires.topology;
        start = record {
          limits = c.args.inst.now.well_formed;
          fits = c.requires.fits;
          unbroken = c.requires.unbroken;
        };
        legal = record { each = λ k within. absurd (omega (arith, within)) };
      });
      at = subst (λ (o : Opening). AreAt o j.entries c.in_ok-replicas.replicas.items)
          (sym (ap (λ x. opening_in x) c.in_ok-journal.ensures)) (c.in_ok-replicas.ensures j.entries);
    }

pub returns-clause-ready : goal.returns-clause-ready
returns-clause-ready c = open_start _
    c.in_ok-journal.journal.lots c.in_ok-journal.journal.entries c.in_ok-replicas.replicas.items
    (c.in_ok-replicas.ensures []) (ap (λ j. j.lots) c.in_ok-journal.ensures)
