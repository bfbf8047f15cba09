use Rattle.std.proofs.Common.{ap, sym, ◌∙◌, Err}
use Rattle.ra_assign.proofs.AssignSteps.{fault_read}
use Rattle.ra_token.proofs.ToldLemmas.{told_fault}
use Rattle.ra_assign.proofs.assignments.next_token.Goals as goal

pub returns-in-Err-clause-refuses : goal.returns-in-Err-clause-refuses
returns-in-Err-clause-refuses g c = record {
  goes = record {
    name = c.next.ensures.name;
    stands = c.next.ensures.reads;
    kept = c.next.ensures.kept;
    never_fall = c.next.ensures.never_fall;
  };
  rose = λ e. c.in-Err.ensures.fault (ap Err (fault_read c.in-Err.fault (sym c.fault_of.ensures ∙ e)));
  told = told_fault _ _ _ c.in-Err.fault _ c.fault_of.ensures c.in-Err.ensures.answer;
}
