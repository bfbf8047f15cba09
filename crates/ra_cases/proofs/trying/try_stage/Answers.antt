use Rattle.std.proofs.Common.{sym, ◌∙◌}
use Rattle.ra_cases.proofs.trying.try_stage.Goals as goal

pub returns-then-is_same-clause-ends : goal.returns-then-is_same-clause-ends
returns-then-is_same-clause-ends g c = λ _.
    let same = c.is_same.ensures.0 (c.if-is_same.true) in record {
      status = c.run_on-status.result;
      keeps = c.run_on-status.ensures;
      number = sym c.number.ensures ∙ same.status;
      out = sym c.bytes.ensures ∙ same.out;
      err = sym c.bytes-2.ensures ∙ same.err;
    }
