use Rattle.std.proofs.Common.{refl, sym, ◌∙◌, arith}
use Rattle.ra_jobs.proofs.refusing.finish.Goals as goal

pub returns-in-Ok : goal.returns-in-Ok
returns-in-Ok g c = record {
  done = λ _. refl;
  no_line = λ _. refl;
  is = rw c.in-Ok.is tt;
  line = rw c.in-Ok.is tt;
  never_falls = omega arith;
}

pub returns-in-Err : goal.returns-in-Err
returns-in-Err g c = record {
  done = λ e. cc (sym c.in-Err.is ∙ e);
  no_line = λ e. cc (sym c.in-Err.is ∙ e);
  is = rw c.in-Err.is c.status.ensures;
  line = rw c.in-Err.is c.tell.ensures.line;
  never_falls = c.tell.ensures.never_falls;
}
