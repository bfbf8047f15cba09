use Rattle.std.proofs.Common.{arith, refl, ◌∙◌}
use Rattle.ra_trial.proofs.LineLemmas.{none_written, more_written, line_done}
use Rattle.ra_trial.proofs.lines.push_line.Goals as goal

pub loop-k-init : goal.loop-k-init
loop-k-init c = record { written = none_written _ _; short = omega arith; room = refl }

pub loop-k-preserved : goal.loop-k-preserved
loop-k-preserved c = record {
  written = more_written _ _ _ (omega arith) c.loop-k.invariant.written refl
      c.push_number.ensures.items;
  short = omega arith;
  room = c.push_number.ensures.room ∙ c.loop-k.invariant.room;
}

pub returns : goal.returns
returns c = line_done _ _ (omega arith) (omega arith) c.loop-k.invariant.written c.loop-k.invariant.short
    c.loop-k.invariant.room c.push.ensures.items c.push.ensures.room
