use Rattle.std.proofs.Common.{arith, refl, ap, ◌∙◌}
use Rattle.ra_assign.specs.Lists.{assignment_bytes}
use Rattle.ra_assign.proofs.TextLemmas.{none_written, more_written, written}
use Rattle.ra_assign.proofs.text.assignment_text.Goals as goal

pub loop-p-init : goal.loop-p-init
loop-p-init c = record {
  written = rw c.in_ok-text.ensures.items (none_written _);
  short = rw c.in_ok-text.ensures.items (omega arith);
  room = c.in_ok-text.ensures.room;
}

pub loop-p-preserved : goal.loop-p-preserved
loop-p-preserved c = record {
  written = more_written c.loop-p.p _ _ _ _ _ (omega arith) c.loop-p.invariant.written refl
      c.push_machine.ensures.items;
  short = omega arith;
  room = c.push_machine.ensures.room ∙ c.loop-p.invariant.room;
}

pub returns : goal.returns
returns c = written c.loop-p.p _ _ _ (omega arith) c.loop-p.invariant.written c.push.ensures.items
    ∙ ap assignment_bytes c.as_slice-machines.ensures
