-- The number of its service has grown by one if the process has moved.
use Rattle.std.proofs.lemmas.Grind.{common_steps}
use Rattle.std.proofs.Common.{◌∙◌, sym, ◌+◌, length-set, arith}
use Rattle.std.proofs.lemmas.Bool.{not-true, not-false}
use Rattle.ra_check.proofs.MovedLaws.{adds_moved_one, adds_moved_stays}
use Rattle.ra_edit.specs.Keeping.{tables_with}
use Rattle.ra_edit.proofs.SoundLaws.{initial_read, current_read}
use Rattle.ra_edit.proofs.VerdictLaws.{service_at}
use Rattle.ra_edit.proofs.moved.count_moved.Goals as goal

pub machine_of-requires : goal.machine_of-requires
machine_of-requires c = initial_read c.requires.sound c.requires.process

pub machine_of-requires-2 : goal.machine_of-requires-2
machine_of-requires-2 c = current_read c.requires.sound c.requires.process

pub count-count-requires : goal.count-count-requires
count-count-requires c =
    omega (arith, service_at c.requires.sound c.requires.process c.service_of-s.ensures, c.requires.slots)

pub overflow_add-count : goal.overflow_add-count
overflow_add-count c = omega (arith, c.count-count.ensures.within, c.requires.few)

pub change-requires : goal.change-requires
change-requires c = record {
  there = omega (arith, service_at c.requires.sound c.requires.process c.service_of-s.ensures, c.requires.slots);
  within = omega (arith, c.count-count.ensures.value, c.requires.below.each c.service_of-s.result.0);
}

pub returns-then-ne-clause-counted : goal.returns-then-ne-clause-counted
returns-then-ne-clause-counted c =
    adds_moved_one (tables_with c.args.inst.now.tables c.args.lists.now) c.args.lists.now.initial.items
    c.args.lists.now.current.items c.args.p.0 c.service_of-s.result.0 (c.count-count.result + 1) c.args.moved.now.counts
    c.change.new.self.counts (rw (c.machine_of.ensures, c.machine_of-2.ensures) at
    (not-true _ (sym c.ne.ensures ∙ c.if-ne.true))) c.service_of-s.ensures
    (omega (arith, service_at c.requires.sound c.requires.process c.service_of-s.ensures, c.requires.slots))
    (cc (c.count-count.ensures.value)) c.change.ensures.counts

pub returns-then-ne-clause-slots : goal.returns-then-ne-clause-slots
returns-then-ne-clause-slots c =
    cc (c.change.ensures.counts, length-set c.args.moved.now.counts c.service_of-s.result.0 (c.count-count.result + 1))

pub returns-else-ne-clause-counted : goal.returns-else-ne-clause-counted
returns-else-ne-clause-counted c = grind (arith, common_steps, adds_moved_stays, not-false)
