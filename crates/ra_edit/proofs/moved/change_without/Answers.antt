-- A moved process was one of those that are counted for its service.
use Rattle.std.proofs.Common.{◌≡◌, ◌∙◌, sym, false, eqb, refl, arith}
use Rattle.std.proofs.lemmas.Bool.{eqb-true}
use Rattle.ra_model.specs.Assignments.{machine_at}
use Rattle.ra_edit.proofs.SoundLaws.{initial_read, current_read}
use Rattle.ra_edit.proofs.MovedLaws.{changed_one, changed_none, gone_counted}
use Rattle.ra_edit.proofs.VerdictLaws.{service_at, has_gone}
use Rattle.ra_edit.proofs.moved.change_without.Goals as goal

pub machine_of-requires : goal.machine_of-requires
machine_of-requires c = initial_read c.requires.sound c.requires.process

pub machine_of-requires-2 : goal.machine_of-requires-2
machine_of-requires-2 c = current_read c.requires.sound c.requires.process

pub returns-then-eq-clause-counts : goal.returns-then-eq-clause-counts
returns-then-eq-clause-counts c = λ e gone.
    changed_none c.requires.moved gone
    (sym c.machine_of.ensures ∙ (eqb-true _ _ (sym c.eq.ensures ∙ c.if-eq.true)) ∙ c.machine_of-2.ensures)

pub count-before-requires : goal.count-before-requires
count-before-requires c = omega (
  arith,
  service_at c.requires.sound c.requires.process c.service_of-service.ensures,
  c.requires.moved.one_each,
)

apart : (c : goal.After-count-before) → eqb (machine_at c.args.lists.now.initial.items c.args.p.0)
    (machine_at c.args.lists.now.current.items c.args.p.0) ≡ false
apart c = rw (c.machine_of.ensures, c.machine_of-2.ensures) at (sym c.eq.ensures ∙ c.if-eq.false)

pub overflow_sub-result : goal.overflow_sub-result
overflow_sub-result c = omega (
  arith,
  c.count-before.ensures.value,
  c.requires.moved.each c.service_of-service.result.0,
  gone_counted (has_gone c.args.p.0 c.requires.sound c.requires.process) c.service_of-service.ensures (apart c),
)

pub returns-clause-change : goal.returns-clause-change
returns-clause-change c = record {
  there = omega (
    arith,
    service_at c.requires.sound c.requires.process c.service_of-service.ensures,
    c.requires.moved.one_each,
  );
  before = sym c.count-before.ensures.value;
  within = omega (arith, c.count-before.ensures.within);
}

pub returns-clause-counts : goal.returns-clause-counts
returns-clause-counts c = λ e gone.
    changed_one _ c.requires.moved gone c.service_of-service.ensures (apart c) c.count-before.ensures.value refl
