-- Just the one process is there, or as many as the test counts.
use Rattle.std.proofs.Common.{ap₂, sym, ◌∙◌, arith}
use Rattle.ra_model.specs.Broken.{conflict_test}
use Rattle.ra_weigh.specs.Trials.{tables_of, initial_of, steps_of, before_of, after_of}
use Rattle.ra_weigh.proofs.StepLemmas.{step_process, to_read, service_read, service_there}
use Rattle.ra_weigh.proofs.HoldLemmas.{conflict_alone, told_true, told_if_none}
use Rattle.ra_weigh.proofs.trial.Trial.enters_apart.Goals as goal

pub service_of-s-requires : goal.service_of-s-requires
service_of-s-requires c = grind (arith, step_process)

pub on_machine-requires : goal.on_machine-requires
on_machine-requires c = grind (arith, service_there, step_process)

pub returns-then-moves_alone : goal.returns-then-moves_alone
returns-then-moves_alone c =
    let t = c.args.self.now in
    told_true
    (ap₂ (conflict_test (tables_of t) (after_of t))
    (service_read (tables_of t) (steps_of t) c.args.j c.step-step.ensures
    c.service_of-s.ensures)
    (to_read (steps_of t) c.args.j c.step-step.ensures)
    ∙ conflict_alone _ _ _ c.args.j c.service_of-s.result.0 c.step-step.result.to.0
    c.on_machine.result t.moves c.requires
    (c.moves_alone.ensures.0 c.if-moves_alone.true)
    (c.on_machine.ensures.count (tables_of t) (initial_of t) (before_of t) t.cells_stand) c.if-on_machine-eq0.true)

pub conflict_test-requires : goal.conflict_test-requires
conflict_test-requires c = grind (arith, service_there, step_process)

pub returns : goal.returns
returns c =
    let t = c.args.self.now in
    told_if_none c.conflict_test.result _ _ c.is_none.ensures
    (c.conflict_test.ensures
    ∙ sym (ap₂ (conflict_test (tables_of t) (after_of t))
    (service_read (tables_of t) (steps_of t) c.args.j c.step-step.ensures
    c.service_of-s.ensures)
    (to_read (steps_of t) c.args.j c.step-step.ensures)))
