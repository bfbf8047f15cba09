-- What is written is the text of the edited instance.
use Rattle.std.proofs.Common.{sym, ◌∙◌}
use Rattle.ra_io.specs.Outside.{writing, Took}
use Rattle.ra_token.proofs.ToldLemmas.{at_exit}
use Rattle.ra_jobs.specs.Output.{BrokeOff}
use Rattle.ra_jobs.proofs.EditLemmas.{outcome_written}
use Rattle.ra_jobs.proofs.edit.write_outcome.Goals as goal

pub of-edited-requires-clause-sound : goal.of-edited-requires-clause-sound
of-edited-requires-clause-sound g c = c.requires.sound

pub of-edited-requires-clause-feasible : goal.of-edited-requires-clause-feasible
of-edited-requires-clause-feasible g c = c.requires.feasible

pub write_edited-requires : goal.write_edited-requires
write_edited-requires g c = c.requires.parts ∙ sym c.of-edited.ensures.parts

pub returns-clause-printed : goal.returns-clause-printed
returns-clause-printed g c =
    let x = c.of-edited.result in
    outcome_written c.args.inst.tables x.instance.tables c.args.outcome x.initial.items x.current.items
    (Took (writing g.O.Sink c.args.out.now c.write_edited.new.sink)) c.of-edited.ensures.lists
    c.of-edited.ensures.initial c.of-edited.ensures.current c.of-edited.ensures.parts c.in_ok-write_edited.ensures.whole

pub returns-in_err-write_edited-clause-refused : goal.returns-in_err-write_edited-clause-refused
returns-in_err-write_edited-clause-refused g c =
    let x = c.of-edited.result in
    at_exit _ _ _ c.from_residual.ensures
    (outcome_written c.args.inst.tables x.instance.tables c.args.outcome x.initial.items x.current.items
    (BrokeOff (writing g.O.Sink c.args.out.now c.write_edited.new.sink)) c.of-edited.ensures.lists
    c.of-edited.ensures.initial c.of-edited.ensures.current c.of-edited.ensures.parts
    c.in_err-write_edited.ensures.part)
