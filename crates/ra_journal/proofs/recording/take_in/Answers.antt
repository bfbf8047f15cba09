use Rattle.std.proofs.Common.{refl}
use Rattle.ra_model.specs.Situations.{situation}
use Rattle.ra_journal.proofs.RecordingLemmas.{taken_done, taken_refused}
use Rattle.ra_journal.proofs.recording.take_in.Goals as goal

pub returns-in-Done : goal.returns-in-Done
returns-in-Done c = taken_done c.args.inst.now.tables c.args.plan.now.mv.steps c.args.plan.now.weighed
    c.args.verdict.now c.in-Done.cost c.len-version.result c.args.book.now _ c.in-Done.is refl refl
    c.len-version.ensures.value c.touch.ensures (record {
      each = λ a0 a moves unbroken weighed before.
          c.change_counts.ensures.counts (situation c.args.inst.now.tables a0 a) c.args.plan.now.mv.steps moves unbroken
          weighed before;
    }) refl refl refl refl

pub returns-in-Refused : goal.returns-in-Refused
returns-in-Refused c = taken_refused c.args.inst.now.tables c.args.plan.now.mv.steps c.args.plan.now.weighed
    c.args.verdict.now c.in-Refused.cause c.args.book.now c.in-Refused.is c.requires.sized
