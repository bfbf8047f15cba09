-- Each kind of edit is judged by itself.
use Rattle.std.proofs.Common.{arith}
use Rattle.std.proofs.lemmas.Grind.{common_steps}
use Rattle.std.proofs.lemmas.Result.{IfOk-weaker}
use Rattle.ra_edit.proofs.SoundLaws.{free_retire, free_resize}
use Rattle.ra_edit.proofs.verdicts.judge.Goals as goal

pub judge_retired-requires : goal.judge_retired-requires
judge_retired-requires c = grind (arith, common_steps, free_retire)

pub judge_resized-requires : goal.judge_resized-requires
judge_resized-requires c = grind (arith, common_steps, free_resize)

pub returns-in-Add : goal.returns-in-Add
returns-in-Add c =
    rw c.in-Add.is
    (IfOk-weaker c.judge_added.result _ _ (λ judged told e edited. told e edited.0 edited.1) c.judge_added.ensures)

pub returns-in-Retire : goal.returns-in-Retire
returns-in-Retire c = rw c.in-Retire.is c.judge_retired.ensures

pub returns-in-Resize : goal.returns-in-Resize
returns-in-Resize c =
    rw c.in-Resize.is
    (IfOk-weaker c.judge_resized.result _ _ (λ judged told e edited. told e edited.0 edited.1) c.judge_resized.ensures)
