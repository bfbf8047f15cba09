-- Only the processes and what they require are other lists.
use Rattle.std.proofs.Common.{arith}
use Rattle.std.proofs.lemmas.Grind.{common_steps}
use Rattle.ra_model.specs.Numbers.{machine_count, closed_at, with_processes as processes_replaced}
use Rattle.ra_model.specs.declared.raw.Tables.{Tables}
use Rattle.ra_edit.specs.declared.edited.Left.{Left}
use Rattle.ra_edit.specs.Drafts.{with_process_rows, instance_of}
use Rattle.ra_edit.specs.Leaving.{left_in}
use Rattle.ra_edit.specs.SameLists.{AreSameLists}
use Rattle.ra_edit.proofs.DraftLaws.{same_feasible}
use Rattle.ra_edit.proofs.SameLaws.{same_parts, same_well}
use Rattle.ra_edit.proofs.edited.Edited.of.Goals as goal

same_lists : (i : Tables) (l : Left) →
    AreSameLists (instance_of (left_in i l)) (processes_replaced i l.rows l.requirements)
unfolding with_process_rows closed_at machine_count
same_lists i l = grind (arith, common_steps)

pub with_processes-requires : goal.with_processes-requires
with_processes-requires c = same_well (instance_of (left_in c.args.instance.tables c.args.left)) _
    (same_lists c.args.instance.tables c.args.left).lists c.requires.sound.well_formed

pub returns-clause-lists : goal.returns-clause-lists
returns-clause-lists c = rw (c.with_processes.ensures) (same_lists c.args.instance.tables c.args.left)

pub returns-clause-feasible : goal.returns-clause-feasible
returns-clause-feasible c = same_feasible
    c.requires.sound c.requires.feasible (rw (c.with_processes.ensures) (same_lists c.args.instance.tables c.args.left))

pub returns-clause-parts : goal.returns-clause-parts
returns-clause-parts c = same_parts (instance_of (left_in c.args.instance.tables c.args.left))
    c.with_processes.result.tables c.args.left.initial.items c.args.left.current.items
    (rw (c.with_processes.ensures) (same_lists c.args.instance.tables c.args.left).lists)
