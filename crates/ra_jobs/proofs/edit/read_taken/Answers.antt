use Rattle.ra_token.proofs.ToldLemmas.{at_exit}
use Rattle.ra_jobs.specs.Files.{names_of}
use Rattle.ra_jobs.proofs.StageLemmas.{accepts_all, reason_lists, reason_source, leaves_both}
use Rattle.ra_jobs.specs.Editing.{EditOwn}
use Rattle.ra_jobs.proofs.EditLemmas.{reason_edits, taken_all}
use Rattle.ra_jobs.proofs.edit.read_taken.Goals as goal

pub returns-clause-read : goal.returns-clause-read
returns-clause-read g c =
    let held = g.F.Files.held c.args.files.now in
    let names = names_of c.args.names.now in
    let i = c.in_ok-inst.inst.tables in
    let l = c.in_ok-lists.lists in
    let accepts = accepts_all held (g.F.Files.held c.read_instance.new.files) names i l.initial.items l.changed.items
    c.read_instance.ensures.leaves.kept c.requires.initial c.requires.changed c.in_ok-inst.ensures.read
    c.in_ok-lists.ensures.read in
    taken_all held (g.F.Files.held c.read_lists.new.files) names i l.initial.items l.changed.items c.in_ok-edits.edits
    (leaves_both c.read_instance.ensures.leaves c.read_lists.ensures.leaves).kept accepts
    c.in_ok-lists.ensures.read.initial.1 c.in_ok-lists.ensures.read.changed.1
    (rw c.name.ensures at c.in_ok-edits.ensures.read)

pub returns-in_err-edits-clause-refused : goal.returns-in_err-edits-clause-refused
returns-in_err-edits-clause-refused g c =
    let held = g.F.Files.held c.args.files.now in
    let names = names_of c.args.names.now in
    let i = c.in_ok-inst.inst.tables in
    let l = c.in_ok-lists.lists in
    let accepts = accepts_all held (g.F.Files.held c.read_instance.new.files) names i l.initial.items l.changed.items
    c.read_instance.ensures.leaves.kept c.requires.initial c.requires.changed c.in_ok-inst.ensures.read
    c.in_ok-lists.ensures.read in
    let left = leaves_both c.read_instance.ensures.leaves c.read_lists.ensures.leaves in
    at_exit _ _ _ c.from_residual-in_err-edits.ensures
    (reason_edits held (g.F.Files.held c.read_lists.new.files) names i l.initial.items l.changed.items
    (g.F.Files.faults c.args.files.now) (g.F.Files.faults c.read_lists.new.files)
    (g.F.Files.faults c.take_edits.new.files) ⊥ left.kept left.never_fall c.requires.edits accepts _
    (rw c.name.ensures at c.in_err-edits.ensures.refused))

pub returns-in_err-lists-clause-refused : goal.returns-in_err-lists-clause-refused
returns-in_err-lists-clause-refused g c =
    let held = g.F.Files.held c.args.files.now in
    let names = names_of c.args.names.now in
    at_exit _ _ _ c.from_residual-in_err-lists.ensures
    (reason_lists held (g.F.Files.held c.read_instance.new.files) names c.in_ok-inst.inst.tables
    (g.F.Files.faults c.args.files.now) (g.F.Files.faults c.read_instance.new.files)
    (g.F.Files.faults c.read_lists.new.files) (EditOwn held names ⊥) c.read_instance.ensures.leaves.kept
    c.read_instance.ensures.leaves.never_fall c.requires.initial c.requires.changed c.in_ok-inst.ensures.read _
    c.in_err-lists.ensures.refused)

pub returns-in_err-inst-clause-refused : goal.returns-in_err-inst-clause-refused
returns-in_err-inst-clause-refused g c =
    let held = g.F.Files.held c.args.files.now in
    let names = names_of c.args.names.now in
    at_exit _ _ _ c.from_residual.ensures
    (reason_source held names (g.F.Files.faults c.args.files.now) (g.F.Files.faults c.read_instance.new.files)
    (EditOwn held names ⊥) _ c.in_err-inst.ensures.refused)

pub returns-clause-leaves : goal.returns-clause-leaves
returns-clause-leaves g c = leaves_both c.read_instance.ensures.leaves
    (leaves_both c.read_lists.ensures.leaves c.take_edits.ensures.leaves)

pub returns-in_err-edits-clause-leaves : goal.returns-in_err-edits-clause-leaves
returns-in_err-edits-clause-leaves g c = leaves_both c.read_instance.ensures.leaves
    (leaves_both c.read_lists.ensures.leaves c.take_edits.ensures.leaves)

pub returns-in_err-lists-clause-leaves : goal.returns-in_err-lists-clause-leaves
returns-in_err-lists-clause-leaves g c = leaves_both c.read_instance.ensures.leaves c.read_lists.ensures.leaves
