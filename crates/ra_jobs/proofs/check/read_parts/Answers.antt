use Rattle.std.proofs.lemmas.Result.{MatchResult-weaker}
use Rattle.ra_token.proofs.ToldLemmas.{at_exit}
use Rattle.ra_jobs.specs.Files.{names_of}
use Rattle.ra_jobs.specs.Refusals.{Judges}
use Rattle.ra_jobs.proofs.StageLemmas.{accepts_all, passed_all, reason_judge, reason_lists, reason_source, leaves_both}
use Rattle.ra_jobs.proofs.check.read_parts.Goals as goal

pub returns-clause-passed : goal.returns-clause-passed
returns-clause-passed g c =
    let held = g.F.Files.held c.args.files.now in
    let names = names_of c.args.names.now in
    let i = c.in_ok-inst.inst.tables in
    let l = c.in_ok-lists.lists in
    let accepts = accepts_all held (g.F.Files.held c.read_instance.new.files) names i l.initial.items l.changed.items
    c.read_instance.ensures.leaves.kept c.requires.initial c.requires.changed c.in_ok-inst.ensures.read
    c.in_ok-lists.ensures.read in
    MatchResult-weaker c.judge.result c.judge.ensures.passes
    (λ x h. passed_all held names i l.initial.items l.changed.items x accepts h)
    (λ y h. h)

pub returns-clause-refused : goal.returns-clause-refused
returns-clause-refused g c =
    let held = g.F.Files.held c.args.files.now in
    let names = names_of c.args.names.now in
    let i = c.in_ok-inst.inst.tables in
    let l = c.in_ok-lists.lists in
    let accepts = accepts_all held (g.F.Files.held c.read_instance.new.files) names i l.initial.items l.changed.items
    c.read_instance.ensures.leaves.kept c.requires.initial c.requires.changed c.in_ok-inst.ensures.read
    c.in_ok-lists.ensures.read in
    MatchResult-weaker c.judge.result c.judge.ensures.refused
    (λ x h. h)
    (λ y h. reason_judge held names i l.initial.items l.changed.items (g.F.Files.faults c.args.files.now)
    (g.F.Files.faults c.read_lists.new.files) ⊥ c.requires.initial c.requires.changed accepts y h)

pub returns-in_err-lists-clause-refused : goal.returns-in_err-lists-clause-refused
returns-in_err-lists-clause-refused g c =
    let held = g.F.Files.held c.args.files.now in
    let names = names_of c.args.names.now in
    at_exit _ _ _ c.from_residual-in_err-lists.ensures
    (reason_lists held (g.F.Files.held c.read_instance.new.files) names c.in_ok-inst.inst.tables
    (g.F.Files.faults c.args.files.now) (g.F.Files.faults c.read_instance.new.files)
    (g.F.Files.faults c.read_lists.new.files) (Judges held names ⊥) c.read_instance.ensures.leaves.kept
    c.read_instance.ensures.leaves.never_fall c.requires.initial c.requires.changed c.in_ok-inst.ensures.read _
    c.in_err-lists.ensures.refused)

pub returns-in_err-inst-clause-refused : goal.returns-in_err-inst-clause-refused
returns-in_err-inst-clause-refused g c =
    let held = g.F.Files.held c.args.files.now in
    let names = names_of c.args.names.now in
    at_exit _ _ _ c.from_residual.ensures
    (reason_source held names (g.F.Files.faults c.args.files.now) (g.F.Files.faults c.read_instance.new.files)
    (Judges held names ⊥) _ c.in_err-inst.ensures.refused)

pub returns-clause-leaves : goal.returns-clause-leaves
returns-clause-leaves g c = leaves_both c.read_instance.ensures.leaves c.read_lists.ensures.leaves

pub returns-in_err-lists-clause-leaves : goal.returns-in_err-lists-clause-leaves
returns-in_err-lists-clause-leaves g c = leaves_both c.read_instance.ensures.leaves c.read_lists.ensures.leaves
