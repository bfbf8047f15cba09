use Rattle.std.proofs.lemmas.Result.{MatchResult-weaker}
use Rattle.ra_token.proofs.ToldLemmas.{at_exit}
use Rattle.ra_jobs.specs.Files.{names_of}
use Rattle.ra_jobs.proofs.StageLemmas.{reason_anywhere}
use Rattle.ra_journal.specs.Openings.{opening}
use Rattle.ra_run.specs.Verifying.{VerifyOwn}
use Rattle.ra_run.proofs.VerifyLemmas.{read_so, reason_count}
use Rattle.ra_run.proofs.verify.read_report.Goals as goal

pub returns-clause-read : goal.returns-clause-read
returns-clause-read g c = MatchResult-weaker c.count_entries-counted.result c.count_entries-counted.ensures.counted
    (λ n counted. read_so (g.F.Files.held c.args.files.now) (g.F.Files.held c.read_start.new.files)
    (names_of c.args.names.now) (opening c.in_ok-start.start.inst.tables c.in_ok-start.start.initial.items
    c.args.lots.now) n
    c.read_start.ensures.leaves.kept c.in_ok-start.start.inst.well_formed c.in_ok-start.ensures.read
    (rw c.name.ensures at counted))
    (λ y h. h)

pub returns-clause-refused : goal.returns-clause-refused
returns-clause-refused g c = MatchResult-weaker c.count_entries-counted.result c.count_entries-counted.ensures.refused
    (λ n h. h)
    (λ refusal reason. reason_count (g.F.Files.held c.args.files.now) (g.F.Files.held c.read_start.new.files)
    (names_of c.args.names.now) (opening c.in_ok-start.start.inst.tables c.in_ok-start.start.initial.items
    c.args.lots.now)
    (g.F.Files.faults c.args.files.now) (g.F.Files.faults c.read_start.new.files)
    (g.F.Files.faults c.count_entries-counted.new.files) ⊥ c.read_start.ensures.leaves.kept
    c.read_start.ensures.leaves.never_fall c.requires.initial c.requires.report c.in_ok-start.ensures.read refusal
    (rw c.name.ensures at reason))

pub returns-in_err-start-clause-refused : goal.returns-in_err-start-clause-refused
returns-in_err-start-clause-refused g c =
    let held = g.F.Files.held c.args.files.now in
    let names = names_of c.args.names.now in
    at_exit _ _ _ c.from_residual.ensures
    (reason_anywhere held names (g.F.Files.faults c.args.files.now) (g.F.Files.faults c.read_start.new.files)
    (VerifyOwn held names c.args.lots.now ⊥) _ c.in_err-start.ensures.refused)
