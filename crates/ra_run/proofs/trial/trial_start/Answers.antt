use Rattle.std.proofs.Common.{rules}
use Rattle.ra_jobs.specs.Files.{names_of}
use Rattle.ra_jobs.proofs.ComesLemmas.{alone_at}
use Rattle.ra_run.proofs.TrialLemmas.{only_memory, start_read}
use Rattle.ra_run.proofs.trial.trial_start.Goals as goal
use Rattle.ra_run.proofs.trial.trial_start.Goals.{in-Memory, in_default}

pub read_start-requires-clause-alone : goal.read_start-requires-clause-alone
read_start-requires-clause-alone c = alone_at (names_of c.of_solve-names.result) c.of_solve-names.ensures.last

pub returns-in-Ok : goal.returns-in-Ok
returns-in-Ok c = start_read c.args.number _ (names_of c.of_solve-names.result) _ _ c.in-Ok.start.inst.tables
    c.in-Ok.start.initial.items c.in_ok-files.ensures c.in_ok-model.ensures c.in_ok-initial.ensures
    c.of_solve-names.ensures.names c.in-Ok.ensures.read

pub prove-unreachable-requires : goal.prove-unreachable-requires
prove-unreachable-requires c =
    let memory = only_memory c.args.number _ (names_of c.of_solve-names.result) _ _ c.in-Err.refusal
    c.in_ok-files.ensures c.in_ok-model.ensures c.in_ok-initial.ensures c.of_solve-names.ensures.names
    c.in-Err.ensures.refused in
    elim c.match-matches.branch [ in-Memory w ↦ search rules | in_default w ↦ search rules ]
