-- If memory was refused before the words were read, the command of whatever job they are did what it promises.
use Rattle.std.proofs.Common.{◌≡◌, ℕ, List, Option, Some, None, IfSome}
use Rattle.ra_io.specs.Outside.{Reading}
use Rattle.ra_words.specs.Jobs.{JobSays, Checks, Bounds, Solves, Trials, Verifies, Repairs, Edits}
use Rattle.ra_jobs.specs.declared.refusals.Refusal.TheVariants.{Memory}
use Rattle.ra_jobs.specs.declared.status.Status.{Status}
use Rattle.ra_jobs.specs.declared.status.Status.TheVariants.{NoMemory}
use Rattle.ra_jobs.specs.Ends.{Does, Leaves}
use Rattle.ra_jobs.specs.Files.{Names, check_names, solve_names, bound_names, verify_names, edit_names}
use Rattle.ra_jobs.specs.Lines.{refusal_line}
use Rattle.ra_jobs.specs.Output.{Output, Put}
use Rattle.ra_jobs.specs.Outputs.{checked}
use Rattle.ra_jobs.proofs.DoesLemmas.{bound_memory, judged_memory}
use Rattle.ra_jobs.proofs.RepairLemmas.{repair_memory}
use Rattle.ra_jobs.proofs.EditLemmas.{edit_memory}
use Rattle.ra_run.specs.Commands.{AreLots, command_of}
use Rattle.ra_run.proofs.SolveLemmas.{solve_memory}
use Rattle.ra_run.proofs.TrialLemmas.{trial_memory}
use Rattle.ra_run.proofs.VerifyLemmas.{verify_memory}

pub memory_any : (job : Option JobSays) (files : Reading) (out err : Output) (status : Status) → status ≡ NoMemory →
    ((names : Names) → Put err.sink (refusal_line names Memory)) → out.same → Leaves files out err →
    IfSome job (λ says. Does (command_of says) files out err status)
memory_any None files out err status is line same leaves = tt
memory_any (Some (Checks model initial changed closed)) files out err status is line same leaves =
    let names = check_names model initial changed closed in
    judged_memory names (checked names).prints files out err status is line same leaves
memory_any (Some (Bounds model initial closed)) files out err status is line same leaves =
    bound_memory (bound_names model initial closed) files out err status is line same leaves
memory_any (Some (Solves model initial closed slack drawing lots)) files out err status is line same leaves =
    solve_memory (solve_names model initial closed) (AreLots slack drawing lots) files out err status is line same
    leaves
memory_any (Some (Trials number)) files out err status is line same leaves =
    trial_memory number files out err status is line same leaves
memory_any (Some (Verifies model initial report closed slack drawing lots)) files out err status is line same leaves =
    verify_memory (verify_names model initial report closed) (AreLots slack drawing lots) files out err status is line
    same leaves
memory_any (Some (Repairs model initial closed slack drawing lots)) files out err status is line same leaves =
    repair_memory (solve_names model initial closed) (AreLots slack drawing lots) files out err status is line same
    leaves
memory_any (Some (Edits model initial current edits closed)) files out err status is line same leaves =
    edit_memory (edit_names model initial current edits closed) files out err status is line same leaves
