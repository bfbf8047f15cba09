use Rattle.std.proofs.Common.{ap, ◌∙◌}
use Rattle.std.proofs.lemmas.Result.{IfOk-weaker}
use Rattle.clap.specs.Words.{found_of}
use Rattle.ra_words.specs.Words.{texts}
use Rattle.ra_anneal.specs.Found.{found_says}
use Rattle.ra_anneal.proofs.LineForms.{is_line, heat_fits, workers_fits, run_fits, search_found}
use Rattle.ra_anneal.proofs.words.anneal_job.Goals as goal

pub take_line-requires : goal.take_line-requires
take_line-requires c = is_line (texts c.args.words.now) c.requires

pub found_job-requires-clause-heat : goal.found_job-requires-clause-heat
found_job-requires-clause-heat c = heat_fits (texts c.args.words.now) c.requires _ c.in_ok-taken.ensures

pub found_job-requires-clause-workers : goal.found_job-requires-clause-workers
found_job-requires-clause-workers c = workers_fits (texts c.args.words.now) c.requires _ c.in_ok-taken.ensures

pub found_job-requires-clause-run : goal.found_job-requires-clause-run
found_job-requires-clause-run c = run_fits (texts c.args.words.now) c.requires _ c.in_ok-taken.ensures

pub returns : goal.returns
returns c =
    let found = found_of c.in_ok-taken.taken in
    IfOk-weaker c.found_job.result _ _
    (λ job is. is ∙ ap (λ model. found_says model found) c.text_at.ensures
    ∙ search_found (texts c.args.words.now) c.requires found c.in_ok-taken.ensures)
    c.found_job.ensures
