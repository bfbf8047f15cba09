use Rattle.std.proofs.lemmas.Result.{IfOk-weaker}
use Rattle.ra_words.specs.Words.{texts}
use Rattle.ra_words.specs.Said.{said}
use Rattle.ra_words.proofs.FormLaws.{form_line, form_fits, form_says}
use Rattle.ra_words.proofs.jobs.read_job.Goals as goal

pub take_line-requires : goal.take_line-requires
take_line-requires c = form_line (texts c.args.words.now) c.args.form c.requires

pub found_job-requires : goal.found_job-requires
found_job-requires c = form_fits (texts c.args.words.now) c.args.form _ c.requires c.in_ok-taken.ensures

pub returns : goal.returns
returns c = IfOk-weaker c.found_job.result _ _
    (λ job is. form_says (texts c.args.words.now) c.args.form _ (said job) c.requires c.in_ok-taken.ensures is)
    c.found_job.ensures
