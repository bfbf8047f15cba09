use Rattle.ra_anneal.proofs.LineForms.{run_is_pair}
use Rattle.ra_anneal.proofs.words.schedule.Goals as goal

pub first-requires : goal.first-requires
first-requires c =
    run_is_pair c.as_bytes-run.result.now (rw (c.as_bytes-run.ensures.value, c.plain_at.ensures) c.requires.run)

pub second-requires : goal.second-requires
second-requires c =
    run_is_pair c.as_bytes-run.result.now (rw (c.as_bytes-run.ensures.value, c.plain_at.ensures) c.requires.run)
