use Rattle.ra_worker.proofs.Runs.{all_run}
use Rattle.ra_worker.proofs.crew.run_all.Goals as goal

pub returns : goal.returns
returns g c = all_run c.args.shared.now c.args.workers.now.items c.all_labour.new.all.items c.requires.ready
    c.all_labour.ensures.count c.all_labour.ensures.each
