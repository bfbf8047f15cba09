use Rattle.ra_trial.proofs.Whole.{model_done}
use Rattle.ra_trial.proofs.trials.model_file.Goals as goal

pub returns : goal.returns
returns c = model_done c.in_ok-words.ensures c.in_ok-text.ensures.items
    c.push_resources.ensures c.push_machines.ensures c.push_services.ensures c.push_processes.ensures
    c.push_last.ensures
