-- What a journal and the replicas of its workers become by events.
use Rattle.std.specs.Prelude.{List}
use Rattle.ra_journal.specs.Journals.{History, opening_in}
use Rattle.ra_worker.specs.Replicas.{Progress}
use Rattle.ra_worker.specs.declared.events.CoreEvent.{CoreEvent}
use Rattle.ra_worker.specs.Core.{Stepped, Ran, step, run}
use Rattle.ra_worker.specs.Turns.{core_in}

-- the core and the reply after one event
abbrev pub step_in : History → List Progress → CoreEvent → Stepped
step_in j rs event = step (opening_in j) (core_in j rs) event

-- the core and the replies after a list of events
abbrev pub run_in : History → List Progress → List CoreEvent → Ran
run_in j rs events = run (opening_in j) (core_in j rs) events
