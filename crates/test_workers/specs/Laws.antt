-- What holds of every step of a core, each proved by a function of `laws`.
use Rattle.std.specs.Prelude.{◌<◌}
use Rattle.ra_model.specs.Limits.{WellFormed}
use Rattle.ra_model.specs.Assignments.{IsAssignment}
use Rattle.ra_model.specs.Feasible.{Feasible}
use Rattle.ra_journal.specs.Entries.{worker_count}
use Rattle.ra_journal.specs.Legal.{Legal}
use Rattle.ra_journal.specs.Openings.{Opening}
use Rattle.ra_worker.specs.declared.events.CoreEvent.{CoreEvent}
use Rattle.ra_worker.specs.Core.{Core, ArePlacesInJournal, step, worker_of_event}

-- over a feasible start a step of an existing worker keeps a legal journal legal
abbrev pub StepKeepsLegal : Type 0
StepKeepsLegal =
    (o : Opening) (c : Core) (e : CoreEvent) → WellFormed o.tables
    → IsAssignment o.tables o.start → Feasible o.tables o.start o.start → Legal o c.journal
    → ArePlacesInJournal o.lots c
    → worker_of_event e < worker_count o.lots → Legal o (step o c e).after.journal

-- a step keeps the places within the length of the journal
abbrev pub StepKeepsPlaces : Type 0
StepKeepsPlaces =
    (o : Opening) (c : Core) (e : CoreEvent) → ArePlacesInJournal o.lots c
    → worker_of_event e < worker_count o.lots → ArePlacesInJournal o.lots (step o c e).after
