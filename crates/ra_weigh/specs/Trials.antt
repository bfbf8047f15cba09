-- What a trial consists of: an instance, an initial assignment, an assignment, the steps of a move, and the assignment
-- after them.
use Rattle.std.specs.Prelude.{List}
use Rattle.ra_base.specs.declared.ids.Machine.{Machine}
use Rattle.ra_model.specs.declared.raw.Tables.{Tables}
use Rattle.ra_moves.specs.declared.steps.Step.{Step}
use Rattle.ra_moves.specs.Replacing.{applied}
use Rattle.ra_weigh.specs.declared.trial.Trial.{Trial}

abbrev pub tables_of : Trial → Tables
tables_of t = t.inst.now.tables

abbrev pub initial_of : Trial → List Machine
initial_of t = t.start.now.items

abbrev pub steps_of : Trial → List Step
steps_of t = t.mv.now.steps

-- the assignment before the move
abbrev pub before_of : Trial → List Machine
before_of t = t.at.now.items

-- the assignment after the move
abbrev pub after_of : Trial → List Machine
after_of t = applied t.at.now.items t.mv.now.steps
