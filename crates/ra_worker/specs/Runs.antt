-- The run of 1 to 16 workers, after it has ended.
use Rattle.std.specs.Prelude.{◌≡◌}
use Rattle.ra_model.specs.Costs.{parts_of}
use Rattle.ra_journal.specs.Best.{best_of}
use Rattle.ra_journal.specs.Legal.{Legal, Whole}
use Rattle.ra_journal.specs.States.{state}
use Rattle.ra_journal.specs.Journals.{opening_in}
use Rattle.ra_journal.specs.Openings.{Opening}
use Rattle.ra_worker.specs.declared.solved.Solved.{Solved}

-- its journal is legal and has each proposal of each worker once, its best state is the first of least cost, and its
-- parts are that state's
pub record IsRun (o : Opening) (run : Solved) : Type 0 where
  pub opening : opening_in run.journal ≡ o
  pub legal : Legal o run.journal.entries
  pub whole : Whole o.lots run.journal.entries
  pub best :
      run.best.items ≡ state o.start run.journal.entries
      (best_of o run.journal.entries)
  pub parts : run.parts ≡ parts_of o.tables o.start run.best.items
