-- The run of one worker alone: it plans, judges and records each of its proposals at the state so far.
use Rattle.std.specs.Prelude.{ℕ, zero, suc, List, [], ◌∷◌, ◌++◌}
use Rattle.ra_draws.specs.Shown.{drawing_in}
use Rattle.ra_moves.specs.Judging.{judge}
use Rattle.ra_moves.specs.Options.{plan_of}
use Rattle.ra_journal.specs.declared.entries.Entry.{Entry}
use Rattle.ra_journal.specs.Entries.{budget, words, allowed}
use Rattle.ra_journal.specs.Openings.{Opening}
use Rattle.ra_journal.specs.States.{state_at}

-- the entry of proposal k of worker 0, planned and judged at place k of journal h
unfoldable pub solo_entry : Opening → List Entry → ℕ → Entry
solo_entry o h k =
    let here = state_at o h k in
    let mv = plan_of here (words o.lots 0 k) (drawing_in o.lots) (allowed o.lots 0 k) in
    record {
      worker = 0;
      k = k;
      q = k;
      mv = mv;
      verdict = judge here mv.steps (allowed o.lots 0 k);
    }

-- the entries of its first n proposals
unfoldable pub solo_entries : Opening → ℕ → List Entry
solo_entries o zero = []
solo_entries o (suc n) =
    solo_entries o n ++ solo_entry o (solo_entries o n) n ∷ []

-- the entries of all proposals of its budget
unfoldable pub solo : Opening → List Entry
solo o = solo_entries o (budget o.lots 0)
