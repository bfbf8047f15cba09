-- When a worker hands nothing in: it has used its budget, or its replica has not taken in all of its own entries.
use Rattle.std.specs.Prelude.{ℕ, Bool, ◌||◌, nat_lt, nat_le, List}
use Rattle.ra_draws.specs.declared.budgets.Lots.{Lots}
use Rattle.ra_journal.specs.declared.entries.Entry.{Entry}
use Rattle.ra_journal.specs.Committing.{next_number}
use Rattle.ra_journal.specs.Entries.{entries_of, budget}

-- worker w has used its budget
unfoldable pub has_used : Lots → List Entry → ℕ → Bool
has_used l h w = nat_le (budget l w) (next_number h w)

-- worker w has an entry at place q or later
unfoldable pub is_behind : List Entry → ℕ → ℕ → Bool
is_behind h w q = nat_lt (entries_of h q w) (next_number h w)

-- worker w hands nothing in: it has used its budget, or has an entry at place q or later
unfoldable pub is_skipped : Lots → List Entry → ℕ → ℕ → Bool
is_skipped l h w q = has_used l h w || is_behind h w q
