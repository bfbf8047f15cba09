-- The next proposals of a worker, whose words are drawn already.
use Rattle.std.specs.Prelude.{◌≡◌, ℕ, ◌+◌, ◌%◌, ◌<◌, ◌≤◌, List, [], slice_index_or}
use Rattle.ra_draws.specs.declared.budgets.Lots.{Lots}
use Rattle.ra_draws.specs.Drawn.{Drawn}
use Rattle.ra_draws.specs.Lots.{lot_at}
use Rattle.ra_draws.specs.Shown.{lots_shown}
use Rattle.ra_journal.specs.Entries.{worker_count, budget, words}

-- worker w has made k proposals; the words of the next 64 are drawn, or fewer if the budget ends before, and no
-- later ones: those of proposal n are in place n % 64 of a ring
pub record AreDrawn (l : Lots) (w : ℕ) (drawn : Drawn) (k : ℕ) (ring : List (List ℕ)) : Type 0 where
  pub worker : w < worker_count l
  pub within : k ≤ budget l w
  pub lot : drawn.lot ≡ lot_at (lots_shown l) w
  pub made : k + 63 < budget l w → drawn.made ≡ k + 64
  pub words :
      (n : ℕ) → k ≤ n → n < k + 64 → n < budget l w
      → slice_index_or ring (n % 64) [] ≡ words l w n
