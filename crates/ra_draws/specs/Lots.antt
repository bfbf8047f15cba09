-- The lots of a run, one for each worker.
use Rattle.std.specs.Prelude.{◌≡◌, ℕ, ◌*◌, ◌<◌, ◌≤◌, List, length, slice_index_or, sum_by}
use Rattle.ra_base.specs.Listed.{Listed}
use Rattle.ra_draws.specs.declared.sources.Source.TheVariants.{Seed, Written}
use Rattle.ra_draws.specs.declared.sources.Lot.{Lot}
use Rattle.ra_draws.specs.Allowance.{allowance}
use Rattle.ra_draws.specs.Words.{proposal_words}

-- the lot of worker w
unfoldable pub lot_at : List Lot → ℕ → Lot
lot_at lots w = slice_index_or lots w (record { source = Seed 0; budget = 0 })

-- how many proposals worker w makes
unfoldable pub budget_of : List Lot → ℕ → ℕ
budget_of lots w = (lot_at lots w).budget

-- the words of proposal k of worker w
unfoldable pub words_of : List Lot → ℕ → ℕ → List ℕ
words_of lots w k = proposal_words (lot_at lots w).source k

-- the rise of cost that proposal k of worker w may bring
unfoldable pub allowance_of : ℕ → List Lot → ℕ → ℕ → ℕ
allowance_of slack lots w k = allowance slack (budget_of lots w) k

-- a written lot has eight words for each of its proposals
pub record IsFitting (lot : Lot) : Type 0 where
  pub eight_each : (words : Listed ℕ) → lot.source ≡ Written words
      → length words.items ≡ 8 * lot.budget

-- 1 to 16 lots, budgets of at most 1,000,000 together, and written lots of the right length
pub record IsLots (lots : List Lot) : Type 0 where
  pub some : 1 ≤ length lots
  pub few : length lots ≤ 16
  pub together : sum_by (λ lot. lot.budget) lots ≤ 1000000
  pub each : (w : ℕ) → w < length lots → IsFitting (lot_at lots w)
