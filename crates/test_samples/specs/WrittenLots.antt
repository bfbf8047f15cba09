-- The lots of written words that tests make.
use Rattle.std.specs.Prelude.{◌≡◌, ℕ, List, [], ◌∷◌}
use Rattle.ra_draws.specs.declared.sources.Source.{Source}
use Rattle.ra_draws.specs.declared.sources.Source.TheVariants.{Seed, Written}
use Rattle.ra_draws.specs.declared.sources.Lot.{Lot}

-- the source is these words
abbrev pub AreWords : Source → List ℕ → Type 0
AreWords (Seed seed) words = ⊥
AreWords (Written given) words = given.items ≡ words

-- a lot for each list of words, in their order, each with this budget, and no others
abbrev pub AreWritten : List Lot → List (List ℕ) → ℕ → Type 0
AreWritten [] [] budget = Unit {0}
AreWritten (lot ∷ lots) (words ∷ more) budget =
    AreWords lot.source words × (lot.budget ≡ budget) × AreWritten lots more budget
AreWritten _ _ budget = ⊥
