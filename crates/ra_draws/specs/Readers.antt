-- Where the next words of a lot are read from.
use Rattle.std.specs.Prelude.{◌≡◌, ℕ, ◌*◌, length}
use Rattle.rand_core.specs.Steps.{stream_of, steps_u64_high}
use Rattle.rand_xoshiro.specs.Xoshiro256.{plus_plus}
use Rattle.ra_draws.specs.declared.sources.Source.TheVariants.{Seed, Written}
use Rattle.ra_draws.specs.declared.sources.Lot.{Lot}
use Rattle.ra_draws.specs.declared.words.Reader.{Reader}
use Rattle.ra_draws.specs.declared.words.Reader.TheVariants.{Generator, List}
use Rattle.ra_draws.specs.Words.{after_words, seed_stream}

-- the generator is in the state that the seed's stream has after the words of k proposals, or the list is the written
-- one
unfoldable pub ReadsFrom : Reader → Lot → ℕ → Type 0
ReadsFrom (Generator state) lot k =
    (seed : ℕ) × (lot.source ≡ Seed seed)
    × (stream_of (steps_u64_high plus_plus) state ≡ after_words (8 * k) (seed_stream seed))
ReadsFrom (List words) lot k =
    (lot.source ≡ Written words.now) × (length words.now.items ≡ 8 * lot.budget)
