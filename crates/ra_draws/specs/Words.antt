-- The words of a lot. Proposal k has words 8k to 8k+7 of its source.
use Rattle.std.specs.Prelude.{ℕ, zero, suc, ◌+◌, ◌*◌, List, [], ◌∷◌, slice_index}
use Rattle.rand_core.specs.Stream.{Stream, next_u64}
use Rattle.rand_core.specs.Steps.{stream_of, steps_u64_high}
use Rattle.rand_xoshiro.specs.SplitMix64.{splitmix_seed}
use Rattle.rand_xoshiro.specs.Xoshiro256.{of_seed, plus_plus}
use Rattle.ra_draws.specs.declared.sources.Source.{Source}
use Rattle.ra_draws.specs.declared.sources.Source.TheVariants.{Seed, Written}

-- what is left of a stream after its first n words
unfoldable pub after_words : ℕ → Stream → Stream
after_words zero stream = stream
after_words (suc n) stream = (next_u64 (after_words n stream)).1

-- word n of a stream
unfoldable pub stream_word : Stream → ℕ → ℕ
stream_word stream n = (next_u64 (after_words n stream)).0

-- the stream of Xoshiro256PlusPlus made by seed_from_u64
unfoldable pub seed_stream : ℕ → Stream
seed_stream seed = stream_of (steps_u64_high plus_plus) (of_seed (splitmix_seed 32 seed))

-- word n of a source: of the stream of its seed, or of its list
unfoldable pub source_word : Source → ℕ → ℕ
source_word (Seed seed) n = stream_word (seed_stream seed) n
source_word (Written words) n = slice_index words.items n

-- the eight words from word n on
unfoldable pub eight_from : (ℕ → ℕ) → ℕ → List ℕ
eight_from word n =
    word n ∷ word (n + 1) ∷ word (n + 2) ∷ word (n + 3) ∷ word (n + 4) ∷ word (n + 5) ∷ word (n + 6)
    ∷ word (n + 7) ∷ []

-- the words of proposal k
unfoldable pub proposal_words : Source → ℕ → List ℕ
proposal_words source k = eight_from (source_word source) (8 * k)
