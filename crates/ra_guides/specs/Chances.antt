-- The words of a seed.
use Rattle.std.specs.Prelude.{ℕ, List}
use Rattle.rand_core.specs.Stream.{Stream}
use Rattle.rand_core.specs.Steps.{stream_of, steps_u64_high}
use Rattle.rand_xoshiro.specs.SplitMix64.{splitmix_seed}
use Rattle.rand_xoshiro.specs.Xoshiro256.{of_seed, plus_plus}

-- the words to come of a generator with these four words of state
abbrev pub words_of : List ℕ → Stream
words_of state = stream_of (steps_u64_high plus_plus) state

-- the state of the generator Xoshiro256PlusPlus made by seed_from_u64
abbrev pub state_of : ℕ → List ℕ
state_of seed = of_seed (splitmix_seed 32 seed)
