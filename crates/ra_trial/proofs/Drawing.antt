-- Words drawn one after another.
use Rattle.std.proofs.Common.{arith, ◌≡◌, ℕ, ◌+◌, ◌<◌, get_or, List, [], ◌∷◌, ◌++◌, refl, sym, ap, ◌∙◌, add-one}
use Rattle.rand_core.specs.Stream.{Stream, next_u64}
use Rattle.rand_core.specs.Steps.{stream_of, steps_u64_high}
use Rattle.rand_xoshiro.specs.SplitMix64.{splitmix_seed}
use Rattle.rand_xoshiro.specs.Xoshiro256.{of_seed, plus_plus}
use Rattle.ra_draws.specs.Words.{after_words, stream_word, seed_stream}
use Rattle.ra_trial.specs.Lines.{listed}
use Rattle.ra_trial.specs.Numbers.{trial_word}
use Rattle.ra_trial.proofs.LineLemmas.{listed_more, listed_at}

-- the first n words were drawn, and the rest of the stream is left
pub record Drawn (all : Stream) (n : ℕ) (rest : Stream) (words : List ℕ) : Type 0 where
  pub words_are : words ≡ listed n (stream_word all)
  pub left : rest ≡ after_words n all

pub drawn_none : {all : Stream} {words : List ℕ} → words ≡ [] → Drawn all 0 all words
unfolding listed after_words
drawn_none none = record { words_are = none; left = refl }

module _ (all : Stream) {rest next : Stream} (n : ℕ) {w : ℕ} where
  module _ (left : rest ≡ after_words n all) (drawn : (w, next) ≡ next_u64 rest) where
    word_next : w ≡ stream_word all n
    unfolding stream_word
    word_next = rw (stream_word, ← left) (ap (λ q. q.0) drawn)

    rest_next : next ≡ after_words (n + 1) all
    unfolding after_words
    rest_next = grind (arith, add-one)

  -- one more word
  pub drawn_more : {words after : List ℕ} → Drawn all n rest words → (w, next) ≡ next_u64 rest →
      after ≡ words ++ w ∷ [] → Drawn all (n + 1) next after
  drawn_more before drawn push = record {
    words_are = rw (push, before.words_are, word_next before.left drawn, listed_more n _) refl;
    left = rest_next before.left drawn;
  }

-- all words
pub drawn_all : {all : Stream} {n m : ℕ} {rest : Stream} {words : List ℕ} → n ≡ m → Drawn all n rest words →
    words ≡ listed m (stream_word all)
drawn_all last drawn = rw (← last) drawn.words_are

-- the words of the generator that a number seeds
pub seeded : (number : ℕ) {state items : List ℕ} → state ≡ of_seed (splitmix_seed 32 number) →
    items ≡ listed 5650 (stream_word (stream_of (steps_u64_high plus_plus) state)) →
    items ≡ listed 5650 (trial_word number)
unfolding trial_word seed_stream
seeded number made drawn =
    drawn ∙ ap (λ s. listed 5650 (stream_word (stream_of (steps_u64_high plus_plus) s))) made

-- a word that was drawn
pub word_at : {items : List ℕ} {n : ℕ} (number : ℕ) {i word : ℕ} → items ≡ listed n (trial_word number) → i < n →
    word ≡ get_or items i word → word ≡ trial_word number i
word_at {n} number {i} {word} drawn within read =
    read ∙ rw drawn (listed_at n _ i word within)
