-- Words of a stream in turn, and what a reader stands for after the words of one more proposal.
use Rattle.std.proofs.Common.{◌≡◌, ℕ, zero, suc, ◌+◌, ◌*◌, ◌<◌, ◌≤◌, List, length, slice_index, refl, sym, ap, ◌∙◌}
use Rattle.std.proofs.Common.{add-suc, add-zero, arith}
use Rattle.rand_core.specs.Stream.{Stream, next_u64}
use Rattle.rand_core.specs.Steps.{stream_of, steps_u64_high}
use Rattle.rand_xoshiro.specs.SplitMix64.{splitmix_seed}
use Rattle.rand_xoshiro.specs.Xoshiro256.{of_seed, plus_plus}
use denote.Bor.{Bor}
use Rattle.ra_base.specs.Listed.{Listed}
use Rattle.ra_draws.specs.declared.sources.Source.TheVariants.{Seed, Written}
use Rattle.ra_draws.specs.declared.sources.Source.{Source}
use Rattle.ra_draws.specs.declared.sources.Lot.{Lot}
use Rattle.ra_draws.specs.declared.words.Reader.{Reader}
use Rattle.ra_draws.specs.declared.words.Reader.TheVariants.{Generator, List as WrittenList}
use Rattle.ra_draws.specs.Readers.{ReadsFrom}
use Rattle.ra_draws.specs.Words.{after_words, stream_word, seed_stream, source_word, eight_from, proposal_words}

-- after m words, and after n more
after_more : (m n : ℕ) (stream : Stream) → after_words (m + n) stream ≡ after_words n (after_words m stream)
unfolding after_words
after_more m zero stream = rw add-zero refl
after_more m (suc n) stream = rw add-suc (ap (λ (s : Stream). (next_u64 s).1) (after_more m n stream))

word_after : (m n : ℕ) (stream : Stream) → stream_word (after_words m stream) n ≡ stream_word stream (m + n)
unfolding stream_word
word_after m n stream = ap (λ (s : Stream). (next_u64 s).0) (sym (after_more m n stream))

-- eight words after m words
pub eight_after : (m : ℕ) (stream : Stream) → eight_from (stream_word (after_words m stream)) 0 ≡
    eight_from (stream_word stream) m
unfolding eight_from
eight_after m stream = simp (word_after, add-zero)

-- the words of proposal k, and what is left after them
pub proposal_of_seed : (seed k : ℕ) → proposal_words (Seed seed) k ≡ eight_from (stream_word (seed_stream seed)) (8 * k)
unfolding proposal_words eight_from source_word
proposal_of_seed seed k = refl

pub proposal_of_list : (words : Listed ℕ) (k : ℕ) →
    proposal_words (Written words) k ≡ eight_from (slice_index words.items) (8 * k)
unfolding proposal_words eight_from source_word
proposal_of_list words k = refl

pub after_proposal : (k : ℕ) (stream : Stream) →
    after_words (8 * (k + 1)) stream ≡ after_words 8 (after_words (8 * k) stream)
after_proposal k stream = let more : 8 * (k + 1) ≡ 8 * k + 8 = omega arith in rw more (after_more (8 * k) 8 stream)

-- a reader before the first proposal
pub reads_seed : (lot : Lot) (seed : ℕ) (state : List ℕ) (reader : Reader) → lot.source ≡ Seed seed →
    state ≡ of_seed (splitmix_seed 32 seed) → reader ≡ Generator state → ReadsFrom reader lot 0
unfolding ReadsFrom after_words seed_stream
reads_seed lot seed state reader of_lot made is = rw (is, made) (seed, of_lot, refl)

pub reads_written : (lot : Lot) (words : Bor (Listed ℕ)) (reader : Reader) → lot.source ≡ Written words.now →
    length words.now.items ≡ 8 * lot.budget → reader ≡ WrittenList words → ReadsFrom reader lot 0
unfolding ReadsFrom
reads_written lot words reader of_lot eight_each is = rw is (of_lot, eight_each)

-- the words of proposal k were handed out, and the reader stands for the next
pub record Handed (reader : Reader) (lot : Lot) (k : ℕ) (words : List ℕ) : Type 0 where
  pub reads : ReadsFrom reader lot (k + 1)
  pub words_are : words ≡ proposal_words lot.source k

pub handed_generator : (lot : Lot) (k : ℕ) (state new words : List ℕ) → ReadsFrom (Generator state) lot k →
    words ≡ eight_from (stream_word (stream_of (steps_u64_high plus_plus) state)) 0 →
    stream_of (steps_u64_high plus_plus) new ≡ after_words 8 (stream_of (steps_u64_high plus_plus) state) →
    Handed (Generator new) lot k words
unfolding ReadsFrom
handed_generator lot k state new words reads given left = record {
  reads = (reads.0, reads.1, left ∙ ap (after_words 8) reads.2 ∙ sym (after_proposal k (seed_stream reads.0)));
  words_are = given ∙ ap (λ (s : Stream). eight_from (stream_word s) 0) reads.2
      ∙ eight_after (8 * k) (seed_stream reads.0) ∙ sym (proposal_of_seed reads.0 k)
      ∙ ap (λ (s : Source). proposal_words s k) (sym reads.1);
}

pub handed_list : (lot : Lot) (k : ℕ) (list : Bor (Listed ℕ)) (words : List ℕ) → ReadsFrom (WrittenList list) lot k →
    words ≡ eight_from (slice_index list.now.items) (8 * k) → Handed (WrittenList list) lot k words
unfolding ReadsFrom
handed_list lot k list words reads given = record {
  reads = (reads.0, reads.1);
  words_are = given ∙ sym (proposal_of_list list.now k) ∙ ap (λ (s : Source). proposal_words s k) (sym reads.0);
}

-- the words of a proposal within the budget are in the list
pub list_reaches : (lot : Lot) (k : ℕ) (list : Bor (Listed ℕ)) (reader : Reader) → ReadsFrom reader lot k →
    reader ≡ WrittenList list → k < lot.budget → 8 * k + 8 ≤ length list.now.items
unfolding ReadsFrom
list_reaches lot k list reader reads is within = let given = rw is at reads in omega (arith, given.1)
