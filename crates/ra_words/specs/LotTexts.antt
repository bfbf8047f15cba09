-- The texts of lots: `SEED:BUDGET`, or `w:` and the words themselves.
use Rattle.std.specs.Prelude.{ℕ, suc, ◌/◌, ◌%◌, List, [], ◌∷◌, map, length, take, drop, sum_by, codes, Bool, nat_lt}
use Rattle.std.specs.Prelude.{nat_le, ◌==◌, ◌&&◌, if◌then◌else◌}
use Rattle.std.specs.List.{list_all}
use Rattle.std.specs.Str.{bytes_eq}
use Rattle.ra_words.specs.Numbers.{is_number, decimal_worth}

-- where the words of a lot come from: a seed, or the words that are written
pub data SourceSays : Type 0 where
  FromSeed : (seed : ℕ) → SourceSays
  FromWords : (words : List ℕ) → SourceSays

-- what the text of a lot says: where its words come from, and how many proposals it makes
pub record LotSays : Type 0 where
  pub source : SourceSays
  pub budget : ℕ

-- the place of the first separator, and the length of the text if there is none
unfoldable pub first_place : ℕ → List ℕ → ℕ
first_place separator [] = 0
first_place separator (byte ∷ bytes) =
    if byte == separator then 0 else suc (first_place separator bytes)

-- the text before its first colon
unfoldable pub seed_text : List ℕ → List ℕ
seed_text word = take (first_place 58 word) word

-- the text after its first colon
unfoldable pub budget_text : List ℕ → List ℕ
budget_text word = drop (suc (first_place 58 word)) word

-- a number, a colon, and a number of proposals, at most 1,000,000
unfoldable pub is_seed_lot : List ℕ → Bool
is_seed_lot word =
    is_number (seed_text word) && is_number (budget_text word) && nat_le (decimal_worth (budget_text word))
    1000000

-- a byte in front of the first piece
unfoldable pub in_front : ℕ → List (List ℕ) → List (List ℕ)
in_front byte [] = (byte ∷ []) ∷ []
in_front byte (piece ∷ others) = (byte ∷ piece) ∷ others

-- the pieces of a text, at least one, with one comma between two
unfoldable pub pieces : List ℕ → List (List ℕ)
pieces [] = [] ∷ []
pieces (byte ∷ bytes) = if byte == 44 then [] ∷ pieces bytes else in_front byte (pieces bytes)

-- the piece that begins at a place and ends before the next comma
unfoldable pub piece_at : List ℕ → ℕ → List ℕ
piece_at text start = take (first_place 44 (drop start text)) (drop start text)

-- the text of the words begins after `w:`
unfoldable pub is_written : List ℕ → Bool
is_written word = bytes_eq (take 2 word) (codes "w:")

-- the pieces after `w:`
unfoldable pub written_pieces : List ℕ → List (List ℕ)
written_pieces word = pieces (drop 2 word)

-- numbers, eight for each proposal
unfoldable pub is_written_lot : List ℕ → Bool
is_written_lot word =
    list_all is_number (written_pieces word) && length (written_pieces word) % 8 == 0

-- a lot in one of its two forms
unfoldable pub is_lot : List ℕ → Bool
is_lot word = if is_written word then is_written_lot word else is_seed_lot word

-- the words of a written lot, or the seed
unfoldable pub source_says : List ℕ → SourceSays
source_says word =
    if is_written word then FromWords (map decimal_worth (written_pieces word))
    else FromSeed (decimal_worth (seed_text word))

-- how many proposals a lot makes: one for each eight words, or as many as it says
unfoldable pub budget_says : List ℕ → ℕ
budget_says word =
    if is_written word then length (written_pieces word) / 8 else decimal_worth (budget_text word)

-- what a lot says
unfoldable pub lot_says : List ℕ → LotSays
lot_says word = record { source = source_says word; budget = budget_says word }

-- the lots of a run: 1 to 16 of them, with at most 1,000,000 proposals together
unfoldable pub are_lots : List (List ℕ) → Bool
are_lots words =
    nat_lt 0 (length words) && nat_le (length words) 16 && list_all is_lot words && nat_le
    (sum_by budget_says words) 1000000
