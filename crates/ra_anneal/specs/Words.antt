-- The parts of words that are pairs of numbers, and the options with their places.
use Rattle.std.specs.Prelude.{ℕ, suc, List, take, drop, codes, Bool, true, nat_le, ◌&&◌, Option, Some, None}
use Rattle.ra_words.specs.LotTexts.{first_place}
use Rattle.ra_words.specs.Numbers.{is_number, decimal_worth}
use Rattle.ra_words.specs.Words.{is_name, value_at, behind}

-- the text before its first colon
unfoldable pub before_colon : List ℕ → List ℕ
before_colon text = take (first_place 58 text) text

-- the text after its first colon
unfoldable pub after_colon : List ℕ → List ℕ
after_colon text = drop (suc (first_place 58 text)) text

-- two numbers with a colon between
unfoldable pub is_pair : List ℕ → Bool
is_pair text = is_number (before_colon text) && is_number (after_colon text)

-- the value of an option, if it is given, is a file name
abbrev pub is_file : Option (List ℕ) → Bool
is_file None = true
is_file (Some text) = is_name text

-- the value of `--heat`, if it is given, is HIGH:LOW
abbrev pub is_heat : Option (List ℕ) → Bool
is_heat None = true
is_heat (Some text) = is_pair text

-- these two heats, or none if they aren't given
abbrev pub heat_says : Option (List ℕ) → Option (ℕ × ℕ)
heat_says None = None
heat_says (Some text) = Some (decimal_worth (before_colon text), decimal_worth (after_colon text))

-- the value of `--workers`, if it is given, is a number from 1 to 16
abbrev pub is_workers : Option (List ℕ) → Bool
is_workers None = true
is_workers (Some text) = is_number text && nat_le 1 (decimal_worth text) && nat_le (decimal_worth text) 16

-- so many workers, and 1 if the number isn't given
abbrev pub workers_says : Option (List ℕ) → ℕ
workers_says None = 1
workers_says (Some text) = decimal_worth text

-- SEED:TRIES, with at most 10^12 tries
unfoldable pub is_run : List ℕ → Bool
is_run text = is_pair text && nat_le (decimal_worth (after_colon text)) 1000000000000

-- the value of `--from`, which may come after the two names
unfoldable pub from_text : List (List ℕ) → Option (List ℕ)
from_text words = value_at (codes "--from") words 2

-- after it `--closed` may come
unfoldable pub closed_place : List (List ℕ) → ℕ
closed_place words = behind (codes "--from") words 2

unfoldable pub closed_text : List (List ℕ) → Option (List ℕ)
closed_text words = value_at (codes "--closed") words (closed_place words)

-- after it `--heat` may come
unfoldable pub heat_place : List (List ℕ) → ℕ
heat_place words = behind (codes "--closed") words (closed_place words)

unfoldable pub heat_text : List (List ℕ) → Option (List ℕ)
heat_text words = value_at (codes "--heat") words (heat_place words)

-- after it `--workers` may come
unfoldable pub workers_place : List (List ℕ) → ℕ
workers_place words = behind (codes "--heat") words (heat_place words)

unfoldable pub workers_text : List (List ℕ) → Option (List ℕ)
workers_text words = value_at (codes "--workers") words (workers_place words)

-- after all options SEED:TRIES comes
unfoldable pub run_place : List (List ℕ) → ℕ
run_place words = behind (codes "--workers") words (workers_place words)
