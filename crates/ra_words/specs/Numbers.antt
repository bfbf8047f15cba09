-- The numbers of the command line.
use Rattle.std.specs.Prelude.{ℕ, ◌^◌, List, length, Bool, nat_lt, nat_le, ◌&&◌}
use Rattle.std.specs.Str.{all_ascii_digits}
use Rattle.std.specs.Str.Parse.{digits_value}

-- 1 to 20 decimal digits
unfoldable pub has_digits : List ℕ → Bool
has_digits text = nat_lt 0 (length text) && nat_le (length text) 20 && all_ascii_digits text

-- what decimal digits are worth
unfoldable pub decimal_worth : List ℕ → ℕ
decimal_worth text = digits_value 10 text

-- 1 to 20 decimal digits, worth less than 2^64
unfoldable pub is_number : List ℕ → Bool
is_number text = has_digits text && nat_lt (decimal_worth text) (2 ^ 64)
