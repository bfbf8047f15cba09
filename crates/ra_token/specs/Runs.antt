-- Runs of digits in a list of bytes.
use Rattle.std.specs.Prelude.{ℕ, zero, suc, ◌+◌, ◌*◌, ◌-◌, Bool, false, not, ◌&&◌, ◌||◌, ◌==◌, if◌then◌else◌, List, slice_index}
use Rattle.std.specs.Char.{is_ascii_digit}

-- the byte at a place is a digit; past the end there is none
abbrev pub digit_at : List ℕ → ℕ → Bool
digit_at bytes k = is_ascii_digit (slice_index bytes k)

-- a space, a tab, CR or LF
abbrev pub is_blank : ℕ → Bool
is_blank byte = byte == 32 || byte == 9 || byte == 13 || byte == 10

-- what the digits directly before a place are worth
unfoldable pub worth : List ℕ → ℕ → ℕ
worth bytes zero = 0
worth bytes (suc k) =
    if digit_at bytes k then worth bytes k * 10 + (slice_index bytes k - 48) else 0

-- where the digits directly before a place begin
unfoldable pub run_start : List ℕ → ℕ → ℕ
run_start bytes zero = 0
run_start bytes (suc k) = if digit_at bytes k then run_start bytes k else suc k

-- a run has its last digit here
abbrev pub ends_at : List ℕ → ℕ → Bool
ends_at bytes k = digit_at bytes k && not (digit_at bytes (suc k))

-- a place that cuts a run in two
unfoldable pub cuts_run : List ℕ → ℕ → Bool
cuts_run bytes zero = false
cuts_run bytes (suc k) = digit_at bytes k && digit_at bytes (suc k)
