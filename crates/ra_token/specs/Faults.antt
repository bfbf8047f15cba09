-- The first fault of a list of bytes.
use Rattle.std.specs.Prelude.{ℕ, suc, ◌==◌, nat_lt, if◌then◌else◌, List, length, slice_index, Option, Some, None, is_some, unwrap_or}
use Rattle.ra_base.specs.Searches.{first}
use Rattle.ra_token.specs.declared.answers.TokenFault.{TokenFault}
use Rattle.ra_token.specs.declared.answers.TokenFault.TheVariants.{BadByte, TooLarge, TooLong}
use Rattle.ra_token.specs.Runs.{digit_at, is_blank, worth, run_start}

-- a digit at which its run exceeds 2^32 - 1
unfoldable pub digit_fault : List ℕ → ℕ → Option TokenFault
digit_fault bytes k =
    if nat_lt 4294967295 (worth bytes (suc k)) then Some (TooLarge (run_start bytes k)) else None

-- a byte that is neither a digit nor a blank
unfoldable pub other_fault : List ℕ → ℕ → Option TokenFault
other_fault bytes k =
    if is_blank (slice_index bytes k) then None else Some (BadByte k (slice_index bytes k))

-- the fault that shows at a place of the bytes; a file has 512 MiB at most
unfoldable pub fault_at : List ℕ → ℕ → Option TokenFault
fault_at bytes k =
    if k == 536870912 then Some TooLong
    else if digit_at bytes k then digit_fault bytes k
    else other_fault bytes k

-- the fault that shows first
unfoldable pub first_fault : List ℕ → Option TokenFault
first_fault bytes = first (length bytes) (fault_at bytes)

-- a place with a fault
unfoldable pub faulty_place : List ℕ → ℕ → Option ℕ
faulty_place bytes k = if is_some (fault_at bytes k) then Some k else None

-- the place where the first fault shows, and the end if there is none
unfoldable pub fault_place : List ℕ → ℕ
fault_place bytes = unwrap_or (first (length bytes) (faulty_place bytes)) (length bytes)
