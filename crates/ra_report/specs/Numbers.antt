-- The number that the digits at the front of a text give.
use Rattle.std.specs.Prelude.{ℕ, ◌+◌, ◌-◌, ◌*◌, Bool, ◌&&◌, nat_le, nat_lt, if◌then◌else◌, List, [], ◌∷◌}

unfoldable pub is_digit : ℕ → Bool
is_digit byte = nat_le 48 byte && nat_lt byte 58

-- the number that the digits in front give, after a number that was read so far
unfoldable pub told : ℕ → List ℕ → ℕ
told n [] = n
told n (byte ∷ bytes) = if is_digit byte then told (10 * n + (byte - 48)) bytes else n

-- what comes after the digits in front
unfoldable pub past : List ℕ → List ℕ
past [] = []
past (byte ∷ bytes) = if is_digit byte then past bytes else byte ∷ bytes
