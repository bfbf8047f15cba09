-- The rise that a proposal is allowed, in 64 bits.
use Rattle.std.proofs.Common.{◌≡◌, ℕ, ◌-◌, ◌*◌, ◌/◌, ◌^◌, ◌<◌, ◌≤◌, arith}
use Rattle.std.proofs.Math.Nat.{zero-mul, zero-div}
use Rattle.std.proofs.lemmas.Nat.{mul-le}

pub product_fits : (slack budget k : ℕ) → slack < 17592186044416 → budget ≤ 1000000 → slack * (budget - 1 - k) < 2 ^ 64
product_fits slack budget k few most = grind (arith, mul-le)

pub none_left : (slack budget k : ℕ) → slack ≡ 0 → 0 ≡ slack * (budget - 1 - k) / budget
none_left slack budget k none = grind (arith, zero-mul, zero-div)
