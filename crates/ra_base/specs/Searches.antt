-- Searches over the numbers below n: the first answer that is there, and the least answer with its place.
use Rattle.std.specs.Prelude.{◌≡◌, ℕ, zero, suc, ◌<◌, ◌≤◌, Bool, true, false, if◌then◌else◌, nat_lt, Option, Some, None}

-- the first of two answers that is there
unfoldable pub or_else : {X : Type 0} → Option X → Option X → Option X
or_else None b = b
or_else (Some x) b = Some x

-- the first of f 0 .. f (n - 1) that is there
unfoldable pub first : {X : Type 0} → ℕ → (ℕ → Option X) → Option X
first zero f = None
first (suc n) f = or_else (first n f) (f n)

-- an answer is there and is below the best so far
unfoldable pub is_better : Option ℕ → Option ℕ → Bool
is_better None best = false
is_better (Some x) None = true
is_better (Some x) (Some y) = nat_lt x y

-- the least of the answers f 0 .. f (n - 1) that are there
unfoldable pub least : ℕ → (ℕ → Option ℕ) → Option ℕ
least zero f = None
least (suc n) f = if is_better (f n) (least n f) then f n else least n f

-- the first place that gives the least answer, and zero if no answer is there
unfoldable pub least_place : ℕ → (ℕ → Option ℕ) → ℕ
least_place zero f = 0
least_place (suc n) f = if is_better (f n) (least n f) then n else least_place n f

-- v is the least answer below n, and p the first place that gives it
pub record IsLeast (n : ℕ) (f : ℕ → Option ℕ) (p v : ℕ) : Type 0 where
  pub below : p < n
  pub answer : f p ≡ Some v
  pub smallest : (k x : ℕ) → k < n → f k ≡ Some x → v ≤ x
  pub earliest : (k x : ℕ) → k < p → f k ≡ Some x → v < x
