-- Sums, counts and greatest values of a function over the numbers below n.
use Rattle.std.specs.Prelude.{ℕ, zero, suc, ◌+◌, max, Bool, false, ◌||◌, if◌then◌else◌, ◌==◌, List, [], ◌∷◌, ◌++◌}

-- f 0 + .. + f (n - 1)
unfoldable pub total : ℕ → (ℕ → ℕ) → ℕ
total zero f = 0
total (suc n) f = total n f + f n

-- one if a test passes, else zero
abbrev pub one_if : Bool → ℕ
one_if test = if test then 1 else 0

-- how many k below n pass
abbrev pub count : ℕ → (ℕ → Bool) → ℕ
count n test = total n (λ k. one_if (test k))

-- the greatest of f 0 .. f (n - 1), and zero if there is none
unfoldable pub greatest : ℕ → (ℕ → ℕ) → ℕ
greatest zero f = 0
greatest (suc n) f = max (greatest n f) (f n)

-- the numbers below n that pass, ascending
unfoldable pub pick : ℕ → (ℕ → Bool) → List ℕ
pick zero test = []
pick (suc n) test = if test n then pick n test ++ n ∷ [] else pick n test

-- m is one of the names e 0 .. e (k - 1)
unfoldable pub is_named : ℕ → (ℕ → ℕ) → ℕ → Bool
is_named zero e m = false
is_named (suc k) e m = is_named k e m || (e k == m)

-- f at the j-th name if no earlier name is equal, else zero
unfoldable pub fresh : (ℕ → ℕ) → (ℕ → ℕ) → ℕ → ℕ
fresh e f j = if is_named j e (e j) then 0 else f (e j)
