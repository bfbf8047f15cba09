-- A quotient by an inverse is right or one too small, and the remainder is mended by one subtraction.
use Rattle.std.proofs.Common.{◌≡◌, ℕ, zero, ◌+◌, ◌-◌, ◌*◌, ◌%◌, ◌<◌, ◌≤◌, sym, ap, ◌∙◌, arith}
use Rattle.std.proofs.Math.Nat.{mul_assoc, mul_comm, mul_right_comm, mul-add, add-mul, mul-le-mul_left, mul-le-mul_right, le_of_mul-le-mul_right, lt_of_mul-lt-mul_right, mul-lt-mul_of_pos_right}
use Rattle.std.proofs.lemmas.Nat.{mod-mul-add}

-- q is the quotient of x * m by p, where m goes about p / d times into p
pub quotient_low : (p m d x q : ℕ) → zero < p → m * d < p → q * p ≤ x * m → q * d ≤ x
quotient_low p m d x q some below low = le_of_mul-le-mul_right all some
  where
    first : q * p * d ≤ x * m * d
    first = mul-le-mul_right d low

    second : x * (m * d) ≤ x * p
    second = mul-le-mul_left x (omega (arith, below))

    all : q * d * p ≤ x * p
    all = omega (arith, mul_right_comm q d p, first, mul_assoc x m d, second)

pub quotient_high : (p m d x q : ℕ) → 1 ≤ d → p ≤ m * d + d → x < p → x * m < q * p + p → x < q * d + 2 * d
quotient_high p m d x q some above few high = lt_of_mul-lt-mul_right p all
  where
    first : x * m * d < (q * p + p) * d
    first = mul-lt-mul_of_pos_right high some

    second : x * p ≤ x * (m * d + d)
    second = mul-le-mul_left x above

    third : x * d ≤ p * d
    third = mul-le-mul_right d (omega (arith, few))

    twice : 2 * d * p ≡ p * d + p * d
    twice = mul_assoc 2 d p ∙ ap (λ n. 2 * n) (mul_comm d p) ∙ omega arith

    all : x * p < (q * d + 2 * d) * p
    all = omega (
      arith,
      first,
      add-mul (q * p) p d,
      second,
      mul-add x (m * d) d,
      mul_assoc x m d,
      third,
      add-mul (q * d) (2 * d) p,
      mul_right_comm q d p,
      twice,
    )

-- the remainder by a quotient that is right
pub rest_right : (d x q : ℕ) → q * d ≤ x → x - q * d < d → x - q * d ≡ x % d
rest_right d x q low less = sym (ap (λ n. n % d) whole ∙ mod-mul-add q d (x - q * d) less)
  where
    whole : x ≡ q * d + (x - q * d)
    whole = omega (arith, low)

-- the remainder by a quotient that is one too small
pub rest_mended : (d x q : ℕ) → q * d ≤ x → d ≤ x - q * d → x < q * d + 2 * d → x - q * d - d ≡ x % d
rest_mended d x q low more high = sym (ap (λ n. n % d) whole ∙ mod-mul-add (q + 1) d (x - q * d - d) less)
  where
    once : (q + 1) * d ≡ q * d + d
    once = add-mul q 1 d ∙ omega arith

    less : x - q * d - d < d
    less = omega (arith, more, high)

    whole : x ≡ (q + 1) * d + (x - q * d - d)
    whole = omega (arith, low, once, more)
