-- Eight digits at a time, by three multiplications.
use Rattle.std.proofs.Common.{◌≡◌, ℕ, zero, suc, ◌+◌, ◌*◌, ◌-◌, ◌/◌, ◌%◌, ◌^◌, ◌<◌, ◌≤◌, true, List, length, get_or, refl, sym, ap, ◌∙◌, subst, add-one, pow-suc, zero-add, suc-add, mul_assoc, arith, bit_and}
use Rattle.std.specs.Char.{is_ascii_digit}
use Rattle.std.proofs.lemmas.Nat.{and_block, and_mask, mod_low, shr_high}
use Rattle.ra_token.specs.Runs.{digit_at}
use Rattle.ra_token.specs.Reads.{IsPiece}
use Rattle.ra_token.specs.Scan.{InRun, digits_worth}
use Rattle.ra_token.proofs.InPiece.{piece_more, digit_below, near_more, near_small}

-- what a multiplication leaves of a number: its middle
middle : (a low mid high k j : ℕ) → a ≡ high * 2 ^ 64 + (mid * 2 ^ k + low) → low < 2 ^ k → mid * 2 ^ k + low < 2 ^ 64 →
    a % 18446744073709551616 / 2 ^ k ≡ mid
middle a low mid high k j is small within =
    ap (λ n. n % 2 ^ 64 / 2 ^ k) is ∙ ap (λ n. n / 2 ^ k) (mod_low high 64 (mid * 2 ^ k + low) within)
    ∙ shr_high mid k low small

-- the lower of two bytes, and what is left above them
low_byte : (p u high m : ℕ) → p < 256 → u < 256 → bit_and (high * 65536 + (u * 256 + p)) (m * 65536 + 255) ≡
    bit_and high m * 65536 + p
low_byte p u high m small_p small_u =
    let low : bit_and (u * 256 + p) 255 ≡ p = omega (arith, and_mask (u * 256 + p) 8) in
    and_block 16 high m (u * 256 + p) 255 (omega arith) (omega arith) ∙ ap (λ r. bit_and high m * 65536 + r) low

last_byte : (p : ℕ) → p < 256 → bit_and p 255 ≡ p
last_byte p small = omega (arith, and_mask p 8)

-- the lower of two numbers of two bytes, and the one above them
low_pair : (p u high : ℕ) → p < 65536 → u < 65536 → high < 65536 →
    bit_and (high * 4294967296 + (u * 65536 + p)) 281470681808895 ≡ high * 4294967296 + p
low_pair p u high small_p small_u small_high =
    let low : bit_and (u * 65536 + p) 65535 ≡ p = omega (arith, and_mask (u * 65536 + p) 16) in
    let up : bit_and high 65535 ≡ high = omega (arith, and_mask high 16) in
    and_block 32 high 65535 (u * 65536 + p) 65535 (omega arith) (omega arith) ∙ omega (arith, low, up)

module _ (a b c d : ℕ) where
  -- the pairs of eight digits
  twos : (e f g h : ℕ) → a ≤ 9 → b ≤ 9 → c ≤ 9 → d ≤ 9 → e ≤ 9 → f ≤ 9 → g ≤ 9 → h ≤ 9 →
      bit_and ((a + 256 * (b + 256 * (c + 256 * (d + 256 * (e + 256 * (f + 256 * (g + 256 * h))))))) * 2561 %
      18446744073709551616 / 256) 71777214294589695 ≡
      (((g * 10 + h) * 65536 + (e * 10 + f)) * 65536 + (c * 10 + d)) * 65536 + (a * 10 + b)
  twos e f g h sa sb sc sd se sf sg sh =
      let third = (g * 10 + h) * 65536 + ((f * 10 + g) * 256 + (e * 10 + f)) in
      let second = third * 65536 + ((d * 10 + e) * 256 + (c * 10 + d)) in
      ap (λ n. bit_and n 71777214294589695)
      (middle _ a (second * 65536 + ((b * 10 + c) * 256 + (a * 10 + b))) (10 * h) 8 0 (omega arith) (omega arith)
      (omega arith))
      ∙ low_byte (a * 10 + b) (b * 10 + c) second 1095233372415 (omega arith) (omega arith)
      ∙ ap (λ n. n * 65536 + (a * 10 + b))
      (low_byte (c * 10 + d) (d * 10 + e) third 16711935 (omega arith) (omega arith)
      ∙ ap (λ n. n * 65536 + (c * 10 + d))
      (low_byte (e * 10 + f) (f * 10 + g) (g * 10 + h) 255 (omega arith) (omega arith)
      ∙ ap (λ n. n * 65536 + (e * 10 + f)) (last_byte (g * 10 + h) (omega arith))))

  -- the pairs of four numbers below 100
  fours : a ≤ 99 → b ≤ 99 → c ≤ 99 → d ≤ 99 →
      bit_and (((((d * 65536 + c) * 65536 + b) * 65536 + a) * 6553601) % 18446744073709551616 / 65536) 281470681808895 ≡
      (c * 100 + d) * 4294967296 + (a * 100 + b)
  fours sa sb sc sd =
      ap (λ n. bit_and n 281470681808895)
      (middle _ a ((c * 100 + d) * 4294967296 + ((b * 100 + c) * 65536 + (a * 100 + b))) (100 * d) 16 0 (omega arith)
      (omega arith) (omega arith))
      ∙ low_pair (a * 100 + b) (b * 100 + c) (c * 100 + d) (omega arith) (omega arith) (omega arith)

eights : (a b : ℕ) → a ≤ 9999 → b ≤ 9999 → (b * 4294967296 + a) * 42949672960001 % 18446744073709551616 / 4294967296 ≡
    a * 10000 + b
eights a b sa sb = middle _ a (a * 10000 + b) (10000 * b) 32 0 (omega arith) (omega arith) (omega arith)

-- what becomes of eight digits
abbrev pub joined : ℕ → ℕ
joined n = bit_and (bit_and (n * 2561 % 18446744073709551616 / 256) 71777214294589695 * 6553601 % 18446744073709551616 /
    65536) 281470681808895 * 42949672960001 % 18446744073709551616 / 4294967296

joined_is : (a b c d e f g h : ℕ) → a ≤ 9 → b ≤ 9 → c ≤ 9 → d ≤ 9 → e ≤ 9 → f ≤ 9 → g ≤ 9 → h ≤ 9
    → joined (a + 256 * (b + 256 * (c + 256 * (d + 256 * (e + 256 * (f + 256 * (g + 256 * h)))))))
    ≡ (a * 1000 + b * 100 + c * 10 + d) * 10000 + (e * 1000 + f * 100 + g * 10 + h)
joined_is a b c d e f g h sa sb sc sd se sf sg sh =
    ap (λ n. bit_and (n * 6553601 % 18446744073709551616 / 65536) 281470681808895
    * 42949672960001 % 18446744073709551616 / 4294967296) (twos a b c d e f g h sa sb sc sd se sf sg sh)
    ∙ ap (λ n. n * 42949672960001 % 18446744073709551616 / 4294967296)
    (fours (a * 10 + b) (c * 10 + d) (e * 10 + f) (g * 10 + h) (omega arith) (omega arith) (omega arith)
    (omega arith))
    ∙ eights ((a * 10 + b) * 100 + (c * 10 + d)) ((e * 10 + f) * 100 + (g * 10 + h)) (omega arith) (omega arith)
    ∙ omega arith

-- the digits of a run that is shorter than eight, moved to the end
abbrev pub moved : ℕ → ℕ → ℕ
moved eight count = (eight + 14974415777481871312) % 18446744073709551616 * 2 ^ (64 - 8 * count) % 18446744073709551616

-- some bytes or digits as one number, the first at the low end
abbrev packed : (ℕ → ℕ) → ℕ → ℕ
packed x zero = 0
packed x (suc n) = x 0 + 256 * packed (λ k. x (suc k)) n

-- what digits are worth, the first at the high end
abbrev worth_of : (ℕ → ℕ) → ℕ → ℕ
worth_of x zero = 0
worth_of x (suc n) = worth_of x n * 10 + x n

-- as many zeros, and then the digits
abbrev padded : ℕ → (ℕ → ℕ) → ℕ → ℕ
padded zero x k = x k
padded (suc z) x zero = 0
padded (suc z) x (suc k) = padded z x k

-- as many digits 1, packed
abbrev ones : ℕ → ℕ
ones zero = 0
ones (suc n) = 1 + 256 * ones n

-- eight digits, packed and joined
joined_digits : (x : ℕ → ℕ) → ((k : ℕ) → k < 8 → x k ≤ 9) → joined (packed x 8) ≡ worth_of x 8
joined_digits x small =
    let all : packed x 8 ≡ x 0 + 256
    * (x 1 + 256 * (x 2 + 256 * (x 3 + 256 * (x 4 + 256 * (x 5 + 256 * (x 6 + 256 * x 7)))))) = omega arith in
    ap joined all
    ∙ joined_is (x 0) (x 1) (x 2) (x 3) (x 4) (x 5) (x 6) (x 7) (small 0 (omega arith)) (small 1 (omega arith))
    (small 2 (omega arith)) (small 3 (omega arith)) (small 4 (omega arith)) (small 5 (omega arith))
    (small 6 (omega arith)) (small 7 (omega arith))
    ∙ omega arith

-- a number that begins one byte higher
one_higher : (n m : ℕ) → 256 ^ suc n * m ≡ 256 * (256 ^ n * m)
one_higher n m =
    let next : 256 ^ suc n ≡ 256 * 256 ^ n = omega (arith, pow-suc 256 n) in
    ap (λ k. k * m) next ∙ mul_assoc 256 (256 ^ n) m

-- digits never carry into the byte above them
packed_small : (x : ℕ → ℕ) → (n : ℕ) → ((k : ℕ) → k < n → x k ≤ 9) → packed x n < 256 ^ n
packed_small x zero small = omega arith
packed_small x (suc n) small =
    omega (
      arith,
      small 0 (omega arith),
      packed_small (λ k. x (suc k)) n (λ k below. small (suc k) (omega arith)),
      pow-suc 256 n,
    )

-- what is above the first bytes
abbrev above : (ℕ → ℕ) → ℕ → ℕ → ℕ
above b zero m = packed b m
above b (suc n) m = above (λ k. b (suc k)) n m

-- bytes of which the first ones are digits: the digits, 48 for each, and what is above them
packed_digits : (b x : ℕ → ℕ) → (n m : ℕ) → ((k : ℕ) → k < n → b k ≡ x k + 48) → packed b (n + m) ≡ packed x n
    + 48 * ones n + 256 ^ n * above b n m
packed_digits b x zero m are = omega (arith, ap (packed b) (zero-add m))
packed_digits b x (suc n) m are =
    omega (
      arith,
      ap (packed b) (suc-add n m),
      are 0 (omega arith),
      packed_digits (λ k. b (suc k)) (λ k. x (suc k)) n m (λ k below. are (suc k) (omega arith)),
      one_higher n (above b (suc n) m),
    )

-- the digits alone are moved to the end, whatever stands above them
moved_up : (n digits above : ℕ) → n ≤ 8 → digits < 256 ^ n → moved (digits + 48 * ones n + 256 ^ n * above) n ≡
    256 ^ (8 - n) * digits
moved_up zero digits above few small = omega arith
moved_up (suc zero) digits above few small = omega arith
moved_up (suc (suc zero)) digits above few small = omega arith
moved_up (suc (suc (suc zero))) digits above few small = omega arith
moved_up (suc (suc (suc (suc zero)))) digits above few small = omega arith
moved_up (suc (suc (suc (suc (suc zero))))) digits above few small = omega arith
moved_up (suc (suc (suc (suc (suc (suc zero)))))) digits above few small = omega arith
moved_up (suc (suc (suc (suc (suc (suc (suc zero))))))) digits above few small = omega arith
moved_up (suc (suc (suc (suc (suc (suc (suc (suc zero)))))))) digits above few small = omega arith
moved_up (suc (suc (suc (suc (suc (suc (suc (suc (suc n))))))))) digits above few small = absurd (omega arith)

-- zeros in front move digits up, and change neither what they are worth nor that they are digits
padded_packed : (z n : ℕ) (x : ℕ → ℕ) → packed (padded z x) (z + n) ≡ 256 ^ z * packed x n
padded_packed zero n x = omega (arith, ap (packed x) (zero-add n))
padded_packed (suc z) n x =
    omega (arith, ap (packed (padded (suc z) x)) (suc-add z n), padded_packed z n x, one_higher z (packed x n))

padded_front : (z k : ℕ) (x : ℕ → ℕ) → k < z → padded z x k ≡ 0
padded_front zero k x within = absurd (omega arith)
padded_front (suc z) zero x within = refl
padded_front (suc z) (suc k) x within = padded_front z k x (omega arith)

padded_behind : (z k : ℕ) (x : ℕ → ℕ) → padded z x (z + k) ≡ x k
padded_behind zero k x = ap x (zero-add k)
padded_behind (suc z) k x = ap (padded (suc z) x) (suc-add z k) ∙ padded_behind z k x

padded_small : (z n k : ℕ) (x : ℕ → ℕ) → ((j : ℕ) → j < n → x j ≤ 9) → k < z + n → padded z x k ≤ 9
padded_small zero n k x small within = small k (omega arith)
padded_small (suc z) n zero x small within = omega arith
padded_small (suc z) n (suc k) x small within = padded_small z n k x small (omega arith)

worth_front : (z k : ℕ) (x : ℕ → ℕ) → k ≤ z → worth_of (padded z x) k ≡ 0
worth_front z zero x within = refl
worth_front z (suc k) x within = omega (arith, worth_front z k x (omega arith), padded_front z k x within)

worth_padded : (z n : ℕ) (x : ℕ → ℕ) → worth_of (padded z x) (n + z) ≡ worth_of x n
worth_padded z zero x = ap (worth_of (padded z x)) (zero-add z) ∙ worth_front z z x (omega arith)
worth_padded z (suc n) x =
    let here : z + n ≡ n + z = omega arith in
    omega (
      arith,
      ap (worth_of (padded z x)) (suc-add n z),
      worth_padded z n x,
      ap (padded z x) here,
      padded_behind z n x,
    )

-- a digit's byte
digit_byte : (byte : ℕ) → is_ascii_digit byte ≡ true → byte ≡ byte - 48 + 48
digit_byte byte digit = grind arith

-- the digits of a run, moved and joined
abbrev JoinsTo : List ℕ → ℕ → ℕ → Type 0
JoinsTo bytes from n =
    joined (moved
    (get_or bytes from 0 + 256
    * (get_or bytes (from + 1) 0 + 256
    * (get_or bytes (from + 2) 0 + 256
    * (get_or bytes (from + 3) 0 + 256
    * (get_or bytes (from + 4) 0 + 256
    * (get_or bytes (from + 5) 0 + 256 * (get_or bytes (from + 6) 0 + 256 * get_or bytes (from + 7) 0)))))))
    n) ≡ digits_worth bytes from n

module _ (bytes : List ℕ) (from : ℕ) where
  -- from the bytes to what their digits are worth

  pub digits_none : digits_worth bytes from 0 ≡ 0
  unfolding digits_worth
  digits_none = refl

  pub digits_more : (k : ℕ) → digits_worth bytes from (suc k) ≡ digits_worth bytes from k * 10
      + (get_or bytes (from + k) 0 - 48)
  unfolding digits_worth
  digits_more k = refl

  digits_are : (n : ℕ) → worth_of (λ k. get_or bytes (from + k) 0 - 48) n ≡
      digits_worth bytes from n
  digits_are zero = sym digits_none
  digits_are (suc n) = omega (arith, digits_are n, digits_more n)

  byte_first : get_or bytes (from + 0) 0 ≡ get_or bytes from 0
  byte_first = ap (λ i. get_or bytes i 0) (omega arith)

  pub joins : (n : ℕ) → 0 < n → n ≤ 8 → ((k : ℕ) → k < n → digit_at bytes (from + k) ≡ true) → JoinsTo bytes from n
  joins n some few digits =
      let b : ℕ → ℕ = λ k. get_or bytes (from + k) 0 in
      let x : ℕ → ℕ = λ k. b k - 48 in
      let z : ℕ = 8 - n in
      let whole : n + z ≡ 8 = omega arith in
      let whole_too : z + n ≡ 8 = omega arith in
      let small : (k : ℕ) → k < n → x k ≤ 9 = λ k below. digit_below (b k) (digits k below) in
      let each : (k : ℕ) → k < 8 → padded z x k ≤ 9 = λ k below. padded_small z n k x small (omega arith) in
      let all : get_or bytes from 0 + 256
      * (b 1 + 256 * (b 2 + 256 * (b 3 + 256 * (b 4 + 256 * (b 5 + 256 * (b 6 + 256 * b 7)))))) ≡ packed b 8 =
      omega (arith, byte_first) in
      ap (λ e. joined (moved e n))
      (all ∙ (ap (packed b) (sym whole) ∙ packed_digits b x n z (λ k below. digit_byte (b k) (digits k below))))
      ∙ ap joined (moved_up n (packed x n) (above b n z) few (packed_small x n small)
      ∙ sym (padded_packed z n x) ∙ ap (packed (padded z x)) whole_too)
      ∙ joined_digits (padded z x) each
      ∙ ap (worth_of (padded z x)) (sym whole)
      ∙ worth_padded z n x
      ∙ digits_are n

-- few digits are worth little, and a run goes on over them

pub digits_small : (piece : List ℕ) (from : ℕ) → (n : ℕ) → ((k : ℕ) → k < n → digit_at piece (from + k) ≡ true) →
    digits_worth piece from n < 10 ^ n
digits_small piece from zero digits = rw (digits_none piece from) (omega arith)
digits_small piece from (suc n) digits =
    rw (digits_more piece from n)
    (subst (λ m. digits_worth piece from n * 10 + (get_or piece (from + n) 0 - 48) < 10 ^ m) (add-one n)
    (near_more (digits_worth piece from n) (get_or piece (from + n) 0 - 48) n
    (digits_small piece from n (λ k below. digits k (omega arith)))
    (digit_below _ (digits n (omega arith)))))

pub digits_run : (all piece : List ℕ) (start first from : ℕ) → (n : ℕ) → start + length piece ≤ 536870912 →
    IsPiece all start piece → from + n ≤ length piece → n ≤ 8 → ((k : ℕ) → k < n → digit_at piece (from + k) ≡ true)
    → InRun all first (start + from) 0 → InRun all first (start + (from + n)) (digits_worth piece from n)
digits_run all piece start first from zero low is within few digits run =
    let here : start + from ≡ start + (from + 0) = omega arith in
    rw (digits_none piece from) (subst (λ k. InRun all first k 0) here run)
digits_run all piece start first from (suc n) low is within few digits run =
    let next : from + n + 1 ≡ from + suc n = omega arith in
    rw (digits_more piece from n)
    (subst (λ k. InRun all first (start + k) (digits_worth piece from n * 10 + (get_or piece (from + n) 0 - 48)))
    next
    (piece_more all piece start first (from + n) (digits_worth piece from n) low is (omega arith)
    (digits n (omega arith))
    (near_small _ (suc n)
    (subst (λ w. w < 10 ^ suc n) (digits_more piece from n) (digits_small piece from (suc n) digits)) few)
    (digits_run all piece start first from n low is (omega arith) (omega arith)
    (λ k below. digits k (omega arith)) run)))
