-- The mask of the bytes that are no digits.
use Rattle.std.proofs.Common.{◌≡◌, ℕ, ◌+◌, ◌-◌, ◌%◌, ◌^◌, ◌<◌, ◌≤◌, true, false, Bool, List, cond, eqb, leb, ltb, length, get_or, map, replicate, bit_or, refl, sym, ap, ap₂, ◌∙◌, inl, inr, arith, w8}
use Rattle.std.specs.Int.{bit_at}
use Rattle.std.specs.Char.{is_ascii_digit}
use Rattle.std.specs.Simd.Lanes.{chunk, zip2, mask_l, top}
use Rattle.std.proofs.lemmas.Bool.{cases_Bool, eqb-true}
use Rattle.std.proofs.lemmas.List.{length-map, get_or-map}
use Rattle.std.proofs.lemmas.Simd.{length-chunk, get_or-chunk, get_or-zip2, get_or-replicate, length-zip2, bit_mask_l, tops_compared, mask_l-mod}
use Rattle.ra_token.specs.Runs.{is_blank}

-- a byte whose distance from the digit 0 is above 9
above : (byte : ℕ) → byte < 256 → ltb 9 ((byte + 208) % 256) ≡ true → is_ascii_digit byte ≡ false
above byte small far = grind arith

below : (byte : ℕ) → byte < 256 → ltb 9 ((byte + 208) % 256) ≡ false → is_ascii_digit byte ≡ true
below byte small near = grind arith

told : (byte : ℕ) → byte < 256 → cond {A = ℕ} (ltb 9 ((byte + 208) % 256)) 1 0 ≡ cond {A = ℕ} (is_ascii_digit byte) 0 1
told byte small = elim (cases_Bool (ltb 9 ((byte + 208) % 256))) [
  | inl far ↦ rw (far, above byte small far) refl
  | inr near ↦ rw (near, below byte small near) refl
]

pub others_bit : (bytes : List ℕ) (from k : ℕ) → from + 64 ≤ length bytes → ((i : ℕ) → get_or bytes i 0 < 256) → k < 64
    → bit_at (mask_l
    (map (top 7)
    (zip2 (λ a b. cond (ltb a b) 255 0) (replicate 64 9)
    (zip2 (λ a b. (a + (256 - b)) % 256) (chunk from 64 bytes) (replicate 64 48)))) % 2 ^ 64) k
    ≡ cond (is_ascii_digit (get_or bytes (from + k) 0)) 0 1
others_bit bytes from k within small below_64 =
    let lanes = chunk from 64 bytes in
    let long : length lanes ≡ 64 = length-chunk from 64 bytes within in
    let moved = zip2 (λ a b. (a + (256 - b)) % 256) lanes (replicate 64 48) in
    let moved_long : length moved ≡ 64 = length-zip2 _ lanes (replicate 64 48) long ∙ long in
    let tests = zip2 ltb (replicate 64 9) moved in
    let tests_long : length tests ≡ 64 = length-zip2 ltb (replicate 64 9) moved (sym moved_long) in
    ap (λ ms. bit_at (mask_l ms % 2 ^ 64) k) (tops_compared w8 ltb (replicate 64 9) moved)
    ∙ ap (λ m. bit_at m k) (mask_l-mod tests 64 (omega (arith, tests_long)))
    ∙ bit_mask_l tests k
    ∙ ap (λ b. cond b 1 0) (get_or-zip2 ltb (replicate 64 9) moved k 0 0 false below_64 (omega arith))
    ∙ ap (λ n. cond (ltb n (get_or moved k 0)) 1 0) (get_or-replicate 64 k 9 0 below_64)
    ∙ ap (λ n. cond (ltb 9 n) 1 0)
    (get_or-zip2 (λ a b. (a + (256 - b)) % 256) lanes (replicate 64 48) k 0 0 0 (omega arith) below_64)
    ∙ ap (λ n. cond (ltb 9 ((get_or lanes k 0 + (256 - n)) % 256)) 1 0) (get_or-replicate 64 k 48 0 below_64)
    ∙ ap (λ n. cond (ltb 9 ((n + 208) % 256)) 1 0) (get_or-chunk from 64 bytes k 0 below_64)
    ∙ told (get_or bytes (from + k) 0) (small (from + k))

module _ (byte : ℕ) where
  blank_32 : byte ≡ 32 → is_blank byte ≡ true
  blank_32 is = ap is_blank is

  blank_10 : byte ≡ 10 → is_blank byte ≡ true
  blank_10 is = ap is_blank is

  -- a lane that is one of two blanks
  blank_of : (space line : Bool) → eqb byte 32 ≡ space → eqb byte 10 ≡ line →
      cond {A = ℕ} (leb 128 (bit_or (cond space 255 0) (cond line 255 0))) 1 0 ≡ 1 → is_blank byte ≡ true
  blank_of true line is_space is_line set = blank_32 (eqb-true byte 32 is_space)
  blank_of false true is_space is_line set = blank_10 (eqb-true byte 10 is_line)
  blank_of false false is_space is_line set = absurd (omega (arith, set))

pub spaces_bit : (lanes : List ℕ) (k : ℕ) → length lanes ≡ 64 → k < 64
    → bit_at (mask_l (map (top 7)
    (zip2 bit_or (zip2 (λ a b. cond (eqb a b) 255 0) lanes (replicate 64 32))
    (zip2 (λ a b. cond (eqb a b) 255 0) lanes (replicate 64 10)))) % 2 ^ 64) k ≡ 1
    → is_blank (get_or lanes k 0) ≡ true
spaces_bit lanes k long below_64 set =
    let test : ℕ → ℕ → ℕ = λ a b. cond (eqb a b) 255 0 in
    let left = zip2 test lanes (replicate 64 32) in
    let right = zip2 test lanes (replicate 64 10) in
    let left_long : length left ≡ 64 = length-zip2 test lanes (replicate 64 32) long ∙ long in
    let right_long : length right ≡ 64 = length-zip2 test lanes (replicate 64 10) long ∙ long in
    let both = zip2 bit_or left right in
    let both_long : length both ≡ 64 = length-zip2 bit_or left right (left_long ∙ sym right_long) ∙ left_long in
    let tops_long : length (map (top 7) both) ≡ 64 = length-map both (top 7) ∙ both_long in
    let at_left : get_or left k 0 ≡ test (get_or lanes k 0) 32 =
    get_or-zip2 test lanes (replicate 64 32) k 0 0 0 (omega arith) below_64
    ∙ ap (test (get_or lanes k 0)) (get_or-replicate 64 k 32 0 below_64) in
    let at_right : get_or right k 0 ≡ test (get_or lanes k 0) 10 =
    get_or-zip2 test lanes (replicate 64 10) k 0 0 0 (omega arith) below_64
    ∙ ap (test (get_or lanes k 0)) (get_or-replicate 64 k 10 0 below_64) in
    let at_both : get_or both k 0 ≡ bit_or (test (get_or lanes k 0) 32) (test (get_or lanes k 0) 10) =
    get_or-zip2 bit_or left right k 0 0 0 (omega arith) (omega arith) ∙ ap₂ bit_or at_left at_right in
    let bit : bit_at (mask_l (map (top 7) both) % 2 ^ 64) k ≡ cond (top 7 (get_or both k 0)) 1 0 =
    ap (λ m. bit_at m k) (mask_l-mod (map (top 7) both) 64 (omega (arith, tops_long)))
    ∙ bit_mask_l (map (top 7) both) k
    ∙ ap (λ b. cond b 1 0) (get_or-map (top 7) both k 0 false (omega arith)) in
    blank_of (get_or lanes k 0) _ _ refl refl (sym (bit ∙ ap (λ n. cond (top 7 n) 1 0) at_both) ∙ set)
