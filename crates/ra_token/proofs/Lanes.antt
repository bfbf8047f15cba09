-- What the operations on sixty-four numbers side by side hold at each lane.
use Rattle.std.proofs.Common.{◌≡◌, ℕ, ◌+◌, ◌-◌, ◌%◌, ◌<◌, List, Bool, true, false, cond, ltb, length, get_or, map, refl, sym, ap, subst, ◌∙◌, arith, w8, Fits}
use Rattle.std.specs.Simd.Lanes.{zip2, sel_l, top, Each1}
use Rattle.std.proofs.lemmas.Simd.{length-zip2, get_or-zip2, length-sel_l, get_or-sel_l, tops_compared, Each1-get_or}
use Rattle.std.proofs.lemmas.Bool.{ltb-true, ltb-false}
use Rattle.ra_token.specs.Short.{HasSixtyFourLanes}

-- an operator on two vectors
pub HasSixtyFourLanes-zip2 : (f : ℕ → ℕ → ℕ) (a b : List ℕ) (g : ℕ → ℕ) → length a ≡ 64 → length b ≡ 64
    → ((k : ℕ) → k < 64 → f (get_or a k 0) (get_or b k 0) ≡ g k) → HasSixtyFourLanes (zip2 f a b) g
HasSixtyFourLanes-zip2 f a b g p q is = record {
  many = length-zip2 f a b (p ∙ sym q) ∙ p;
  each = λ k l. get_or-zip2 f a b k 0 0 0 (omega arith) (omega arith) ∙ is k l;
}

-- the greater of two vectors at each lane, which a comparison picks
HasSixtyFourLanes-greater : (a b : List ℕ) → length a ≡ 64 → length b ≡ 64
    → HasSixtyFourLanes (sel_l (zip2 ltb a b) b a)
    (λ k. cond (ltb (get_or a k 0) (get_or b k 0)) (get_or b k 0) (get_or a k 0))
HasSixtyFourLanes-greater a b p q =
    let long : length (zip2 ltb a b) ≡ 64 = length-zip2 ltb a b (p ∙ sym q) ∙ p in
    record {
      many = length-sel_l _ b a (long ∙ sym q) (long ∙ sym p) ∙ long;
      each = λ k l.
          get_or-sel_l _ b a k 0 (omega arith) (omega arith) (omega arith)
          ∙ ap (λ t. cond t (get_or b k 0) (get_or a k 0))
          (get_or-zip2 ltb a b k 0 0 false (omega arith) (omega arith));
    }

rest_by : (x y : ℕ) → x < 256 → y < 256 → (b : Bool) → ltb x y ≡ b → (cond b y x + (256 - y)) % 256 ≡ x - y
rest_by x y a n true e = omega (arith, ltb-true x y e)
rest_by x y a n false e = omega (arith, ltb-false x y e)

fits_below : (row : List ℕ) (k : ℕ) → k < length row → Each1 (Fits w8) row → get_or row k 0 < 256
fits_below row k l fit = (Each1-get_or (Fits w8) row k 0 l fit).fits

-- a saturating subtraction: what a wrapping one leaves of the greater of two numbers
pub HasSixtyFourLanes-less : (a b : List ℕ) → length a ≡ 64 → length b ≡ 64 → Each1 (Fits w8) a → Each1 (Fits w8) b
    → HasSixtyFourLanes (zip2 (λ x y. (x + (256 - y)) % 256)
    (sel_l (map (top 7) (zip2 (λ x y. cond (ltb x y) 255 0) a b)) b a) b)
    (λ k. get_or a k 0 - get_or b k 0)
HasSixtyFourLanes-less a b p q fit_a fit_b =
    let greater = HasSixtyFourLanes-greater a b p q in
    subst (λ ms. HasSixtyFourLanes (zip2 (λ x y. (x + (256 - y)) % 256) (sel_l ms b a) b)
    (λ k. get_or a k 0 - get_or b k 0))
    (sym (tops_compared w8 ltb a b))
    (HasSixtyFourLanes-zip2 (λ x y. (x + (256 - y)) % 256) _ b _ greater.many q
    (λ k l. ap (λ n. (n + (256 - get_or b k 0)) % 256) (greater.each k l)
    ∙ rest_by (get_or a k 0) (get_or b k 0) (fits_below a k (omega arith) fit_a) (fits_below b k (omega arith) fit_b) _
    refl))

pub byte_below : (row : List ℕ) (k : ℕ) → length row ≡ 64 → k < 64 → Each1 (Fits w8) row → get_or row k 0 < 256
byte_below row k long l fit = fits_below row k (omega arith) fit
