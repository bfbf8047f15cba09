-- What the operations on sixteen numbers side by side hold at each lane.
use Rattle.std.proofs.Common.{◌≡◌, ◌↔◌, ℕ, zero, suc, ◌+◌, ◌-◌, ◌*◌, ◌%◌, ◌^◌, ◌<◌, ◌≤◌, List, [], ◌∷◌, Bool, true, false, min, cond, leb, ltb, length, get_or, map, replicate, refl, sym, ap, ap₂, ◌∙◌, ⊎_elim, arith, w32, Fits}
use Rattle.std.specs.Int.{bit_at}
use Rattle.std.specs.Simd.Lanes.{zip2, sel_l, mask_l, top, chunk, Each1}
use Rattle.std.proofs.lemmas.Simd.{length-zip2, get_or-zip2, get_or-replicate, length-sel_l, get_or-sel_l, bit_mask_l, tops_compared, mask_l-lt, get_or-chunk, Each1-get_or}
use Rattle.std.proofs.lemmas.Bool.{leb-true, leb-false, ltb-true, ltb-false, lt-leb, cases_lt}
use Rattle.std.proofs.lemmas.List.{length-map}
use Rattle.ra_shift.specs.Windows.{HasLanes}

-- an operator on two vectors
pub HasLanes-zip2 : (f : ℕ → ℕ → ℕ) (a b : List ℕ) (g : ℕ → ℕ) → length a ≡ 16 → length b ≡ 16
    → ((k : ℕ) → k < 16 → f (get_or a k 0) (get_or b k 0) ≡ g k) → HasLanes (zip2 f a b) g
HasLanes-zip2 f a b g p q is = grind (arith, length-zip2, get_or-zip2)

-- a splat
pub HasLanes-splat : (x : ℕ) → HasLanes (replicate 16 x) (λ _. x)
HasLanes-splat x = grind (arith, get_or-replicate)

-- the greater of a splat and a vector, which a comparison picks
pub HasLanes-greater : (x : ℕ) (b : List ℕ) → length b ≡ 16
    → HasLanes (sel_l (zip2 ltb (replicate 16 x) b) b (replicate 16 x))
    (λ k. cond (ltb x (get_or b k 0)) (get_or b k 0) x)
HasLanes-greater x b q =
    let long = length-zip2 ltb (replicate 16 x) b (sym q) in
    record {
      many = length-sel_l _ b (replicate 16 x) (long ∙ sym q) long ∙ long;
      each = λ k l.
          get_or-sel_l _ b (replicate 16 x) k 0 (omega arith) (omega arith) l
          ∙ (λ i. cond
          ((get_or-zip2 ltb (replicate 16 x) b k 0 0 false l (omega arith)
          ∙ ap (λ n. ltb n (get_or b k 0)) (get_or-replicate 16 k x 0 l)) i) (get_or b k 0)
          (get_or-replicate 16 k x 0 l i));
    }

at_most_tells : (x y : ℕ) (b : Bool) → leb x y ≡ b → (cond {A = ℕ} b 1 0 ≡ 1) ↔ (x ≤ y)
at_most_tells x y true e = (λ h. leb-true x y e, λ h. refl)
at_most_tells x y false e = (λ h. absurd (omega arith), λ h. omega (arith, leb-false x y e))

get_or_mapped : (v : List ℕ) (limit k : ℕ) → k < length v → get_or (map (λ x. leb x limit) v) k false ≡
    leb (get_or v k 0) limit
get_or_mapped [] limit k l = absurd (omega arith)
get_or_mapped (x ∷ v) limit zero l = refl
get_or_mapped (x ∷ v) limit (suc k) l = get_or_mapped v limit k (omega arith)

-- a bit of the mask of the lanes that are at most a limit
pub bit_at-mask_l : (v : List ℕ) (limit k : ℕ) → k < length v
    → (bit_at (mask_l (map (λ x. leb x limit) v)) k ≡ 1) ↔ (get_or v k 0 ≤ limit)
bit_at-mask_l v limit k l = grind (arith, bit_mask_l, at_most_tells, get_or_mapped)

rest_by : (amount number : ℕ) → amount < 2 ^ 32 → number < 2 ^ 32 → (b : Bool) → ltb amount number ≡ b
    → (cond b number amount + (2 ^ 32 - number)) % 2 ^ 32 ≡ amount - number
rest_by amount number a n true e = omega (arith, ltb-true amount number e)
rest_by amount number a n false e = omega (arith, ltb-false amount number e)

-- what a wrapping subtraction leaves of the greater of two numbers
rest_of_greater : (amount number : ℕ) → amount < 2 ^ 32 → number < 2 ^ 32
    → (cond (ltb amount number) number amount + (2 ^ 32 - number)) % 2 ^ 32 ≡ amount - number
rest_of_greater amount number a n = rest_by amount number a n _ refl

fits_below : (row : List ℕ) (k : ℕ) → k < length row → Each1 (Fits w32) row → get_or row k 0 < 2 ^ 32
fits_below row k l fit = (Each1-get_or (Fits w32) row k 0 l fit).fits

-- what each number of a row lacks of an amount
pub HasLanes-lacking : (amount : ℕ) (row : List ℕ) → amount < 2 ^ 32 → length row ≡ 16 → Each1 (Fits w32) row
    → HasLanes (zip2 (λ a b. (a + (2 ^ 32 - b)) % 2 ^ 32)
    (sel_l (map (top 31) (zip2 (λ a b. cond (ltb a b) (2 ^ 32 - 1) 0) (replicate 16 amount) row)) row
    (replicate 16 amount)) row)
    (λ k. amount - get_or row k 0)
HasLanes-lacking amount row small long fit =
    let greater = HasLanes-greater amount row long in
    rw (tops_compared w32 ltb (replicate 16 amount) row) (HasLanes-zip2 (λ a b. (a + (2 ^ 32 - b)) % 2 ^ 32) _ row _ greater.many long
    (λ k l. ap (λ n. (n + (2 ^ 32 - get_or row k 0)) % 2 ^ 32) (greater.each k l)
    ∙ rest_of_greater amount (get_or row k 0) small (fits_below row k (omega arith) fit)))

-- a mask of sixteen lanes has sixteen bits
pub mask_below : (v : List ℕ) (limit : ℕ) → length v ≡ 16 → mask_l (map (λ x. leb x limit) v) < 2 ^ 16
mask_below v limit long = grind (arith, length-map, mask_l-lt)

-- if no lane is at most a limit, the mask is empty
none_by : (b : Bool) (x limit m : ℕ) → leb x limit ≡ b → cond b 1 0 + 2 * m ≡ 0 → (limit < x) × (m ≡ 0)
none_by true x limit m e z = absurd (omega arith)
none_by false x limit m e z = (leb-false x limit e, omega arith)

pub above_from_none : (v : List ℕ) (limit : ℕ) → mask_l (map (λ x. leb x limit) v) ≡ 0 → (k : ℕ) → k < length v →
    limit < get_or v k 0
above_from_none [] limit z k l = absurd (omega arith)
above_from_none (x ∷ v) limit z zero l = (none_by _ x limit (mask_l (map (λ y. leb y limit) v)) refl z).0
above_from_none (x ∷ v) limit z (suc k) l =
    above_from_none v limit (none_by _ x limit (mask_l (map (λ y. leb y limit) v)) refl z).1 k (omega arith)

pub none_from_above : (v : List ℕ) (limit : ℕ) → ((k : ℕ) → k < length v → limit < get_or v k 0) →
    mask_l (map (λ x. leb x limit) v) ≡ 0
none_from_above [] limit above = refl
none_from_above (x ∷ v) limit above =
    let rest : mask_l (map (λ y. leb y limit) v) ≡ 0 = none_from_above v limit (λ k l. above (suc k) (omega arith)) in
    let here : leb x limit ≡ false = lt-leb _ _ (above 0 (omega arith)) in
    ap₂ (λ (b : Bool) (m : ℕ). cond b 1 0 + 2 * m) here rest

-- the lesser of two numbers, which a comparison picks
lesser_by : (x y : ℕ) (b : Bool) → ltb x y ≡ b → cond b x y ≡ min x y
lesser_by x y true e = omega (arith, ltb-true x y e)
lesser_by x y false e = omega (arith, ltb-false x y e)

pub lesser_lane : (a b : List ℕ) (n k : ℕ) → length a ≡ n → length b ≡ n → k < n
    → get_or (sel_l (map (top 31) (zip2 (λ x y. cond (ltb x y) (2 ^ 32 - 1) 0) a b)) a b) k 0 ≡ min (get_or a k 0)
    (get_or b k 0)
lesser_lane a b n k p q l =
    let long = length-zip2 ltb a b (p ∙ sym q) in
    ap (λ ms. get_or (sel_l ms a b) k 0) (tops_compared w32 ltb a b)
    ∙ get_or-sel_l (zip2 ltb a b) a b k 0 (omega arith) (omega arith) (omega arith)
    ∙ ap (λ t. cond t (get_or a k 0) (get_or b k 0)) (get_or-zip2 ltb a b k 0 0 false (omega arith) (omega arith))
    ∙ lesser_by _ _ _ refl

-- the lesser of any two that are eight apart is above a limit if all sixteen are
abbrev AreAbove : List ℕ → ℕ → ℕ → Type 0
AreAbove v n limit = (k : ℕ) → k < n → limit < get_or v k 0

lesser_at : (v low high least : List ℕ) (k : ℕ) → low ≡ chunk 0 8 v → high ≡ chunk 8 8 v → k < 8
    → get_or least k 0 ≡ min (get_or low k 0) (get_or high k 0) →
    get_or least k 0 ≡ min (get_or v k 0) (get_or v (8 + k) 0)
lesser_at v low high least k lo hi l is =
    is ∙ ap₂ min (ap (λ xs. get_or xs k 0) lo ∙ get_or-chunk 0 8 v k 0 l ∙ ap (λ n. get_or v n 0) (omega arith))
    (ap (λ xs. get_or xs k 0) hi ∙ get_or-chunk 8 8 v k 0 l)

pub above_by_halves : (v low high least : List ℕ) (limit : ℕ) → low ≡ chunk 0 8 v → high ≡ chunk 8 8 v
    → ((k : ℕ) → k < 8 → get_or least k 0 ≡ min (get_or low k 0) (get_or high k 0))
    → AreAbove least 8 limit ↔ AreAbove v 16 limit
above_by_halves v low high least limit lo hi is = (
  λ above k l. ⊎_elim
      (λ below. omega (arith, above k below, lesser_at v low high least k lo hi below (is k below)))
      (λ from.
      let j = k - 8 in
      let at : 8 + j ≡ k = omega arith in
      let here : limit < get_or v (8 + j) 0 =
      omega (arith, above j (omega arith), lesser_at v low high least j lo hi (omega arith) (is j (omega arith))) in
      rw (← at) here)
      (cases_lt k 8),
  λ above k l.
      omega (arith, above k (omega arith), above (8 + k) (omega arith), lesser_at v low high least k lo hi l (is k l)),
)
