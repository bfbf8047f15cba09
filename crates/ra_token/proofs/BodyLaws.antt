-- Bytes without LF, and the LF after them.
use Rattle.std.proofs.Common.{◌≡◌, ℕ, suc, ◌+◌, ◌<◌, ◌≤◌, Bool, true, false, cond, eqb, List, [], ◌∷◌, ◌++◌, length, take, drop, get_or, refl, sym, ◌∙◌, ap, arith, length-append}
use Rattle.std.proofs.lemmas.List.{append-nil, take_more, take-append-drop}
use Rattle.std.proofs.Math.Seq.{drop-cons}
use Rattle.ra_token.specs.Lines.{ends_line, body_of, HasNoEnd, line_end_count}

-- of bytes without LF the first is none, and there is none after it
pub record NoEndFirst (byte : ℕ) (bytes : List ℕ) : Type 0 where
  pub first : eqb byte 10 ≡ false
  pub rest : HasNoEnd bytes

first_test : (is : Bool) (byte : ℕ) (bytes : List ℕ) → eqb byte 10 ≡ is → cond is [] (byte ∷ body_of bytes) ≡
    byte ∷ bytes → NoEndFirst byte bytes
first_test true byte bytes test e = absurd (let none : 0 ≡ suc (length bytes) = ap length e in omega arith)
first_test false byte bytes test e = record { first = test; rest = ap (drop 1) e }

module _ (byte : ℕ) (bytes : List ℕ) where
  pub no_end_first : HasNoEnd (byte ∷ bytes) → NoEndFirst byte bytes
  unfolding body_of
  no_end_first e = first_test (eqb byte 10) byte bytes refl e

  pub no_end_cons : eqb byte 10 ≡ false → HasNoEnd bytes → HasNoEnd (byte ∷ bytes)
  unfolding body_of
  no_end_cons test rest = ap (λ (t : Bool). cond t [] (byte ∷ body_of bytes)) test ∙ ap (λ xs. byte ∷ xs) rest

pub no_end_none : HasNoEnd []
unfolding body_of
no_end_none = refl

-- a body has no LF
pub body_twice : (bytes : List ℕ) → HasNoEnd (body_of bytes)
unfolding body_of
body_twice [] = refl
body_twice (b ∷ bytes) = either (eqb b 10) refl (body_twice bytes)
  where
    either : (is : Bool) → eqb b 10 ≡ is → HasNoEnd (body_of bytes) → HasNoEnd (cond is [] (b ∷ body_of bytes))
    either true test below = refl
    either false test below = no_end_cons b (body_of bytes) test below

-- the body of bytes that begin with others without LF
pub body_behind : (t x : List ℕ) → HasNoEnd t → body_of (t ++ x) ≡ t ++ body_of x
unfolding body_of
body_behind [] x none = refl
body_behind (b ∷ t) x none =
    let p = no_end_first b t none in
    ap (λ (is : Bool). cond is [] (b ∷ body_of (t ++ x))) p.first ∙ ap (λ xs. b ∷ xs) (body_behind t x p.rest)

module _ (t : List ℕ) where
  module _ (x : List ℕ) (none : HasNoEnd t) where
    pub body_before : body_of (t ++ 10 ∷ x) ≡ t
    unfolding body_of
    body_before = body_behind t (10 ∷ x) none ∙ append-nil t

    pub no_end_both : HasNoEnd x → HasNoEnd (t ++ x)
    no_end_both more = body_behind t x none ∙ ap (λ xs. t ++ xs) more

    -- bytes that begin with others without LF have at least those in front
    pub body_at_least : length t ≤ length (body_of (t ++ x))
    body_at_least = rw (body_behind t x none, length-append) (omega arith)

  pub no_end_more : (b : ℕ) → HasNoEnd t → eqb b 10 ≡ false → HasNoEnd (t ++ b ∷ [])
  no_end_more b none test = no_end_both (b ∷ []) none (no_end_cons b [] test no_end_none)

-- how bytes end
pub ends_behind : (t : List ℕ) → ends_line (t ++ 10 ∷ []) ≡ true
unfolding ends_line
ends_behind [] = refl
ends_behind (a ∷ []) = refl
ends_behind (a ∷ b ∷ t) = ends_behind (b ∷ t)

pub no_end_ends : (t : List ℕ) → HasNoEnd t → ends_line t ≡ false
unfolding ends_line
no_end_ends [] none = refl
no_end_ends (a ∷ []) none = (no_end_first a [] none).first
no_end_ends (a ∷ b ∷ t) none = no_end_ends (b ∷ t) (no_end_first a (b ∷ t) none).rest

module _ (bytes : List ℕ) (i : ℕ) where
  -- the first i bytes have no LF, and the next is none either, or is one
  pub no_end_next : (byte : ℕ) → i < length bytes → byte ≡ get_or bytes i 0 → eqb byte 10 ≡ false →
      HasNoEnd (take i bytes) → HasNoEnd (take (i + 1) bytes)
  no_end_next byte within read test none =
      rw (take_more bytes i 0 within)
      (no_end_more (take i bytes) (get_or bytes i 0) none (ap (λ (b : ℕ). eqb b 10) (sym read) ∙ test))

  module _ (within : i < length bytes) (is : get_or bytes i 0 ≡ 10) where
    cut_at : bytes ≡ take i bytes ++ 10 ∷ drop (suc i) bytes
    cut_at =
        sym (take-append-drop i bytes)
        ∙ ap (λ xs. take i bytes ++ xs) (drop-cons bytes i 0 within ∙ ap (λ (b : ℕ). b ∷ drop (suc i) bytes) is)

    pub body_found : HasNoEnd (take i bytes) → take i bytes ≡ body_of bytes
    body_found none =
        sym (ap body_of cut_at ∙ body_before (take i bytes) (drop (suc i) bytes) none)

-- one more byte, and how many LF there are
pub count_none : line_end_count [] ≡ 0
unfolding line_end_count
count_none = refl

count_cons : (is : Bool) (c n m : ℕ) → n ≡ m + c → cond is (suc n) n ≡ cond is (suc m) m + c
count_cons true c n m e = omega arith
count_cons false c n m e = e

pub count_more : (t : List ℕ) (b : ℕ) → line_end_count (t ++ b ∷ []) ≡ line_end_count t + cond (eqb b 10) 1 0
unfolding line_end_count
count_more [] b = omega arith
count_more (a ∷ t) b =
    count_cons (eqb a 10) (cond (eqb b 10) 1 0) (line_end_count (t ++ b ∷ [])) (line_end_count t) (count_more t b)

module _ (bytes : List ℕ) (i : ℕ) where
  module _ (byte : ℕ) where
    one_more : (is : Bool) → i < length bytes → byte ≡ get_or bytes i 0 → eqb byte 10 ≡ is →
        line_end_count (take (i + 1) bytes) ≡ line_end_count (take i bytes) + cond is 1 0
    one_more is within read test =
        ap line_end_count (take_more bytes i 0 within)
        ∙ count_more (take i bytes) (get_or bytes i 0)
        ∙ ap (λ (t : Bool). line_end_count (take i bytes) + cond t 1 0) (ap (λ (b : ℕ). eqb b 10) (sym read) ∙ test)

    module _ (n : ℕ) (within : i < length bytes) (read : byte ≡ get_or bytes i 0) where
      pub count_next : eqb byte 10 ≡ false → n ≡ line_end_count (take i bytes) → n ≡ line_end_count (take (i + 1) bytes)
      count_next test before =
          let more : line_end_count (take (i + 1) bytes) ≡ line_end_count (take i bytes) + 0 =
          one_more false within read test in
          omega arith

      pub count_end : eqb byte 10 ≡ true → n ≡ line_end_count (take i bytes) →
          n + 1 ≡ line_end_count (take (i + 1) bytes)
      count_end test before =
          let more : line_end_count (take (i + 1) bytes) ≡ line_end_count (take i bytes) + 1 =
          one_more true within read test in
          omega arith
