-- The first line of bytes, and the lines after it.
use Rattle.std.proofs.Common.{◌≡◌, ℕ, ◌<◌, Bool, true, false, cond, eqb, List, [], ◌∷◌, ◌++◌, length, refl, sym, ◌∙◌, ap, arith}
use Rattle.ra_token.specs.Lines.{onto_first, lines_of, joined_lines, ends_line, HasNoEnd}
use Rattle.ra_token.proofs.BodyLaws.{no_end_first}

module _ (byte : ℕ) (bytes : List ℕ) where
  -- a byte that is not an LF is in the first line of what follows
  pub lines_onto : eqb byte 10 ≡ false → lines_of (byte ∷ bytes) ≡ onto_first byte (lines_of bytes)
  unfolding lines_of
  lines_onto test =
      ap (λ (is : Bool). cond is ((byte ∷ []) ∷ lines_of bytes) (onto_first byte (lines_of bytes))) test

  pub lines_end : eqb byte 10 ≡ true → lines_of (byte ∷ bytes) ≡ (byte ∷ []) ∷ lines_of bytes
  unfolding lines_of
  lines_end test =
      ap (λ (is : Bool). cond is ((byte ∷ []) ∷ lines_of bytes) (onto_first byte (lines_of bytes))) test

-- bytes without LF, and an LF, are the first line
pub line_first : (t rest : List ℕ) → HasNoEnd t → lines_of (t ++ 10 ∷ rest) ≡ (t ++ 10 ∷ []) ∷ lines_of rest
line_first [] rest none = lines_end 10 rest refl
line_first (b ∷ t) rest none =
    let p = no_end_first b t none in
    lines_onto b (t ++ 10 ∷ rest) p.first ∙ ap (onto_first b) (line_first t rest p.rest)

-- bytes without LF are one line
pub line_alone : (b : ℕ) (t : List ℕ) → HasNoEnd (b ∷ t) → lines_of (b ∷ t) ≡ (b ∷ t) ∷ []
unfolding lines_of
line_alone b [] none = lines_onto b [] (no_end_first b [] none).first
line_alone b (c ∷ t) none =
    let p = no_end_first b (c ∷ t) none in
    lines_onto b (c ∷ t) p.first ∙ ap (onto_first b) (line_alone c t p.rest)

-- the first line begins with bytes
pub record FirstLineHas (t bytes : List ℕ) : Type 0 where
  pub more : List ℕ
  pub others : List (List ℕ)
  pub lines : lines_of bytes ≡ (t ++ more) ∷ others

onto_has : (b : ℕ) (bytes : List ℕ) (lines : List (List ℕ)) → lines_of (b ∷ bytes) ≡ onto_first b lines →
    FirstLineHas (b ∷ []) (b ∷ bytes)
onto_has b bytes [] e = record { more = []; others = []; lines = e }
onto_has b bytes (l ∷ ls) e = record { more = l; others = ls; lines = e }

pub line_begins : (b : ℕ) (t rest : List ℕ) → HasNoEnd (b ∷ t) → FirstLineHas (b ∷ t) ((b ∷ t) ++ rest)
line_begins b [] rest none = onto_has b rest (lines_of rest) (lines_onto b rest (no_end_first b [] none).first)
line_begins b (c ∷ t) rest none =
    let p = no_end_first b (c ∷ t) none in
    let q = line_begins c t rest p.rest in
    record {
      more = q.more;
      others = q.others;
      lines = lines_onto b ((c ∷ t) ++ rest) p.first ∙ ap (onto_first b) q.lines;
    }

-- one after another the lines are the bytes
join_onto : (b : ℕ) (ls : List (List ℕ)) → joined_lines (onto_first b ls) ≡ b ∷ joined_lines ls
unfolding joined_lines
join_onto b [] = refl
join_onto b (l ∷ ls) = refl

pub joined_back : (bytes : List ℕ) → joined_lines (lines_of bytes) ≡ bytes
unfolding joined_lines lines_of
joined_back [] = refl
joined_back (b ∷ bytes) = either (eqb b 10) (lines_of bytes) (joined_back bytes)
  where
    either : (is : Bool) (ls : List (List ℕ)) → joined_lines ls ≡ bytes →
        joined_lines (cond is ((b ∷ []) ∷ ls) (onto_first b ls)) ≡ b ∷ bytes
    either true ls e = ap (λ xs. b ∷ xs) e
    either false ls e = join_onto b ls ∙ ap (λ xs. b ∷ xs) e

-- lines of bytes that end with LF, and of what follows
onto_some : (b : ℕ) (ls more : List (List ℕ)) → 0 < length ls → onto_first b (ls ++ more) ≡ onto_first b ls ++ more
onto_some b [] more some = absurd (omega arith)
onto_some b (l ∷ ls) more some = refl

some_lines : (b : ℕ) (bytes : List ℕ) → 0 < length (lines_of (b ∷ bytes))
unfolding lines_of
some_lines b bytes = either (eqb b 10) (lines_of bytes)
  where
    either : (is : Bool) (ls : List (List ℕ)) → 0 < length (cond is ((b ∷ []) ∷ ls) (onto_first b ls))
    either true ls = omega arith
    either false [] = omega arith
    either false (l ∷ ls) = omega arith

-- bytes have no line only if there are none
pub lines_none : (bytes : List ℕ) → lines_of bytes ≡ [] → bytes ≡ []
lines_none [] e = refl
lines_none (b ∷ bytes) e =
    absurd (let some : 0 < length (lines_of (b ∷ bytes)) = some_lines b bytes in
    let none : length (lines_of (b ∷ bytes)) ≡ 0 = ap length e in omega arith)

pub lines_append : (a b : List ℕ) → ends_line a ≡ true → lines_of (a ++ b) ≡ lines_of a ++ lines_of b
unfolding lines_of ends_line
lines_append [] b ended = absurd (let e : false ≡ true = ended in (cc))
lines_append (x ∷ []) b ended = lines_end x b ended ∙ sym (ap (λ ls. ls ++ lines_of b) (lines_end x [] ended))
lines_append (x ∷ y ∷ a) b ended =
    either (eqb x 10) (lines_of ((y ∷ a) ++ b)) (lines_of (y ∷ a)) (some_lines y a) (lines_append (y ∷ a) b ended)
  where
    either : (is : Bool) (all ls : List (List ℕ)) → 0 < length ls → all ≡ ls ++ lines_of b →
        cond is ((x ∷ []) ∷ all) (onto_first x all) ≡ cond is ((x ∷ []) ∷ ls) (onto_first x ls) ++ lines_of b
    either true all ls some e = ap (λ more. (x ∷ []) ∷ more) e
    either false all ls some e = ap (onto_first x) e ∙ onto_some x ls (lines_of b) some
