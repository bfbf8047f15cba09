-- How large the numbers in lines are, and how long their text.
use Rattle.std.proofs.Common.{◌≡◌, ℕ, zero, suc, ◌+◌, ◌*◌, ◌^◌, ◌<◌, ◌≤◌, List, [], ◌∷◌, ◌++◌, length, ap, arith}
use Rattle.std.proofs.Common.{length-append}
use Rattle.std.proofs.lemmas.Fmt.{length-decimal-le}
use Rattle.std.proofs.lemmas.List.Elements.{All-nil, All-cons, All-append, All-push, All-head, All-tail}
use Rattle.std.specs.Fmt.{decimal}
use Rattle.std.specs.List.{All}
use Rattle.ra_model_text.specs.Lines.{more_text, line_text, lines_text}
use Rattle.ra_trial.specs.Lines.{listed}
use Rattle.ra_model_text.proofs.LineTexts.{IsSmall, line_short, lines_append, lines_one}
use Rattle.ra_trial.proofs.LineLemmas.{length_listed}

-- a line of at most c small numbers
pub record IsShort (c : ℕ) (line : List ℕ) : Type 0 where
  pub small : All IsSmall line
  pub short : length line ≤ c

-- lines of small numbers, whose text has at most b bytes
pub record AreShort (b : ℕ) (lines : List (List ℕ)) : Type 0 where
  pub small : All (All IsSmall) lines
  pub short : length (lines_text lines) ≤ b

pub listed_all : {X : Type 0} (P : X → Type 0) (n : ℕ) (f : ℕ → X) → ((k : ℕ) → k < n → P (f k)) → All P (listed n f)
unfolding listed
listed_all P zero f each = All-nil P
listed_all P (suc n) f each =
    All-push P (listed n f) _ (listed_all P n f (λ k within. each k (omega arith))) (each n (omega arith))

-- one line, and lines after lines
pub one_short : {c : ℕ} {line : List ℕ} → IsShort c line → AreShort (11 * c + 1) (line ∷ [])
one_short {c} {line} h = record {
  small = All-cons (All IsSmall) line [] h.small (All-nil _);
  short = let e : length (lines_text (line ∷ [])) ≡ length (line_text line) = ap length (lines_one line) in
      omega (arith, h.short, e, line_short line h.small);
}

pub short_append : (a b c : ℕ) {xs ys : List (List ℕ)} → a + b ≤ c → AreShort a xs → AreShort b ys →
    AreShort c (xs ++ ys)
short_append a b c {xs} {ys} fits first then = record {
  small = All-append (All IsSmall) xs ys first.small then.small;
  short = let e : length (lines_text (xs ++ ys)) ≡ length (lines_text xs ++ lines_text ys) =
      ap length (lines_append xs ys) in
      omega (arith, first.short, then.short, e, length-append (lines_text xs) (lines_text ys));
}

-- n lines
pub listed_short : (n c : ℕ) (f : ℕ → List ℕ) → ((k : ℕ) → k < n → IsShort c (f k)) →
    AreShort (n * (11 * c + 1)) (listed n f)
unfolding listed lines_text
listed_short zero c f each = record { small = All-nil (All IsSmall); short = omega arith }
listed_short (suc n) c f each = short_append _ _ _ (omega arith)
    (listed_short n c f (λ k within. each k (omega arith))) (one_short (each n (omega arith)))

-- a count and n lines
pub group_short : {n c most : ℕ} {f : ℕ → List ℕ} → 12 + n * (11 * c + 1) ≤ most → n < 2 ^ 32 →
    ((k : ℕ) → k < n → IsShort c (f k)) → AreShort most ((n ∷ []) ∷ listed n f)
group_short {n} {c} {most} {f} all few each = short_append 12 _ most all
    (one_short {c = 1} (record { small = All-cons IsSmall n [] few (All-nil IsSmall); short = omega arith }))
    (listed_short n c f each)

-- n numbers
pub numbers_short : {n : ℕ} {f : ℕ → ℕ} → ((k : ℕ) → k < n → IsSmall (f k)) → IsShort n (listed n f)
numbers_short {n} {f} each = record { small = listed_all IsSmall n f each; short = omega (arith, length_listed n f) }

pub number_short : {c : ℕ} (d : ℕ) {n : ℕ} {ns : List ℕ} → c + 1 ≤ d → IsSmall n → IsShort c ns → IsShort d (n ∷ ns)
number_short {c} d {n} {ns} enough small h = record {
  small = All-cons IsSmall n ns small h.small;
  short = omega (arith, h.short);
}

pub none_short : IsShort 0 []
none_short = record { small = All-nil IsSmall; short = omega arith }

pub numbers_append : {a b : ℕ} (c : ℕ) {xs ys : List ℕ} → a + b ≤ c → IsShort a xs → IsShort b ys → IsShort c (xs ++ ys)
numbers_append {a} {b} c {xs} {ys} enough first then = record {
  small = All-append IsSmall xs ys first.small then.small;
  short = omega (arith, first.short, then.short, length-append xs ys);
}
