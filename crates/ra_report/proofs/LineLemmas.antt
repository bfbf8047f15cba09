-- One text is written in front of another.
use Rattle.std.proofs.Common.{◌≡◌, ℕ, ◌+◌, ◌^◌, ◌<◌, ◌≤◌, List, [], ◌++◌, length, drop, sym, ◌∙◌, ap, append_assoc, arith, length-append, length-drop}
use Rattle.std.proofs.lemmas.List.{append-nil}
use Rattle.std.proofs.lemmas.Fmt.{length-decimal-le}
use Rattle.std.specs.Fmt.{decimal}
use Rattle.ra_report.specs.Lines.{Prepends}
use Rattle.ra_report.specs.Texts.{number_text}
use Rattle.ra_report.proofs.NumberTexts.{decimal_number}

pub in_front : {a b c s t : List ℕ} {m n : ℕ} → Prepends a b s m → Prepends b c t n → Prepends a c (t ++ s) (n + m)
in_front {a} {b} {c} {s} {t} {m} {n} first next =
    record {
      line = next.line ∙ (ap (λ l. t ++ l) first.line ∙ sym (append_assoc t s a));
      short = let h = next.short in let k = first.short in
          omega arith;
    }

module _ {a b s : List ℕ} {m : ℕ} where
  -- what fits into some room fits into more
  pub at_most : (n : ℕ) → m ≤ n → Prepends a b s m → Prepends a b s n
  at_most n more before = grind arith

  -- nothing stood there
  pub alone : a ≡ [] → Prepends a b s m → b ≡ s
  alone none before = grind (arith, append-nil)

  -- the text is in front of what was there
  pub before_is : b ≡ s ++ a → length s ≤ m → Prepends a b s m
  before_is is few = grind (arith, length-append)

-- nothing is written
pub nothing : (a : List ℕ) → Prepends a a [] 0
nothing a = grind arith

-- there is room in front of what is there
pub room_before : (bytes line : List ℕ) (from more : ℕ) → length bytes ≡ 400 → from ≤ 400 → drop from bytes ≡ line →
    more + length line ≤ 400 → more ≤ from
room_before bytes line from more all within is room = grind (arith, length-drop)

-- a number of 64 bits has at most twenty digits
pub twenty_digits : (n : ℕ) → n < 2 ^ 64 → length (decimal n) ≤ 20
twenty_digits n fits = length-decimal-le 20 n (omega arith) (omega arith) fits

-- a number is in front of what was there
pub number_before : (bytes : List ℕ) (from : ℕ) {line new : List ℕ} (n : ℕ) → n < 2 ^ 64 → drop from bytes ≡ line →
    new ≡ decimal n ++ drop from bytes → Prepends line new (number_text n) 20
number_before bytes from {line} {new} n fits is written = grind (arith, decimal_number, before_is, twenty_digits)
