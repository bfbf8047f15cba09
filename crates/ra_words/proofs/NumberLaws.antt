-- The worth of the digits so far.
use Rattle.std.proofs.Common.{◌≡◌, ℕ, ◌+◌, ◌-◌, ◌*◌, ◌^◌, ◌<◌, ◌≤◌, true, List, length, take, get_or, arith}
use Rattle.std.proofs.lemmas.Grind.{common_steps}
use Rattle.std.proofs.lemmas.Int.Digits.{digits_value_more}
use Rattle.std.proofs.lemmas.Str.{digit_value_digit}
use Rattle.std.proofs.lemmas.Str.Parse.{IsNumeralModel, numerals_by_value, tells_all_ascii_digits, digits_value_short}
use Rattle.std.proofs.lemmas.Str.Parse.{digits_value-take-le, digit_at}
use Rattle.std.specs.Int.{IsInRange}
use Rattle.std.specs.Str.{all_ascii_digits}
use Rattle.std.specs.Str.Parse.{digits_value}
use Rattle.ra_words.specs.Numbers.{has_digits, decimal_worth}

own : IsNumeralModel (λ ds. all_ascii_digits ds ≡ true) (digits_value 10)
own = numerals_by_value _ tells_all_ascii_digits

-- what 1 to 20 digits are
pub record IsDigits (text : List ℕ) : Type 0 where
  pub short : length text ≤ 20
  pub digits : all_ascii_digits text ≡ true

pub digits_told : (text : List ℕ) → has_digits text ≡ true → IsDigits text
unfolding has_digits
digits_told text h = record { short = grind (arith, common_steps); digits = grind (arith, common_steps) }

-- one more digit
pub record OneMore (text : List ℕ) (i value : ℕ) : Type 0 where
  pub low : 48 ≤ get_or text i 0
  pub high : get_or text i 0 ≤ 57
  pub small : value < 10 ^ 20
  pub next : decimal_worth (take (i + 1) text) ≡ value * 10 + (get_or text i 0 - 48)

next_by : (a b v d x : ℕ) → a ≡ b * 10 + d → d + 48 ≡ x → v ≡ b → a ≡ v * 10 + (x - 48)
next_by a b v d x more digit is = omega arith

pub one_more : (text : List ℕ) (i value : ℕ) → has_digits text ≡ true → i < length text →
    value ≡ decimal_worth (take i text) → OneMore text i value
unfolding decimal_worth
one_more text i value h within is =
    let told = digits_told text h in
    let byte : IsInRange 48 57 (get_or text i 0) = digit_at text i (own.to text told.digits) within in
    record {
      low = byte.0;
      high = omega (arith, byte.1);
      small = omega (
        arith,
        is,
        digits_value-take-le 10 text i (omega arith),
        digits_value_short own text 20 told.digits told.short,
      );
      next = next_by _ _ value _ _ (digits_value_more 10 text i within) (digit_value_digit (get_or text i 0) byte) is;
    }
