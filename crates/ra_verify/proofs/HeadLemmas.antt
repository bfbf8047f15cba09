-- The first lines of a report, one after another.
use Rattle.std.proofs.Common.{◌≡◌, ℕ, ◌+◌, ◌-◌, ◌*◌, ◌<◌, ◌≤◌, List, [], ◌++◌, take, drop, Option, Some, None, IfSome, Result, Err, sym, ap, ◌∙◌, subst, ⊎_elim, arith}
use Rattle.std.proofs.lemmas.Bool.{cases_lt, cases_eq}
use Rattle.ra_token.specs.declared.line_answers.Next.{Next}
use Rattle.ra_token.specs.declared.line_answers.Next.TheVariants.{Line, Last, Long, End}
use Rattle.ra_token.specs.Reading.{BeginsWithLine, IsLastLine, BeginsOverLong, IsNextLine}
use Rattle.ra_verify.specs.declared.faults.VerifyFault.{VerifyFault}
use Rattle.ra_verify.specs.declared.faults.VerifyFault.TheVariants as fault
use Rattle.ra_verify.specs.Reading.{AreLines, IsHead}
use Rattle.ra_verify.specs.WrongLines.{most_bytes, over_long, first_over_long}
use Rattle.ra_verify.proofs.ReadingLemmas.{take_on, lines_start, lines_more, line_next, lines_last, lines_end, lines_still, none_on, over_at, short_at, short_past, first_over}

-- the bytes up to a place are the first n lines, none of them over long
pub record IsHeadSoFar (bytes : List ℕ) (place n : ℕ) (head : List ℕ) : Type 0 where
  pub given : AreLines bytes place n
  pub text : head ≡ take place bytes
  pub short : (k : ℕ) → k < n → over_long bytes k ≡ None

module _ (bytes : List ℕ) where
  pub so_far_start : (place : ℕ) (head : List ℕ) → place ≡ 0 → head ≡ [] → IsHeadSoFar bytes place 0 head
  so_far_start place head start empty = record {
    given = lines_start bytes place start;
    text = empty ∙ ap (λ (k : ℕ). take k bytes) {x = 0} {y = place} (sym start);
    short = λ k before. absurd (omega (arith, before));
  }

  short_more : (n : ℕ) → ((k : ℕ) → k < n → over_long bytes k ≡ None) → over_long bytes n ≡ None →
      (k : ℕ) → k < n + 1 → over_long bytes k ≡ None
  short_more n before here k within = ⊎_elim
      (λ (less : k < n). before k less)
      (λ (last : n ≤ k). ap (over_long bytes) {x = k} {y = n} (omega (arith, last, within)) ∙ here)
      (cases_lt k n)

  text_more : (head more : List ℕ) (place after : ℕ) → place ≤ after → head ≡ take place bytes →
      more ≡ head ++ take (after - place) (drop place bytes) → more ≡ take after bytes
  text_more head more place after on text more_is = more_is
      ∙ ap (λ (t : List ℕ). t ++ take (after - place) (drop place bytes)) text ∙ sym (take_on bytes place after on)

  module _ (place after n : ℕ) (head more : List ℕ) where
    pub so_far_line : place ≤ after →
        IsHeadSoFar bytes place n head → more ≡ head ++ take (after - place) (drop place bytes) →
        BeginsWithLine (most_bytes n) (drop place bytes) (drop after bytes) → IsHeadSoFar bytes after (n + 1) more
    so_far_line on before more_is is = record {
      given = lines_more bytes is.line place after n on before.given is.split is.lines is.ended;
      text = text_more head more place after on before.text more_is;
      short = short_more n before.short
          (short_at bytes is.line n (line_next bytes is.line _ place n before.given is.lines) is.short);
    }

    pub head_last : place ≤ after → n < 10 →
        IsHeadSoFar bytes place n head → more ≡ head ++ take (after - place) (drop place bytes) →
        IsLastLine (most_bytes n) (drop place bytes) (drop after bytes) → IsHead bytes after (n + 1) more
    head_last on few before more_is is =
        let given = lines_last bytes place after n before.given is.lines is.none_left in
        let so_far =
        short_more n before.short
        (short_at bytes (drop place bytes) n (line_next bytes (drop place bytes) [] place n before.given is.lines)
        is.short) in
        record {
          first = record { given = given; few = omega (arith, few); all = λ less. is.none_left };
          text = text_more head more place after on before.text more_is;
          short = λ k within. ⊎_elim
              (λ (there : k < n + 1). so_far k there)
              (λ (past : n + 1 ≤ k).
              short_past bytes k (omega (arith, past, lines_end bytes after (n + 1) given is.none_left)))
              (cases_lt k (n + 1));
        }

    pub head_end : place ≤ after → n < 10 →
        IsHeadSoFar bytes place n head → more ≡ head ++ take (after - place) (drop place bytes) → drop place bytes ≡ [] →
        IsHead bytes after n more
    head_end on few before more_is none =
        let given = lines_still bytes place after n on before.given none in
        record {
          first = record { given = given; few = omega (arith, few); all = λ less. none_on bytes place after on none };
          text = text_more head more place after on before.text more_is;
          short = λ k within. ⊎_elim
              (λ (there : k < n). before.short k there)
              (λ (past : n ≤ k). short_past bytes k (omega (arith, past, lines_end bytes place n before.given none)))
              (cases_lt k n);
        }

  pub head_long : (place n : ℕ) (head : List ℕ) → n < 10 → IsHeadSoFar bytes place n head →
      BeginsOverLong (most_bytes n) (drop place bytes) → first_over_long bytes ≡ Some (n + 1)
  head_long place n head few before is =
      first_over bytes n few before.short
      (over_at bytes is.line n (line_next bytes is.line is.others place n before.given is.lines) is.long)

-- if the bytes are told, `head` is their head so far, as `IsHeadSoFar` says
abbrev SoFar : Option (List ℕ) → ℕ → ℕ → List ℕ → Type 0
SoFar told place n head = IfSome told (λ bytes. IsHeadSoFar bytes place n head)

abbrev Given : Option (List ℕ) → ℕ → ℕ → List ℕ → List ℕ → Type 0
Given told place after head more = IfSome told (λ bytes. more ≡ head ++ take (after - place) (drop place bytes))

abbrev Comes : Option (List ℕ) → ℕ → ℕ → ℕ → Next → Type 0
Comes told place after most next = IfSome told (λ bytes. IsNextLine most (drop place bytes) (drop after bytes) next)

pub told_start : (told : Option (List ℕ)) (place : ℕ) (head : List ℕ) → place ≡ 0 → head ≡ [] → SoFar told place 0 head
told_start None place head start empty = tt
told_start (Some bytes) place head start empty = so_far_start bytes place head start empty

pub told_line : (told now : Option (List ℕ)) (place after n most : ℕ) (head more : List ℕ) (next : Next) → now ≡ told →
    place ≤ after → most ≡ most_bytes n → next ≡ Line → SoFar told place n head → Given now place after head more →
    Comes now place after most next → SoFar told after (n + 1) more
told_line None now place after n most head more next same on most_is is before given comes = tt
told_line (Some bytes) now place after n most head more next same on most_is is before given comes =
    so_far_line bytes place after n head more on before (subst (λ t. Given t place after head more) same given)
    (subst (λ k. BeginsWithLine k (drop place bytes) (drop after bytes)) most_is
    (subst (λ x. IsNextLine most (drop place bytes) (drop after bytes) x) is
    (subst (λ t. Comes t place after most next) same comes)))

pub told_last : (told now : Option (List ℕ)) (place after n most : ℕ) (head more : List ℕ) (next : Next) → now ≡ told →
    place ≤ after → n < 10 → most ≡ most_bytes n → next ≡ Last → SoFar told place n head →
    Given now place after head more → Comes now place after most next →
    IfSome told (λ bytes. IsHead bytes after (n + 1) more)
told_last None now place after n most head more next same on few most_is is before given comes = tt
told_last (Some bytes) now place after n most head more next same on few most_is is before given comes =
    head_last bytes place after n head more on few before (subst (λ t. Given t place after head more) same given)
    (subst (λ k. IsLastLine k (drop place bytes) (drop after bytes)) most_is
    (subst (λ x. IsNextLine most (drop place bytes) (drop after bytes) x) is
    (subst (λ t. Comes t place after most next) same comes)))

pub told_end : (told now : Option (List ℕ)) (place after n most : ℕ) (head more : List ℕ) (next : Next) → now ≡ told →
    place ≤ after → n < 10 → next ≡ End → SoFar told place n head → Given now place after head more →
    Comes now place after most next → IfSome told (λ bytes. IsHead bytes after n more)
told_end None now place after n most head more next same on few is before given comes = tt
told_end (Some bytes) now place after n most head more next same on few is before given comes =
    head_end bytes place after n head more on few before (subst (λ t. Given t place after head more) same given)
    (subst (λ x. IsNextLine most (drop place bytes) (drop after bytes) x) is
    (subst (λ t. Comes t place after most next) same comes))

pub told_long : (told now : Option (List ℕ)) (place after n most : ℕ) (head : List ℕ) (next : Next) → now ≡ told →
    n < 10 → most ≡ most_bytes n → next ≡ Long → SoFar told place n head → Comes now place after most next →
    IfSome told (λ bytes. first_over_long bytes ≡ Some (n + 1))
told_long None now place after n most head next same few most_is is before comes = tt
told_long (Some bytes) now place after n most head next same few most_is is before comes =
    head_long bytes place n head few before
    (subst (λ k. BeginsOverLong k (drop place bytes)) most_is
    (subst (λ x. IsNextLine most (drop place bytes) (drop after bytes) x) is
    (subst (λ t. Comes t place after most next) same comes)))

-- the line that is told is that one
pub long_told : (told : Option (List ℕ)) (n : ℕ) → IfSome told (λ bytes. first_over_long bytes ≡ Some n) →
    IfSome told (λ bytes. (m : ℕ) → (let r : Result ℕ VerifyFault = Err (fault.Wrong n) in r) ≡ Err (fault.Wrong m) →
    first_over_long bytes ≡ Some m)
long_told None n long = tt
long_told (Some bytes) n long = λ m is. long ∙ ap Some (same_wrong n m is)
  where
    same_wrong : (a b : ℕ) → (let r : Result ℕ VerifyFault = Err (fault.Wrong a) in r) ≡ Err (fault.Wrong b) → a ≡ b
    same_wrong a b same = (cc)

-- there is room for the next line
pub early_more : (n length_before length_after before after most : ℕ) → n + 1 ≤ 8 → (n ≤ 8 → length_before ≤ 65 * n) →
    length_after + before ≡ length_before + after → after ≤ before + most + 1 → ((n ≡ 8 → ⊥) → most ≡ 64) →
    length_after ≤ 65 * (n + 1)
early_more n length_before length_after before after most few early number within assignment =
    omega (arith, few, early (omega (arith, few)), number, within, assignment (λ is. omega (arith, is, few)))

pub late_more : (n length_before length_after before after most : ℕ) → (n ≤ 8 → length_before ≤ 65 * n) →
    length_before ≤ 599936 + 65 * n → length_after + before ≡ length_before + after → after ≤ before + most + 1 →
    most ≤ 600000 → ((n ≡ 8 → ⊥) → most ≡ 64) → length_after ≤ 599936 + 65 * (n + 1)
late_more n length_before length_after before after most early late number within least assignment = ⊎_elim
    (λ (is : n ≡ 8). omega (arith, is, early (omega (arith, is)), number, within, least))
    (λ (other : n ≡ 8 → ⊥). omega (arith, late, number, within, assignment other))
    (cases_eq n 8)
