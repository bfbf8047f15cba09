-- The lines of what comes after the first lines of a text are the others.
use Rattle.std.proofs.Common.{◌≡◌, ℕ, zero, suc, Bool, true, false, cond, eqb, List, [], ◌∷◌, ◌++◌, drop, Option, Some, None, refl, sym, ◌∙◌, ap, eqb-true}
use Rattle.std.proofs.lemmas.Option.{none-some}
use Rattle.ra_token.specs.Lines.{lines_of, HasNoEnd}
use Rattle.ra_report.specs.JournalTexts.{after_line, lines_left}
use Rattle.ra_token.proofs.BodyLaws.{no_end_none, no_end_cons}
use Rattle.ra_token.proofs.SplitLaws.{line_first}

-- the first line of bytes, which ends with LF, and what follows
pub record Cut (bytes rest : List ℕ) : Type 0 where
  pub body : List ℕ
  pub no_end : HasNoEnd body
  pub split : bytes ≡ body ++ 10 ∷ rest

bytes_in : Option (List ℕ) → List ℕ
bytes_in None = []
bytes_in (Some bytes) = bytes

pub after_cut : (bytes rest : List ℕ) → after_line bytes ≡ Some rest → Cut bytes rest
unfolding after_line bytes_in
after_cut [] rest e = absurd (none-some rest e)
after_cut (b ∷ bytes) rest e = either (eqb b 10) refl (after_cut bytes rest) e
  where
    either : (is : Bool) → eqb b 10 ≡ is → (after_line bytes ≡ Some rest → Cut bytes rest) →
        cond is (Some bytes) (after_line bytes) ≡ Some rest → Cut (b ∷ bytes) rest
    either true test below here = record {
      body = [];
      no_end = no_end_none;
      split = let byte : b ≡ 10 = eqb-true b 10 test in let same : bytes ≡ rest = ap bytes_in here in (cc);
    }
    either false test below here =
        let cut = below here in
        record {
          body = b ∷ cut.body;
          no_end = no_end_cons b cut.body test cut.no_end;
          split = ap (λ xs. b ∷ xs) cut.split;
        }

none_left : (n : ℕ) → lines_left n None ≡ None
unfolding lines_left
none_left zero = refl
none_left (suc n) = refl

pub lines_behind : (n : ℕ) (bytes rest : List ℕ) → lines_left n (Some bytes) ≡ Some rest →
    lines_of rest ≡ drop n (lines_of bytes)
unfolding lines_left bytes_in
lines_behind zero bytes rest e = ap (λ o. lines_of (bytes_in o)) (sym e)
lines_behind (suc n) bytes rest e = either (after_line bytes) refl (lines_behind n) e
  where
    either : (o : Option (List ℕ)) → after_line bytes ≡ o →
        ((xs ys : List ℕ) → lines_left n (Some xs) ≡ Some ys → lines_of ys ≡ drop n (lines_of xs)) →
        lines_left n o ≡ Some rest → lines_of rest ≡ drop (suc n) (lines_of bytes)
    either None after below here = absurd (none-some rest (sym (none_left n) ∙ here))
    either (Some left) after below here =
        let cut = after_cut bytes left after in
        below left rest here ∙ sym (ap (drop (suc n)) (ap lines_of cut.split ∙ line_first cut.body left cut.no_end))
