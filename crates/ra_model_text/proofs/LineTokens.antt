-- The tokens of lines of numbers are the numbers of the lines, one after another.
use Rattle.std.proofs.Common.{◌≡◌, ℕ, suc, ◌≤◌, false, List, [], ◌∷◌, ◌++◌, length, map, get_or, None, refl, sym, subst}
use Rattle.std.proofs.Common.{arith, append_assoc, append-nil}
use Rattle.std.specs.Char.{is_ascii_digit}
use Rattle.std.specs.Fmt.{decimal}
use Rattle.std.specs.List.{All, concat}
use Rattle.ra_token.specs.declared.answers.TheConstants.{PLACE_LIMIT}
use Rattle.ra_token.specs.Faults.{first_fault}
use Rattle.ra_token.specs.TokenList.{tokens}
use Rattle.ra_token.specs.Values.{value_of}
use Rattle.ra_token.proofs.Written.{Ahead, ahead_all, ahead_blank, ahead_number, ahead_none}
use Rattle.ra_model_text.specs.Lines.{more_text, line_text, lines_text}
use Rattle.ra_model_text.proofs.LineTexts.{IsSmall}

-- a list of small numbers
abbrev pub Small : List ℕ → Type 0
Small ns = All IsSmall ns

no_digit_ahead : (ns rest : List ℕ) → is_ascii_digit (get_or (more_text ns ++ rest) 0 0) ≡ false
unfolding more_text
no_digit_ahead [] rest = refl
no_digit_ahead (n ∷ ns) rest = refl

later : (n : ℕ) (ns : List ℕ) → Small (n ∷ ns) → Small ns
later n ns small = λ k d within. small (suc k) d (omega arith)

-- over a number of a line
number_ahead : (bytes : List ℕ) (n : ℕ) (ns rest numbers : List ℕ) → Small (n ∷ ns) →
    Ahead bytes ((decimal n ++ more_text ns) ++ rest) numbers → Ahead bytes (more_text ns ++ rest) (numbers ++ n ∷ [])
number_ahead bytes n ns rest numbers small h =
    ahead_number bytes (more_text ns ++ rest) numbers n (small 0 0 (omega arith)) (no_digit_ahead ns rest)
    (subst (λ all. Ahead bytes all numbers) (append_assoc (decimal n) (more_text ns) rest) h)

-- past the numbers after the first, and the end of the line
more_ahead : (bytes ns rest numbers : List ℕ) → Small ns → Ahead bytes (more_text ns ++ rest) numbers →
    Ahead bytes rest (numbers ++ ns)
unfolding more_text
more_ahead bytes [] rest numbers small h =
    subst (Ahead bytes rest) (sym (append-nil numbers)) (ahead_blank bytes rest numbers 10 refl h)
more_ahead bytes (n ∷ ns) rest numbers small h =
    subst (Ahead bytes rest) (append_assoc numbers (n ∷ []) ns)
    (more_ahead bytes ns rest (numbers ++ n ∷ []) (later n ns small)
    (number_ahead bytes n ns rest numbers small
    (ahead_blank bytes ((decimal n ++ more_text ns) ++ rest) numbers 32 refl h)))

-- over a line
pub line_ahead : (bytes line rest numbers : List ℕ) → Small line → Ahead bytes (line_text line ++ rest) numbers →
    Ahead bytes rest (numbers ++ line)
unfolding line_text
line_ahead bytes [] rest numbers small h =
    subst (Ahead bytes rest) (sym (append-nil numbers)) (ahead_blank bytes rest numbers 10 refl h)
line_ahead bytes (n ∷ ns) rest numbers small h =
    subst (Ahead bytes rest) (append_assoc numbers (n ∷ []) ns)
    (more_ahead bytes ns rest (numbers ++ n ∷ []) (later n ns small) (number_ahead bytes n ns rest numbers small h))

-- over lines
pub lines_ahead : (bytes : List ℕ) (lines : List (List ℕ)) (rest numbers : List ℕ) → All Small lines →
    Ahead bytes (lines_text lines ++ rest) numbers → Ahead bytes rest (numbers ++ concat lines)
unfolding lines_text
lines_ahead bytes [] rest numbers small h = subst (Ahead bytes rest) (sym (append-nil numbers)) h
lines_ahead bytes (line ∷ lines) rest numbers small h =
    subst (Ahead bytes rest) (append_assoc numbers line (concat lines))
    (lines_ahead bytes lines rest (numbers ++ line) (λ k d within. small (suc k) d (omega arith))
    (line_ahead bytes line (lines_text lines ++ rest) numbers (small 0 [] (omega arith))
    (subst (λ all. Ahead bytes all numbers) (append_assoc (line_text line) (lines_text lines) rest) h)))

-- the whole text
pub lines_told : (lines : List (List ℕ)) → All Small lines → length (lines_text lines) ≤ PLACE_LIMIT →
    (first_fault (lines_text lines) ≡ None) × (map value_of (tokens (lines_text lines)) ≡ concat lines)
lines_told lines small short =
    ahead_none (lines_text lines) (concat lines)
    (lines_ahead (lines_text lines) lines [] [] small
    (subst (λ all. Ahead (lines_text lines) all []) (sym (append-nil (lines_text lines)))
    (ahead_all (lines_text lines) short)))
