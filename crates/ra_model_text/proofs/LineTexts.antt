-- Lines after lines, and how long the text of a line of small numbers is.
use Rattle.std.proofs.Common.{◌≡◌, ℕ, ◌+◌, ◌*◌, ◌^◌, ◌<◌, ◌≤◌, List, [], ◌∷◌, ◌++◌, length, refl, sym, ap, ◌∙◌, arith}
use Rattle.std.proofs.Common.{append_assoc, length-append}
use Rattle.std.proofs.lemmas.Fmt.{length-decimal-le}
use Rattle.std.proofs.lemmas.List.{append-nil}
use Rattle.std.proofs.lemmas.List.Elements.{All-head, All-tail}
use Rattle.std.specs.Fmt.{decimal}
use Rattle.std.specs.List.{All}
use Rattle.ra_model_text.specs.Lines.{more_text, line_text, lines_text}

pub lines_append : (a b : List (List ℕ)) → lines_text (a ++ b) ≡ lines_text a ++ lines_text b
unfolding lines_text
lines_append [] b = refl
lines_append (x ∷ a) b = ap (λ (t : List ℕ). line_text x ++ t) (lines_append a b)
    ∙ sym (append_assoc (line_text x) (lines_text a) (lines_text b))

pub lines_one : (x : List ℕ) → lines_text (x ∷ []) ≡ line_text x
unfolding lines_text
lines_one x = append-nil (line_text x)

-- a number that a token can have
abbrev pub IsSmall : ℕ → Type 0
IsSmall n = n < 2 ^ 32

decimal_short : (n : ℕ) → IsSmall n → length (decimal n) ≤ 10
decimal_short n small = length-decimal-le 10 n (omega arith) (omega arith) (omega arith)

more_short : (ns : List ℕ) → All IsSmall ns → length (more_text ns) ≤ 11 * length ns + 1
unfolding more_text
more_short [] small = omega arith
more_short (n ∷ ns) small =
    omega (
      arith,
      length-append (decimal n) (more_text ns),
      decimal_short n (All-head IsSmall n ns small),
      more_short ns (All-tail IsSmall n ns small),
    )

pub line_short : (ns : List ℕ) → All IsSmall ns → length (line_text ns) ≤ 11 * length ns + 1
unfolding line_text
line_short [] small = omega arith
line_short (n ∷ ns) small =
    omega (
      arith,
      length-append (decimal n) (more_text ns),
      decimal_short n (All-head IsSmall n ns small),
      more_short ns (All-tail IsSmall n ns small),
    )
