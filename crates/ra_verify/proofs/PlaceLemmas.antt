-- The element of a list at a place, if there is one.
use Rattle.std.proofs.Common.{◌≡◌, ℕ, ◌+◌, ◌<◌, ◌≤◌, List, [], ◌++◌, length, get_or, Option, Some, None, sym, ap, ◌∙◌}
use Rattle.std.proofs.Common.{⊎_elim, arith}
use Rattle.std.specs.Prelude.{slice_get}
use Rattle.std.proofs.lemmas.Bool.{cases_lt}
use Rattle.std.proofs.lemmas.List.{length-append, get_or_append_left, get_or-append-add, ext_get_or}
use Rattle.std.proofs.lemmas.Option.{slice_get_past, slice_get-get_or, get_or_from_slice_get}

abbrev Lines : Type 0
Lines = List (List ℕ)

some_is_not_none : {X : Type 0} (x : X) → Some x ≡ None → ⊥
some_is_not_none x e = (cc)

pub is_some : {X : Type 0} (o : Option X) (x : X) → o ≡ Some x → o ≡ None → ⊥
is_some o x one other = some_is_not_none x (sym one ∙ other)

pub got_left : (xs ys : Lines) (n : ℕ) → n < length xs → slice_get (xs ++ ys) n ≡ slice_get xs n
got_left xs ys n within =
    slice_get-get_or (xs ++ ys) n [] (omega (arith, within, length-append xs ys))
    ∙ ap Some (get_or_append_left xs ys [] n within)
    ∙ sym (slice_get-get_or xs n [] within)

pub got_behind : (xs ys : Lines) (n : ℕ) → slice_get (xs ++ ys) (length xs + n) ≡ slice_get ys n
got_behind xs ys n = ⊎_elim
    (λ (within : n < length ys).
    slice_get-get_or (xs ++ ys) (length xs + n) [] (omega (arith, within, length-append xs ys))
    ∙ ap Some (get_or-append-add xs ys n [])
    ∙ sym (slice_get-get_or ys n [] within))
    (λ (past : length ys ≤ n).
    slice_get_past (xs ++ ys) (length xs + n) (omega (arith, past, length-append xs ys))
    ∙ sym (slice_get_past ys n past))
    (cases_lt n (length ys))

-- lists that have the same element at each place are the same
pub got_long : (xs ys : Lines) → ((n : ℕ) → slice_get xs n ≡ slice_get ys n) → length ys ≤ length xs
got_long xs ys same = ⊎_elim
    (λ (less : length xs < length ys).
    absurd (is_some (slice_get ys (length xs)) (get_or ys (length xs) [])
    (slice_get-get_or ys (length xs) [] less)
    (sym (same (length xs)) ∙ slice_get_past xs (length xs) (omega arith))))
    (λ (few : length ys ≤ length xs). few)
    (cases_lt (length xs) (length ys))

pub got_all : (xs ys : Lines) → ((n : ℕ) → slice_get xs n ≡ slice_get ys n) → xs ≡ ys
got_all xs ys same = ext_get_or [] xs ys (omega (arith, got_long xs ys same, got_long ys xs (λ n. sym (same n))))
    (λ n within. get_or_from_slice_get xs n (get_or ys n []) []
    (same n ∙ slice_get-get_or ys n []
    (omega (arith, within, got_long ys xs (λ k. sym (same k)), got_long xs ys same))))
