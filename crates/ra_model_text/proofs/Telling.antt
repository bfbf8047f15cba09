-- Texts that tell numbers, one text after another.
use Rattle.std.proofs.Common.{◌≡◌, ℕ, zero, suc, ◌+◌, ◌*◌, ◌^◌, ◌<◌, ◌≤◌, List, [], ◌∷◌, ◌++◌, length, map, None, sym}
use Rattle.std.proofs.Common.{subst, arith, append_assoc, append-nil, length-append}
use Rattle.std.proofs.lemmas.List.Elements.{All-nil, All-cons}
use Rattle.ra_token.specs.declared.answers.TheConstants.{PLACE_LIMIT}
use Rattle.ra_token.specs.Faults.{first_fault}
use Rattle.ra_token.specs.TokenList.{tokens}
use Rattle.ra_token.specs.Values.{value_of}
use Rattle.ra_token.proofs.Written.{Ahead, ahead_all, ahead_none}
use Rattle.ra_model_read.specs.FieldOrder.{end_to_end, with_count}
use Rattle.ra_model_text.specs.Lines.{line_text}
use Rattle.ra_model_text.proofs.LineTexts.{IsSmall, line_short}
use Rattle.ra_model_text.proofs.LineTokens.{Small, line_ahead}
use Rattle.ra_model_text.specs.ModelTexts.{group_text}

-- the tokens of the text are the numbers, whatever is before it and after it, and it is not long
pub record Tells (text numbers : List ℕ) : Type 0 where
  pub ahead : (bytes rest before : List ℕ) → Ahead bytes (text ++ rest) before → Ahead bytes rest (before ++ numbers)
  pub short : length text ≤ 12 * length numbers

-- a line
pub tells_line : (n : ℕ) (ns : List ℕ) → Small (n ∷ ns) → Tells (line_text (n ∷ ns)) (n ∷ ns)
tells_line n ns small = record {
  ahead = λ bytes rest before h. line_ahead bytes (n ∷ ns) rest before small h;
  short = let few : length (line_text (n ∷ ns)) ≤ 11 * length (n ∷ ns) + 1 = line_short (n ∷ ns) small in
      omega (arith, few);
}

tells_none : Tells [] []
tells_none = record {
  ahead = λ bytes rest before h. subst (Ahead bytes rest) (sym (append-nil before)) h;
  short = omega arith;
}

-- one text and then another
pub tells_append : (s t xs ys : List ℕ) → Tells s xs → Tells t ys → Tells (s ++ t) (xs ++ ys)
tells_append s t xs ys one two =
    let first : length s ≤ 12 * length xs = one.short in
    let then : length t ≤ 12 * length ys = two.short in
    record {
      ahead = λ bytes rest before h.
          subst (Ahead bytes rest) (append_assoc before xs ys)
          (two.ahead bytes rest (before ++ xs)
          (one.ahead bytes (t ++ rest) before
          (subst (λ all. Ahead bytes all before) (append_assoc s t rest) h)));
      short = omega (arith, length-append s t, length-append xs ys, first, then);
    }

-- n texts
tells_joined : (n : ℕ) (f g : ℕ → List ℕ) → ((k : ℕ) → k < n → Tells (f k) (g k)) →
    Tells (end_to_end n f) (end_to_end n g)
unfolding end_to_end
tells_joined zero f g each = tells_none
tells_joined (suc n) f g each =
    tells_append (end_to_end n f) (f n) (end_to_end n g) (g n) (tells_joined n f g (λ k within. each k (omega arith)))
    (each n (omega arith))

-- a count and n texts
pub tells_group : (n : ℕ) (f g : ℕ → List ℕ) → n < 2 ^ 32 → ((k : ℕ) → k < n → Tells (f k) (g k)) →
    Tells (group_text n f) (with_count n g)
unfolding group_text
tells_group n f g few each =
    tells_append (line_text (n ∷ [])) (end_to_end n f) (n ∷ []) (end_to_end n g)
    (tells_line n [] (All-cons IsSmall n [] few (All-nil IsSmall)))
    (tells_joined n f g each)

-- the whole text
pub tells_whole : (text numbers : List ℕ) → Tells text numbers → 12 * length numbers ≤ PLACE_LIMIT →
    (first_fault text ≡ None) × (map value_of (tokens text) ≡ numbers)
tells_whole text numbers tells few =
    let short : length text ≤ 12 * length numbers = tells.short in
    ahead_none text numbers
    (tells.ahead text [] []
    (subst (λ all. Ahead text all []) (sym (append-nil text)) (ahead_all text (omega (arith, short, few)))))
