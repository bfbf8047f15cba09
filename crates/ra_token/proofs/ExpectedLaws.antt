-- A text that was given to a sink that expects other bytes, or the same.
use Rattle.std.proofs.Common.{◌≡◌, ◌≢◌, ℕ, suc, ◌+◌, ◌-◌, ◌<◌, ◌≤◌, ◌⊎◌, Bool, true, false, ◌&&◌, nat_eq, List, [], ◌∷◌, ◌++◌, length, take, drop, get_or, slice_get, Option, Some, None, refl, sym, ◌∙◌, ap, arith, subst, append_assoc, eq-eqb, lt-ltb, inl, inr}
use Rattle.std.specs.Option.{ForSome, ForNone}
use Rattle.std.proofs.lemmas.List.{append-nil, append_cancel_left, take-append-drop, take_more, get_or-drop, length-drop}
use Rattle.std.proofs.Math.Seq.{take-length, take-add}
use Rattle.std.proofs.lemmas.Option.{none-some, slice_get_within, get_or_from_slice_get}
use Rattle.ra_token.specs.Lines.{line_end_count, FirstUnlike}
use Rattle.ra_token.specs.Comparing.{is_byte_at, one_or_none, given_of, opened, taken_of, WasGiven}
use Rattle.ra_token.proofs.UnlikeLaws.{unlike_at}

-- a text was given: it was taken whole, or a front of it was and a fault was counted
abbrev pub WasPut : List ℕ → ℕ → List ℕ → Type 0
WasPut given faults text = (given ≡ text) ⊎ ((n : ℕ) × (given ≡ take n text) × (0 < faults))

-- the bytes that are expected stay
same_front : (e line given text : List ℕ) → length e ≡ length line → e ++ given ≡ line ++ text → (e ≡ line)
    × (given ≡ text)
same_front [] [] given text long same = (refl, same)
same_front [] (y ∷ line) given text long same = absurd (let none : 0 ≡ suc (length line) = long in omega arith)
same_front (x ∷ e) [] given text long same = absurd (let none : suc (length e) ≡ 0 = long in omega arith)
same_front (x ∷ e) (y ∷ line) given text long same =
    let p = same_front e line given text (let l : suc (length e) ≡ suc (length line) = long in omega arith)
    (ap (drop 1) same) in
    let q : x ≡ y = ap (λ bytes. get_or bytes 0 0) same in
    (let r = p.0 in (cc), p.1)

opened_back : (e line given text : List ℕ) → opened e ++ given ≡ opened line ++ text → (e ≡ line) × (given ≡ text)
opened_back e line given text same =
    same_front e line given text (ap (λ bytes. get_or bytes 0 0) same) (ap (drop 1) same)

-- what a text was given to
pub record GivenTo (e line given : List ℕ) (faults : ℕ) (text : List ℕ) : Type 0 where
  pub same : e ≡ line
  pub was_put : WasPut given faults text

pub given_to : (e line : List ℕ) (agreed faults : ℕ) (other : Option ℕ) (text : List ℕ) →
    WasGiven line (taken_of e agreed other) faults text → GivenTo e line (given_of e agreed other) faults text
given_to e line agreed faults other text (inl whole) =
    let p = opened_back e line (given_of e agreed other) text whole in
    record { same = p.0; was_put = inl p.1 }
given_to e line agreed faults other text (inr part) =
    let p = opened_back e line (given_of e agreed other) (take part.0 text) part.1 in
    record { same = p.0; was_put = inr (part.0, p.1, part.2) }

-- what follows in the text after the bytes that agree
pub record Behind (p : List ℕ) (other : Option ℕ) (text : List ℕ) : Type 0 where
  pub rest : List ℕ
  pub split : text ≡ p ++ rest
  pub first : slice_get rest 0 ≡ other

one_first : (other : Option ℕ) → slice_get (one_or_none other) 0 ≡ other
one_first None = refl
one_first (Some b) = refl

-- and if all agree, it is
none_first : (xs : List ℕ) → slice_get xs 0 ≡ None → xs ≡ []
none_first [] e = refl
none_first (x ∷ xs) e = absurd (none-some x (sym e))

-- the two texts in the other order
pub unlike_sym : (a b : List ℕ) (n : ℕ) → FirstUnlike a b n → FirstUnlike b a n
unlike_sym a b n u = record { before = λ m less. sym (u.before m less); here = λ e. u.here (sym e) }

module _ (expected : List ℕ) where
  module _ (agreed : ℕ) where
    -- the first byte after those that agree is the one that was expected only if all agree
    first_left : (b : ℕ) → slice_get (drop agreed expected) 0 ≡ Some b → is_byte_at expected agreed b ≡ true
    first_left b e =
        let inside : 0 < length (drop agreed expected) = slice_get_within (drop agreed expected) 0 b e in
        let within : agreed < length expected = omega (arith, length-drop agreed expected) in
        ap (λ (t : Bool). t && nat_eq (get_or expected agreed 0) b) (lt-ltb agreed (length expected) within)
        ∙ eq-eqb (get_or expected agreed 0) b (ap (λ k. get_or expected k 0) {x = agreed} {y = agreed + 0} (omega arith)
        ∙ sym (get_or-drop agreed expected 0 0) ∙ get_or_from_slice_get (drop agreed expected) 0 b 0 e)

    none_left : slice_get (drop agreed expected) 0 ≡ None → length expected ≤ agreed
    none_left e = past (drop agreed expected) (length-drop agreed expected) e
      where
        past : (xs : List ℕ) → length xs ≡ length expected - agreed → slice_get xs 0 ≡ None → length expected ≤ agreed
        past [] long none = let l : 0 ≡ length expected - agreed = long in omega arith
        past (x ∷ xs) long none = absurd (none-some x (sym none))

    pub all_agree : (other : Option ℕ) → agreed ≤ length expected →
        ForSome other (λ b. is_byte_at expected agreed b ≡ false) → other ≡ slice_get (drop agreed expected) 0 →
        (other ≡ None) × (agreed ≡ length expected)
    all_agree None within differs e =
        (refl, let past : length expected ≤ agreed = none_left (sym e) in omega arith)
    all_agree (Some b) within differs e =
        absurd (let no : is_byte_at expected agreed b ≡ false = differs b refl in
        let yes : is_byte_at expected agreed b ≡
        true = first_left b (sym e) in (cc))

  module _ (text : List ℕ) (agreed faults : ℕ) where
    pub behind_given : (other : Option ℕ) → ForNone other (faults ≡ 0) →
        WasPut (given_of expected agreed other) faults text → Behind (take agreed expected) other text
    behind_given other sound (inl whole) = record {
      rest = one_or_none other;
      split = sym whole;
      first = one_first other;
    }
    behind_given None sound (inr part) =
        absurd (let none : faults ≡ 0 = sound refl in let some : 0 < faults = part.2 in omega arith)
    behind_given (Some b) sound (inr part) = record {
      rest = b ∷ drop part.0 text;
      split = sym (take-append-drop part.0 text) ∙ ap (λ xs. xs ++ drop part.0 text) (sym part.1)
          ∙ append_assoc (take agreed expected) (b ∷ []) (drop part.0 text);
      first = refl;
    }

    module _ (other : Option ℕ) where
      -- if the text is what is expected, all agree
      pub same_agrees : agreed ≤ length expected → ForSome other (λ b. is_byte_at expected agreed b ≡ false) →
          ForNone other (faults ≡ 0) → WasPut (given_of expected agreed other) faults text → text ≡ expected →
          (other ≡ None) × (agreed ≡ length expected)
      same_agrees within differs sound given same =
          let b = behind_given other sound given in
          all_agree agreed other within differs
          (sym b.first
          ∙ ap (λ xs. slice_get xs 0) (append_cancel_left (take agreed expected) b.rest (drop agreed expected)
          (sym b.split ∙ same ∙ sym (take-append-drop agreed expected))))

      pub agrees_same : ForNone other (faults ≡ 0) → WasPut (given_of expected agreed other) faults text →
          other ≡ None → agreed ≡ length expected → text ≡ expected
      agrees_same sound given none all =
          let b = behind_given other sound given in
          b.split ∙ ap (λ xs. take agreed expected ++ xs) (none_first b.rest (b.first ∙ none))
          ∙ append-nil (take agreed expected) ∙ ap (λ k. take k expected) all ∙ take-length expected

      -- else the first line that differs is where the front ends that agrees
      pub unlike_behind : agreed ≤ length expected → ForSome other (λ b. is_byte_at expected agreed b ≡ false) →
          ForNone other (faults ≡ 0) → WasPut (given_of expected agreed other) faults text → text ≢ expected →
          FirstUnlike text expected (line_end_count (take agreed expected))
      unlike_behind within differs sound given unlike =
          let b = behind_given other sound given in
          let heads : slice_get b.rest 0 ≢ slice_get (drop agreed expected) 0 =
          λ e. let all = all_agree agreed other within differs (sym b.first ∙ e) in
          unlike (agrees_same sound given all.0 all.1) in
          subst (λ a. FirstUnlike a expected (line_end_count (take agreed expected))) (sym b.split)
          (subst (λ e. FirstUnlike (take agreed expected ++ b.rest) e (line_end_count (take agreed expected)))
          (take-append-drop agreed expected) (unlike_at (take agreed expected) b.rest (drop agreed expected) heads))

  module _ (piece : List ℕ) (agreed : ℕ) where
    module _ (same : ℕ) where
      -- what is taken of a piece
      given_same : (other : Option ℕ) → other ≡ None → take same (drop agreed expected) ≡ take same piece →
          given_of expected (agreed + same) other ≡ given_of expected agreed other ++ take same piece
      given_same None none e =
          append-nil (take (agreed + same) expected) ∙ take-add agreed same expected
          ∙ ap (λ xs. take agreed expected ++ xs) e
          ∙ ap (λ xs. xs ++ take same piece) (sym (append-nil (take agreed expected)))
      given_same (Some b) none e = absurd (none-some b (sym none))

      given_other : (byte : ℕ) (other : Option ℕ) → other ≡ None → same < length piece → byte ≡ get_or piece same 0 →
          take same (drop agreed expected) ≡ take same piece →
          given_of expected (agreed + same) (Some byte) ≡ given_of expected agreed other ++ take (same + 1) piece
      given_other byte other none within read e =
          ap (λ xs. xs ++ byte ∷ []) (sym (append-nil (take (agreed + same) expected))
          ∙ given_same None refl e)
          ∙ append_assoc (given_of expected agreed None) (take same piece) (byte ∷ [])
          ∙ ap (λ xs. given_of expected agreed None ++ xs) (ap (λ (b : ℕ). take same piece ++ b ∷ []) read
          ∙ sym (take_more piece same 0 within))
          ∙ ap (λ o. given_of expected agreed o ++ take (same + 1) piece) (sym none)

      pub taken_same : (other : Option ℕ) → other ≡ None → take same (drop agreed expected) ≡ take same piece →
          taken_of expected (agreed + same) other ≡ taken_of expected agreed other ++ take same piece
      taken_same other none e =
          ap (λ xs. opened expected ++ xs) (given_same other none e)
          ∙ sym (append_assoc (opened expected) (given_of expected agreed other) (take same piece))

      pub taken_other : (byte : ℕ) (other : Option ℕ) → other ≡ None → same < length piece →
          byte ≡ get_or piece same 0 → take same (drop agreed expected) ≡ take same piece →
          taken_of expected (agreed + same) (Some byte) ≡ taken_of expected agreed other ++ take (same + 1) piece
      taken_other byte other none within read e =
          ap (λ xs. opened expected ++ xs) (given_other byte other none within read e)
          ∙ sym (append_assoc (opened expected) (given_of expected agreed other) (take (same + 1) piece))
