-- Bytes that are given piece by piece, up to the end of a line.
use Rattle.std.proofs.Common.{inl, inr, ◌≡◌, ℕ, zero, suc, ◌+◌, ◌-◌, ◌<◌, ◌≤◌, List, [], ◌∷◌, ◌++◌, length, take, drop, get_or, Option, Some, None, IfSome, refl, sym, ◌∙◌, ap, arith, subst, append_assoc, length-append, length-take, length-drop, take-add}
use Rattle.std.proofs.lemmas.List.{append-nil, take-append-drop, drop-take, drop-drop, take-take, take_more}
use Rattle.std.proofs.lemmas.Bool.{cases_lt}
use Rattle.ra_token.specs.Lines.{lines_of, body_of, HasNoEnd}
use Rattle.ra_token.specs.declared.line_answers.Next.{Next}
use Rattle.ra_token.specs.declared.line_answers.Next.TheVariants.{Last, Long, End}
use Rattle.ra_token.specs.Reading.{BeginsWithLine, IsLastLine, BeginsOverLong, IsNextLine}
use Rattle.ra_token.specs.Buffers.{IsEnded, Gave}
use Rattle.ra_token.proofs.BodyLaws.{body_twice, body_before, body_at_least, no_end_both, no_end_none, no_end_ends, ends_behind}
use Rattle.ra_token.proofs.SplitLaws.{line_first, line_alone, line_begins}

-- nothing that is held changed, and no fault was forgotten
pub record KeepsFiles (held_before held_now : List ℕ → Option (List ℕ)) (faults_before faults_now : List ℕ → ℕ) : Type 0
  where
    pub kept : (other : List ℕ) → held_now other ≡ held_before other
    pub never_fell : (other : List ℕ) → faults_before other ≤ faults_now other

-- of the bytes from a place on some were given at the end of a list, and there is no LF among them
pub record GaveNoEnd (bytes : List ℕ) (place given : ℕ) (before line ready : List ℕ) : Type 0 where
  pub gave : Gave bytes place given before line ready
  pub unended : HasNoEnd (take given (drop place bytes))

none_given : (before : List ℕ) → before ≡ before ++ []
none_given before = sym (append-nil before)

pub told_none : (told : Option (List ℕ)) (place : ℕ) (before ready : List ℕ) →
    IfSome told (λ bytes. take (length ready) (drop place bytes) ≡ ready) →
    IfSome told (λ bytes. GaveNoEnd bytes place 0 before before ready)
told_none None place before ready stands = tt
told_none (Some bytes) place before ready stands = record {
  gave = record {
    text = none_given before;
    front = subst (λ k. take (length ready) (drop k bytes) ≡ ready) {x = place} {y = place + 0} (omega arith) stands;
  };
  unended = no_end_none;
}

-- other bytes were made ready
pub told_ready : (told told_now : Option (List ℕ)) (place given now : ℕ) (before line ready next : List ℕ) →
    told_now ≡ told → now ≡ place + given
    → IfSome told (λ bytes. GaveNoEnd bytes place given before line ready)
    → IfSome told_now (λ bytes. take (length ready) (drop now bytes) ≡ ready → take (length next) (drop now bytes) ≡
    next)
    → IfSome told (λ bytes. GaveNoEnd bytes place given before line next)
told_ready None told_now place given now before line ready next same here gave fetched = tt
told_ready (Some bytes) told_now place given now before line ready next same here gave fetched =
    let holds = rw (same, here) at fetched in
    record { gave = record { text = gave.gave.text; front = holds gave.gave.front }; unended = gave.unended }

module _ (bytes : List ℕ) where
  -- the next bytes are the first of those that are ready
  pub next_bytes : (place given n : ℕ) (ready : List ℕ) → n ≤ length ready →
      take (length ready) (drop (place + given) bytes) ≡ ready →
      take (given + n) (drop place bytes) ≡ take given (drop place bytes) ++ take n ready
  next_bytes place given n ready within front =
      take-add given n (drop place bytes)
      ∙ ap (λ xs. take given (drop place bytes) ++ xs)
      (ap (take n) (drop-drop given place bytes) ∙ sym (take-take n (length ready) (drop (place + given) bytes) within)
      ∙ ap (take n) front)

  left_ready : (from n : ℕ) (ready : List ℕ) → n ≤ length ready → take (length ready) (drop from bytes) ≡
      ready → take (length (drop n ready)) (drop (from + n) bytes) ≡ drop n ready
  left_ready from n ready within front =
      let long : n + length (drop n ready) ≡ length ready = omega (arith, length-drop n ready) in
      ap (take (length (drop n ready))) (sym (drop-drop n from bytes))
      ∙ sym (drop-take n (length (drop n ready)) (drop from bytes))
      ∙ ap (λ k. drop n (take k (drop from bytes))) long
      ∙ ap (drop n) front

  more : (place given n : ℕ) (before line ready after : List ℕ) → n ≤ length ready → after ≡ line ++ take n ready →
      Gave bytes place given before line ready → Gave bytes place (given + n) before after (drop n ready)
  more place given n before line ready after within is gave = record {
    text = is ∙ ap (λ xs. xs ++ take n ready) gave.text ∙ append_assoc before (take given (drop place bytes))
        (take n ready) ∙ ap (λ xs. before ++ xs) (sym (next_bytes place given n ready within gave.front));
    front = subst (λ k. take (length (drop n ready)) (drop k bytes) ≡ drop n ready) {x = place + given + n}
        {y = place + (given + n)} (omega arith) (left_ready (place + given) n ready within gave.front);
  }

pub told_more : (told : Option (List ℕ)) (place given total n : ℕ) (before line ready after left : List ℕ) →
    total ≡ given + n → n ≤ length ready → after ≡ line ++ take n ready → left ≡ drop n ready → HasNoEnd (take n ready)
    → IfSome told (λ bytes. GaveNoEnd bytes place given before line ready) →
    IfSome told (λ bytes. GaveNoEnd bytes place total before after left)
told_more None place given total n before line ready after left sum within is rest none gave = tt
told_more (Some bytes) place given total n before line ready after left sum within is rest none gave =
    rw (sum, rest) (record {
      gave = more bytes place given n before line ready after within is gave.gave;
      unended = subst HasNoEnd (sym (next_bytes bytes place given n ready within gave.gave.front))
          (no_end_both (take given (drop place bytes)) (take n ready) gave.unended none);
    })

-- the given bytes with an LF after them are the next line
pub told_gave : (told : Option (List ℕ)) (place given total n : ℕ) (before line ready after left : List ℕ) →
    total ≡ given + n → n ≤ length ready → after ≡ line ++ take n ready → left ≡ drop n ready
    → IfSome told (λ bytes. GaveNoEnd bytes place given before line ready) →
    IfSome told (λ bytes. Gave bytes place total before after left)
told_gave None place given total n before line ready after left sum within is rest gave = tt
told_gave (Some bytes) place given total n before line ready after left sum within is rest gave =
    rw (sum, rest) (more bytes place given n before line ready after within is gave.gave)

begins : (rest t body after : List ℕ) (room : ℕ) → HasNoEnd t → HasNoEnd body →
    rest ≡ (t ++ (body ++ 10 ∷ [])) ++ after → length t + length body ≤ room → BeginsWithLine room rest after
begins rest t body after room none no_end split short =
    let whole : t ++ (body ++ 10 ∷ []) ≡ (t ++ body) ++ 10 ∷ [] = sym (append_assoc t body (10 ∷ [])) in
    let both = no_end_both t body none no_end in
    record {
      line = (t ++ body) ++ 10 ∷ [];
      split = split ∙ ap (λ xs. xs ++ after) whole;
      lines = ap lines_of (split ∙ ap (λ xs. xs ++ after) whole ∙ append_assoc (t ++ body) (10 ∷ []) after)
          ∙ line_first (t ++ body) after both;
      ended = ends_behind (t ++ body);
      short = rw (body_before (t ++ body) [] both, length-append) short;
    }

pub told_line : (told : Option (List ℕ)) (place given total n room now : ℕ) (before line ready : List ℕ) →
    total ≡ given + n → n ≤ length ready → now ≡ place + total → total ≤ room + 1 → IsEnded (take n ready)
    → IfSome told (λ bytes. GaveNoEnd bytes place given before line ready) →
    IfSome told (λ bytes. BeginsWithLine room (drop place bytes) (drop now bytes))
told_line None place given total n room now before line ready sum within at most ended gave = tt
told_line (Some bytes) place given total n room now before line ready sum within at most ended gave =
    begins (drop place bytes) (take given (drop place bytes)) ended.body (drop now bytes) room gave.unended
    ended.unended
    (sym (take-append-drop total (drop place bytes))
    ∙ ap (λ xs. xs ++ drop total (drop place bytes)) (ap (λ k. take k (drop place bytes)) sum
    ∙ next_bytes bytes place given n ready within gave.gave.front
    ∙ ap (λ xs. take given (drop place bytes) ++ xs) ended.split)
    ∙ ap (λ xs. (take given (drop place bytes) ++ (ended.body ++ 10 ∷ [])) ++ xs)
    (drop-drop total place bytes ∙ ap (λ k. drop k bytes) (sym at)))
    (let long : length (take n ready) ≡ length ended.body + 1 = ap length ended.split
    ∙ length-append ended.body (10 ∷ []) in
    omega (arith, length-take n ready, length-take given (drop place bytes)))

-- no byte is left after those that were given
pub told_last : (told told_now : Option (List ℕ)) (place given room now : ℕ) (before line ready : List ℕ) →
    told_now ≡ told → now ≡ place + given → 0 < given → given ≤ room → length line ≡ length before + given
    → IfSome told (λ bytes. GaveNoEnd bytes place given before line ready) →
    IfSome told_now (λ bytes. drop now bytes ≡ []) →
    IfSome told (λ bytes. IsLastLine room (drop place bytes) (drop now bytes))
told_last None told_now place given room now before line ready same at some most long gave end = tt
told_last (Some bytes) told_now place given room now before line ready same at some most long gave end =
    last (rw same at end)
  where
    all_of : drop now bytes ≡ [] → take given (drop place bytes) ≡ drop place bytes
    all_of none = sym (append-nil (take given (drop place bytes)))
        ∙ ap (λ xs. take given (drop place bytes) ++ xs)
        (sym (drop-drop given place bytes ∙ ap (λ k. drop k bytes) (sym at) ∙ none))
        ∙ take-append-drop given (drop place bytes)

    alone : (xs : List ℕ) → HasNoEnd xs → 0 < length xs → lines_of xs ≡ xs ∷ []
    alone [] none any = absurd (omega arith)
    alone (b ∷ xs) none any = line_alone b xs none

    last : drop now bytes ≡ [] → IsLastLine room (drop place bytes) (drop now bytes)
    last none =
        let unended : HasNoEnd (drop place bytes) = subst HasNoEnd (all_of none) gave.unended in
        let number : length (take given (drop place bytes)) ≡ given = let l = ap length gave.gave.text
        ∙ length-append before (take given (drop place bytes)) in omega arith in
        let length_is : length (drop place bytes) ≡ given = sym (ap length (all_of none)) ∙ number in
        record {
          lines = alone (drop place bytes) unended (omega arith);
          unended = no_end_ends (drop place bytes) unended;
          short = rw unended (omega arith);
          none_left = none;
        }

pub told_end : (told told_now : Option (List ℕ)) (place now : ℕ) → told_now ≡ told → now ≡ place →
    IfSome told_now (λ bytes. drop now bytes ≡ []) → IfSome told (λ bytes. drop place bytes ≡ [])
told_end None told_now place now same at end = tt
told_end (Some bytes) told_now place now same at end =
    subst (λ k. drop k bytes ≡ []) at (rw same at end)

-- if nothing is left, all lines were given, or what was given is the last line
ended_here : (bytes after : List ℕ) (room given : ℕ) (next : Next) → (given ≡ 0 → next ≡ End) →
    (0 < given → next ≡ Last) → (given ≡ 0 → bytes ≡ []) → (0 < given → IsLastLine room bytes after) →
    IsNextLine room bytes after next
ended_here bytes after room given next none some end last = elim (cases_lt 0 given) [
  | inl more ↦ subst (IsNextLine room bytes after) (sym (some more)) (last more)
  | inr less ↦ let zero_is : given ≡ 0 = omega arith in
      subst (IsNextLine room bytes after) (sym (none zero_is)) (end zero_is)
]

pub told_ended : (told told_now : Option (List ℕ)) (place given room now : ℕ) (before line ready : List ℕ)
    (next : Next) → told_now ≡ told → now ≡ place + given → given ≤ room → length line ≡ length before + given →
    (given ≡ 0 → next ≡ End) → (0 < given → next ≡ Last)
    → IfSome told (λ bytes. GaveNoEnd bytes place given before line ready) →
    IfSome told_now (λ bytes. drop now bytes ≡ []) →
    IfSome told (λ bytes. IsNextLine room (drop place bytes) (drop now bytes) next)
told_ended None told_now place given room now before line ready next same at most long none some gave end = tt
told_ended (Some bytes) told_now place given room now before line ready next same at most long none some gave end =
    ended_here (drop place bytes) (drop now bytes) room given next none some
    (λ zero_is. told_end (Some bytes) told_now place now same (omega arith) end)
    (λ more. told_last (Some bytes) told_now place given room now before line ready same at more most long gave end)

pub told_ended_at : (told told_now : Option (List ℕ)) (place given room now : ℕ) (before line ready : List ℕ)
    (next : Next) → told_now ≡ told → now ≡ place + given → given ≤ room → length line ≡ length before + given →
    (given ≡ 0 → next ≡ End) → (0 < given → next ≡ Last)
    → IfSome told (λ bytes. GaveNoEnd bytes place given before line ready) →
    IfSome told_now (λ bytes. drop (place + given) bytes ≡ []) →
    IfSome told (λ bytes. IsNextLine room (drop place bytes) (drop now bytes) next)
told_ended_at told told_now place given room now before line ready next same at most long none some gave end =
    subst (λ k. IfSome told (λ bytes. IsNextLine room (drop place bytes) (drop k bytes) next)) (sym at)
    (told_ended told told_now place given room (place + given) before line ready next same refl most long none some gave
    end)

-- more bytes than there is room for were given, and no LF was among them
pub told_long : (told : Option (List ℕ)) (place given room : ℕ) (before line ready : List ℕ) → room < given →
    length line ≡ length before + given
    → IfSome told (λ bytes. GaveNoEnd bytes place given before line ready) →
    IfSome told (λ bytes. BeginsOverLong room (drop place bytes))
told_long None place given room before line ready long number gave = tt
told_long (Some bytes) place given room before line ready long number gave =
    over (take given (drop place bytes)) (drop given (drop place bytes)) (take-append-drop given (drop place bytes))
    gave.unended (let l = ap length gave.gave.text ∙ length-append before (take given (drop place bytes)) in
    omega arith)
  where
    over : (t rest : List ℕ) → t ++ rest ≡ drop place bytes → HasNoEnd t → room < length t →
        BeginsOverLong room (drop place bytes)
    over [] rest split none some = absurd (omega arith)
    over (b ∷ t) rest split none some =
        let first = line_begins b t rest none in
        record {
          line = (b ∷ t) ++ first.more;
          others = first.others;
          lines = ap lines_of (sym split) ∙ first.lines;
          long = omega (arith, body_at_least (b ∷ t) first.more none);
        }

-- what a buffer has ready after those that were given
pub left_behind : (items : List ℕ) (at filled n : ℕ) → n ≤ filled - at →
    take (filled - (at + n)) (drop (at + n) items) ≡ drop n (take (filled - at) (drop at items))
left_behind items at filled n within =
    ap (take (filled - (at + n))) (sym (drop-drop n at items)) ∙ sym (drop-take n (filled - (at + n)) (drop at items))
    ∙ ap (λ k. drop n (take k (drop at items))) (omega arith)

module _ (bytes : List ℕ) (most k : ℕ) where
  -- the bytes up to an LF
  pub ended_front : k < length (take most bytes) → take k (take most bytes) ≡ body_of (take most bytes) →
      get_or (take most bytes) k 0 ≡ 10 → IsEnded (take (k + 1) bytes)
  ended_front within body end =
      let few : k + 1 ≤ most = omega (arith, length-take most bytes) in
      record {
        body = take k (take most bytes);
        unended = subst HasNoEnd (sym body) (body_twice (take most bytes));
        split = sym (take-take (k + 1) most bytes few) ∙ take_more (take most bytes) k 0 within
            ∙ ap (λ (b : ℕ). take k (take most bytes) ++ b ∷ []) end;
      }

  pub unended_front : k ≤ most → take k (take most bytes) ≡ body_of (take most bytes) → HasNoEnd (take k bytes)
  unended_front few body =
      subst HasNoEnd (take-take k most bytes few) (subst HasNoEnd (sym body) (body_twice (take most bytes)))

-- what ends a file is no long line
pub not_long : (given : ℕ) (next : Next) → (given ≡ 0 → next ≡ End) → (0 < given → next ≡ Last) → next ≡ Long → ⊥
not_long zero next none some long = let e = none refl in (cc)
not_long (suc n) next none some long = let e = some (omega arith) in (cc)
