-- What a fetch tells of the bytes of a file.
use Rattle.std.proofs.Common.{inl, inr, ◌≡◌, ◌↔◌, ℕ, ◌-◌, ◌<◌, ◌≤◌, ◌⊎◌, List, length, take, drop, get_or, slice_get, Option, Some, None, IfSome, sym, ap, refl, ◌∙◌, arith, length-take, take-take}
use Rattle.std.proofs.lemmas.List.{get_or_read}
use Rattle.std.proofs.lemmas.Option.{slice_get_past}
use Rattle.ra_token.specs.Reads.{IsPiece}
use Rattle.ra_token.proofs.Told.{told_byte}

-- the first of the fetched bytes are a piece of the file
piece_fetched : (bytes fetched : List ℕ) (at n filled : ℕ) → take n fetched ≡ take n (drop at bytes) → filled ≤ n →
    n ≤ length fetched → IsPiece bytes at (take filled fetched)
piece_fetched bytes fetched at n filled read few within =
    let long : length (take filled fetched) ≡ filled = omega (arith, length-take filled fetched) in record {
      same = ap (λ k. take k (drop at bytes)) long ∙ sym (take-take filled n (drop at bytes) few)
          ∙ ap (take filled) (sym read) ∙ take-take filled n fetched few;
    }

pub told_piece : (told told_now : Option (List ℕ)) (fetched items : List ℕ) (at n filled : ℕ) → told_now ≡ told →
    items ≡ fetched → IfSome told (λ bytes. take n fetched ≡ take n (drop at bytes)) → filled ≤ n → n ≤ length fetched →
    IfSome told_now (λ bytes. IsPiece bytes at (take filled items))
told_piece None told_now fetched items at n filled same is read few within =
    rw same tt
told_piece (Some bytes) told_now fetched items at n filled same is read few within =
    rw (same, is) (piece_fetched bytes fetched at n filled read few within)

-- the first of the fetched bytes is the byte of the file
pub told_front : (told : Option (List ℕ)) (fetched items : List ℕ) (at n byte : ℕ) → items ≡ fetched →
    IfSome told (λ bytes. take n fetched ≡ take n (drop at bytes)) → 0 < n → n ≤ length fetched →
    byte ≡ get_or items 0 byte → IfSome told (λ bytes. Some byte ≡ slice_get bytes at)
told_front told fetched items at n byte is read some within front =
    let here : at - at ≡ 0 = omega arith in
    told_byte told fetched at n at byte
    (told_piece told told fetched fetched at n n refl refl read (omega arith) within) (omega arith) (omega arith)
    within
    (front ∙ ap (λ xs. get_or xs 0 byte) is ∙ ap (λ k. get_or fetched k byte) (sym here))

-- it is the one that is held ready first
pub first_ready : (items fetched : List ℕ) (at byte : ℕ) → items ≡ fetched → 0 < length fetched →
    byte ≡ get_or items 0 byte → get_or items (at - at) 0 ≡ byte
first_ready items fetched at byte is some front =
    let here : at - at ≡ 0 = omega arith in
    ap (λ k. get_or items k 0) here ∙ sym (get_or_read items 0 byte (omega (arith, ap length is)) front 0)

-- if a fetch gives nothing, the file has ended
pub told_past : (told : Option (List ℕ)) (room at n : ℕ) →
    IfSome told (λ bytes. (n ≡ 0) ↔ ((room ≡ 0) ⊎ (length bytes ≤ at))) → 0 < room → n ≡ 0 →
    IfSome told (λ bytes. None ≡ slice_get bytes at)
told_past None room at n end some nothing = tt
told_past (Some bytes) room at n end some nothing = elim (end.0 nothing) [
  | inl full ↦ absurd (omega arith)
  | inr past ↦ sym (slice_get_past bytes at past)
]
