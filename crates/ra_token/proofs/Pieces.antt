-- A piece of the bytes.
use Rattle.std.proofs.Common.{◌≡◌, ℕ, ◌+◌, ◌<◌, List, length, drop, get_or, sym, ap, ◌∙◌, arith, length-take, length-drop, get_or-take, get_or-drop}
use Rattle.ra_token.specs.Reads.{IsPiece}

module _ (bytes piece : List ℕ) (start k : ℕ) (is : IsPiece bytes start piece) (inside : k < length piece) where
  -- the piece is within the bytes
  pub piece_within : start + k < length bytes
  piece_within =
      omega (arith, ap length is.same, length-take (length piece) (drop start bytes), length-drop start bytes)

  -- its bytes are those of the bytes
  pub piece_at : get_or bytes (start + k) 0 ≡ get_or piece k 0
  piece_at =
      sym (get_or-drop start bytes k 0)
      ∙ sym (get_or-take (length piece) (drop start bytes) k 0 inside)
      ∙ ap (λ xs. get_or xs k 0) is.same
