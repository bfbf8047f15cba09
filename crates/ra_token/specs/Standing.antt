-- What a contract sees of a `Tokens`.
use Rattle.std.specs.Prelude.{ℕ, List}

pub record Standing : Type 0 where
  -- the name of its file
  pub name : List ℕ
  -- the place from which the next token is sought
  pub place : ℕ
  -- the place of the first byte that it holds ready
  pub start : ℕ
  -- the bytes that it holds ready
  pub ready : List ℕ
