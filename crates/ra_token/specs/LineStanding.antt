-- What a contract sees of a `LineReader`.
use Rattle.std.specs.Prelude.{ℕ, List}

pub record Standing : Type 0 where
  -- the name of its file
  pub name : List ℕ
  -- how many bytes of the file it has given
  pub place : ℕ
  -- the bytes from there on that it holds ready
  pub ready : List ℕ
