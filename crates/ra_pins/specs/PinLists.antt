-- What a contract sees of `Pins`: one flag for each process, and a flat table of loads by machine, then resource.
use Rattle.std.specs.Prelude.{ℕ, List, Bool, false, slice_index_or}

pub record PinLists : Type 0 where
  pub flags : List Bool
  pub machines : ℕ
  pub resources : ℕ
  pub loads : List ℕ

-- the flag of process p
unfoldable pub flag_at : List Bool → ℕ → Bool
flag_at flags p = slice_index_or flags p false
