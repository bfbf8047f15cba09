-- What steady files hold.
use Rattle.std.specs.Prelude.{ℕ, List}
use Rattle.ra_io.specs.declared.steady.SteadyFiles.{SteadyFiles}
use Rattle.ra_io.specs.Texts.{bytes_in}

-- the bytes of a name, none if it was not added
abbrev pub bytes : SteadyFiles → List ℕ → List ℕ
bytes files name = bytes_in files.texts name
