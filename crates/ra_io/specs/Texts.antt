-- Texts in memory, by name.
use Rattle.std.specs.Prelude.{ℕ, List, [], Option, unwrap_or, Vec, String}
use Rattle.std.specs.declared.alloc.Global.{Global}
use Rattle.std.specs.BTreeMap.{BTreeMap, get_by_text}
use Rattle.std.specs.Option.{option_map}

abbrev pub Texts : Type 0
Texts = BTreeMap (String Global) (Vec ℕ Global)

-- the bytes of a name, if it was added
abbrev pub held_in : Texts → List ℕ → Option (List ℕ)
held_in texts name = option_map (λ v. v.items) (get_by_text texts name)

-- the bytes of a name, none if it was not added
abbrev pub bytes_in : Texts → List ℕ → List ℕ
bytes_in texts name = unwrap_or (held_in texts name) []
