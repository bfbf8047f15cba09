-- What an edit makes of an instance and its two lists.
use Rattle.std.specs.Prelude.{ℕ, ◌+◌, ◌-◌, ◌*◌, ◌%◌, ◌^◌, List, [], ◌∷◌, ◌++◌, length, take, drop}
use Rattle.std.specs.List.{swap_remove}
use Rattle.std.proofs.lemmas.Nat.{mod_below}
use Rattle.std.proofs.Common.{lit<}
use Rattle.ra_base.specs.declared.ids.Machine.{Machine}
use Rattle.ra_base.specs.declared.ids.Service.{Service}
use Rattle.ra_model.specs.declared.raw.ProcessRow.{ProcessRow}
use Rattle.ra_model.specs.Numbers.{resource_count}
use Rattle.ra_edit_read.specs.declared.edits.Edit.{Edit}
use Rattle.ra_edit_read.specs.declared.edits.Edit.TheVariants.{Add, Retire, Resize}
use Rattle.ra_edit_read.specs.EditLists.{row_of}
use Rattle.ra_edit.specs.Drafts.{Drafted}

-- a process of a service with a move cost. A number of a file is below 2^32, and the remainder says so here
unfoldable pub process_of : Service → ℕ → ProcessRow
process_of service cost =
    record {
      service = service;
      move_cost = cost % 2 ^ 32;
      small = mod_below cost (2 ^ 32) (lit< tt);
    }

-- a table of rows of this width with another row p
unfoldable pub put_row : ℕ → List ℕ → ℕ → List ℕ → List ℕ
put_row width table p row = take (p * width) table ++ (row ++ drop (p * width + width) table)

-- a table of n rows of this width without row p: the last row takes its place
unfoldable pub drop_row : ℕ → List ℕ → ℕ → ℕ → List ℕ
drop_row width table n p =
    take ((n - 1) * width) (put_row width table p (row_of width table (n - 1)))

-- a process more, with its initial and its present machine
unfoldable pub added : Drafted → Service → Machine → ℕ → List ℕ → Drafted
added d service machine cost requirements = record d {
  rows = d.rows ++ process_of service cost ∷ [];
  requirements = d.requirements ++ requirements;
  initial = d.initial ++ machine ∷ [];
  current = d.current ++ machine ∷ [];
}

-- a process less: the last process takes its number
unfoldable pub retired : Drafted → ℕ → Drafted
retired d p = record d {
  rows = swap_remove d.rows p (process_of (record { 0 = 0 }) 0);
  requirements = drop_row (resource_count d.origin) d.requirements (length d.rows) p;
  initial = swap_remove d.initial p (record { 0 = 0 });
  current = swap_remove d.current p (record { 0 = 0 });
}

-- a process with other requirements
unfoldable pub resized : Drafted → ℕ → List ℕ → Drafted
resized d p requirements =
    record d { requirements = put_row (resource_count d.origin) d.requirements p requirements }

-- what an edit makes of a draft, with the requirements that it gives
unfoldable pub edited : Drafted → Edit → List ℕ → Drafted
edited d (Add service machine cost) requirements = added d service machine cost requirements
edited d (Retire p) requirements = retired d p
edited d (Resize p) requirements = resized d p requirements
