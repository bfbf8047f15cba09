-- The row of a process is within the table, and has what the process requires.
use Rattle.std.proofs.lemmas.Grind.{common_steps}
use Rattle.std.proofs.Common.{◌≡◌, ℕ, ◌+◌, ◌*◌, ◌<◌, ◌≤◌, List, length, arith}
use Rattle.std.specs.List.{slice_range}
use Rattle.ra_base.proofs.Tables.{row_length, row_cell}
use Rattle.ra_model.specs.Numbers.{resource_count}
use Rattle.ra_edit_read.proofs.ListLaws.{row_within}
use Rattle.ra_edit.specs.Drafts.{Drafted}
use Rattle.ra_edit.specs.Keeping.{IsSoundDraft}
use Rattle.ra_edit.specs.Kinds.{Asks}
use Rattle.ra_edit.proofs.OneMoreLaws.{requirement_read}
use Rattle.ra_edit.proofs.SoundLaws.{few_of}

pub row_of_process : {d : Drafted} (p : ℕ) → IsSoundDraft d → p < length d.rows →
    p * resource_count d.origin + resource_count d.origin ≤ length d.requirements
row_of_process {d} p sound within =
    omega (arith, (few_of sound).table, row_within (length d.rows) (resource_count d.origin) p within)

pub asks_read : {d : Drafted} {p : ℕ} {amounts : List ℕ} → IsSoundDraft d → p < length d.rows →
    amounts ≡ slice_range d.requirements (p * resource_count d.origin)
    (p * resource_count d.origin + resource_count d.origin) → Asks d p amounts
asks_read {d} {p} sound within is = grind (arith, common_steps, row_length, row_of_process, row_cell, requirement_read)
