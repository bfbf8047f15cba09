-- How often reading the files of the system failed.
use Rattle.std.specs.Prelude.{ℕ, ◌^◌, ◌<◌}
use Rattle.ra_io.specs.declared.counts.Count.{Count}
use Rattle.ra_io.specs.declared.disk.DiskFiles.{DiskFiles}

module _ {R F D : Type 0} where
  -- the one count, and its number
  abbrev pub count : DiskFiles R F D → Count
  count files = files.faults

  abbrev pub faults : DiskFiles R F D → ℕ
  faults files = files.faults.value

  pub counted : (files : DiskFiles R F D) → faults files < 2 ^ 64
  counted files = files.faults.small
