-- What a row of the rows has, in the words of the instance of a trial.
use Rattle.std.proofs.Common.{◌≡◌, ℕ, ◌<◌, List, slice_index}
use Rattle.ra_base.specs.declared.ids.Machine.{Machine}
use Rattle.ra_model.specs.declared.raw.Tables.{Tables}
use Rattle.ra_model.specs.Numbers.{resource_count}
use Rattle.ra_model.specs.Usage.{use_of, transient_of}
use Rattle.ra_rows.specs.Rows.{IsUsageRow, IsTransientRow}

pub used_here : {i j : Tables} {a : List Machine} {m : ℕ} (r : ℕ) {row : List ℕ} → j ≡ i → IsUsageRow j a m row →
    r < resource_count i → slice_index row r ≡ use_of i a m r
used_here r same is within = (rw same at is).each r within

pub between_here : {i j : Tables} {a0 b0 a : List Machine} {m : ℕ} (r : ℕ) {row : List ℕ} → j ≡ i → b0 ≡ a0 →
    IsTransientRow j b0 a m row → r < resource_count i → slice_index row r ≡ transient_of i a0 a m r
between_here r same start is within = (rw (same, start) at is).each r within
