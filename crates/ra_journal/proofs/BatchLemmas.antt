-- The entries from a place on are a part of the list.
use Rattle.std.proofs.Common.{◌≡◌, ℕ, ◌+◌, ◌-◌, min, List, length, take, drop, ap, ◌∙◌, arith, length-drop}
use Rattle.std.proofs.lemmas.List.{take_min}
use Rattle.std.specs.List.{slice_range}
use Rattle.ra_journal.specs.declared.entries.Entry.{Entry}
use Rattle.ra_journal.specs.Batches.{batch_from}

pub batch_is : (h : List Entry) (at number : ℕ) → number ≡ min 1024 (length h - at) →
    slice_range h at (at + number) ≡ batch_from h at
unfolding batch_from
batch_is h at number is =
    let few : at + number - at ≡ min 1024 (length (drop at h)) = omega (arith, length-drop at h) in
    ap (λ n. take n (drop at h)) few ∙ take_min 1024 (drop at h)
