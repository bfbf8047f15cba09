-- Counts of processes by service and label.
use Rattle.std.specs.Prelude.{◌≡◌, ℕ, ◌+◌, ◌==◌, ◌&&◌}
use Rattle.std.specs.BTreeMap.{get}
use Rattle.std.specs.Map.{count_at}
use Rattle.std.specs.Option.{IsSome}
use Rattle.std.specs.Ordering.{nat_cmp, ordering_then}
use Rattle.std.specs.declared.cmp.Ordering.{Ordering}
use Rattle.ra_base.specs.Sums.{one_if}
use Rattle.ra_edit.specs.declared.counts.Counts.{Counts}

-- the order of the keys: by service, then label
abbrev pub key_cmp : ℕ × ℕ → ℕ × ℕ → Ordering
key_cmp x y = ordering_then (nat_cmp x.0 y.0) (nat_cmp x.1 y.1)

-- how many processes of service s are counted at a label
abbrev pub count_in : Counts → ℕ → ℕ → ℕ
count_in counts s label = count_at (get key_cmp counts.map) (s, label)

-- to count one more of these processes takes no memory
abbrev pub HasCount : Counts → ℕ → ℕ → Type 0
HasCount counts s label = IsSome (get key_cmp counts.map (s, label))

-- one of two counts has one more process of service s at a label, and as many of each other service and at each other
-- label
abbrev pub HasOneAt : ℕ → ℕ → Counts → Counts → Type 0
HasOneAt s label low high =
    (t other : ℕ) → count_in high t other ≡ count_in low t other + one_if (s == t && label == other)
