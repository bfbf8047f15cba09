-- Moved counts if a move changes those of some services.
use Rattle.std.specs.Prelude.{◌≡◌, ℕ, ◌+◌, ◌<◌, ◌≤◌, ◌≢◌, Bool, ◌==◌, List, length, slice_index, if◌then◌else◌, Option}
use Rattle.std.specs.Prelude.{Some, None, IfSome}
use Rattle.ra_base.specs.Sums.{one_if, greatest}
use Rattle.ra_base.specs.declared.costs.MovedCount.{MovedCount}
use Rattle.ra_cells.specs.MovedCounts.{MovedCounts}

-- the count of service s, if a move changes that of one service
unfoldable pub counted_after : Option MovedCount → (ℕ → ℕ) → ℕ → ℕ
counted_after None f s = f s
counted_after (Some c) f s = if s == c.service.0 then c.after else f s

-- the greatest count, if a move changes those of up to three services
unfoldable pub greatest_with : List ℕ → Option MovedCount → Option MovedCount → Option MovedCount
    → ℕ
greatest_with counts first second third =
    greatest (length counts)
    (counted_after third (counted_after second (counted_after first (slice_index counts))))

-- a change of a service's count from its present count to one within the limit
pub record IsChange (moved : MovedCounts) (c : MovedCount) : Type 0 where
  pub there : c.service.0 < length moved.counts
  pub before : slice_index moved.counts c.service.0 ≡ c.before
  pub within : c.after ≤ moved.limit

-- two changes, if both are there, are of different services
abbrev pub AreOfDifferentServices : Option MovedCount → Option MovedCount → Type 0
AreOfDifferentServices first second = IfSome first (λ c. IfSome second (λ d. c.service.0 ≢ d.service.0))

-- one if a change takes its service's count away from v, and one if a change makes it v
unfoldable pub lost_at : Option MovedCount → ℕ → ℕ
lost_at None v = 0
lost_at (Some c) v = one_if (c.before == v)

unfoldable pub gained_at : Option MovedCount → ℕ → ℕ
gained_at None v = 0
gained_at (Some c) v = one_if (c.after == v)

-- the new count of a change
unfoldable pub after_in : Option MovedCount → ℕ
after_in None = 0
after_in (Some c) = c.after

-- no service has count v once up to three counts have changed
unfoldable pub is_free : List ℕ → Option MovedCount → Option MovedCount → Option MovedCount → ℕ
    → Bool
is_free tallies first second third v =
    (slice_index tallies v + (gained_at first v + gained_at second v + gained_at third v)) ==
    (lost_at first v + lost_at second v + lost_at third v)
