-- Seats of the table of a lock.
use Rattle.std.specs.Prelude.{◌≡◌, ℕ, ◌+◌, ◌*◌, ◌^◌, ◌<◌, ◌≤◌, ◌∷◌, Contains}
use Rattle.atomic_table.specs.Seated.{TableId}
use Rattle.atomic_table.specs.declared.shared.Seat.{Seat}
use Rattle.ra_turn.specs.declared.law.Key.{Key}
use Rattle.ra_turn.specs.declared.sight.Part.{Part}
use Rattle.ra_turn.specs.declared.sight.Sight.{Sight}

-- three words and one for each guard, one slot, and so few turns that no word overflows
abbrev pub IsSized : {V : Type 0} → TableId → Key V → Type 0
IsSized z key =
    (z.words ≡ 3 + key.guards) × (z.slots ≡ 1) × (key.passes * key.turns < 2 ^ 62)
    × (1 ≤ key.passes)

-- it is still the same seat of the same table
abbrev pub IsSameSeat : {S V : Type 0} → Seat S V → Seat S V → Type 0
IsSameSeat s t = (t.table_id ≡ s.table_id) × (t.id ≡ s.id)

-- a view that has every number below n
abbrev pub HasNumbersBelow : {N O : Type 0} → ℕ → Sight N O → Type 0
HasNumbersBelow {N} n v = (k : ℕ) → k < n → (p : Part N) × Contains (v.own ∷ v.joined) p × (p.number ≡ k)
