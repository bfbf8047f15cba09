use Rattle.std.proofs.Common.{◌≡◌, ℕ, ◌+◌, ◌-◌, ◌%◌, ◌<◌, ◌≤◌, length, slice_index}
use Rattle.ra_shift.proofs.rings.copy_ring.Given as goal

-- The copy is right so far, and goes on at the place of the ring that comes next.
abbrev pub invariant-loop-done : goal.invariant-loop-done
invariant-loop-done l = record {
  within : l.done ≤ length l.copy;
  place : l.from < length l.ring;
  next : l.done < length l.copy → (l.start + l.done) % length l.ring ≡ l.from;
  each : (k : ℕ) → k < l.done → slice_index l.copy k ≡ slice_index l.ring ((l.start + k) % length l.ring);
}

abbrev pub decreases-loop-done : goal.decreases-loop-done
decreases-loop-done l = length l.copy - l.done
