-- The process is blocked from each place so far.
use Rattle.std.proofs.Common.{◌≡◌, ◌<◌, ◌≤◌, ℕ, true, Bool, List}
use Rattle.ra_base.specs.declared.ids.Machine.{Machine}
use Rattle.ra_model.specs.Assignments.{machine_at}
use Rattle.ra_pins.specs.PinLists.{flag_at}
use Rattle.ra_pins.specs.Loads.{AreKept}
use Rattle.ra_pins.specs.Marks.{AreFlaggedMarked}
use Rattle.ra_pins.specs.Walks.{blocked_at}
use Rattle.ra_pins.proofs.looks.next_open.Given as goal

abbrev pub invariant-loop-place : goal.invariant-loop-place
invariant-loop-place g l = (a0 : List Machine) (flags : List Bool) → machine_at a0 l.p.0 ≡ l.home.0 →
    AreKept l.inst.tables a0 (flag_at flags) l.kept.items →
    AreFlaggedMarked l.inst.tables a0 flags l.s.0 l.marks.items → (j : ℕ) → l.from ≤ j → j < l.place →
    blocked_at l.inst.tables a0 flags l.p.0 j ≡ true
