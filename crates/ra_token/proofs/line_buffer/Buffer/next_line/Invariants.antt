use Rattle.std.proofs.Common.{◌≡◌, ◌+◌, ◌-◌, ◌≤◌, length, IfSome}
use Rattle.ra_token.specs.Buffers.{ready_of}
use Rattle.ra_token.proofs.ReadingLaws.{KeepsFiles, GaveNoEnd}
use Rattle.ra_token.proofs.line_buffer.Buffer.next_line.Given as goal

abbrev pub invariant-loop-given : goal.invariant-loop-given
invariant-loop-given g l =
    (length l.line.items ≡ length l.initial.line.items + l.given)
    × (l.line.room ≡ l.initial.line.room)
    × (l.given ≤ l.room + 1)
    × IfSome (g.F.Files.held l.initial.files l.name)
    (λ bytes. GaveNoEnd bytes l.place l.given l.initial.line.items l.line.items (ready_of l.self))
    × KeepsFiles (g.F.Files.held l.initial.files) (g.F.Files.held l.files) (g.F.Files.faults l.initial.files)
    (g.F.Files.faults l.files)

abbrev pub decreases-loop-given : goal.decreases-loop-given
decreases-loop-given g l = l.room + 1 - l.given
