use Rattle.std.proofs.Common.{◌≡◌, ◌+◌, ◌-◌, ◌≤◌, length, IfSome}
use Rattle.ra_token.specs.Reads.{Reads}
use Rattle.ra_token.specs.Values.{AddsValues}
use Rattle.ra_token.proofs.Scanning.{KeepsFiles}
use Rattle.ra_token.proofs.reader.Tokens.next_values.Given as goal

abbrev pub invariant-loop-taken : goal.invariant-loop-taken
invariant-loop-taken g l =
    Reads (g.F.Files.held l.files l.self.name) l.self
    × (l.self.name ≡ l.initial.self.name)
    × (length l.values.items ≡ length l.initial.values.items + l.taken)
    × (l.taken ≤ l.count)
    × (l.values.room ≡ l.initial.values.room)
    × IfSome (g.F.Files.held l.initial.files l.initial.self.name)
    (λ bytes. AddsValues bytes l.initial.self.place l.self.place l.taken l.initial.values.items l.values.items)
    × KeepsFiles (g.F.Files.held l.initial.files) (g.F.Files.held l.files) (g.F.Files.faults l.initial.files)
    (g.F.Files.faults l.files)

abbrev pub decreases-loop-taken : goal.decreases-loop-taken
decreases-loop-taken g l = l.count - l.taken
