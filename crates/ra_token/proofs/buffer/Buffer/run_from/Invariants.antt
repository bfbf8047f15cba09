use Rattle.std.proofs.Common.{◌+◌, ◌-◌}
use Rattle.ra_token.specs.declared.answers.TheConstants.{PLACE_LIMIT}
use Rattle.ra_token.proofs.Scanning.{KeepsFiles, PassesDigits}
use Rattle.ra_token.proofs.buffer.Buffer.run_from.Given as goal

abbrev pub invariant-loop-byte : goal.invariant-loop-byte
invariant-loop-byte g l =
    PassesDigits (g.F.Files.held l.initial.files l.name) (g.F.Files.held l.files l.name) l.self l.first l.end l.value
    × KeepsFiles (g.F.Files.held l.initial.files) (g.F.Files.held l.files) (g.F.Files.faults l.initial.files)
    (g.F.Files.faults l.files)

abbrev pub decreases-loop-byte : goal.decreases-loop-byte
decreases-loop-byte g l = PLACE_LIMIT + 1 - l.end
