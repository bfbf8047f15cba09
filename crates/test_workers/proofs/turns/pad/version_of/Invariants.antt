use Rattle.std.proofs.Common.{◌==◌, ◌+◌, take}
use Rattle.test_workers.specs.declared.turns.pad.Line.{Line}
use Rattle.ra_turn.specs.Notes.{IsVersion}
use Rattle.test_workers.proofs.turns.pad.version_of.Given as goal

abbrev pub invariant-loop-place : goal.invariant-loop-place
invariant-loop-place l = IsVersion (λ (line : Line). line.touched == l.guard + 1) (take l.place l.lines) l.version
