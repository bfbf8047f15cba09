use Rattle.std.proofs.Common.{take}
use Rattle.ra_report.specs.Gathering.{AddsText}
use Rattle.ra_report.specs.Pieces.{bytes_of}
use Rattle.ra_report.proofs.pieces.add_pieces.Given as goal

abbrev pub invariant-loop-piece : goal.invariant-loop-piece
invariant-loop-piece g l =
    AddsText g.O.Sink.taken g.O.Sink.faults l.initial.text l.text (bytes_of (take l.piece-index l.pieces))
