use Rattle.std.proofs.Common.{◌≡◌, [], ◌∷◌, ◌++◌, append_assoc, refl, ◌∙◌, subst}
use Rattle.ra_report.specs.Gathering.{AddsText}
use Rattle.ra_report.specs.Pieces.{joined}
use Rattle.ra_report.specs.Texts.{line_end}
use Rattle.ra_report.specs.Notes.{note_text}
use Rattle.ra_report.specs.FaultTexts.{line_said}
use Rattle.ra_report.proofs.GatheringLemmas.{adds_more}
use Rattle.ra_report.proofs.faults.add_fault.Goals as goal

pub returns : goal.returns
returns g c =
    let line = c.fault_line-line.result in
    let front = joined (line.words.now ∷ line.name.now ∷ line.behind.now ∷ []) in
    let note = note_text line.note in
    let same : front ++ (note ++ line_end) ≡ line_said line = simp append_assoc refl in
    subst (λ t. AddsText g.O.Sink.taken g.O.Sink.faults c.args.text.now c.add.new.self t)
    (same ∙ c.fault_line-line.ensures)
    (adds_more g.O.Sink.taken g.O.Sink.faults c.args.text.now c.add_pieces.new.text c.add.new.self front
    _ c.add_pieces.ensures
    (adds_more g.O.Sink.taken g.O.Sink.faults c.add_pieces.new.text c.add_note.new.text c.add.new.self note line_end
    c.add_note.ensures c.add.ensures))
