-- The words one after another, up to how `++` groups.
use Rattle.std.proofs.Common.{◌∷◌, ◌++◌, append_assoc}
use Rattle.ra_report.specs.Texts.{number_text}
use Rattle.ra_report.proofs.GatheringLemmas.{adds_more}
use Rattle.ra_report.proofs.texts.add_four.Goals as goal

pub returns : goal.returns
returns g c = simp append_assoc
    (adds_more g.O.Sink.taken g.O.Sink.faults c.args.text.now c.add.new.self c.add_marked-4.new.text c.args.word.now
    ((32 ∷ number_text c.args.a) ++
    ((32 ∷ number_text c.args.b) ++ ((32 ∷ number_text c.args.c) ++ (32 ∷ number_text c.args.d))))
    (rw c.as_bytes.ensures.value at c.add.ensures)
    (adds_more g.O.Sink.taken g.O.Sink.faults c.add.new.self c.add_marked.new.text c.add_marked-4.new.text
    _
    ((32 ∷ number_text c.args.b) ++ ((32 ∷ number_text c.args.c) ++ (32 ∷ number_text c.args.d)))
    c.add_marked.ensures
    (adds_more g.O.Sink.taken g.O.Sink.faults c.add_marked.new.text c.add_marked-2.new.text c.add_marked-4.new.text
    _ ((32 ∷ number_text c.args.c) ++ (32 ∷ number_text c.args.d))
    c.add_marked-2.ensures
    (adds_more g.O.Sink.taken g.O.Sink.faults c.add_marked-2.new.text c.add_marked-3.new.text c.add_marked-4.new.text
    _ _ c.add_marked-3.ensures
    c.add_marked-4.ensures))))
