use Rattle.std.proofs.Common.{◌≡◌, [], refl, le_refl, rules}
use Rattle.ra_report.proofs.GatheringLemmas.{adds_more, moves_wait}
use Rattle.ra_report.proofs.gathered.Gathered.add_past.Goals as goal

-- it doesn't fit even then: what waits is put, and then the piece
pub returns-then-not-add : goal.returns-then-not-add
returns-then-not-add g c =
    let same : c.add.new.self ≡ c.put_waiting.new.self.waiting = search rules in
    adds_more g.O.Sink.taken g.O.Sink.faults c.args.self.now c.put_waiting.new.self c.put.new.self [] c.args.piece.now
    c.put_waiting.ensures.adds (rw same at c.put.ensures)

-- what waits is put, and the piece waits
pub returns-else-not-add : goal.returns-else-not-add
returns-else-not-add g c =
    adds_more g.O.Sink.taken g.O.Sink.faults c.args.self.now c.put_waiting.new.self (record {
      to = c.put_waiting.new.self.to;
      waiting = c.add.new.self;
      failed = c.put_waiting.new.self.failed;
    }) [] c.args.piece.now c.put_waiting.ensures.adds (refl, le_refl _, moves_wait _ _ _ _ _ _ (search rules))
