-- The first k edits were read.
use Rattle.std.proofs.Common.{◌≡◌, ◌*◌, length}
use Rattle.ra_model.specs.Numbers.{resource_count}
use Rattle.ra_token.specs.Moments.{here, Went}
use Rattle.ra_edit_read.specs.EditLists.{AllFit}
use Rattle.ra_edit_read.specs.Reading.{HasTakenEdits}
use Rattle.ra_edit_read.proofs.reading.read_all.Given as goal

abbrev pub invariant-loop-k : goal.invariant-loop-k
invariant-loop-k g l = record {
  went : Went (λ bytes before after. HasTakenEdits bytes l.inst.tables after l.k l.edits.items l.requirements.items)
      (here (g.F.Files.held l.initial.files) (g.F.Files.faults l.initial.files) l.initial.tokens)
      (here (g.F.Files.held l.files) (g.F.Files.faults l.files) l.tokens);
  size : length l.edits.items ≡ l.k;
  rows : length l.requirements.items ≡ l.k * resource_count l.inst.tables;
  edits_room : l.edits.room ≡ l.initial.edits.room;
  room : l.requirements.room ≡ l.initial.requirements.room;
  fits : AllFit l.inst.tables l.edits.items;
}
