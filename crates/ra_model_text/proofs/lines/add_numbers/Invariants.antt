use Rattle.std.proofs.Common.{◌≡◌}
use Rattle.std.specs.Slice.Iter.{chunks_rest, chunks_size}
use Rattle.ra_model_text.specs.declared.lines.TheConstants.{NUMBERS_AT_ONCE}
use Rattle.ra_model_text.proofs.Chunks.{Reached}
use Rattle.ra_model_text.proofs.lines.add_numbers.Given as goal

abbrev pub invariant-loop-chunk : goal.invariant-loop-chunk
invariant-loop-chunk g l = record {
  next : (goal.iterator-loop-chunk g).can_next l.chunk-iterator;
  finite : (goal.iterator-loop-chunk g).is_finite l.chunk-iterator;
  size : chunks_size l.chunk-iterator ≡ NUMBERS_AT_ONCE;
  reached : Reached g.O.Sink.taken g.O.Sink.faults l.fn.numbers (chunks_rest l.chunk-iterator) l.fn.text l.text;
}
