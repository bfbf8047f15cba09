use Rattle.std.proofs.Common.{◌∙◌, rules}
use Rattle.std.proofs.lemmas.List.{nil_from_length}
use Rattle.std.specs.Slice.Iter.{chunks_rest}
use Rattle.ra_model_text.proofs.Chunks.{no_chunk, chunk_more, all_chunks}
use Rattle.ra_model_text.proofs.lines.add_numbers.Goals as goal

pub loop-chunk-init : goal.loop-chunk-init
loop-chunk-init g c = record {
  next = search rules;
  finite = tt;
  size = search rules;
  reached = no_chunk g.O.Sink.taken g.O.Sink.faults c.args.numbers.now _ c.args.text.now (search rules);
}

pub loop-chunk-preserved : goal.loop-chunk-preserved
loop-chunk-preserved g c =
    let steps = c.in-Some.ensures.steps in
    record {
      next = search rules;
      finite = tt;
      size = steps.0 ∙ c.loop-chunk.invariant.size;
      reached = chunk_more g.O.Sink.taken g.O.Sink.faults c.args.numbers.now c.in-Some.chunk.now _
          (chunks_rest c.next.new.self) c.args.text.now c.loop-chunk.text c.add.new.self steps.1.0
          c.loop-chunk.invariant.reached (rw (c.as_slice.ensures, c.write_numbers.ensures) at c.add.ensures);
    }

pub returns : goal.returns
returns g c = all_chunks g.O.Sink.taken g.O.Sink.faults c.args.numbers.now _ c.args.text.now c.loop-chunk.text
    (nil_from_length _ c.in-None.ensures.steps.1.0) c.loop-chunk.invariant.reached
