use Rattle.std.proofs.Common.{arith, refl}
use Rattle.ra_model_text.proofs.Chunks.{no_number, in_decimal, one_number_more, all_numbers}
use Rattle.ra_model_text.proofs.lines.write_numbers.Goals as goal

pub loop-i-init : goal.loop-i-init
loop-i-init c = no_number c.clear.new.self c.args.numbers.now _ c.clear.ensures refl

pub loop-i-preserved : goal.loop-i-preserved
loop-i-preserved c =
    let word = in_decimal c.prepend_marked.ensures (omega arith) in
    one_number_more c.args.numbers.now _ c.loop-i.i (omega arith) (omega arith) c.loop-i.invariant word

pub returns : goal.returns
returns c = all_numbers c.args.numbers.now c.loop-i.i (omega arith) c.loop-i.invariant
