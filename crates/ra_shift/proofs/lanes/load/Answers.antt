use Rattle.std.proofs.lemmas.Simd.{length-chunk, get_or-chunk}
use Rattle.ra_shift.proofs.lanes.load.Goals as goal

pub returns : goal.returns
returns c = record {
  many = length-chunk c.args.at 16 c.args.numbers.now c.requires;
  each = λ k l. get_or-chunk c.args.at 16 c.args.numbers.now k 0 l;
}
