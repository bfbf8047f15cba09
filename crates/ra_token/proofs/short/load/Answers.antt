use Rattle.std.proofs.lemmas.Simd.{length-chunk, get_or-chunk}
use Rattle.ra_token.proofs.short.load.Goals as goal

pub returns : goal.returns
returns c = record {
  many = length-chunk c.args.from 64 c.args.bytes.now c.requires;
  each = λ k l. get_or-chunk c.args.from 64 c.args.bytes.now k 0 l;
}
