use Rattle.std.proofs.Common.{arith}
use Rattle.ra_token.proofs.Lanes.{byte_below}
use Rattle.ra_token.proofs.short.joined.Goals as goal

pub returns : goal.returns
returns c = record {
  many = c.plus.ensures.many;
  each = λ k l.
      omega (
        arith,
        c.plus.ensures.each k l,
        c.plus-low.ensures.each k l,
        c.widened.ensures.each k l,
        c.times.ensures.each k l,
        c.widened-2.ensures.each k l,
        c.times-2.ensures.each k l,
        c.widened-3.ensures.each k l,
        byte_below c.args.ones k c.fits-ones.0 l c.fits-ones.1,
        byte_below c.args.tens k c.fits-tens.0 l c.fits-tens.1,
        byte_below c.args.hundreds k c.fits-hundreds.0 l c.fits-hundreds.1,
      );
}
