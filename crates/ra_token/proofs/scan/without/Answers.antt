use Rattle.std.proofs.Common.{w64}
use Rattle.std.proofs.lemmas.Nat.Bits.{bit_at_clear_same, bit_at_clear_other}
use Rattle.ra_token.proofs.scan.without.Goals as goal

pub returns-clause-gone : goal.returns-clause-gone
returns-clause-gone c = bit_at_clear_same w64 c.args.bits c.args.bit c.requires

pub returns-clause-kept : goal.returns-clause-kept
returns-clause-kept c k l apart = bit_at_clear_other w64 c.args.bits c.args.bit c.requires k l apart
