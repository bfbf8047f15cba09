use Rattle.std.proofs.Common.{refl}
use Rattle.std.proofs.lemmas.Simd.{get_or-replicate}
use Rattle.ra_token.proofs.short.zeros.Goals as goal

pub returns : goal.returns
returns c = record { many = refl; each = λ k l. get_or-replicate 64 k 48 0 l }
