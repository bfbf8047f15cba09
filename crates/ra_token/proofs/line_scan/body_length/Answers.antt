use Rattle.std.proofs.Common.{rules, refl}
use Rattle.ra_token.proofs.BodyLaws.{no_end_none, no_end_next, body_found}
use Rattle.ra_token.proofs.line_scan.body_length.Goals as goal

pub loop-i-init : goal.loop-i-init
loop-i-init c = no_end_none

pub returns-then-bytes-i-eq10-clause-body : goal.returns-then-bytes-i-eq10-clause-body
returns-then-bytes-i-eq10-clause-body c =
    body_found c.args.bytes.now c.loop-i.i (search rules) (search rules) c.loop-i.invariant

pub loop-i-preserved : goal.loop-i-preserved
loop-i-preserved c = no_end_next c.args.bytes.now c.loop-i.i _ (search rules) refl (search rules) c.loop-i.invariant
