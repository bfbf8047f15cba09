use Rattle.std.proofs.Common.{rules, refl, arith, sym, ◌∙◌}
use Rattle.ra_token.proofs.BodyLaws.{count_none, count_next, count_end}
use Rattle.ra_token.proofs.line_scan.count_ends.Goals.{then-bytes-i-eq10, else-bytes-i-eq10}
use Rattle.ra_token.proofs.line_scan.count_ends.Goals as goal

pub loop-i-init : goal.loop-i-init
loop-i-init c = (sym count_none, omega arith)

pub loop-i-preserved : goal.loop-i-preserved
loop-i-preserved c =
    let few = c.loop-i.invariant.1 in
    elim c.if-bytes-i-eq10.branch [
      | then-bytes-i-eq10 w ↦ (
        w.count-is ∙ count_end c.args.bytes.now c.loop-i.i _ c.loop-i.count (search rules) refl (search rules)
            c.loop-i.invariant.0,
        omega (arith, w.count-is),
      )
      | else-bytes-i-eq10 w ↦ (
        w.count-is ∙ count_next c.args.bytes.now c.loop-i.i _ c.loop-i.count (search rules) refl (search rules)
            c.loop-i.invariant.0,
        omega (arith, w.count-is),
      )
    ]
