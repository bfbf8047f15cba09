-- The two resources of this objective exist.
use Rattle.std.proofs.Common.{◌<◌, length, arith, below_more}
use Rattle.ra_model.specs.Numbers.{resource_count, balance_count}
use Rattle.ra_model.proofs.RawLemmas.{first_at, second_at}
use Rattle.ra_model.proofs.fits.resources_exist.Goals as goal
use Rattle.ra_model.proofs.fits.resources_exist.Goals.{then-row-len-via-then-row-len}
use Rattle.ra_model.proofs.fits.resources_exist.Goals.{then-row-len-via-else-row-len+then-row-len-2}

pub loop-b-preserved : goal.loop-b-preserved
unfolding resource_count
loop-b-preserved c =
    let raw = c.args.raw.now in
    let at : c.loop-b.b < length raw.balances.items = omega arith in
    record {
      firsts = below_more _ _ c.loop-b.invariant.firsts
          (omega (arith, first_at raw c.loop-b.b c.get-row.result at c.get-row.ensures));
      seconds = below_more _ _ c.loop-b.invariant.seconds
          (omega (arith, second_at raw c.loop-b.b c.get-row.result at c.get-row.ensures));
    }

pub returns-clause-firsts : goal.returns-clause-firsts
unfolding balance_count
returns-clause-firsts c = λ _ b h. c.loop-b.invariant.firsts b (omega arith)

pub returns-clause-seconds : goal.returns-clause-seconds
unfolding balance_count
returns-clause-seconds c = λ _ b h. c.loop-b.invariant.seconds b (omega arith)

pub returns-then-row-len-clause-only : goal.returns-then-row-len-clause-only
unfolding resource_count balance_count
returns-then-row-len-clause-only c = λ w.
    let raw = c.args.raw.now in
    let at : c.loop-b.b < length raw.balances.items = omega arith in
    elim c.then-row-len.branch [
      | then-row-len-via-then-row-len via ↦
          absurd (omega (
            arith,
            via.if-row-len,
            w.firsts c.loop-b.b at,
            first_at raw c.loop-b.b c.get-row.result at c.get-row.ensures,
          ))
      | then-row-len-via-else-row-len+then-row-len-2 via ↦
          absurd (omega (
            arith,
            via.if-row-len-2,
            via.len-else-row-len.ensures,
            w.seconds c.loop-b.b at,
            second_at raw c.loop-b.b c.get-row.result at c.get-row.ensures,
          ))
    ]
