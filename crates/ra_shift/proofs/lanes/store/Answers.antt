use Rattle.std.proofs.Common.{arith}
use Rattle.std.proofs.lemmas.Simd.{get_or-put_chunk_below, get_or-put_chunk_at, get_or-put_chunk_above}
use Rattle.ra_shift.proofs.lanes.store.Goals as goal

pub returns-clause-there : goal.returns-clause-there
returns-clause-there c k l =
    get_or-put_chunk_at c.args.at c.args.list.now c.args.sums k 0 (omega (arith, c.fits-sums.0)) (omega
    (arith, c.fits-sums.0))

pub returns-clause-before : goal.returns-clause-before
returns-clause-before c k l = get_or-put_chunk_below c.args.at c.args.list.now c.args.sums k 0 l

pub returns-clause-after : goal.returns-clause-after
returns-clause-after c k l =
    get_or-put_chunk_above c.args.at c.args.list.now c.args.sums k 0 (omega (arith, c.fits-sums.0, l))
