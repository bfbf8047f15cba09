use Rattle.ra_moves.proofs.ChangedCounts.{counts_changed}
use Rattle.ra_moves.proofs.counts.change_counts.Goals as goal

pub returns-clause-counts : goal.returns-clause-counts
returns-clause-counts c = λ st steps move none is before.
    let first = c.change_count.ensures in
    let second = c.change_count-2.ensures in
    let third = c.change_count-3.ensures in
    counts_changed st steps c.args.greatest.now c.change_count.new.greatest c.change_count-2.new.greatest
    c.change_count-3.new.greatest c.args.weighed.now move none is
    (record { counts = first.counts; same_length = first.length; limit = first.limit })
    (record { counts = second.counts; same_length = second.length; limit = second.limit })
    (record { counts = third.counts; same_length = third.length; limit = third.limit })
    before
