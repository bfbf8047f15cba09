-- The first columns have grown.
use Rattle.ra_model.specs.Numbers.{resource_count}
use Rattle.ra_rows.proofs.ChangeLemmas.{Part, share_at, no_share}
use Rattle.ra_rows.proofs.sums.add_row.Given as goal

abbrev pub invariant-loop-r : goal.invariant-loop-r
invariant-loop-r g l = Part (resource_count l.inst.tables) l.r no_share (share_at l.inst.tables l.p.0 l.at.0)
    l.initial.table.items l.table.items
