-- The first columns have changed.
use Rattle.std.proofs.Common.{◌≡◌, ◌+◌}
use Rattle.ra_model.specs.Numbers.{resource_count}
use Rattle.ra_rows.proofs.ChangeLemmas.{Part, share_at, share_away}
use Rattle.ra_rows.proofs.shifts.shift_rows.Given as goal

abbrev pub invariant-loop-r : goal.invariant-loop-r
invariant-loop-r g l = record {
  used : Part (resource_count l.inst.tables) l.r (share_at l.inst.tables l.p.0 l.from.0)
      (share_at l.inst.tables l.p.0 l.to.0) l.initial.used.items l.used.items;
  between : Part (resource_count l.inst.tables) l.r (share_away l.inst.tables l.p.0 l.home.0 l.from.0)
      (share_away l.inst.tables l.p.0 l.home.0 l.to.0) l.initial.between.items l.between.items;
  counted : l.steps ≡ l.initial.steps + l.r;
}
