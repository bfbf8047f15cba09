-- Marks of the sums that are at most the limit.
use Rattle.std.proofs.Common.{arith, refl}
use Rattle.std.proofs.lemmas.Option.{IfSome_then}
use Rattle.ra_shift.specs.Arriving.{cost_added, cost_taken}
use Rattle.ra_shift.proofs.LaneLaws.{marked, none_marked}
use Rattle.ra_shift.proofs.shift.Shift.marks_by.Goals as goal

pub returns-then-room-eq0 : goal.returns-then-room-eq0
returns-then-room-eq0 c =
    let shift = c.args.self.now in
    let w = shift.world.now in
    let p = shift.process.0 in
    none_marked w p c.args.first c.args.bound (cost_taken w p) (cost_added w p) c.room_below-room.result _ shift.sound
    shift.process_known refl refl c.room_below-room.ensures c.if-room-eq0.true

pub returns : goal.returns
returns c =
    let shift = c.args.self.now in
    let w = shift.world.now in
    let p = shift.process.0 in
    IfSome_then c.sums_from.result c.sums_from.ensures
    (λ marks are. marked w p c.args.first c.args.bound (cost_taken w p) (cost_added w p) c.room_below-room.result
    c.limit_below-limit.result marks _ shift.sound shift.process_known refl refl c.room_below-room.ensures
    (omega (arith, c.if-room-eq0.false)) c.limit_below-limit.ensures are)
