-- No resource is too much.
use Rattle.ra_shift.proofs.RoomLaws.{room_decided, not_over_between}
use Rattle.ra_shift.proofs.shift.Shift.has_room_between.Goals as goal

pub returns : goal.returns
returns c =
    room_decided c.over_between.result c.is_none.result c.over_between.ensures.some c.over_between.ensures.none
    (not_over_between c.args.self.now.world.now c.args.self.now.process.0 c.args.to.0) c.is_none.ensures
