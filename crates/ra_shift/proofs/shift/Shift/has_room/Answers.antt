-- No resource is too much.
use Rattle.ra_shift.proofs.RoomLaws.{room_decided, not_over}
use Rattle.ra_shift.proofs.shift.Shift.has_room.Goals as goal

pub returns : goal.returns
returns c =
    room_decided c.over_capacity.result c.is_none.result c.over_capacity.ensures.some c.over_capacity.ensures.none
    (not_over c.args.self.now.world.now c.args.self.now.process.0 c.args.to.0) c.is_none.ensures
