-- Where a search may begin a world may stand.
use Rattle.ra_search.proofs.FoundLemmas.{begins_sound}
use Rattle.ra_search.proofs.searching.world_of.Goals as goal

pub stand_at-requires-clause-sound : goal.stand_at-requires-clause-sound
stand_at-requires-clause-sound g c =
    let b = c.args.beginning.now in
    rw c.in_ok-world.ensures
    (begins_sound b.inst.now.tables b.initial.now.items b.from.now.items b.inst.now.well_formed b.inst.now.small
    b.initial_fits b.from_fits b.from_unbroken)
