use Rattle.ra_plan.proofs.RingPlaces.{place_on, place_round}
use Rattle.ra_plan.proofs.marks.place_from.Goals as goal

pub returns-then-at-first : goal.returns-then-at-first
returns-then-at-first c k below =
    place_on c.args.first c.args.at c.args.count k c.requires.first c.requires.at below c.if-at-first.true

pub returns-else-at-first : goal.returns-else-at-first
returns-else-at-first c k below =
    place_round c.args.first c.args.at c.args.count k c.requires.first c.requires.at below c.if-at-first.false
