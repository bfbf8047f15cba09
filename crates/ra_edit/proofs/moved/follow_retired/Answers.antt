-- The counts after the change are those after the edit.
use Rattle.ra_edit.proofs.MovedLaws.{followed_one, followed_none}
use Rattle.ra_edit.proofs.moved.follow_retired.Goals as goal

pub change-requires : goal.change-requires
change-requires c =
    let is = rw c.in-Some.is at c.change_without.ensures.change in
    record { there = is.there; within = is.within }

pub returns-in-Some : goal.returns-in-Some
returns-in-Some c = λ e gone.
    followed_one c.in-Some.change
    c.requires.moved gone (rw c.in-Some.is at c.change_without.ensures.change).there c.change.ensures.counts
    (rw c.in-Some.is at (c.change_without.ensures.counts e gone))

pub returns-in_default : goal.returns-in_default
returns-in_default c = λ e gone.
    followed_none c.requires.moved gone (rw c.in_default.is at (c.change_without.ensures.counts e gone))
