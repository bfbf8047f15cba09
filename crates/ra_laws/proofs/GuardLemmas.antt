-- The guards of a move are untouched exactly if the move is apart from all that was made since.
use Rattle.ra_laws.specs.GuardLaws.{UntouchedIsApart}
use Rattle.ra_guards.proofs.TouchLemmas.{apart_from_untouched, untouched_from_apart}

pub untouched_is_apart : UntouchedIsApart
untouched_is_apart i made q n steps = (apart_from_untouched i made q n steps, untouched_from_apart i made q n steps)
