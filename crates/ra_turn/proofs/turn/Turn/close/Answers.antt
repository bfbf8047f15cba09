use Rattle.ra_turn.proofs.Closing.{comes_out, is_there}
use Rattle.ra_turn.proofs.turn.Turn.close.Goals as goal

pub unwrap-requires : goal.unwrap-requires
unwrap-requires g c =
    is_there c.args.self c.args.passes.items c.join_all-seat.result _ _ c.take-value.result c.requires.passes.0
    c.requires.passes.1 c.join_all-seat.ensures c.close_with-closed.ensures.values.2 c.take-value.ensures.value

pub returns-clause-opening : goal.returns-clause-opening
returns-clause-opening g c =
    (comes_out c.args.self c.args.passes.items c.join_all-seat.result _ _ c.take-value.result c.unwrap.result
    c.requires.passes.0 c.requires.passes.1 c.join_all-seat.ensures c.close_with-closed.ensures.values.2
    c.take-value.ensures.value c.unwrap.ensures).0

pub returns-clause-passes : goal.returns-clause-passes
returns-clause-passes g c =
    (comes_out c.args.self c.args.passes.items c.join_all-seat.result _ _ c.take-value.result c.unwrap.result
    c.requires.passes.0 c.requires.passes.1 c.join_all-seat.ensures c.close_with-closed.ensures.values.2
    c.take-value.ensures.value c.unwrap.ensures).1

pub returns-clause-authors : goal.returns-clause-authors
returns-clause-authors g c =
    (comes_out c.args.self c.args.passes.items c.join_all-seat.result _ _ c.take-value.result c.unwrap.result
    c.requires.passes.0 c.requires.passes.1 c.join_all-seat.ensures c.close_with-closed.ensures.values.2
    c.take-value.ensures.value c.unwrap.ensures).2
