use Rattle.std.proofs.Common.{◌∙◌}
use Rattle.plain.proofs.Standing.{move_at, stands_at, entry_planned}
use Rattle.plain.proofs.search.is_legal.Goals as goal

pub is_untouched-requires-clause-known : goal.is_untouched-requires-clause-known
is_untouched-requires-clause-known c =
    let planned = c.is_same_move.ensures.0 c.if-not-is_same_move.false ∙ c.plan-planned.ensures.planned in
    (move_at _ _ c.args.j c.entry-e.result.now c.args.inst.now.well_formed c.requires.fits c.requires.before
    (c.is_placed.ensures.0 c.if-not-is_placed.false).place planned).known

pub is_untouched-requires-clause-all_known : goal.is_untouched-requires-clause-all_known
is_untouched-requires-clause-all_known c =
    λ n before. (entry_planned _ _ c.args.j n c.args.inst.now.well_formed c.requires.fits c.requires.before
    before).known

pub judge-verdict-requires-clause-stands : goal.judge-verdict-requires-clause-stands
judge-verdict-requires-clause-stands c =
    let planned = c.is_same_move.ensures.0 c.if-not-is_same_move.false ∙ c.plan-planned.ensures.planned in
    let place = (c.is_placed.ensures.0 c.if-not-is_placed.false).place in
    stands_at _ _ c.args.j c.entry-e.result.now c.args.inst.now.well_formed c.requires.fits c.requires.before place
    (c.is_untouched.ensures.0 c.if-not-is_untouched.false)
    (move_at _ _ c.args.j c.entry-e.result.now c.args.inst.now.well_formed c.requires.fits c.requires.before
    place planned).stands

pub judge-verdict-requires-clause-reaches : goal.judge-verdict-requires-clause-reaches
judge-verdict-requires-clause-reaches c =
    let planned = c.is_same_move.ensures.0 c.if-not-is_same_move.false ∙ c.plan-planned.ensures.planned in
    (move_at _ _ c.args.j c.entry-e.result.now c.args.inst.now.well_formed c.requires.fits c.requires.before
    (c.is_placed.ensures.0 c.if-not-is_placed.false).place planned).reaches.each
