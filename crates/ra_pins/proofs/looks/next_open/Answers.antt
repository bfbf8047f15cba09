-- One place more, and the two ends.
use Rattle.std.proofs.Common.{◌≤◌, ◌∙◌, sym, Bool, List, ℕ, arith}
use Rattle.ra_base.specs.declared.ids.Machine.{Machine}
use Rattle.ra_pins.proofs.WalkLemmas.{blocked_read, behind_more, walk_found}
use Rattle.ra_pins.proofs.looks.next_open.Goals as goal

pub loop-place-preserved : goal.loop-place-preserved
loop-place-preserved g c = λ (a0 : List Machine) (flags : List Bool) at kept stamped (j : ℕ) from_on before.
    behind_more c.args.inst.now.tables a0 flags c.args.p.0 c.args.from c.loop-place.place j
    (c.loop-place.invariant a0 flags at kept stamped)
    (sym (blocked_read c.args.inst.now.tables a0 flags c.args.p.0 c.args.home.0 c.loop-place.place c.spot.result.0
    c.machines-machines.result c.is_blocked.result (c.is_blocked.ensures a0 flags kept stamped)
    c.spot.ensures.value c.machines-machines.ensures at) ∙ c.if-not-is_blocked.false)
    from_on before

pub returns-then-not-is_blocked-clause-walk : goal.returns-then-not-is_blocked-clause-walk
returns-then-not-is_blocked-clause-walk g c = λ (a0 : List Machine) (flags : List Bool) at kept stamped.
    let onward : c.args.from ≤ c.loop-place.place = omega (arith, c.loop-place.auto.place) in
    walk_found c.args.inst.now.tables a0 flags c.args.p.0 c.args.from c.loop-place.place onward
    (omega (arith, c.machines-machines.ensures))
    (c.loop-place.invariant a0 flags at kept stamped)
    (sym (blocked_read c.args.inst.now.tables a0 flags c.args.p.0 c.args.home.0 c.loop-place.place c.spot.result.0
    c.machines-machines.result c.is_blocked.result (c.is_blocked.ensures a0 flags kept stamped)
    c.spot.ensures.value c.machines-machines.ensures at) ∙ c.if-not-is_blocked.true)
