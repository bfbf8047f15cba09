-- The three tests are those of the definition.
use Rattle.std.proofs.Common.{◌∙◌, sym, List, Bool}
use Rattle.ra_base.specs.declared.ids.Machine.{Machine}
use Rattle.ra_pins.proofs.TableLemmas.{blocked_shut, blocked_full, blocked_open}
use Rattle.ra_pins.proofs.blocked.is_blocked.Goals as goal

pub returns-then-closed : goal.returns-then-closed
returns-then-closed g c = λ (a0 : List Machine) (flags : List Bool) kept stamped.
    sym (blocked_shut c.args.inst.now.tables a0 _ c.args.kept.now.items c.args.p.0 c.args.m.0 kept
    (sym c.closed.ensures ∙ c.if-closed.true))

pub returns-then-is_overfull : goal.returns-then-is_overfull
returns-then-is_overfull g c = λ (a0 : List Machine) (flags : List Bool) kept stamped.
    sym (blocked_full c.args.inst.now.tables a0 _ c.args.kept.now.items c.args.p.0 c.args.m.0 kept
    (sym c.is_overfull.ensures ∙ c.if-is_overfull.true))

pub returns : goal.returns
returns g c = λ (a0 : List Machine) (flags : List Bool) kept stamped.
    c.has_mark.ensures a0 flags c.requires.machine stamped
    ∙ sym (blocked_open c.args.inst.now.tables a0 _ c.args.kept.now.items c.args.p.0 c.args.m.0 c.args.s.0
    kept (sym c.closed.ensures ∙ c.if-closed.false) (sym c.is_overfull.ensures ∙ c.if-is_overfull.false)
    c.requires.service)
