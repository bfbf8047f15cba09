-- The machines compared are those of the process.
use Rattle.std.proofs.Common.{◌∙◌, sym, eqb}
use Rattle.ra_model.specs.Assignments.{machine_at}
use Rattle.std.proofs.lemmas.Bool.{cond-false, cond-true}
use Rattle.ra_model.specs.Numbers.{process_cost_of}
use Rattle.ra_model.specs.Costs.{process_share}
use Rattle.ra_check.proofs.ways.process_share.Goals as goal

pub returns-then-eq : goal.returns-then-eq
unfolding process_share
returns-then-eq c = sym (cond-true (eqb (machine_at c.args.a.now.items c.args.p.0)
    (machine_at c.args.a0.now.items c.args.p.0)) 0 (process_cost_of c.args.inst.now.tables c.args.p.0) (rw
    (c.machine_of.ensures, c.machine_of-2.ensures) at (sym c.eq.ensures ∙ c.if-eq.true)))

pub returns-else-eq : goal.returns-else-eq
unfolding process_share
returns-else-eq c = c.process_cost.ensures ∙ sym (cond-false (eqb (machine_at c.args.a.now.items c.args.p.0)
    (machine_at c.args.a0.now.items c.args.p.0)) 0 (process_cost_of c.args.inst.now.tables c.args.p.0) (rw
    (c.machine_of.ensures, c.machine_of-2.ensures) at (sym c.eq.ensures ∙ c.if-eq.false)))
