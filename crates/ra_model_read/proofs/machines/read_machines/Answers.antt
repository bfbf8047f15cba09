use Rattle.std.proofs.Common.{sym, subst, arith}
use Rattle.ra_model_read.specs.ModelText.{machines}
use Rattle.ra_model_read.proofs.Steps.{gives_bind, gives_more, gives_start, gives_all, refuses_first, refuses_next}
use Rattle.ra_model_read.proofs.Steps.{refuses_memory, refuses_step, refused_at_exit}
use Rattle.ra_model_read.specs.Reading.{FormatRefuses}
use Rattle.ra_model_read.proofs.Rows.{no_machines, all_machines}
use Rattle.ra_model_read.proofs.machines.read_machines.Goals as goal

pub returns-in_err-count-clause-refuses : goal.returns-in_err-count-clause-refuses
unfolding machines
returns-in_err-count-clause-refuses g c =
    refused_at_exit _ c.from_residual.ensures (refuses_first _ c.in_err-count.ensures.refuses)

pub returns-in_err-tables-clause-refuses : goal.returns-in_err-tables-clause-refuses
returns-in_err-tables-clause-refuses g c = refused_at_exit _ c.from_residual-in_err-tables.ensures
    (subst (FormatRefuses _ _ _) (sym c.in_err-tables.ensures.memory)
    (refuses_memory _ c.in_ok-count.ensures.gives.goes))

pub loop-m-init : goal.loop-m-init
loop-m-init g c = (
  gives_start _ c.in_ok-count.ensures.gives.goes.stands (no_machines _ _ _ c.in_ok-tables.ensures.none),
  c.in_ok-tables.ensures.none,
)

pub returns-in_err-read_machine-clause-refuses : goal.returns-in_err-read_machine-clause-refuses
unfolding machines
returns-in_err-read_machine-clause-refuses g c = refused_at_exit _ c.from_residual-in_err-read_machine.ensures
    (refuses_next _ c.in_ok-count.ensures.gives
    (refuses_step _ _ _ _ (omega arith) c.loop-m.invariant.0 c.in_err-read_machine.ensures.refuses))

pub loop-m-preserved : goal.loop-m-preserved
loop-m-preserved g c =
    (gives_more _ _ _ c.loop-m.invariant.0 c.in_ok-read_machine.ensures.gives, c.in_ok-read_machine.ensures.has)

pub returns-clause-gives : goal.returns-clause-gives
unfolding machines
returns-clause-gives g c =
    gives_bind _ c.in_ok-count.ensures.gives
    (gives_all _ _ _ _ c.loop-m-test.false c.loop-m.auto.m-end c.loop-m.invariant.0)

pub returns-clause-shape : goal.returns-clause-shape
returns-clause-shape g c =
    all_machines _ _ _ _ c.loop-m.invariant.1 c.loop-m-test.false c.loop-m.auto.m-end c.in_ok-count.ensures.low
