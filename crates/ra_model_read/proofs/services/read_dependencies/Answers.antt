use Rattle.std.proofs.Common.{sym, ap, arith, length-append}
use Rattle.ra_model_read.specs.Formats.{pure}
use Rattle.ra_model_read.specs.ModelText.{dependency}
use Rattle.ra_model_read.proofs.Steps.{gives_none, gives_more, gives_then, refuses_first, refuses_step, refused_at_exit}
use Rattle.ra_model_read.proofs.Rows.{has_dependency}
use Rattle.ra_model_read.proofs.services.read_dependencies.Goals as goal

pub read_field-requires : goal.read_field-requires
read_field-requires g c = c.loop-k.invariant.0.goes.stands

pub loop-k-init : goal.loop-k-init
loop-k-init g c = (gives_none _ _ _ c.requires.stands, omega arith, c.requires.has)

pub returns-in_err-needed-clause-refuses : goal.returns-in_err-needed-clause-refuses
unfolding dependency
returns-in_err-needed-clause-refuses g c =
    refused_at_exit _ c.from_residual.ensures
    (refuses_step _ _ _ _ (omega arith) c.loop-k.invariant.0
    (refuses_first _ (rw c.len-first.ensures.value at c.in_err-needed.ensures.refuses)))

pub loop-k-preserved : goal.loop-k-preserved
unfolding dependency
loop-k-preserved g c = (
  gives_more _ _ _ c.loop-k.invariant.0
      (gives_then _ (rw c.len-first.ensures.value at c.in_ok-needed.ensures.gives)
      (ap pure (sym c.push.ensures.items))),
  grind (arith, length-append),
  has_dependency _ _ _ _ c.loop-k.invariant.2 c.push.ensures.items c.push.ensures.room
      (omega (arith, c.loop-k.invariant.1, c.loop-k-test.true, c.requires.room, c.requires.has.room))
      (omega (arith, c.in_ok-needed.ensures.high, c.requires.some)),
)
