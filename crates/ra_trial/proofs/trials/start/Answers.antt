use Rattle.std.proofs.Common.{refl, sym, arith, ap, ◌∙◌, length, length-append}
use Rattle.ra_base.specs.declared.ids.Machine.{Machine}
use Rattle.ra_trial.specs.Numbers.{trial_start_of}
use Rattle.ra_trial.specs.Trials.{start_machine}
use Rattle.ra_trial.proofs.LineLemmas.{listed_none, listed_pushed}
use Rattle.ra_trial.proofs.trials.start.Goals as goal

pub loop-p-init : goal.loop-p-init
loop-p-init c = record {
  items = c.in_ok-machines.ensures.items ∙ sym (listed_none start_machine);
  many = ap length c.in_ok-machines.ensures.items;
  room = c.in_ok-machines.ensures.room;
}

pub loop-p-preserved : goal.loop-p-preserved
unfolding start_machine trial_start_of
loop-p-preserved c = record {
  items = listed_pushed _ _ c.loop-p.invariant.items refl c.push.ensures.items;
  many = omega (arith, ap length c.push.ensures.items, length-append {A = Machine});
  room = c.push.ensures.room ∙ c.loop-p.invariant.room;
}
