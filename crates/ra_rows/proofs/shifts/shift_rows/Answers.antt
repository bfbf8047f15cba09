-- One more column of both tables has changed.
use Rattle.std.proofs.Common.{◌≡◌, List, arith}
use Rattle.ra_base.specs.declared.ids.Machine.{Machine}
use Rattle.ra_model.specs.Numbers.{resource_count}
use Rattle.ra_rows.proofs.ChangeLemmas.{part_moves, part_beside, shifts_use, shifts_transient}
use Rattle.ra_rows.proofs.shifts.shift_rows.Goals as goal

pub loop-r-preserved : goal.loop-r-preserved
loop-r-preserved g c =
    let i = c.args.inst.now.tables in
    record {
      used = part_moves i c.resources-width.result c.args.p.0 c.args.from.0 c.args.to.0 c.loop-r.r
          c.requirement-amount.result c.args.used.now.items c.loop-r.used.items c.move_amount.new.table.items
          c.resources-width.ensures c.loop-r-test.true c.requirement-amount.ensures.value c.loop-r.invariant.used
          c.move_amount.ensures;
      between = part_beside i c.resources-width.result c.args.p.0 c.args.home.0 c.args.from.0 c.args.to.0 c.loop-r.r
          c.requirement-amount.result c.args.between.now.items c.loop-r.between.items c.move_beside_home.new.table.items
          c.resources-width.ensures c.loop-r-test.true c.requirement-amount.ensures.value c.loop-r.invariant.between
          c.move_beside_home.ensures;
      counted = omega (arith, c.loop-r.invariant.counted, c.requirement-amount.ensures.counted);
    }

pub returns-clause-used : goal.returns-clause-used
returns-clause-used g c =
    let all : c.loop-r.r ≡ resource_count c.args.inst.now.tables =
    omega (arith, c.resources-width.ensures, c.loop-r-test.false, c.loop-r.auto.r-end) in
    shifts_use c.args.inst.now.tables c.args.p.0 c.args.from.0 c.args.to.0 c.loop-r.r c.args.used.now.items
    c.loop-r.used.items all c.loop-r.invariant.used

pub returns-clause-between : goal.returns-clause-between
returns-clause-between g c = λ (a0 : List Machine) is.
    let all : c.loop-r.r ≡ resource_count c.args.inst.now.tables =
    omega (arith, c.resources-width.ensures, c.loop-r-test.false, c.loop-r.auto.r-end) in
    shifts_transient c.args.inst.now.tables a0 c.args.p.0 c.args.home.0 c.args.from.0 c.args.to.0 c.loop-r.r
    c.args.between.now.items c.loop-r.between.items all is c.loop-r.invariant.between
