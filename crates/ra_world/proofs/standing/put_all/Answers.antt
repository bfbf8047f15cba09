-- One process after another.
use Rattle.std.proofs.Common.{◌≡◌, sym, refl, ◌∙◌, arith}
use Rattle.ra_model.specs.Numbers.{process_count}
use Rattle.ra_world.proofs.StandingLaws.{by_rows, moves_nothing, moves_on, agree_on, agree_all, read_more, differing_none}
use Rattle.ra_world.proofs.standing.put_all.Goals as goal

pub loop-p-init : goal.loop-p-init
loop-p-init g c = record {
  moves = moves_nothing c.args.kept.now (by_rows c.args.kept.now _ _ _ c.requires.stand);
  agree = record {
    as_many = c.requires.stand.fits.one_each ∙ sym c.requires.fits.one_each;
    each = λ p below. absurd (omega arith);
    others = λ p above. refl;
  };
  counted = rw (differing_none c.args.kept.now.assignment.items c.args.list.now.items) (omega arith);
}

pub machine_of-to-requires : goal.machine_of-to-requires
machine_of-to-requires g c = omega (arith, c.requires.fits.one_each, c.processes-p-end.ensures, c.loop-p-test.true)

pub put_unless_there-requires-clause-stand : goal.put_unless_there-requires-clause-stand
put_unless_there-requires-clause-stand g c = by_rows c.loop-p.kept _ _ _ c.loop-p.invariant.moves.stand

pub put_unless_there-requires-clause-process : goal.put_unless_there-requires-clause-process
put_unless_there-requires-clause-process g c =
    rw (c.loop-p.invariant.moves.stand.instance, c.requires.stand.instance)
    (omega (arith, c.processes-p-end.ensures, c.loop-p-test.true))

pub put_unless_there-requires-clause-to : goal.put_unless_there-requires-clause-to
put_unless_there-requires-clause-to g c =
    rw (c.loop-p.invariant.moves.stand.instance, c.requires.stand.instance)
    (omega (
      arith,
      c.machine_of-to.ensures,
      c.requires.fits.in_range c.loop-p.p (omega (arith, c.processes-p-end.ensures, c.loop-p-test.true)),
    ))

pub loop-p-preserved : goal.loop-p-preserved
loop-p-preserved g c =
    let tables : c.loop-p.kept.rows.tables ≡ c.args.inst.now.tables =
    c.loop-p.invariant.moves.stand.instance ∙ c.requires.stand.instance in
    record {
      moves = moves_on _ _ _ c.loop-p.invariant.moves c.put_unless_there.ensures.moves;
      agree = agree_on _ _ _ _ c.loop-p.p _ c.loop-p.invariant.agree
          (omega (arith, c.requires.fits.one_each, c.processes-p-end.ensures, c.loop-p-test.true))
          c.machine_of-to.ensures c.put_unless_there.ensures.assignment;
      counted = read_more _ c.args.list.now.items _ c.loop-p.p _ _ _ c.loop-p.invariant.counted
          (c.loop-p.invariant.agree.others c.loop-p.p (omega arith)) c.machine_of-to.ensures
          (rw tables at c.put_unless_there.ensures.counted);
    }

pub returns-clause-assignment : goal.returns-clause-assignment
returns-clause-assignment g c =
    agree_all _ _ _ c.loop-p.p
    (omega (arith, c.requires.fits.one_each, c.processes-p-end.ensures, c.loop-p-test.false)) c.loop-p.invariant.agree

pub returns-clause-counted : goal.returns-clause-counted
returns-clause-counted g c =
    let all : c.loop-p.p ≡ process_count c.args.inst.now.tables = omega (arith, c.processes-p-end.ensures) in
    rw all at c.loop-p.invariant.counted
