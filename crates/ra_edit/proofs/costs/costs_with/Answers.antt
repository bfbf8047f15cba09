-- What the machine costs before is counted in the cost, and what it costs after is put in its place.
use Rattle.std.proofs.Common.{refl, arith}
use Rattle.ra_edit.specs.Keeping.{drafted}
use Rattle.ra_edit.proofs.VerdictLaws.{parts_told, load_counted, balance_counted}
use Rattle.ra_edit.proofs.costs.costs_with.Goals as goal

pub use_row-requires-clause-grid : goal.use_row-requires-clause-grid
use_row-requires-clause-grid c = c.requires.loads.used_grid

pub costs_on-before-requires-clause-one_each : goal.costs_on-before-requires-clause-one_each
costs_on-before-requires-clause-one_each c = c.use_row.ensures.one_each

pub replaced-requires : goal.replaced-requires
replaced-requires c =
    let d = drafted c.args.inst.now.tables c.args.lists.now in
    let has = parts_told c.requires.kept c.small.ensures in
    record {
      counted = omega (
        arith,
        has.load,
        load_counted c.requires.machine (c.costs_on-before.ensures.costs d refl
            (c.use_row.ensures.row d refl c.requires.loads)),
      );
      fits = omega (arith, has.load_small, c.costs_on-after.ensures.load_small);
    }

pub replaced-requires-2 : goal.replaced-requires-2
replaced-requires-2 c =
    let d = drafted c.args.inst.now.tables c.args.lists.now in
    let has = parts_told c.requires.kept c.small.ensures in
    record {
      counted = omega (
        arith,
        has.balance,
        balance_counted c.requires.machine (c.costs_on-before.ensures.costs d refl
            (c.use_row.ensures.row d refl c.requires.loads)),
      );
      fits = omega (arith, has.balance_small, c.costs_on-after.ensures.balance_small);
    }

pub returns-clause-costs : goal.returns-clause-costs
returns-clause-costs c = λ e same has.
    let d = drafted c.args.inst.now.tables c.args.lists.now in
    record {
      before = c.costs_on-before.result;
      after = c.costs_on-after.result;
      before_are = c.costs_on-before.ensures.costs d refl (c.use_row.ensures.row d refl c.requires.loads);
      after_are = c.costs_on-after.ensures.costs e same has;
      load = c.replaced.ensures;
      balance = c.replaced-2.ensures;
    }

pub returns-clause-load_small : goal.returns-clause-load_small
returns-clause-load_small c = omega (
  arith,
  (parts_told c.requires.kept c.small.ensures).load_small,
  c.costs_on-after.ensures.load_small,
  c.replaced.ensures,
)

pub returns-clause-balance_small : goal.returns-clause-balance_small
returns-clause-balance_small c = omega (
  arith,
  (parts_told c.requires.kept c.small.ensures).balance_small,
  c.costs_on-after.ensures.balance_small,
  c.replaced-2.ensures,
)
