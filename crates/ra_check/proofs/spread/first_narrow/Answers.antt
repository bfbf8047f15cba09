use Rattle.std.proofs.Common.{sym, length, arith}
use Rattle.ra_base.specs.declared.causes.Cause.TheVariants.{Spread}
use Rattle.ra_base.proofs.Searches.{first_found}
use Rattle.ra_model.specs.Numbers.{service_count}
use Rattle.ra_model.specs.Broken.{spread_test, broken_spread}
use Rattle.ra_check.proofs.SpreadLemmas.{spread_some}
use Rattle.ra_check.proofs.spread.first_narrow.Goals as goal

pub returns-then-has-wants-clause-cause : goal.returns-then-has-wants-clause-cause
unfolding broken_spread
returns-then-has-wants-clause-cause c =
    sym (first_found c.loop-s.s (service_count c.args.inst.now.tables)
    (spread_test c.args.inst.now.tables c.args.a.now.items)
    (Spread (record { 0 = c.loop-s.s }) c.count_locations-has.result c.spread_min-wants.result) (omega arith)
    c.loop-s.invariant.none
    (spread_some c.args.inst.now.tables c.args.a.now.items c.loop-s.s (length c.loop-s.marks.items)
    c.count_locations-has.result c.spread_min-wants.result c.args.members.now c.args.places.now
    c.args.inst.now.small c.requires.assigned c.requires.members c.requires.places (omega arith)
    c.loop-s.invariant.marks.one_each (rw c.of.ensures at c.count_locations-has.ensures.count)
    c.spread_min-wants.ensures c.if-has-wants.true))
