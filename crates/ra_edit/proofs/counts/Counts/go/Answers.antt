-- The count that is there is one less, and gone if it is 0 then.
use Rattle.std.proofs.Common.{◌-◌, refl, subst, arith}
use Rattle.std.specs.BTreeMap.{get}
use Rattle.std.specs.Option.{IsSome}
use Rattle.ra_edit.specs.Counts.{key_cmp}
use Rattle.ra_edit.proofs.CountLaws.{count_lowered}
use Rattle.ra_edit.proofs.counts.Counts.go.Goals as goal

pub returns-then-left-eq0 : goal.returns-then-left-eq0
returns-then-left-eq0 c = count_lowered (get key_cmp c.args.self.now.map) (get key_cmp c.remove.new.self) c.args.s.0
    c.args.label _ c.remove.ensures.updates.0 (omega (arith, c.at-left.ensures, c.requires, c.if-left-eq0.true))

pub returns-in-Some : goal.returns-in-Some
returns-in-Some c = count_lowered (get key_cmp c.args.self.now.map)
    (get key_cmp (c.get_mut.follows.lender (c.at-left.result - 1))) c.args.s.0 c.args.label _
    ((c.get_mut.follows.holds (c.at-left.result - 1)).3
    (subst IsSome (rw c.in-Some.is at c.get_mut.ensures.value) refl)).0
    (omega (arith, c.at-left.ensures, c.requires))
