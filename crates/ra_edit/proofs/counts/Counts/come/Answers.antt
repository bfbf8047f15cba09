-- The count that is there is one more.
use Rattle.std.proofs.Common.{◌+◌, ap}
use Rattle.std.specs.BTreeMap.{get}
use Rattle.std.specs.Option.{unwrap_or}
use Rattle.ra_edit.specs.Counts.{key_cmp}
use Rattle.ra_edit.proofs.CountLaws.{count_raised}
use Rattle.ra_edit.proofs.counts.Counts.come.Goals as goal

pub returns-in-Some : goal.returns-in-Some
returns-in-Some c = count_raised (get key_cmp c.args.self.now.map)
    (get key_cmp (c.get_mut.follows.lender (c.in-Some.count.now + 1))) c.args.s.0 c.args.label _
    ((c.get_mut.follows.holds (c.in-Some.count.now + 1)).3 c.requires.there).0
    (ap (λ o. unwrap_or o 0 + 1) (rw c.in-Some.is at c.get_mut.ensures.value))
