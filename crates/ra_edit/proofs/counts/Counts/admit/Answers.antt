-- What isn't there counts 0, and so does the new entry.
use Rattle.std.proofs.Common.{rules}
use Rattle.std.specs.BTreeMap.{get}
use Rattle.ra_edit.specs.Counts.{key_cmp}
use Rattle.ra_edit.proofs.CountLaws.{count_stays}
use Rattle.ra_edit.proofs.counts.Counts.admit.Goals as goal

pub returns-in_ok-insert-clause-same : goal.returns-in_ok-insert-clause-same
returns-in_ok-insert-clause-same c = count_stays (get key_cmp c.args.self.now.map) (get key_cmp c.insert.new.self)
    c.args.s.0 c.args.label _ c.in_ok-insert.ensures.updates.0 (search rules)
