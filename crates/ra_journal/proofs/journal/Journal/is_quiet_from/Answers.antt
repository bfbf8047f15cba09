use Rattle.std.proofs.lemmas.Bool.{leb-true, le-leb}
use Rattle.ra_journal.proofs.QuietLemmas.{quiet_if, quiet_only}
use Rattle.ra_journal.proofs.journal.Journal.is_quiet_from.Goals as goal

pub returns : goal.returns
returns c =
    let n = c.self.inside.book.done in
    let last = c.self.invariant.kept.done in
    rw (← c.self.view_is) (
      λ is. quiet_if _ n c.args.at last (leb-true n c.args.at is),
      λ refused. le-leb n c.args.at (quiet_only _ n c.args.at last refused),
    )
