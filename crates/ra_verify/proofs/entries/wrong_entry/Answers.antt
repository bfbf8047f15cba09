use Rattle.std.proofs.Common.{arith}
use Rattle.ra_journal.specs.Journals.{opening_in}
use Rattle.ra_verify.proofs.FollowLemmas.{few_entries}
use Rattle.ra_verify.proofs.entries.wrong_entry.Goals as goal

pub overflow_add-result : goal.overflow_add-result
overflow_add-result c =
    let j = c.args.checker.now.journal in
    record {
      fits = omega (
        arith,
        c.len.ensures.value,
        few_entries (opening_in j) j.entries
            c.args.checker.now.sound.legal,
      );
    }
