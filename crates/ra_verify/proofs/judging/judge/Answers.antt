use Rattle.std.proofs.Common.{arith}
use Rattle.ra_journal.specs.Journals.{opening_in}
use Rattle.ra_verify.proofs.FollowLemmas.{few_entries}
use Rattle.ra_verify.proofs.judging.judge.Goals as goal

pub overflow_add-result : goal.overflow_add-result
overflow_add-result c =
    let j = c.args.journal.now in
    record {
      fits = omega (
        arith,
        c.requires.few,
        c.len-entries.ensures.value,
        few_entries (opening_in j) j.entries c.len-entries.ensures.sound.legal,
      );
    }

pub overflow_add-result-then-not-is_whole : goal.overflow_add-result-then-not-is_whole
overflow_add-result-then-not-is_whole c =
    let j = c.args.journal.now in
    record {
      fits = omega (
        arith,
        c.requires.few,
        c.len-entries.ensures.value,
        few_entries (opening_in j) j.entries c.len-entries.ensures.sound.legal,
      );
    }
