use Rattle.std.proofs.Common.{arith}
use Rattle.ra_journal.proofs.RisesLemmas.{falls_less}
use Rattle.ra_journal.proofs.refusing.fall_of.Goals as goal

pub returns : goal.returns
returns c = record {
  falls = record {
    first = falls_less _ c.fall-first.result _ (omega arith) c.fall-first.ensures.falls;
    second = falls_less _ c.fall-second.result _ (omega arith) c.fall-second.ensures.falls;
    third = falls_less _ c.fall-third.result _ (omega arith) c.fall-third.ensures.falls;
  };
  least = λ n falls. omega (
    arith,
    c.fall-first.ensures.least n falls.first,
    c.fall-second.ensures.least n falls.second,
    c.fall-third.ensures.least n falls.third,
  );
}
