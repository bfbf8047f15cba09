use Rattle.std.proofs.Common.{sym, ap, ◌∙◌}
use Rattle.ra_journal.specs.Journals.{History, opening_in}
use Rattle.ra_worker.specs.Core.{Turn}
use Rattle.ra_worker.proofs.CoreTurnLemmas.{turn_skipped}
use Rattle.ra_worker.proofs.turns.hand_in.Goals as goal

pub returns-then-skipped : goal.returns-then-skipped
returns-then-skipped g c =
    let j = c.args.journal.now in
    let done = sym (turn_skipped (opening_in j) j.entries
    c.args.replica.now.worker c.args.replica.now.place (sym c.skipped.ensures ∙ c.if-skipped.true)) in
    record {
      journal = ap (λ (t : Turn). let k : History = record j { entries = t.journal } in k) done;
      reply = ap (λ (t : Turn). t.reply) done;
      sound = λ is. is;
    }
