-- The core after the events so far, and the replies to them.
use Rattle.std.proofs.Common.{◌≡◌, ◌++◌}
use Rattle.ra_worker.specs.Core.{core_after, core_replies_to}
use Rattle.ra_worker.specs.Turns.{StandIn, core_in}
use Rattle.ra_journal.specs.Journals.{opening_in, IsOverSame}
use Rattle.test_workers.proofs.playing.play.Given as goal

abbrev pub invariant-loop-n : goal.invariant-loop-n
invariant-loop-n l =
    let j = l.fn.journal in
    record {
      core : core_in l.journal l.replicas.items ≡ core_after (opening_in j)
          (core_in j l.fn.replicas.items) l.events.items l.n;
      replies : l.replies.items ≡ l.fn.replies.items ++ core_replies_to (opening_in j)
          (core_in j l.fn.replicas.items) l.events.items l.n;
      room : l.replies.room ≡ l.fn.replies.room;
      at : StandIn l.journal l.replicas.items;
      over : IsOverSame j l.journal;
    }

abbrev pub ghosts-play_event : goal.ghosts-play_event
ghosts-play_event a = record { name = a.blank.name; parts = a.blank.parts }
