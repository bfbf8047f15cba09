-- A worker's turn by what its replica does, and the places of replicas that take in a batch.
use Rattle.std.proofs.Common.{◌≡◌, ℕ, ◌+◌, ◌-◌, ◌<◌, ◌≤◌, min, Bool, true, false, ◌||◌, ltb, leb, List, length, refl, sym, ap, ◌∙◌, arith}
use Rattle.std.proofs.lemmas.Bool.{cond-true, cond-false, or_parts, or_left, le-leb, lt-leb}
use Rattle.ra_draws.specs.declared.budgets.Lots.{Lots}
use Rattle.ra_journal.specs.declared.entries.Entry.{Entry}
use Rattle.ra_journal.specs.Batches.{batch_from}
use Rattle.ra_journal.specs.Committing.{next_number, committed}
use Rattle.ra_journal.specs.Entries.{entries_of, budget}
use Rattle.ra_journal.specs.Openings.{Opening}
use Rattle.ra_worker.specs.Skipping.{has_used, is_behind, is_skipped}
use Rattle.ra_worker.specs.Replicas.{Progress, IsAt, HasTaken}
use Rattle.ra_worker.proofs.TurnLemmas.{some_left, batch_long, not_behind}
use Rattle.ra_worker.specs.declared.events.CoreReply.TheVariants.{Skipped, Answer}
use Rattle.ra_worker.specs.Core.{answered, turn}

-- a replica that has taken in a whole batch
pub taken_place : (h b : List Entry) (r s : Progress) (count : ℕ) → b ≡ batch_from h r.place →
    count ≡ min 1024 (length h - r.place) → HasTaken r s b (length b) → s.place ≡ r.place + count
taken_place h b r s count b_is count_is taken =
    taken.place ∙ ap (λ n. r.place + n) (ap (λ (x : List Entry). length x) b_is ∙ batch_long h r.place ∙ sym count_is)

only_second : (x y : Bool) → x ≡ false → y ≡ (x || y)
only_second x y is = rw is refl

module _ (l : Lots) (h : List Entry) (w q made most next : ℕ) where
  -- whether a worker is skipped, by numbers
  pub skipped_by : made ≡ entries_of h (length h) w →
      most ≡ budget l w → next ≡ entries_of h q w → (leb most made || ltb next made) ≡ is_skipped l h w q
  unfolding is_skipped has_used is_behind next_number
  skipped_by made_is most_is next_is = rw (made_is, most_is, next_is) refl

  pub skipped_used : made ≡ entries_of h (length h) w →
      most ≡ budget l w → next ≡ entries_of h q w → most ≤ made → leb most made ≡ is_skipped l h w q
  skipped_used made_is most_is next_is used = le-leb most made used
      ∙ sym (or_left (leb most made) (ltb next made) (le-leb most made used))
      ∙ skipped_by made_is most_is next_is

  pub skipped_unused : made ≡ entries_of h (length h) w →
      most ≡ budget l w → next ≡ entries_of h q w → made < most → ltb next made ≡ is_skipped l h w q
  skipped_unused made_is most_is next_is unused =
      only_second (leb most made) (ltb next made) (lt-leb most made unused)
      ∙ skipped_by made_is most_is next_is

module _ (o : Opening) (h : List Entry) where
  -- the next proposal of a worker that is not skipped is within its budget
  pub next_within : (r : Progress) → IsAt o h r →
      is_skipped o.lots h r.worker r.place ≡ false →
      r.next < budget r.lots r.worker
  unfolding is_skipped
  next_within r at not_skipped =
      let w = r.worker in
      let parts = or_parts (has_used o.lots h w) (is_behind h w r.place) not_skipped in
      rw (ap (λ (p : Opening). p.lots) at.opening) (omega (
        arith,
        at.number,
        not_behind h w r.place at.place parts.1,
        some_left o.lots h w parts.0,
      ))

  -- a turn
  pub turn_skipped : (w q : ℕ) → is_skipped o.lots h w q ≡ true →
      turn o h w q ≡ record { journal = h; reply = Skipped }
  unfolding turn
  turn_skipped w q skipped = cond-true (is_skipped o.lots h w q) _ _ skipped

  pub turn_answered : (w q : ℕ) → is_skipped o.lots h w q ≡ false → turn o h w q ≡ record {
    journal = (committed o h w q).journal;
    reply = Answer (committed o h w q).reply;
  }
  unfolding turn answered
  turn_answered w q handed = cond-false (is_skipped o.lots h w q) _ _ handed
