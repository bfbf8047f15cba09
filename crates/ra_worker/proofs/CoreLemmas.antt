-- A turn takes no entry away, so that each replica stays at a state of the journal.
use Rattle.std.proofs.Common.{◌≡◌, ℕ, ◌<◌, ◌≤◌, ◌||◌, List, set, get_or, length, Option, Some, None, sym, refl, ap, ◌∙◌, subst, ⊎_elim, arith, map}
use Rattle.std.proofs.lemmas.Bool.{cond_both, cases_eq}
use Rattle.std.proofs.lemmas.List.{length_push, length-set, get_or-set_same, get_or-set_other, get_or-map, map-set}
use Rattle.ra_guards.specs.declared.newest.Newer.{Newer}
use Rattle.ra_journal.specs.declared.entries.Entry.{Entry}
use Rattle.ra_journal.specs.Committing.{next_entry, next_move, newer_since, committed, committed_by}
use Rattle.ra_journal.specs.Openings.{Opening}
use Rattle.ra_journal.specs.Journals.{History, opening_in, IsOverSame}
use Rattle.ra_journal.proofs.Places.{SameBelow, same_fewer, same_added, same_state, same_entries_of}
use Rattle.ra_worker.specs.Skipping.{has_used, is_behind, is_skipped}
use Rattle.ra_worker.specs.Replicas.{Progress, IsAt}
use Rattle.ra_worker.specs.declared.events.CoreReply.{CoreReply}
use Rattle.ra_worker.specs.Core.{core_place_of, Turn, answered, turn}
use Rattle.ra_worker.specs.AllReplicas.{IsAtOf, AreAt, core_of}
use Rattle.ra_worker.specs.Turns.{StandIn, turn_in, TakesTurn}

-- an answer takes no entry away
longer_by : (newer : Option Newer) (h : List Entry) (e : Entry) → length h ≤ length (committed_by newer h e).journal
unfolding committed_by
longer_by (Some newer) h e = omega arith
longer_by None h e = omega (arith, length_push h e)

-- a turn leaves the entries that are there
kept_below : (newer : Option Newer) (h : List Entry) (e : Entry) →
    SameBelow (length h) h (committed_by newer h e).journal
unfolding committed_by
kept_below (Some newer) h e = record { each = λ j before. refl }
kept_below None h e = same_added h e

module _ (o : Opening) (h : List Entry) where
  module _ (w : ℕ) where
    module _ (q : ℕ) where
      pub committed_longer : length h ≤ length (committed o h w q).journal
      unfolding committed
      committed_longer = longer_by (newer_since o.tables h q (next_move o h w q).steps) h (next_entry o h w q)

      pub turn_longer : length h ≤ length (turn o h w q).journal
      unfolding turn answered is_skipped
      turn_longer = cond_both (has_used o.lots h w || is_behind h w q) _ _ (λ (t : Turn). length h ≤ length t.journal)
          (λ skipped. omega arith) (λ handed. committed_longer)

      committed_same : SameBelow (length h) h (committed o h w q).journal
      unfolding committed
      committed_same = kept_below (newer_since o.tables h q (next_move o h w q).steps) h (next_entry o h w q)

      pub turn_same : SameBelow (length h) h (turn o h w q).journal
      unfolding turn answered
      turn_same = cond_both (is_skipped o.lots h w q) _ _ (λ (t : Turn). SameBelow (length h) h t.journal)
          (λ skipped. record { each = λ j before. refl }) (λ handed. committed_same)

    -- one replica is brought to another state
    pub all_set : (rs : List Progress) (s : Progress) →
        AreAt o h rs → w < length rs → IsAtOf o h w s → AreAt o h (set rs w s)
    all_set rs s at there here = record {
      one_each = length-set rs w s ∙ at.one_each;
      each = λ v r within is. ⊎_elim
          (λ (same : v ≡ w).
          subst (IsAtOf o h v) (sym (get_or-set_same rs w s r there)
          ∙ ap (λ k. get_or (set rs w s) k r) (sym same) ∙ is)
          (subst (λ k. IsAtOf o h k s) (sym same) here))
          (λ (apart : v ≡ w → ⊥). at.each v r (omega (arith, within, length-set rs w s))
          (sym (get_or-set_other rs w v s r apart) ∙ is))
          (cases_eq v w);
    }

  -- a replica stays at a state when entries are added
  at_later : (g : List Entry) (r : Progress) → SameBelow (length h) h g →
      length h ≤ length g → IsAt o h r → IsAt o g r
  at_later g r same longer at =
      let here = same_fewer r.place (length h) h g at.place same in
      record {
        opening = at.opening;
        place = omega (arith, at.place, longer);
        state = at.state ∙ same_state o.start r.place h g here;
        number = at.number ∙ same_entries_of r.place r.worker h g here;
      }

  pub all_later : (g : List Entry) (w q : ℕ) (rs : List Progress) →
      AreAt o h rs → g ≡ (turn o h w q).journal → AreAt o g rs
  all_later g w q rs at g_is = rw g_is (record {
    one_each = at.one_each;
    each = λ v r within is. let here = at.each v r within is in record {
      worker = here.worker;
      at = at_later (turn o h w q).journal r (turn_same w q) (turn_longer w q) here.at;
    };
  })

-- the place of a replica in the core
pub place_there : (h : List Entry) (rs : List Progress) (w : ℕ) (r : Progress) → w < length rs → get_or rs w r ≡ r →
    core_place_of (core_of h rs) w ≡ r.place
unfolding core_place_of core_of
place_there h rs w r within is =
    get_or-map (λ (x : Progress). x.place) rs w r 0 within ∙ ap (λ (x : Progress). x.place) is

-- and the places where one replica is brought to another
pub places_set : (h g : List Entry) (rs : List Progress) (w q : ℕ) (s : Progress) → s.place ≡ q →
    (core_of g (set rs w s)).places ≡ set (core_of h rs).places w q
unfolding core_of
places_set h g rs w q s place =
    map-set (λ (x : Progress). x.place) rs w s ∙ ap (λ (k : ℕ). set (map (λ (x : Progress). x.place) rs) w k) place

-- a journal is over what it is over, and over what another is that is over the same
pub over_by : (j k : History) (h : List Entry) → k ≡ record j { entries = h } → IsOverSame j k
over_by j k h is = is ∙ ap (λ (g : List Entry). let x : History = record j { entries = g } in x)
    (sym (ap (λ (x : History). x.entries) is))

pub over_itself : (j : History) → IsOverSame j j
over_itself j = refl

pub over_then : (j k g : History) → IsOverSame j k → IsOverSame k g → IsOverSame j g
over_then j k g first second =
    second ∙ ap (λ (x : History). let y : History = record x { entries = g.entries } in y) first

-- the replicas stay at states of a journal with which a worker has taken its turn
pub stand_later : (j k : History) (w q : ℕ) (said : CoreReply) (rs : List Progress) → StandIn j rs →
    TakesTurn j k w q said → StandIn k rs
stand_later j k w q said rs at turned =
    subst (λ (x : History). StandIn x rs) (sym turned.journal)
    (all_later (opening_in j) j.entries (turn_in j w q).journal w q rs at refl)
