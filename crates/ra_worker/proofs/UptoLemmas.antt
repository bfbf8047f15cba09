-- A replica that takes in one entry after another of a journal that it can read.
use Rattle.std.proofs.Common.{◌≡◌, ◌^◌, ◌<◌, List, length, sym, ap, ◌∙◌, subst, arith}
use Rattle.ra_draws.specs.declared.budgets.Lots.{Lots}
use Rattle.ra_model.specs.Limits.{WellFormed}
use Rattle.ra_model.specs.Assignments.{IsAssignment}
use Rattle.ra_model.specs.Situations.{Situation}
use Rattle.ra_journal.specs.declared.entries.Entry.{Entry}
use Rattle.ra_journal.specs.Entries.{entry_at, entries_of, budget}
use Rattle.ra_journal.specs.Legal.{Legal}
use Rattle.ra_journal.specs.Openings.{Opening}
use Rattle.ra_journal.proofs.RoomLemmas.{AreNumbered, entries_few, proposals_few}
use Rattle.ra_worker.specs.Following.{IsJudged}
use Rattle.ra_worker.specs.Replicas.{Progress, IsAt}
use Rattle.ra_worker.proofs.FollowingLemmas.{entry_judged}
use Rattle.ra_worker.proofs.OpeningLemmas.{world_is}

module _ (o : Opening) (h : List Entry) (r : Progress) where
  -- the entry at the place of a replica was judged at its state
  pub here_judged : (e : Entry) →
      WellFormed o.tables → IsAssignment o.tables o.start → Legal o h → IsAt o h r → r.place < length h →
      e ≡ entry_at h r.place →
      IsJudged r.world e.mv.steps e.verdict
  here_judged e limits fits legal at within e_is =
      subst (λ (st : Situation). IsJudged st e.mv.steps e.verdict)
      (sym (world_is o h r at)) (entry_judged o h r.place e limits fits legal within e_is)

  -- if that entry is of its worker, the worker has some budget left
  pub here_left : (e : Entry) →
      Legal o h → IsAt o h r → r.place < length h → e ≡ entry_at h r.place → e.worker ≡ r.worker →
      r.next < budget r.lots r.worker
  here_left e legal at within e_is own =
      let numbered = (legal.each r.place within).numbered in
      let here : (entry_at h r.place).worker ≡ r.worker = ap (λ (x : Entry). x.worker) (sym e_is) ∙ own in
      let left : entries_of h r.place (entry_at h r.place).worker < budget o.lots (entry_at h r.place).worker =
      omega (arith, numbered.number, numbered.budget) in
      let number : r.next ≡ entries_of h r.place r.worker = at.number in
      let lots : r.lots ≡ o.lots = ap (λ (x : Opening). x.lots) at.opening in
      let some : entries_of h r.place r.worker < budget o.lots r.worker =
      subst (λ w. entries_of h r.place w < budget o.lots w) here left in
      omega (arith, number, some, ap (λ (m : Lots). budget m r.worker) lots)

  -- and there are few entries
  pub here_few : Legal o h → r.place < length h → r.place < 2 ^ 63
  here_few legal within =
      let numbered : AreNumbered o.lots h (length h) = record { each = λ k there. (legal.each k there).numbered } in
      omega (arith, within, entries_few o.lots h (length h) numbered, proposals_few o.lots)
