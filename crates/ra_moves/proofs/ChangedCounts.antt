-- Moved counts that are changed one after another by those of a weighing.
use Rattle.std.proofs.Common.{◌≡◌, ℕ, ◌<◌, List, length, get_or, set, Option, Some, None, refl, ap, ◌∙◌, ⊎_elim, arith, eq-eqb, ne_eqb, get_or-set_same, get_or-set_other}
use Rattle.std.proofs.lemmas.Bool.{cases_eq}
use Rattle.ra_base.specs.declared.costs.MovedCount.{MovedCount}
use Rattle.ra_model.specs.Situations.{Situation}
use Rattle.ra_moves.specs.Replacing.{after_move}
use Rattle.ra_cells.specs.MovedCounts.{MovedCounts}
use Rattle.ra_cells.specs.Replaced.{counted_after}
use Rattle.ra_moves.specs.declared.steps.Step.{Step}
use Rattle.ra_moves.specs.declared.verdicts.Weighed.{Weighed}
use Rattle.ra_moves.specs.Judging.{broken_by}
use Rattle.ra_moves.specs.Moving.{IsMove}
use Rattle.ra_moves.specs.Weighing.{weighed_of}
use Rattle.ra_moves.specs.SettledNow.{AreMovedOf}
use Rattle.ra_moves.proofs.MovedAfter.{counts_after}
use Rattle.ra_moves.proofs.Settles.{whole_is}

-- one count is replaced
pub replaced : (counts new : List ℕ) (o : Option MovedCount) (c : MovedCount) (s : ℕ) → o ≡ Some c →
    new ≡ set counts c.service.0 c.after → c.service.0 < length counts →
    get_or new s 0 ≡ counted_after o (λ k. get_or counts k 0) s
unfolding counted_after
replaced counts new o c s is made there = rw (is, made) (⊎_elim
    (λ here.
    rw (eq-eqb s c.service.0 here) (ap (λ k. get_or (set counts c.service.0 c.after) k 0) here
    ∙ get_or-set_same counts c.service.0 c.after 0 there))
    (λ apart.
    rw (ne_eqb s c.service.0 apart) (get_or-set_other counts c.service.0 s c.after 0 apart))
    (cases_eq s c.service.0))

-- or none is
pub kept : (counts : List ℕ) (o : Option MovedCount) (s : ℕ) → o ≡ None →
    get_or counts s 0 ≡ counted_after o (λ k. get_or counts k 0) s
unfolding counted_after
kept counts o s is = rw is refl

-- what is changed is the count of each service
pub record IsChangedBy (o : Option MovedCount) (old new : MovedCounts) : Type 0 where
  pub counts : (s : ℕ) → s < length old.counts → get_or new.counts s 0 ≡ counted_after o (λ k. get_or old.counts k 0) s
  pub same_length : length new.counts ≡ length old.counts
  pub limit : new.limit ≡ old.limit

counted_same : (o : Option MovedCount) (f g : ℕ → ℕ) (s : ℕ) → f s ≡ g s → counted_after o f s ≡ counted_after o g s
unfolding counted_after
counted_same None f g s same = same
counted_same (Some c) f g s same = rw same

-- all three of a weighing
pub counts_changed : (st : Situation) (steps : List Step) (old one two new : MovedCounts)
    (weighed : Weighed) → IsMove st.tables st.here steps → broken_by st steps ≡ None → weighed ≡ weighed_of st steps →
    IsChangedBy weighed.first old one → IsChangedBy weighed.second one two → IsChangedBy weighed.third two new →
    AreMovedOf st old → AreMovedOf (after_move st steps) new
counts_changed st steps old one two new weighed move none is first second third before = record {
  one_each = third.same_length ∙ second.same_length ∙ first.same_length ∙ before.one_each;
  each = λ s within.
      let in_old : s < length old.counts = omega (arith, before.one_each) in
      let in_one : s < length one.counts = omega (arith, first.same_length) in
      let in_two : s < length two.counts = omega (arith, second.same_length) in
      let whole = is ∙ whole_is st steps none in
      third.counts s in_two
      ∙ counted_same weighed.third _ _ s
      (second.counts s in_one ∙ counted_same weighed.second _ _ s (first.counts s in_old))
      ∙ ap (λ (w : Weighed).
      counted_after w.third (counted_after w.second (counted_after w.first (λ k. get_or old.counts k 0))) s)
      whole
      ∙ counts_after st steps (λ k. get_or old.counts k 0) s move (before.each s within);
  limit = third.limit ∙ second.limit ∙ first.limit ∙ before.limit;
}
