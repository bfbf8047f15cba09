-- A book that records a next entry keeps what it is to keep.
use Rattle.std.proofs.Common.{◌≡◌, ℕ, suc, ◌+◌, ◌<◌, ◌≤◌, Bool, true, false, cond, eqb, ltb, List, [], ◌∷◌, ◌++◌, length, get_or, set, sym, refl, ap, ap₂, ◌∙◌, subst, arith, eq-eqb}
use Rattle.std.proofs.lemmas.List.{length_push, length-set, get_or-set_other, get_or-set_same}
use Rattle.ra_base.specs.Sums.{one_if}
use Rattle.ra_base.specs.declared.causes.Cause.{Cause}
use Rattle.ra_draws.specs.declared.budgets.Lots.{Lots}
use Rattle.ra_model.specs.declared.raw.Tables.{Tables}
use Rattle.ra_model.specs.Situations.{situation, Situation}
use Rattle.ra_moves.specs.declared.steps.Step.{Step}
use Rattle.ra_moves.specs.declared.verdicts.Verdict.{Verdict}
use Rattle.ra_moves.specs.declared.verdicts.Verdict.TheVariants.{Done, Refused}
use Rattle.ra_moves.specs.declared.verdicts.Weighed.{Weighed}
use Rattle.ra_moves.specs.Replacing.{applied, after_move}
use Rattle.ra_cells.specs.MovedCounts.{MovedCounts}
use Rattle.ra_moves.specs.Moving.{IsOffered}
use Rattle.ra_moves.specs.Weighing.{weighed_of}
use Rattle.ra_moves.specs.SettledNow.{AreMovedOf}
use Rattle.ra_guards.specs.VersionTable.{VersionTable}
use Rattle.ra_guards.specs.Kept.{AreVersions}
use Rattle.ra_journal.specs.declared.book.Book.{Book}
use Rattle.ra_journal.specs.declared.entries.Entry.{Entry}
use Rattle.ra_journal.specs.Entries.{steps_made, made_by, made_in, entries_of}
use Rattle.ra_journal.specs.States.{state, after_made, kept_cost, cost_then, cost_of_state, state_at}
use Rattle.ra_journal.specs.Best.{best_place, best_of}
use Rattle.ra_journal.specs.Legal.{Legal, IsLegalAt}
use Rattle.ra_journal.specs.Keeping.{IsStart, AreMadeBy, IsKept}
use Rattle.ra_journal.specs.Quiet.{IsAfterDone, done_then}
use Rattle.ra_journal.specs.Recording.{IsAdded, AreChangedBy, AreTouchedVersions, IsTakenIn, IsBestKept}
use Rattle.ra_journal.specs.Openings.{Opening}
use Rattle.ra_journal.proofs.AddedLemmas.{entries_added, state_added, kept_added, version_added}
use Rattle.ra_journal.proofs.BestLemmas.{best_added, same_cost, best_within}
use Rattle.ra_journal.proofs.NextLemmas.{next_legal}
use Rattle.ra_journal.proofs.Places.{same_added}
use Rattle.ra_journal.proofs.QuietLemmas.{done_added}
use Rattle.ra_journal.proofs.StandingLemmas.{unbroken_if_done, done_no_repeat}
use Rattle.ra_journal.proofs.EndLemmas.{sound_at}

-- what the three parts of a record do together
pub record IsRecorded (i : Tables) (e : Entry) (weighed : Weighed) (before after : Book) : Type 0 where
  pub entries : after.entries.items ≡ before.entries.items ++ e ∷ []
  pub room : after.entries.room ≡ before.entries.room
  pub made : after.made ≡ set before.made e.worker (get_or before.made e.worker 0 + 1)
  pub versions : AreTouchedVersions i (made_by e) (suc (length before.entries.items)) before.versions after.versions
  pub done : (cost : ℕ) → e.verdict ≡ Done cost → AreChangedBy i e.mv.steps weighed before.greatest after.greatest
  pub refused : (cause : Cause) → e.verdict ≡ Refused cause → after.greatest ≡ before.greatest
  pub kept : after.kept ≡ cost_then before.kept e.verdict
  pub best_at : after.best_at ≡ cond (ltb after.kept before.best_cost) (suc (length before.entries.items))
      before.best_at
  pub best_cost : after.best_cost ≡ cond (ltb after.kept before.best_cost) after.kept before.best_cost
  pub last : after.done ≡ done_then before.done (suc (length before.entries.items)) e.verdict

longer : (b c : Book) (e : Entry) → IsAdded b c e → length c.entries.items ≡ suc (length b.entries.items)
longer b c e added = omega (arith, ap (λ xs. length xs) added.entries, length_push b.entries.items e)

chosen : (kept now best before : ℕ) (n m x y : ℕ) → kept ≡ now → best ≡ before → n ≡ m → x ≡ y →
    cond (ltb kept best) n x ≡ cond (ltb now before) m y
chosen kept now best before n m x y kept_is best_is n_is x_is = rw (kept_is, best_is, n_is, x_is) refl

pub recorded_by : (i : Tables) (e : Entry) (weighed : Weighed) (b c d f : Book) → IsAdded b c e →
    IsTakenIn i e.mv.steps weighed e.verdict c d → IsBestKept d f → IsRecorded i e weighed b f
unfolding made_by
recorded_by i e weighed b c d f added taken best = grind (arith, longer, chosen)

-- how many entries each worker has made
made_more : (made : List ℕ) (w v : ℕ) → w < length made → get_or (set made w (get_or made w 0 + 1)) v 0 ≡
    get_or made v 0 + one_if (eqb w v)
made_more made w v there = grind (arith, get_or-set_same, eq-eqb, get_or-set_other)

made_kept : (l : Lots) (h : List Entry) (e : Entry) (before after : List ℕ) → AreMadeBy l h before →
    e.worker < length before → after ≡ set before e.worker (get_or before e.worker 0 + 1) →
    AreMadeBy l (h ++ e ∷ []) after
made_kept l h e before after made there is = record {
  long = ap (λ (xs : List ℕ). length xs) is ∙ length-set before e.worker _ ∙ made.long;
  each = λ w exists.
      let longer : suc (length h) ≡ length (h ++ e ∷ []) = omega (arith, length_push h e) in
      ap (λ (xs : List ℕ). get_or xs w 0) is ∙ made_more before e.worker w there
      ∙ ap (λ n. n + one_if (eqb e.worker w)) (made.each w exists) ∙ sym (entries_added h e w)
      ∙ ap (λ n. entries_of (h ++ e ∷ []) n w) longer;
}

-- the versions
versions_kept : (i : Tables) (h : List Entry) (e : Entry) (before after : VersionTable) →
    AreVersions i (made_in h) (length h) before → AreTouchedVersions i (made_by e) (suc (length h)) before after →
    AreVersions i (made_in (h ++ e ∷ [])) (suc (length h)) after
versions_kept i h e before after versions is = grind (arith, version_added)

-- the moved counts
moved_after : (st : Situation) (steps : List Step) (before after : MovedCounts) (verdict : Verdict) →
    AreMovedOf st before → ((cost : ℕ) → verdict ≡ Done cost →
    AreMovedOf (after_move st steps) after) →
    ((cause : Cause) → verdict ≡ Refused cause → after ≡ before) →
    AreMovedOf (situation st.tables st.start (after_made st.here (steps_made verdict steps))) after
unfolding after_made steps_made
moved_after st steps before after (Done cost) moved done refused = done cost refl
moved_after st steps before after (Refused cause) moved done refused =
    subst (AreMovedOf st) (sym (refused cause refl)) moved

-- what is known of the entry and its weighing
pub record IsNext (o : Opening) (h : List Entry) (e : Entry) (weighed : Weighed) : Type 0 where
  pub legal : IsLegalAt o h (length h) e
  pub exists : e.worker < 16
  pub offered : IsOffered o.tables (state o.start h (length h)) e.mv.steps
  pub weighing : weighed ≡ weighed_of (state_at o h (length h)) e.mv.steps

-- all at the longer journal g
record IsKeptAt (o : Opening) (g : List Entry) (n : ℕ) (f : Book) : Type 0 where
  legal : Legal o g
  versions : AreVersions o.tables (made_in g) n f.versions
  moved : AreMovedOf (state_at o g n) f.greatest
  made : AreMadeBy o.lots g f.made
  cost : f.kept ≡ kept_cost o g n
  best_at : f.best_at ≡ best_place o g n
  best_cost : f.best_cost ≡ cost_of_state o g f.best_at
  done : IsAfterDone g f.done

best_cost_is : (better : Bool) (o : Opening) (g : List Entry) (n p x y : ℕ) →
    x ≡ cost_of_state o g n → y ≡ cost_of_state o g p → cond better x y ≡ cost_of_state o g (cond better n p)
best_cost_is true o g n p x y x_is y_is = x_is
best_cost_is false o g n p x y x_is y_is = y_is

module _ (o : Opening) (e : Entry) (weighed : Weighed) (b f : Book) where
  moved_if_done : IsKept o b → IsNext o b.entries.items e weighed → IsRecorded o.tables e weighed b f → (cost : ℕ) →
      e.verdict ≡ Done cost → AreMovedOf (situation o.tables o.start
      (applied (state o.start b.entries.items (length b.entries.items)) e.mv.steps))
      f.greatest
  moved_if_done kept next recorded = grind (arith, done_no_repeat, unbroken_if_done)

  kept_at : IsStart o →
      IsKept o b → IsNext o b.entries.items e weighed → IsRecorded o.tables e weighed b f →
      IsKeptAt o (b.entries.items ++ e ∷ []) (suc (length b.entries.items)) f
  unfolding made_by best_of
  kept_at start kept next recorded =
      let h = b.entries.items in
      let n = length h in
      let g = h ++ e ∷ [] in
      let legal = next_legal o h e kept.legal next.legal in
      let cost : f.kept ≡ kept_cost o g (suc n) = recorded.kept ∙ ap (λ c. cost_then c e.verdict) kept.cost
      ∙ sym (kept_added o h e) in
      let costs : f.kept ≡ cost_of_state o g (suc n) = cost
      ∙ (sound_at o g (suc n) start legal (omega (arith, length_push h e))).kept in
      let best : b.best_cost ≡ cost_of_state o h (best_of o h) = kept.best_cost
      ∙ ap (cost_of_state o h) kept.best_at in
      let place : f.best_at ≡ best_place o g (suc n) = recorded.best_at
      ∙ chosen f.kept _ b.best_cost _ (suc n) (suc n) b.best_at _ costs best refl kept.best_at
      ∙ sym (best_added o h e) in
      let there : b.best_at ≤ n = omega (arith, kept.best_at, best_within o h n) in
      record {
        legal = legal;
        versions = versions_kept o.tables h e b.versions f.versions kept.versions recorded.versions;
        moved = subst (λ a. AreMovedOf (situation o.tables o.start a) f.greatest) (sym (state_added o.start h e))
            (moved_after (state_at o h n) e.mv.steps b.greatest f.greatest e.verdict kept.moved
            (moved_if_done kept next recorded) recorded.refused);
        made = made_kept o.lots h e b.made f.made kept.made (omega (arith, next.exists, kept.made.long)) recorded.made;
        cost = cost;
        best_at = place;
        best_cost = recorded.best_cost ∙ best_cost_is (ltb f.kept b.best_cost) o g (suc n) b.best_at f.kept b.best_cost
            costs (kept.best_cost ∙ same_cost o h g n b.best_at (same_added h e) there)
            ∙ ap (cost_of_state o g) (sym recorded.best_at);
        done = done_added h e b.done f.done kept.done recorded.last;
      }

  pub kept_more : IsStart o → IsKept o b → IsNext o b.entries.items e weighed → IsRecorded o.tables e weighed b f →
      IsKept o f
  unfolding best_of
  kept_more start kept next recorded =
      let at = kept_at start kept next recorded in
      let long : suc (length b.entries.items) ≡ length f.entries.items =
      omega (arith, ap (λ (xs : List Entry). length xs) recorded.entries, length_push b.entries.items e) in
      let is = sym recorded.entries in
      record {
        legal = subst (Legal o) is at.legal;
        room = recorded.room ∙ kept.room;
        versions = subst (λ n. AreVersions o.tables (made_in f.entries.items) n f.versions) long
            (subst (λ (h : List Entry). AreVersions o.tables (made_in h) (suc (length b.entries.items)) f.versions) is
            at.versions);
        moved = subst (λ n. AreMovedOf (state_at o f.entries.items n) f.greatest) long
            (subst (λ (h : List Entry). AreMovedOf (situation o.tables o.start
            (state o.start h (suc (length b.entries.items))))
            f.greatest) is
            at.moved);
        made = subst (λ (h : List Entry). AreMadeBy o.lots h f.made) is at.made;
        cost = at.cost ∙ ap₂ (kept_cost o) is long;
        best_at = at.best_at ∙ ap₂ (best_place o) is long;
        best_cost = at.best_cost ∙ ap (λ (h : List Entry). cost_of_state o h f.best_at) is;
        done = subst (λ (h : List Entry). IsAfterDone h f.done) is at.done;
      }
