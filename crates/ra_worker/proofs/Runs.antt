-- All workers together: they are made, they run, and at the close the journal is whole.
use Rattle.std.proofs.Common.{◌≡◌, ℕ, ◌+◌, ◌*◌, ◌<◌, ◌≤◌, List, [], ◌∷◌, ◌++◌, map, get_or, slice_index_or, remove, length, All, refl, sym, ap, ◌∙◌, subst, arith}
use Rattle.std.proofs.lemmas.List.{append_assoc, length-map, map-append, get_or-map}
use Rattle.ra_draws.specs.declared.budgets.Lots.{Lots}
use Rattle.ra_journal.specs.declared.entries.Entry.{Entry}
use Rattle.ra_journal.specs.Journals.{History, IsJournal}
use Rattle.ra_journal.specs.Entries.{entries_of, worker_count, budget}
use Rattle.ra_journal.specs.Legal.{Whole}
use Rattle.ra_journal.specs.Openings.{Opening}
use Rattle.ra_journal.proofs.RoomLemmas.{proposals_few}
use Rattle.ra_turn.specs.Passes.{EachAt, seen_by, notes_made_by, IsPartOf}
use Rattle.ra_turn.specs.Notes.{by}
use Rattle.ra_shared.specs.declared.books.Opened.{Opened}
use Rattle.ra_shared.specs.declared.shared.Shared.{Shared}
use Rattle.ra_shared.specs.Books.{opening_of_journal, opening_by}
use Rattle.ra_shared.specs.Shares.{start_of, IsNew, IsLast}
use Rattle.ra_worker.specs.Replicas.{IsAt}
use Rattle.ra_worker.specs.declared.worker.Worker.{Worker}
use Rattle.ra_worker.specs.Working.{IsAtWork, HasOwn}
use Rattle.ra_worker.specs.Running.{HasRun}
use Rattle.ra_worker.specs.Crews.{HasNotBegun, IsReadyAs, AreReady, IsFinishedAs, HaveRun}
use Rattle.ra_worker.proofs.Seen.{own_count, entries_grow}
use Rattle.ra_worker.proofs.Steps.{place_few}

-- an element of a list that has one
some_of : {X : Type 0} (xs : List X) (n : ℕ) → n < length xs → X
some_of [] n h = absurd (omega (arith, h))
some_of (x ∷ xs) n h = x

module _ {X Y : Type 0} (f : X → Y) where
  -- what holds of what each element has
  each_has : (P : ℕ → Y → Type 0) (xs : List X) →
      ((n : ℕ) (d : X) → n < length xs → P n (f (get_or xs n d))) → EachAt P (map f xs)
  each_has P xs each = λ n d within.
      let there : n < length xs = omega (arith, within, length-map xs f) in
      let x = some_of xs n there in
      subst (P n) (sym (get_or-map f xs n x d there)) (each n x there)

  has_each : (P : ℕ → Y → Type 0) (xs : List X) → EachAt P (map f xs) → (n : ℕ) (d : X) →
      n < length xs → P n (f (get_or xs n d))
  has_each P xs each n d within =
      subst (P n) (get_or-map f xs n d (f d) within) (each n (f d) (omega (arith, within, length-map xs f)))

  -- one after another is moved from a list to what it has, and the other way round
  pub moved_over : (ps ps' all : List Y) (ws ws' : List X) (w : X) (p : Y) →
      ps ++ map f ws ≡ all → ws ≡ w ∷ ws' → p ≡ f w → ps' ≡ ps ++ p ∷ [] → ps' ++ map f ws' ≡ all
  moved_over ps ps' all ws ws' w p so next is more =
      ap (λ q. q ++ map f ws') more
      ∙ append_assoc ps (p ∷ []) (map f ws')
      ∙ ap (λ q. ps ++ (q ∷ map f ws')) is
      ∙ sym (ap (λ v. ps ++ map f v) next)
      ∙ so

  pub passed_over : (ws ws' : List X) (ps ps' all : List Y) (w : X) (p : Y) →
      map f ws ++ ps ≡ all → ps ≡ p ∷ ps' → f w ≡ p → ws' ≡ ws ++ w ∷ [] → map f ws' ++ ps' ≡ all
  passed_over ws ws' ps ps' all w p so next is more =
      ap (λ v. map f v ++ ps') more
      ∙ ap (λ q. q ++ ps') (map-append f ws (w ∷ []))
      ∙ append_assoc (map f ws) (f w ∷ []) ps'
      ∙ ap (λ q. map f ws ++ (q ∷ ps')) is
      ∙ sym (ap (λ v. map f ws ++ v) next)
      ∙ so

-- workers that are made of new passes may run
own_none : (o : Opening) (w : Worker) → HasNotBegun o w → notes_made_by w.pass ≡ [] → HasOwn w
own_none o w fresh none =
    let v = w.replica.worker in
    let at = fresh.at [] in
    record {
      number = omega (
        arith,
        at.number,
        entries_grow [] w.replica.place (length {A = Entry} []) v at.place,
        own_count [] [] v refl,
        ap (λ (x : List Entry). length x) none,
      );
    }

module _ (s : Shared) where
  -- a worker's run, when it has used its budget
  pub has_run : (first w : Worker) → IsAtWork s w → HasOwn w → w.pass.number ≡ first.pass.number →
      first.pass.left ≤ w.pass.left + 2 * w.replica.place →
      w.replica.next ≡ budget w.replica.lots w.replica.worker → HasRun s first w
  has_run first w work own number turns used = record {
    rest = work.rest;
    number = number;
    made = sym own.number ∙ used ∙ ap (λ (o : Opening). budget o.lots w.replica.worker) work.at.opening
        ∙ ap (λ n. budget (start_of s).lots n) (work.same ∙ number);
    turns = omega (arith, turns, place_few s w work);
  }

  -- the passes of workers that have run may be handed to the close
  pub all_last : (ws : List Worker) → HaveRun s ws → EachAt (IsLast s) (map (λ (w : Worker). w.pass) ws)
  all_last ws run = each_has (λ (w : Worker). w.pass) (IsLast s) ws (λ n d within. let is = run.each n d within in
      record { rest = is.rest; number = is.number })

  -- and then the journal is whole
  made_all : (w : Worker) (n : ℕ) (h : List Entry) → IsFinishedAs s n w → IsPartOf h w.pass →
      entries_of h (length h) n ≡ budget (start_of s).lots n
  made_all w n h is part =
      own_count h (notes_made_by w.pass) n
      (subst (λ (v : ℕ). by (λ (e : Entry). e.worker) v h ≡ notes_made_by w.pass) is.number part.1) ∙ is.made

  pub all_whole : (ws : List Worker) (j : History) → IsJournal j → HaveRun s ws → opening_of_journal j ≡ start_of s →
      All (IsPartOf j.entries) (map (λ (w : Worker). w.pass) ws) → Whole j.lots j.entries
  all_whole ws j sound run opened parts =
      let h = j.entries in
      let lots : j.lots ≡ (start_of s).lots = ap (λ (o : Opened). o.lots) opened in
      record {
        each = λ n exists.
            let there : n < length ws = omega (arith, exists, run.one_each, ap worker_count lots) in
            let x = some_of ws n there in
            let part = has_each (λ (w : Worker). w.pass) (λ k. IsPartOf h) ws parts n x there in
            made_all (get_or ws n x) n h (run.each n x there) part ∙ ap (λ (l : Lots). budget l n) (sym lots);
        no_other = λ k within. (sound.legal.each k within).numbered.worker;
      }

  pub ready_as : (o : Opening) (w : Worker) (n : ℕ) → opening_by (start_of s) ≡ o → HasNotBegun o w →
      IsNew s n w.pass → IsReadyAs s n w
  ready_as o w n opened fresh new = record {
    may = record {
      work = record {
        rest = new.rest;
        same = fresh.worker;
        at = subst (λ (p : Opening). IsAt p (seen_by w.pass) w.replica) (sym opened) (fresh.at (seen_by w.pass));
      };
      own = own_none o w fresh new.made;
      turns = omega (arith, new.left, proposals_few (start_of s).lots);
    };
    number = new.number;
  }

  pub all_ready : (o : Opening) (ws : List Worker) → opening_by (start_of s) ≡ o →
      length ws ≡ worker_count o.lots → EachAt (IsNew s) (map (λ (w : Worker). w.pass) ws) → All (HasNotBegun o) ws →
      AreReady s ws
  all_ready o ws opened long new fresh = record {
    one_each = long ∙ ap (λ (p : Opening). worker_count p.lots) (sym opened);
    each = λ n d within. ready_as o (get_or ws n d) n opened (fresh n d within)
        (has_each (λ (w : Worker). w.pass) (IsNew s) ws new n d within);
  }

  -- all have run if each has
  pub all_run : (before after : List Worker) → AreReady s before → length after ≡ length before →
      ((n : ℕ) (d : Worker) → n < length before → HasRun s (get_or before n d) (get_or after n d)) → HaveRun s after
  all_run before after ready long each = record {
    one_each = long ∙ ready.one_each;
    each = λ n d within.
        let there : n < length before = omega (arith, within, long) in
        let was = ready.each n d there in
        let is = each n d there in
        record {
          rest = is.rest;
          number = is.number ∙ was.number;
          made = is.made ∙ ap (λ k. budget (start_of s).lots k) was.number;
        };
  }

-- a list that has nothing left
pub nothing_left : {X : Type 0} (l : List X) → length l ≡ 0 → l ≡ []
nothing_left [] h = refl
nothing_left (x ∷ xs) h = absurd (omega arith)

-- the first of a list is taken out
pub first_out : {X : Type 0} (xs ys : List X) (x : X) → 0 < length xs → x ≡ slice_index_or xs 0 x → ys ≡ remove xs 0 →
    xs ≡ x ∷ ys
first_out [] ys x some is rest = absurd (omega (arith, some))
first_out (v ∷ vs) ys x some is rest = rw (rest, sym is) refl
