-- What some turns make of a core: none of them, one more, and more after those.
use Rattle.std.proofs.Common.{◌≡◌, ℕ, zero, suc, ◌+◌, ◌-◌, ◌<◌, ◌≤◌, min, List, [], ◌∷◌, ◌++◌, set, get_or, map, length, refl, sym, ap, ◌∙◌, subst, ⊎_elim, arith}
use Rattle.std.proofs.lemmas.Bool.{cases_lt}
use Rattle.std.proofs.lemmas.List.{length_push, length-map, length-set, get_or_append_left, get_or_push, get_or-set_same, set-get_or, map-set}
use Rattle.ra_draws.specs.declared.budgets.Lots.{Lots}
use Rattle.ra_journal.specs.declared.entries.Entry.{Entry}
use Rattle.ra_journal.specs.Entries.{worker_count}
use Rattle.ra_journal.specs.Openings.{Opening}
use Rattle.ra_journal.specs.Journals.{History, opening_in}
use Rattle.ra_worker.specs.Replicas.{Progress}
use Rattle.ra_worker.specs.declared.events.CoreEvent.{CoreEvent}
use Rattle.ra_worker.specs.declared.events.CoreEvent.TheVariants.{CatchUp, Commit}
use Rattle.ra_worker.specs.Core.{Core, AreNamed, core_place_of, turn, Stepped, caught_up, step, event_at, core_after, run, worker_of_event}
use Rattle.ra_worker.specs.AllReplicas.{core_of}
use Rattle.ra_worker.specs.Turns.{StandIn, core_in}
use Rattle.ra_worker.proofs.CoreLemmas.{place_there, over_itself, over_then}
use Rattle.test_workers.specs.Rounds.{IsPlayed, PlaysOn}
use Rattle.test_workers.proofs.PlayLemmas.{core_suc, step_commit}
use Rattle.ra_worker.proofs.OpeningLemmas.{over_is}

-- a list of events with one more after it
same_event : (xs : List CoreEvent) (e : CoreEvent) (n : ℕ) → n < length xs → event_at (xs ++ e ∷ []) n ≡ event_at xs n
unfolding event_at
same_event xs e n within = get_or_append_left xs (e ∷ []) (CatchUp 0) n within

last_event : (xs : List CoreEvent) (e : CoreEvent) → event_at (xs ++ e ∷ []) (length xs) ≡ e
unfolding event_at
last_event xs e = get_or_push xs e (CatchUp 0) (length xs) refl

named_push : (l : Lots) (xs : List CoreEvent) (e : CoreEvent) → AreNamed l xs → worker_of_event e < worker_count l →
    AreNamed l (xs ++ e ∷ [])
named_push l xs e named exists = record {
  each = λ n there. ⊎_elim
      (λ (before : n < length xs). subst (λ x. worker_of_event x < worker_count l) (sym (same_event xs e n before))
      (named.each n before))
      (λ (last : length xs ≤ n).
      let here : length xs ≡ n = omega (arith, there, length_push xs e) in
      subst (λ k. worker_of_event (event_at (xs ++ e ∷ []) k) < worker_count l) here
      (subst (λ x. worker_of_event x < worker_count l) (sym (last_event xs e)) exists))
      (cases_lt n (length xs));
}

same_core : (o : Opening) (c : Core) (xs : List CoreEvent) (e : CoreEvent) (n : ℕ) →
    n ≤ length xs → core_after o c (xs ++ e ∷ []) n ≡ core_after o c xs n
unfolding core_after
same_core o c xs e zero within = refl
same_core o c xs e (suc n) within =
    ap (λ (x : Core). (step o x (event_at (xs ++ e ∷ []) n)).after)
    (same_core o c xs e n (omega (arith, within)))
    ∙ ap (λ (x : CoreEvent). (step o (core_after o c xs n) x).after)
    (same_event xs e n (omega (arith, within)))

run_push : (o : Opening) (c : Core) (xs : List CoreEvent) (e : CoreEvent) →
    (run o c (xs ++ e ∷ [])).last ≡ (step o (run o c xs).last e).after
unfolding run
run_push o c xs e =
    let long : length (xs ++ e ∷ []) ≡ suc (length xs) = omega (arith, length_push xs e) in
    ap (λ n. core_after o c (xs ++ e ∷ []) n) long
    ∙ core_suc o c (xs ++ e ∷ []) (length xs)
    ∙ ap (λ (x : Core). (step o x (event_at (xs ++ e ∷ []) (length xs))).after)
    (same_core o c xs e (length xs) (omega arith))
    ∙ ap (λ (x : CoreEvent). (step o (core_after o c xs (length xs)) x).after) (last_event xs e)

-- no turn
played_none : (o : Opening) (c : Core) → IsPlayed o c c
unfolding run core_after
played_none o c = record {
  events = [];
  named = record { each = λ n there. absurd (omega (arith, there)) };
  last = refl;
}

-- one turn more
pub played_more : (o : Opening) (a b c : Core) (e : CoreEvent) → IsPlayed o a b →
    worker_of_event e < worker_count o.lots → c ≡ (step o b e).after → IsPlayed o a c
played_more o a b c e played exists c_is = record {
  events = played.events ++ e ∷ [];
  named = named_push o.lots played.events e played.named exists;
  last = c_is ∙ ap (λ (x : Core). (step o x e).after) played.last ∙ sym (run_push o a played.events e);
}

-- the first turns of a list after others
played_on : (o : Opening) (a b : Core) (ys : List CoreEvent) (n : ℕ) →
    IsPlayed o a b → AreNamed o.lots ys → n ≤ length ys → IsPlayed o a (core_after o b ys n)
unfolding core_after
played_on o a b ys zero played named within = played
played_on o a b ys (suc n) played named within =
    played_more o a (core_after o b ys n) (core_after o b ys (suc n)) (event_at ys n)
    (played_on o a b ys n played named (omega (arith, within))) (named.each n (omega (arith, within)))
    (core_suc o b ys n)

played_then : (o : Opening) (a b c : Core) → IsPlayed o a b → IsPlayed o b c → IsPlayed o a c
unfolding run
played_then o a b c first second =
    subst (IsPlayed o a) (sym second.last)
    (played_on o a b second.events (length second.events) first second.named (omega arith))

-- a worker takes turns until its place is at the end of the journal
set_twice : (places : List ℕ) (w p q : ℕ) → set (set places w p) w q ≡ set places w q
set_twice [] w p q = refl
set_twice (x ∷ places) zero p q = refl
set_twice (x ∷ places) (suc w) p q = ap (λ rest. x ∷ rest) (set_twice places w p q)

played_to_end : (o : Opening) (n : ℕ) (h : List Entry) (places : List ℕ) (w : ℕ) →
    w < worker_count o.lots → w < length places → get_or places w 0 ≤ length h → length h ≤ get_or places w 0 + n →
    IsPlayed o (record { journal = h; places = places }) (record { journal = h; places = set places w (length h) })
unfolding step caught_up worker_of_event core_place_of
played_to_end o zero h places w exists there within left =
    let at_end : get_or places w 0 ≡ length h = omega (arith, within, left) in
    let same : places ≡ set places w (length h) = sym (set-get_or places w 0) ∙ ap (λ p. set places w p) at_end in
    subst (λ x. IsPlayed o (record { journal = h; places = places }) (record { journal = h; places = x })) same
    (played_none o (record { journal = h; places = places }))
played_to_end o (suc n) h places w exists there within left =
    let p = get_or places w 0 + min 1024 (length h - get_or places w 0) in
    let next = set places w p in
    let here : get_or next w 0 ≡ p = get_or-set_same places w p 0 there in
    let more = played_more o (record { journal = h; places = places }) (record { journal = h; places = places })
    (record { journal = h; places = next }) (CatchUp w)
    (played_none o (record { journal = h; places = places })) exists refl in
    let rest = played_to_end o n h next w exists (omega (arith, there, length-set places w p))
    (omega (arith, here, within)) (omega (arith, here, within, left)) in
    subst (λ x. IsPlayed o (record { journal = h; places = places }) (record { journal = h; places = x }))
    (set_twice places w p (length h))
    (played_then o (record { journal = h; places = places }) (record { journal = h; places = next })
    (record { journal = h; places = set next w (length h) }) more rest)

-- a replica that is brought there
caught_all : (o : Opening) (h : List Entry) (rs : List Progress) (w : ℕ) (r s : Progress) →
    w < worker_count o.lots → w < length rs → get_or rs w r ≡ r → r.place ≤ length h → s.place ≡ length h →
    IsPlayed o (core_of h rs) (core_of h (set rs w s))
unfolding core_of core_place_of
caught_all o h rs w r s exists there is within place =
    let places = map (λ (x : Progress). x.place) rs in
    let at : get_or places w 0 ≡ r.place = place_there h rs w r there is in
    let after : set places w (length h) ≡ map (λ (x : Progress). x.place) (set rs w s) =
    ap (λ p. set places w p) (sym place) ∙ sym (map-set (λ (x : Progress). x.place) rs w s) in
    subst (λ x. IsPlayed o (record { journal = h; places = places }) (record { journal = h; places = x })) after
    (played_to_end o (length h) h places w exists
    (omega (arith, there, length-map rs (λ (x : Progress). x.place))) (omega (arith, at, within)) (omega arith))

-- and hands in its proposal there
pub turn_played : (o : Opening) (h g : List Entry) (rs : List Progress) (w v : ℕ)
    (r s : Progress) → w < worker_count o.lots → w < length rs → get_or rs w r ≡ r → r.place ≤ length h →
    s.place ≡ length h →
    v ≡ w → g ≡ (turn o h v s.place).journal → IsPlayed o (core_of h rs) (core_of g (set rs w s))
unfolding worker_of_event
turn_played o h g rs w v r s exists there is within place own g_is =
    let before = caught_all o h rs w r s exists there is within place in
    let stepped = step_commit o h g (set rs w s) w v s (turn o h v s.place).reply
    (omega (arith, there, length-set rs w s)) (get_or-set_same rs w s s there) own g_is refl in
    played_more o (core_of h rs) (core_of h (set rs w s)) (core_of g (set rs w s)) (Commit w) before exists
    (sym (ap (λ (x : Stepped). x.after) stepped))

-- a journal with its replicas: no turn, and more turns
pub plays_nothing : (j : History) (rs : List Progress) → StandIn j rs → PlaysOn j j rs rs
plays_nothing j rs at = record {
  played = played_none (opening_in j) (core_in j rs);
  at = at;
  over = over_itself j;
  sound = λ is. is;
}

pub plays_then : (j k g : History) (rs ss ts : List Progress) → PlaysOn j k rs ss → PlaysOn k g ss ts → PlaysOn j g rs ts
plays_then j k g rs ss ts first second = record {
  played = played_then (opening_in j) (core_in j rs) (core_in k ss) (core_in g ts)
      first.played
      (subst (λ (o : Opening). IsPlayed o (core_in k ss) (core_in g ts)) (over_is j k first.over) second.played);
  at = second.at;
  over = over_then j k g first.over second.over;
  sound = λ is. second.sound (first.sound is);
}
