-- One event after another of the core, played by replicas.
use Rattle.std.proofs.Common.{◌≡◌, ℕ, zero, suc, ◌+◌, ◌-◌, ◌<◌, ◌≤◌, min, List, [], ◌∷◌, ◌++◌, set, get_or, length, refl, sym, ap, ◌∙◌, subst, ⊎_elim, add-one, arith}
use Rattle.std.proofs.lemmas.Bool.{cases_lt}
use Rattle.std.proofs.lemmas.List.{append-nil, append_assoc, length-append, length_push, map-set}
use Rattle.ra_draws.specs.declared.budgets.Lots.{Lots}
use Rattle.ra_journal.specs.declared.entries.Entry.{Entry}
use Rattle.ra_journal.specs.Entries.{worker_count}
use Rattle.ra_journal.specs.Openings.{Opening}
use Rattle.ra_worker.specs.Replicas.{Progress}
use Rattle.ra_worker.specs.declared.events.CoreEvent.{CoreEvent}
use Rattle.ra_worker.specs.declared.events.CoreEvent.TheVariants.{CatchUp, Commit}
use Rattle.ra_worker.specs.declared.events.CoreReply.{CoreReply}
use Rattle.ra_worker.specs.declared.events.CoreReply.TheVariants.{Took}
use Rattle.ra_worker.specs.Core.{Core, core_place_of, turn, Stepped, caught_up, handed_in, step, event_at, core_after, core_replies_to, run, worker_of_event}
use Rattle.ra_worker.specs.AllReplicas.{core_of}
use Rattle.ra_worker.proofs.CoreLemmas.{place_there}

-- a step is what a replica does
stepped_catch_up : (c d : Core) (w p q n : ℕ) → core_place_of c w ≡ p → n ≡ min 1024 (length c.journal - p) →
    q ≡ p + n → d.journal ≡ c.journal → d.places ≡ set c.places w q →
    caught_up c w ≡ record { after = d; reply = Took n }
unfolding caught_up
stepped_catch_up c d w p q n place n_is q_is journal places = rw (place, ← n_is, ← q_is, ← journal, ← places) refl

pub step_catch_up : (o : Opening) (h : List Entry) (rs : List Progress) (w count : ℕ)
    (r s : Progress) → w < length rs → get_or rs w r ≡ r → count ≡ min 1024 (length h - r.place) →
    s.place ≡ r.place + count → step o (core_of h rs) (CatchUp w) ≡ record {
      after = core_of h (set rs w s);
      reply = Took count;
    }
unfolding step core_of
step_catch_up o h rs w count r s within is count_is place =
    stepped_catch_up (core_of h rs) (core_of h (set rs w s)) w r.place s.place count (place_there h rs w r within is)
    count_is place refl (map-set (λ (x : Progress). x.place) rs w s)

stepped_commit : (o : Opening) (c d : Core) (w p : ℕ) (reply : CoreReply) →
    core_place_of c w ≡ p → d.journal ≡ (turn o c.journal w p).journal →
    reply ≡ (turn o c.journal w p).reply → d.places ≡ c.places →
    handed_in o c w ≡ record { after = d; reply = reply }
unfolding handed_in
stepped_commit o c d w p reply place journal reply_is places = rw (place, ← journal, ← reply_is, ← places) refl

pub step_commit : (o : Opening) (h g : List Entry) (rs : List Progress) (w v : ℕ)
    (r : Progress) (reply : CoreReply) → w < length rs → get_or rs w r ≡ r → v ≡ w →
    g ≡ (turn o h v r.place).journal → reply ≡ (turn o h v r.place).reply →
    step o (core_of h rs) (Commit w) ≡ record { after = core_of g rs; reply = reply }
unfolding step core_of
step_commit o h g rs w v r reply within is own g_is reply_is =
    stepped_commit o (core_of h rs) (core_of g rs) w r.place reply (place_there h rs w r within is)
    (g_is ∙ ap (λ k. (turn o h k r.place).journal) own) (reply_is ∙ ap (λ k. (turn o h k r.place).reply) own)
    refl

-- one event more of a list
pub core_suc : (o : Opening) (c : Core) (events : List CoreEvent) (n : ℕ) →
    core_after o c events (suc n) ≡ (step o (core_after o c events n) (event_at events n)).after
unfolding core_after
core_suc o c events n = refl

pub core_more : (o : Opening) (c d e : Core) (events : List CoreEvent) (n : ℕ)
    (event : CoreEvent) (reply : CoreReply) → d ≡ core_after o c events n → event ≡ event_at events n →
    step o d event ≡ record { after = e; reply = reply } → e ≡ core_after o c events (n + 1)
core_more o c d e events n event reply d_is event_is stepped = rw add-one
    (ap (λ (s : Stepped). s.after) (sym stepped)
    ∙ ap (λ (x : Core). (step o x event).after) d_is
    ∙ ap (λ (x : CoreEvent). (step o (core_after o c events n) x).after) event_is
    ∙ sym (core_suc o c events n))

replies_suc : (o : Opening) (c : Core) (events : List CoreEvent) (n : ℕ) →
    core_replies_to o c events (suc n) ≡ core_replies_to o c events n ++
    (step o (core_after o c events n) (event_at events n)).reply ∷ []
unfolding core_replies_to
replies_suc o c events n = refl

pub replies_more : (o : Opening) (c d e : Core) (events : List CoreEvent) (n : ℕ)
    (event : CoreEvent) (reply : CoreReply) (base before after : List CoreReply) → d ≡ core_after o c events n →
    event ≡ event_at events n → step o d event ≡ record { after = e; reply = reply } →
    before ≡ base ++ core_replies_to o c events n → after ≡ before ++ reply ∷ [] →
    after ≡ base ++ core_replies_to o c events (n + 1)
replies_more o c d e events n event reply base before after d_is event_is stepped before_is after_is =
    let told = core_replies_to o c events n in
    let reply_is : reply ≡ (step o (core_after o c events n) (event_at events n)).reply =
    ap (λ (s : Stepped). s.reply) (sym stepped)
    ∙ ap (λ (x : Core). (step o x event).reply) d_is
    ∙ ap (λ (x : CoreEvent). (step o (core_after o c events n) x).reply) event_is in
    rw add-one
    (after_is
    ∙ ap (λ (x : List CoreReply). x ++ reply ∷ []) before_is
    ∙ append_assoc base told (reply ∷ [])
    ∙ ap (λ (r : CoreReply). base ++ (told ++ r ∷ [])) reply_is
    ∙ ap (λ (x : List CoreReply). base ++ x) (sym (replies_suc o c events n)))

-- the events of a list name existing workers
pub named_catch_up : (event : CoreEvent) (w n : ℕ) → worker_of_event event < n → event ≡ CatchUp w → w < n
unfolding worker_of_event
named_catch_up event w n named is = subst (λ (x : CoreEvent). worker_of_event x < n) is named

pub named_commit : (event : CoreEvent) (w n : ℕ) → worker_of_event event < n → event ≡ Commit w → w < n
unfolding worker_of_event
named_commit event w n named is = subst (λ (x : CoreEvent). worker_of_event x < n) is named

-- before the first event
pub core_start : (o : Opening) (c : Core) (events : List CoreEvent) → c ≡ core_after o c events 0
unfolding core_after
core_start o c events = refl

pub replies_start : (o : Opening) (c : Core) (events : List CoreEvent)
    (base : List CoreReply) → base ≡ base ++ core_replies_to o c events 0
unfolding core_replies_to
replies_start o c events base = sym (append-nil base)

-- after the last one
pub core_end : (o : Opening) (c d : Core) (events : List CoreEvent) (n : ℕ) →
    d ≡ core_after o c events n → n ≡ length events → d ≡ (run o c events).last
unfolding run
core_end o c d events n d_is n_is = rw (← n_is) d_is

pub replies_end : (o : Opening) (c : Core) (events : List CoreEvent) (n : ℕ)
    (base after : List CoreReply) → after ≡ base ++ core_replies_to o c events n → n ≡ length events →
    after ≡ base ++ (run o c events).replies
unfolding run
replies_end o c events n base after after_is n_is = rw (← n_is) after_is

-- there is one reply for each event
pub replies_long : (o : Opening) (c : Core) (events : List CoreEvent) (n : ℕ) →
    length (core_replies_to o c events n) ≡ n
unfolding core_replies_to
replies_long o c events zero = refl
replies_long o c events (suc n) =
    omega (
      arith,
      length_push (core_replies_to o c events n)
          (step o (core_after o c events n) (event_at events n)).reply,
      replies_long o c events n,
    )

-- there is room for one reply more
pub room_left : (o : Opening) (c : Core) (events : List CoreEvent) (n room : ℕ)
    (base told : List CoreReply) → told ≡ base ++ core_replies_to o c events n → n < length events →
    length base + length events ≤ room → length told < room
room_left o c events n room base told told_is within room_is =
    omega (
      arith,
      ap (λ (x : List CoreReply). length x) told_is,
      length-append base (core_replies_to o c events n),
      replies_long o c events n,
    )

-- one event more that names a worker
pub named_more : (l : Lots) (events : List CoreEvent) (n w : ℕ) (event : CoreEvent) →
    ((k : ℕ) → k < n → worker_of_event (event_at events k) < worker_count l) → event ≡ event_at events n →
    w ≡ worker_of_event event → w < worker_count l → (k : ℕ) → k < n + 1 →
    worker_of_event (event_at events k) < worker_count l
named_more l events n w event each event_is w_is exists k before = ⊎_elim
    (λ (less : k < n). each k less)
    (λ (last : n ≤ k). let here : n ≡ k = omega (arith, before) in
    subst (λ j. worker_of_event (event_at events j) < worker_count l) here
    (omega (arith, exists, w_is, ap worker_of_event event_is)))
    (cases_lt k n)
