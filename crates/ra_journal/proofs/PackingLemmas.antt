-- An entry that is packed is found again, and so are all of a list.
use Rattle.std.proofs.Common.{◌≡◌, ℕ, ◌+◌, ◌-◌, ◌<◌, min, List, [], ◌∷◌, ◌++◌, length, map, take, drop, get_or, refl}
use Rattle.std.proofs.Common.{sym, ap, ◌∙◌, arith}
use Rattle.std.proofs.lemmas.List.{map-append, length-map, get_or-map, take-map, drop-map}
use Rattle.std.specs.List.{slice_range}
use Rattle.ra_moves.specs.declared.steps.MoveKind.{MoveKind}
use Rattle.ra_moves.specs.declared.steps.MoveKind.TheVariants.{Shift, Swap, Chain}
use Rattle.ra_moves.specs.declared.steps.Step.{Step}
use Rattle.ra_moves.specs.MoveSteps.{step_count}
use Rattle.ra_moves.specs.Steps.{step_at}
use Rattle.ra_journal.specs.declared.entries.Entry.{Entry}
use Rattle.ra_journal.specs.declared.packed.Packed.{Packed}
use Rattle.ra_journal.specs.Batches.{batch_from}
use Rattle.ra_journal.specs.Entries.{entry_at}
use Rattle.ra_journal.specs.Packing.{verdict_in, steps_of_kind, unpacked}
use Rattle.ra_journal.proofs.BatchLemmas.{batch_is}

-- the steps of a move are the first ones of its first, its second or last, and its last
steps_back : (kind : MoveKind) (steps : List Step) → length steps ≡ step_count kind →
    steps_of_kind kind (step_at steps 0) (step_at steps (min (length steps - 1) 1)) (step_at steps (length steps - 1)) ≡
    steps
unfolding step_count steps_of_kind step_at
steps_back Shift (one ∷ []) long = refl
steps_back Swap (one ∷ two ∷ []) long = refl
steps_back Chain (one ∷ two ∷ three ∷ []) long = refl
steps_back Shift [] long = absurd (omega (arith, long))
steps_back Swap [] long = absurd (omega (arith, long))
steps_back Chain [] long = absurd (omega (arith, long))
steps_back Shift (one ∷ two ∷ more) long = absurd (omega (arith, long))
steps_back Swap (one ∷ []) long = absurd (omega (arith, long))
steps_back Swap (one ∷ two ∷ three ∷ more) long = absurd (omega (arith, long))
steps_back Chain (one ∷ []) long = absurd (omega (arith, long))
steps_back Chain (one ∷ two ∷ []) long = absurd (omega (arith, long))
steps_back Chain (one ∷ two ∷ three ∷ four ∷ more) long = absurd (omega (arith, long))

pub packed_back : (e : Entry) (p : Packed) (last : ℕ) → length e.mv.steps ≡ step_count e.mv.kind →
    last + 1 ≡ length e.mv.steps → verdict_in p.outcome ≡ e.verdict → p.worker ≡ e.worker → p.kind ≡ e.mv.kind →
    p.k ≡ e.k → p.q ≡ e.q → p.first ≡ step_at e.mv.steps 0 → p.second ≡ step_at e.mv.steps (min last 1) →
    p.third ≡ step_at e.mv.steps last → unpacked p ≡ e
unfolding unpacked
packed_back e p last long last_is verdict worker kind k q first second third =
    let at : last ≡ length e.mv.steps - 1 = omega (arith, last_is) in
    let steps : steps_of_kind e.mv.kind (step_at e.mv.steps 0) (step_at e.mv.steps (min last 1))
    (step_at e.mv.steps last) ≡
    e.mv.steps =
    ap (λ n. steps_of_kind e.mv.kind (step_at e.mv.steps 0) (step_at e.mv.steps (min n 1)) (step_at e.mv.steps n)) at
    ∙ steps_back e.mv.kind e.mv.steps long in
    rw (worker, kind, k, q, first, second, third, verdict, steps) refl

module _ (packed : List Packed) where
  -- the lists that were packed
  pub unpacked_length : length (map unpacked packed) ≡ length packed
  unpacked_length = length-map packed unpacked

  pub unpacked_push : (after : List Packed) (p : Packed) (e : Entry) → after ≡ packed ++ p ∷ [] → unpacked p ≡ e →
      map unpacked after ≡ map unpacked packed ++ e ∷ []
  unpacked_push after p e is back = grind (arith, map-append)

  pub unpacked_at : (n : ℕ) (p : Packed) → n < length packed → p ≡ get_or packed n p →
      unpacked p ≡ entry_at (map unpacked packed) n
  unfolding entry_at
  unpacked_at n p within is = grind (arith, get_or-map)

  pub unpacked_none : packed ≡ [] → map unpacked packed ≡ []
  unpacked_none none = ap (λ ps. map unpacked ps) none

  pub unpacked_part : (at number : ℕ) → number ≡ min 1024 (length packed - at) →
      map unpacked (slice_range packed at (at + number)) ≡ batch_from (map unpacked packed) at
  unpacked_part at number is =
      let long : length packed ≡ length (map unpacked packed) = sym (unpacked_length) in
      let few : number ≡ min 1024 (length (map unpacked packed) - at) = is ∙ ap (λ n. min 1024 (n - at)) long in
      sym (take-map unpacked (at + number - at) (drop at packed)) ∙ ap (λ (ps : List Entry). take (at + number - at) ps)
      (sym (drop-map unpacked at packed)) ∙ batch_is (map unpacked packed) at number few
