-- Steps that leave their machines, no two of one process, have no flaw.
use Rattle.std.proofs.Common.{inl, inr, ◌≡◌, ◌≢◌, ℕ, ◌+◌, ◌<◌, ◌≤◌, List, length, None, sym, ap, ◌∙◌, arith}
use Rattle.std.proofs.lemmas.Bool.{cases_lt}
use Rattle.ra_base.specs.Searches.{or_else}
use Rattle.ra_base.proofs.Searches.{first_none_from, or_else_none}
use Rattle.ra_base.proofs.Named.{is_named_not}
use Rattle.ra_model.proofs.BrokenLemmas.{cause_free}
use Rattle.ra_moves.specs.declared.steps.Step.{Step}
use Rattle.ra_moves.specs.Steps.{step_at, process_in, from_in, to_in}
use Rattle.ra_moves.specs.Judging.{repeat_test, repeat_of, same_test, same_of}

-- the first n steps leave their machines, and no two of them are of one process
pub record NoFlaw (steps : List Step) (n : ℕ) : Type 0 where
  pub leaves : (k : ℕ) → k < n → from_in steps k ≢ to_in steps k
  pub apart : (j k : ℕ) → j < k → k < n → process_in steps j ≢ process_in steps k

module _ (steps : List Step) where
  -- none of them
  pub no_flaw : NoFlaw steps 0
  no_flaw = grind arith

  -- one more
  pub no_flaw_more : {n : ℕ} {s : Step} → NoFlaw steps n → s ≡ step_at steps n → s.from.0 ≢ s.to.0 →
      ((j : ℕ) → j < n → process_in steps j ≢ s.process.0) → NoFlaw steps (n + 1)
  unfolding process_in from_in to_in
  no_flaw_more {n} {s} so_far is leaves apart = grind arith

  -- the process of a given step
  pub process_at : (j k : ℕ) {s : Step} → s ≡ step_at steps k → j ≡ k → process_in steps j ≡ s.process.0
  unfolding process_in
  process_at j k is same = ap (λ (t : Step). t.process.0) (ap (step_at steps) same ∙ sym is)

  -- if these are all its steps, then a move has no flaw
  pub flawless_all : {n : ℕ} → n ≡ length steps → NoFlaw steps n → None ≡ or_else (repeat_of steps) (same_of steps)
  unfolding repeat_of same_of repeat_test same_test
  flawless_all all none = grind (arith, first_none_from, cause_free, is_named_not, or_else_none)

  -- one, two and three steps

  pub flawless_one : (n : ℕ) (one : Step) → n ≡ length steps → n ≡ 1 → one ≡ step_at steps 0 → one.from.0 ≢ one.to.0 →
      None ≡ or_else (repeat_of steps) (same_of steps)
  flawless_one n one all count first leaves =
      flawless_all (omega arith)
      (no_flaw_more (no_flaw) first leaves (λ j before. absurd (omega arith)))

  two_steps : {one two : Step} → one ≡ step_at steps 0 → one.from.0 ≢ one.to.0 → two ≡ step_at steps 1 →
      two.from.0 ≢ two.to.0 → one.process.0 ≢ two.process.0 → NoFlaw steps 2
  two_steps {one} {two} first leaves second leaves_too apart =
      no_flaw_more (no_flaw_more (no_flaw) first leaves (λ j before. absurd (omega arith)))
      second leaves_too (λ j before same. apart (sym (process_at j 0 first (omega arith)) ∙ same))

  module _ {n : ℕ} {one two : Step} where
    pub flawless_two : n ≡ length steps → n ≡ 2 → one ≡ step_at steps 0 → one.from.0 ≢ one.to.0 →
        two ≡ step_at steps 1 → two.from.0 ≢ two.to.0 → one.process.0 ≢ two.process.0 →
        None ≡ or_else (repeat_of steps) (same_of steps)
    flawless_two all count first leaves second leaves_too apart =
        flawless_all (omega arith) (two_steps first leaves second leaves_too apart)

    pub flawless_three : (three : Step) → n ≡ length steps → n ≤ 3 → n ≢ 1 → n ≢ 2 → 1 ≤ n → one ≡ step_at steps 0 →
        one.from.0 ≢ one.to.0 → two ≡ step_at steps 1 → two.from.0 ≢ two.to.0 → one.process.0 ≢ two.process.0 →
        three ≡ step_at steps 2 → three.from.0 ≢ three.to.0 → one.process.0 ≢ three.process.0 →
        two.process.0 ≢ three.process.0 → None ≡ or_else (repeat_of steps) (same_of steps)
    flawless_three three all few not_one not_two some first leaves second leaves_too apart third leaves_three apart_one apart_two =
        flawless_all (omega arith)
        (no_flaw_more (two_steps first leaves second leaves_too apart) third leaves_three
        (λ j before same. elim (cases_lt j 1) [
          | inl at_first ↦ apart_one (sym (process_at j 0 first (omega arith)) ∙ same)
          | inr at_second ↦ apart_two (sym (process_at j 1 second (omega arith)) ∙ same)
        ]))
