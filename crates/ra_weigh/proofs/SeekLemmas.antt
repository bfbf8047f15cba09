-- Searches that go from one place that passes a test to the next.
use Rattle.std.proofs.Common.{◌≡◌, ◌≢◌, ℕ, ◌+◌, ◌<◌, ◌≤◌, Bool, Option, Some, None, sym, arith}
use Rattle.std.proofs.lemmas.Bool.{ne_eqb, or_from}
use Rattle.ra_base.specs.Searches.{first}
use Rattle.ra_base.specs.Sums.{is_named}
use Rattle.ra_base.specs.declared.causes.Cause.{Cause}
use Rattle.ra_base.proofs.Searches.{first_none_from, first_skip, first_more_none, first_found}
use Rattle.ra_base.proofs.Named.{is_named_none, is_named_more}
use Rattle.ra_moves.specs.Laws.{OnlyWhere}
use Rattle.ra_weigh.specs.Searching.{ClearTo, Sought}

module _ {n : ℕ} {test : ℕ → Bool} {f : ℕ → Option Cause} {low : ℕ} where
  pub sought_start : OnlyWhere n test f → low ≤ n → ClearTo test 0 low → Sought n f low
  sought_start only within clear = grind (arith, first_none_from)

  pub sought_on : {next : ℕ} → OnlyWhere n test f → Sought n f low → f low ≡ None → low + 1 ≤ next → next ≤ n →
      ClearTo test (low + 1) next → Sought n f next
  sought_on {next} only so_far here onwards within clear = grind (arith, first_skip, first_more_none)

module _ (n : ℕ) (f : ℕ → Option Cause) (low : ℕ) where
  pub sought_found : (x : Cause) → Sought n f low → low < n → f low ≡ Some x → Some x ≡ first n f
  sought_found x so_far within here = sym (first_found low n f x within so_far.none here)

  pub sought_all : Sought n f low → n ≤ low → None ≡ first n f
  sought_all so_far all = grind arith

  -- a first place at which something is known to be found
  pub sought_there : (y : Option Cause) → low < n → first low f ≡ None → f low ≢ None → y ≡ f low → y ≡ first n f
  sought_there None within none some is = absurd (some (sym is))
  sought_there (Some x) within none some is = sym (first_found low n f x within none (sym is))

-- the next place

pub clear_none : (e : ℕ → ℕ) (low next : ℕ) → ClearTo (is_named 0 e) low next
clear_none e low next = record { between = λ k above below. is_named_none e k }

-- one more name, which isn't before the new place
pub clear_more : (n : ℕ) (e : ℕ → ℕ) {low next : ℕ} (new : ℕ) {x : ℕ} → ClearTo (is_named n e) low next → new ≤ next →
    (low ≤ x → new ≤ x) → e n ≡ x → ClearTo (is_named (n + 1) e) low new
clear_more n e new clear near past is = grind (arith, is_named_more, or_from, ne_eqb)
