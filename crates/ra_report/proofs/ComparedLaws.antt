-- A text that was written to a sink that compares.
use Rattle.std.proofs.Common.{◌≡◌, ℕ, ◌≤◌, List, ◌++◌, length, take, Option, None, Some, IfNone, IfSome, Result, Ok, Err, OnOk, OnErr, inl, inr, arith, sym, ap, ◌∙◌, ⊎_elim}
use Rattle.std.specs.Io.KnownBytes.{Appends}
use Rattle.ra_token.specs.Comparing.{opened, WasGiven}
use Rattle.ra_token.specs.Lines.{lines_of, FirstUnlike}
use Rattle.ra_report.specs.Pieces.{BreaksOff}
use Rattle.ra_report.proofs.LineEnds.{unlike_within}

pub was_given : {T E : Type 0} (r : Result T E) (expected old taken text : List ℕ) (before after : ℕ) →
    old ≡ opened expected → before ≡ 0
    → OnOk r (Appends (Some old) (Some taken) text) → OnErr r (BreaksOff (Some old) (Some taken) before after text) →
    WasGiven expected taken after text
was_given (Ok t) expected old taken text before after starts none whole part =
    inl (whole ∙ ap (λ xs. xs ++ text) starts)
was_given (Err e) expected old taken text before after starts none whole part =
    inr (
      part.0.0,
      part.0.2 ∙ ap (λ xs. xs ++ take part.0.0 text) starts,
      ⊎_elim (λ more. omega arith) (λ last. omega (arith, last)) part.1,
    )

-- what is told of no number, or of a number
pub none_sym : {X : Type 0} (found : Option X) (a b : List ℕ) → IfNone found (a ≡ b) → IfNone found (b ≡ a)
none_sym None a b same = sym same
none_sym (Some x) a b same = tt

pub few_lines : (found : Option ℕ) (bytes head : List ℕ) → length (lines_of head) ≡ 10 →
    IfSome found (FirstUnlike bytes head) → IfSome found (λ n. n ≤ 10)
few_lines None bytes head ten unlike = tt
few_lines (Some n) bytes head ten unlike =
    let within : n ≤ length (lines_of head) = unlike_within bytes head n unlike in omega arith
