-- Every entry is done or refused.
use Rattle.std.proofs.Common.{◌≡◌, ℕ, ◌+◌, ◌-◌, ◌<◌, Bool, true, false, not, cond, List, [], ◌∷◌, length, take, arith}
use Rattle.std.proofs.lemmas.List.{get_or_default}
use Rattle.std.proofs.lemmas.List.Sums.{sum_by-cons, sum_by_more}
use Rattle.ra_journal.specs.declared.entries.Entry.{Entry}
use Rattle.ra_journal.specs.Entries.{entry_at}
use Rattle.ra_report.specs.Summaries.{is_done, done_count, refused_count}

one_of_two : (b : Bool) → cond b 1 0 + cond (not b) 1 0 ≡ 1
one_of_two true = omega arith
one_of_two false = omega arith

pub done_or_refused : (h : List Entry) → done_count h + refused_count h ≡ length h
unfolding done_count refused_count
done_or_refused [] = omega arith
done_or_refused (e ∷ h) =
    let here = one_of_two (is_done e.verdict) in
    let rest = done_or_refused h in
    let done = sum_by-cons (λ x. cond (is_done x.verdict) 1 0) e h in
    let refused = sum_by-cons (λ x. cond (not (is_done x.verdict)) 1 0) e h in
    omega arith

-- one more entry
pub counted_more : (h : List Entry) (n : ℕ) (e : Entry) (done one : ℕ) → n < length h → e ≡ entry_at h n →
    done ≡ done_count (take n h) → one ≡ cond (is_done e.verdict) 1 0 → done + one ≡ done_count (take (n + 1) h)
unfolding done_count entry_at
counted_more h n e done one within read so_far here = grind (arith, get_or_default, sum_by_more)

-- those that are not done are refused
pub others : (h : List Entry) (done : ℕ) → done ≡ done_count h → length h - done ≡ refused_count h
others h done is = let all = done_or_refused h in omega arith
