-- All labels that are x lie between the first from x on and the first above it.
use Rattle.std.proofs.Common.{ℕ, ◌≡◌, ◌+◌, ◌<◌, ◌≤◌, get_or, sym, arith}
use Rattle.ra_cells.proofs.HeldLemmas.{held_between, first_ordered}
use Rattle.ra_cells.proofs.held.held_in.Goals as goal

pub returns : goal.returns
returns c =
    let labels = c.args.labels.now.items in
    let x_is : c.from.result ≡ c.args.x = c.from.ensures in
    let y_is : c.from-2.result ≡ c.args.x = c.from-2.ensures in
    let less = λ (k : ℕ) (from : c.args.start ≤ k) (below : k < c.first_from-first.result).
    let fact : get_or labels k 0 < c.args.x = omega (arith, c.first_from-first.ensures.below k from below) in
    fact in
    let not_less = λ (k : ℕ) (from : c.first_from-first.result ≤ k) (below : k < c.args.end). let fact : c.args.x ≤
    get_or labels k 0 = omega (arith, c.first_from-first.ensures.above k from below) in fact in
    let low = λ (k : ℕ) (from : c.args.start ≤ k) (below : k < c.first_from-behind.result).
    let fact : get_or labels k 0 < c.args.x + 1 = omega (arith, c.first_from-behind.ensures.below k from below) in
    fact in
    let high = λ (k : ℕ) (from : c.first_from-behind.result ≤ k) (below : k < c.args.end). let fact : c.args.x + 1 ≤
    get_or labels k 0 = omega (arith, c.first_from-behind.ensures.above k from below) in fact in
    record {
      count = sym (held_between labels c.args.start c.args.end c.args.x c.first_from-first.result
          c.first_from-behind.result c.first_from-first.ensures.from c.first_from-behind.ensures.within less
          not_less low high
          (first_ordered labels c.args.start c.args.end c.args.x c.first_from-first.result
          c.first_from-behind.result c.first_from-first.ensures.within c.first_from-behind.ensures.from less
          high));
    }
