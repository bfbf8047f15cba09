use Rattle.std.proofs.Common.{◌≡◌, ℕ, ◌+◌, ◌-◌, ◌*◌, get_or, refl, sym, ap, ap₂, ◌∙◌, arith}
use Rattle.ra_token.proofs.TidyBlocks.{worth_at}
use Rattle.ra_token.proofs.short.short_values.Goals as goal

pub returns : goal.returns
returns c = record {
  many = c.joined.ensures.many;
  each = λ k l.
      let bytes = c.args.bytes.now in
      let from = c.args.from in
      let worth : ℕ → ℕ → ℕ → ℕ = λ x y z. x + y * 10 + z * 100 in
      let last = get_or bytes (from + k) 0 in
      let before = get_or bytes (from + k - 1) 0 in
      let first = get_or bytes (from + k - 2) 0 in
      let one_back : from - 1 + k ≡ from + k - 1 = omega (arith, c.requires.low) in
      let two_back : from - 2 + k ≡ from + k - 2 = omega (arith, c.requires.low) in
      let is_before : get_or c.load-before.result k 0 ≡ before =
      c.load-before.ensures.each k l ∙ ap (λ i. get_or bytes i 0) one_back in
      let is_first : get_or c.load-2.result k 0 ≡ first =
      c.load-2.ensures.each k l ∙ ap (λ i. get_or bytes i 0) two_back in
      let ones : get_or c.less-ones.result k 0 ≡ last - 48 =
      c.less-ones.ensures.each k l ∙ ap₂ (λ a b. a - b) (c.load.ensures.each k l) (c.zeros.ensures.each k l) in
      let tens : get_or c.less-tens.result k 0 ≡ before - 48 =
      c.less-tens.ensures.each k l ∙ ap₂ (λ a b. a - b) is_before (c.zeros-2.ensures.each k l) in
      let above : get_or c.less.result k 0 ≡ first - 48 =
      c.less.ensures.each k l ∙ ap₂ (λ a b. a - b) is_first (c.zeros-3.ensures.each k l) in
      let below : get_or c.less-2.result k 0 ≡ 48 - before =
      c.less-2.ensures.each k l ∙ ap₂ (λ a b. a - b) (c.zeros-4.ensures.each k l) is_before in
      let hundreds : get_or c.less-hundreds.result k 0 ≡ first - 48 - (48 - before) =
      c.less-hundreds.ensures.each k l ∙ ap₂ (λ a b. a - b) above below in
      c.joined.ensures.each k l
      ∙ ap (λ x. worth x (get_or c.less-tens.result k 0) (get_or c.less-hundreds.result k 0)) ones
      ∙ ap (λ y. worth (last - 48) y (get_or c.less-hundreds.result k 0)) tens
      ∙ ap (worth (last - 48) (before - 48)) hundreds
      ∙ sym (worth_at bytes (from + k) last before first refl refl refl);
}
