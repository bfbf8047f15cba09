use Rattle.std.proofs.Common.{◌≡◌, ℕ, zero, suc, slice_index, refl, ◌+◌, [], ◌∷◌, replicate, rules, arith, ap, sym}
use Rattle.std.proofs.Common.{◌∙◌, Some}
use Rattle.std.proofs.lemmas.List.{length-replicate}
use Rattle.ra_turn.proofs.Ends.{starts}
use Rattle.ra_turn.proofs.make.lay.Goals as goal

-- three words come before those of the guards
three_more : (guards : ℕ) → replicate {A = ℕ} (3 + guards) 0 ≡ 0 ∷ 0 ∷ 0 ∷ replicate {A = ℕ} guards 0
three_more guards = let e : 3 + guards ≡ suc (suc (suc guards)) = omega arith in rw e

all_zero : (n k : ℕ) → slice_index (replicate {A = ℕ} n 0) k ≡ 0
all_zero zero k = refl
all_zero (suc n) zero = refl
all_zero (suc n) (suc k) = all_zero n k

pub new-requires : goal.new-requires
new-requires g c = let key = c.args.key.now in let story = g.V.Story in
    let copies =
    c.in-Ok.ensures.items_if_clones_equal (λ y h. h) in
    let words = c.as_slice.ensures.value
    ∙ (copies ∙ three_more key.guards) in
    let slots : c.push_reserved.new.self.items ≡ Some c.args.value ∷ [] = search rules in
    let same = c.requires.key.2 in
    rw slots (starts story.opening story.notes story.author story.touches key.passes key.turns key.guards
    (story.opening key.start.value) c.as_slice.result.now (replicate key.guards 0) c.args.value words
    (length-replicate key.guards 0) (all_zero key.guards) c.requires.value (ap story.opening (sym same)))
