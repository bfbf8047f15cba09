-- Lists of copies, as a loop makes them, and copies of lists.
use Rattle.std.proofs.Common.{◌≡◌, ℕ, ◌+◌, List, [], ◌∷◌, ◌++◌, refl, ap₂}
use Rattle.std.proofs.Math.ListN.{replicate, replicate-append-replicate}
use Rattle.ra_base.specs.Listed.{Listed}

pub copies_none : {X : Type 0} → (x : X) → replicate 0 x ≡ []
copies_none x = refl

pub copies_more : {X : Type 0} → (n : ℕ) (x : X) → replicate n x ++ x ∷ [] ≡ replicate (n + 1) x
copies_more n x = replicate-append-replicate n 1 x

pub ruleset copies = (copies_none, copies_more)

-- a list with the items and the room of another is that list
pub same_list : {X : Type 0} → (x y : Listed X) → x.items ≡ y.items → x.room ≡ y.room → x ≡ y
same_list {X} x y items room =
    ap₂ (λ (i : List X) (r : ℕ). let made : Listed X = record { items = i; room = r } in made) items room
