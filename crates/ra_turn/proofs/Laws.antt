-- The laws of versions, for callers.
use Rattle.std.proofs.Common.{◌≡◌, Bool, ◌∷◌, [], ◌++◌, length, Contains, refl, ap, sym, ◌∙◌, ⊎_elim}
use Rattle.std.proofs.Common.{arith}
use Rattle.std.proofs.lemmas.Bool.{cases_lt}
use Rattle.std.proofs.lemmas.List.Elements.{All-contains, Contains-append_right}
use Rattle.ra_turn.specs.declared.story.Story.{Ghosts}
use Rattle.ra_turn.specs.declared.turn.Turn.{Turn}
use Rattle.ra_turn.specs.Notes.{by, grip, touching, OnlyBy}
use Rattle.ra_turn.specs.Passes.{seen_by, notes_made_by, grips_of, opening_of}
use Rattle.ra_turn.specs.Laws.{VersionIsOne, VersionAtTake}
use Rattle.ra_turn.proofs.Versions.{version_one, version_whole, version_past}

pub version_is_one : {N : Type 0} (touched : N → Bool) → VersionIsOne touched
version_is_one touched xs v w is is' = version_one touched xs v w is is'

module _ {V N O : Type 0} (g : Ghosts V N O) where
  pub version_at_take : (t : Turn V N O) → VersionAtTake g t
  version_at_take t p q r guard asked at held take =
      let touched = touching g.touches (opening_of g.opening t) guard in
      let xs = seen_by q in let ys = seen_by r in
      let mine = notes_made_by q in
      let has : Contains (grips_of p ++ grip guard at ∷ []) (grip guard at) =
      Contains-append_right (grips_of p) (grip guard at ∷ []) (grip guard at) (0, omega arith, refl) in
      let has' : Contains (grips_of r) (grip guard at) = rw (take.grips.0 ∙ held.grips) has in
      let only =
      All-contains
      (λ k. OnlyBy (touching g.touches (opening_of g.opening t) k.guard) g.author r.number ys k.version)
      (grips_of r) (grip guard at) take.shut has' in
      let seen : by g.author r.number xs ≡ mine = ap (λ n. by g.author n xs) (take.number ∙ sym q.numbered)
      ∙ q.owned in
      let all = take.owned ∙ take.made in
      ⊎_elim
      (λ lt. (let told = held.news (omega arith) in
      let told' : Contains r.seat.me.0.news (grip guard at) = rw take.grips.1 told in
      version_past touched g.author r.number xs ys mine at take.seen seen all lt (take.news guard at told').1 only))
      (λ le. version_whole touched g.author r.number xs ys mine at at take.seen seen all le only (held.version le))
      (cases_lt (length xs) at)
