-- Rows with the same numbers are one row.
use Rattle.std.proofs.Common.{◌≡◌, ℕ, ◌^◌, ◌<◌, ap, ◌∙◌, subst}
use Rattle.std.specs.Coded.{le_prop}
use Rattle.ra_base.specs.declared.ids.Service.{Service}
use Rattle.ra_model.specs.declared.raw.ProcessRow.{ProcessRow}

-- two small numbers that are equal
pub record Small : Type 0 where
  pub number : ℕ
  pub small : number < 2 ^ 32

pub small_same : (x y : Small) → x.number ≡ y.number → x ≡ y
small_same x y e =
    let P : ℕ → Type 0 = λ n. (s : n < 2 ^ 32) → x ≡ record { number = n; small = s } in
    let here : P x.number =
    λ s. ap (λ (t : x.number < 2 ^ 32). let z : Small = record { number = x.number; small = t } in z)
    (le_prop x.small s) in
    subst P e here y.small

process_from : Service → Small → ProcessRow
process_from s a = record { service = s; move_cost = a.number; small = a.small }

pub process_same : (x y : ProcessRow) → x.service.0 ≡ y.service.0 → x.move_cost ≡ y.move_cost → x ≡ y
unfolding process_from
process_same x y e f =
    let a : Small = record { number = x.move_cost; small = x.small } in
    let b : Small = record { number = y.move_cost; small = y.small } in
    ap (λ (n : ℕ). process_from (record { 0 = n }) a) e ∙ ap (process_from y.service) (small_same a b f)
