-- What rows have of an argument after a use of it.
use Rattle.std.proofs.Common.{◌≡◌, ◌∙◌, ◌++◌, ap, sym, refl, Bool, true, false, List, [], ◌∷◌, Option, Some, None}
use Rattle.std.proofs.Common.{option_map, is_some}
use Rattle.std.specs.Prelude.{find, unwrap_or, option_and_then, slice_get}
use Rattle.std.specs.Str.{bytes_eq}
use Rattle.std.proofs.lemmas.Slice.Eq.{bytes_eq-Decides}
use Rattle.clap.specs.Walk.{Row, Text, all_of, first_of, has_row, with_values, without}
use Rattle.clap.specs.declared.builder.value_parser.Reading.{Reading}
use Rattle.clap.specs.declared.parser.matches.ValueSource.{ValueSource}

pub same_id : (id : Text) → bytes_eq id id ≡ true
same_id id = (bytes_eq-Decides id id).1 refl

other_id : (a id other : Text) → bytes_eq a id ≡ true → bytes_eq id other ≡ false → bytes_eq a other ≡ false
other_id a id other same e = ap (λ t. bytes_eq t other) ((bytes_eq-Decides a id).0 same) ∙ e

module _ (id : Text) where
  -- the values come after those that the id had
  pub values_added : (how : Reading) (s : ValueSource) (vs : List Text) (rows : List Row) →
      all_of id (with_values id how s vs rows) ≡ Some (unwrap_or (all_of id rows) [] ++ vs)
  values_added how s vs [] = rw (same_id id) refl
  values_added how s vs (r ∷ rows) = go (values_added how s vs rows) (bytes_eq r.id id) refl
    where
      go : all_of id (with_values id how s vs rows) ≡ Some (unwrap_or (all_of id rows) [] ++ vs) → (b : Bool) →
          bytes_eq r.id id ≡ b
          → all_of id (with_values id how s vs (r ∷ rows)) ≡ Some (unwrap_or (all_of id (r ∷ rows)) [] ++ vs)
      go more true e = rw e (rw e refl)
      go more false e = rw e (rw e more)

  -- what another id had stays
  pub others_kept : (other : Text) (how : Reading) (s : ValueSource) (vs : List Text) (rows : List Row) →
      bytes_eq id other ≡ false → all_of other (with_values id how s vs rows) ≡ all_of other rows
  others_kept other how s vs [] apart = rw apart refl
  others_kept other how s vs (r ∷ rows) apart =
      go (others_kept other how s vs rows apart) (bytes_eq r.id id) refl (bytes_eq r.id other) refl
    where
      go : all_of other (with_values id how s vs rows) ≡ all_of other rows → (b : Bool) → bytes_eq r.id id ≡ b →
          (d : Bool) → bytes_eq r.id other ≡ d → all_of other (with_values id how s vs (r ∷ rows)) ≡
          all_of other (r ∷ rows)
      go more true e d is = let no = other_id r.id id other e apart in rw e (rw no refl)
      go more false e true is = rw e (rw is refl)
      go more false e false is = rw e (rw is more)

  -- there is a row exactly if the id has values
  pub has_row_all : (rows : List Row) → has_row id rows ≡ is_some (all_of id rows)
  has_row_all [] = refl
  has_row_all (r ∷ rows) = go (has_row_all rows) (bytes_eq r.id id) refl
    where
      go : has_row id rows ≡ is_some (all_of id rows) → (b : Bool) → bytes_eq r.id id ≡ b →
          has_row id (r ∷ rows) ≡ is_some (all_of id (r ∷ rows))
      go more true e = rw e refl
      go more false e = rw e more

  -- nothing is taken out if the id has no row
  pub none_out : (rows : List Row) → all_of id rows ≡ None → without id rows ≡ rows
  none_out [] none = refl
  none_out (r ∷ rows) none = go (none_out rows) (bytes_eq r.id id) refl
    where
      go : (all_of id rows ≡ None → without id rows ≡ rows) → (b : Bool) → bytes_eq r.id id ≡ b →
          without id (r ∷ rows) ≡ r ∷ rows
      go more true e =
          let has : is_some (all_of id (r ∷ rows)) ≡ true = rw e refl in
          let not : is_some (all_of id (r ∷ rows)) ≡ false = ap is_some none in
          cc
      go more false e =
          let less : all_of id (r ∷ rows) ≡ all_of id rows = rw e refl in
          rw e (ap (λ rs. r ∷ rs) (more (sym less ∙ none)))

  -- the first value is the first of all
  pub first_all : (rows : List Row) → first_of id rows ≡ option_and_then (λ vs. slice_get vs 0)
      (all_of id rows)
  first_all rows = go (find (λ r. bytes_eq r.id id) rows)
    where
      go : (o : Option Row) → option_and_then (λ (r : Row). slice_get r.values 0) o ≡
          option_and_then (λ vs. slice_get vs 0) (option_map (λ (r : Row). r.values) o)
      go None = refl
      go (Some r) = refl
