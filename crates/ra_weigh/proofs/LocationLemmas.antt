-- How many locations hold a service, from those of the ends of a move.
use Rattle.std.proofs.Common.{◌≡◌, ℕ, ◌+◌, ◌-◌, ◌*◌, ◌^◌, ◌<◌, ◌≤◌, ◌≢◌, true, false, cond, eqb, ltb, List, length, sym, refl, ap, ◌∙◌, arith, le-ltb, lt-ltb}
use Rattle.std.proofs.lemmas.Bool.{and_right, both_ways}
use Rattle.ra_base.specs.Sums.{total, one_if, count, is_named, fresh}
use Rattle.ra_base.specs.declared.ids.Machine.{Machine}
use Rattle.ra_base.proofs.Sums.{total_none, total_more, total_zero, total_le, total_bound}
use Rattle.ra_base.proofs.Counts.{one_if_true, one_if_false, one_if_le}
use Rattle.ra_base.proofs.Named.{total_change_named, is_named_at, fresh_again, fresh_new}
use Rattle.ra_model.specs.declared.raw.Tables.{Tables}
use Rattle.ra_model.specs.Numbers.{location_of}
use Rattle.ra_model.specs.Limits.{Small}
use Rattle.ra_model.specs.Services.{in_location, locations_of, of_service, members_at}
use Rattle.ra_moves.specs.declared.steps.Step.{Step}
use Rattle.ra_moves.specs.Steps.{step_at, from_in, to_in, process_in}
use Rattle.ra_weigh.proofs.StepLemmas.{from_read, to_read}
use Rattle.ra_moves.specs.Replacing.{applied}
use Rattle.ra_moves.specs.Values.{gone, end_count, end_in}
use Rattle.ra_moves.proofs.ValueLemmas.{end_from, end_to}
use Rattle.ra_moves.specs.Moving.{IsMove}
use Rattle.ra_moves.proofs.StayLemmas.{tally_applied, tally_stays}
use Rattle.ra_weigh.specs.declared.marks.Mark.TheVariants.{InLocation}
use Rattle.ra_weigh.specs.Marks.{mark_of, has_mark, marked, location_holds, end_location}

-- what the locations of the first n ends have after a move and before it
pub record Held (e before after : ℕ → ℕ) (n came went : ℕ) : Type 0 where
  pub came_is : came ≡ total n (fresh e after)
  pub went_is : went ≡ total n (fresh e before)
  pub came_few : came ≤ n
  pub went_few : went ≤ n

module _ (e before after : ℕ → ℕ) where
  pub held_none : Held e before after 0 0 0
  held_none = grind (arith, total_none)

  pub held_more : (n came went c g : ℕ) → Held e before after n came went → c ≡ fresh e after n → g ≡ fresh e before n →
      c ≤ 1 → g ≤ 1 → Held e before after (n + 1) (came + c) (went + g)
  held_more n came went c g so_far c_is g_is c_few g_few = grind (arith, total_more)

module _ (i : Tables) where
  module _ (steps : List Step) (label j : ℕ) (none : is_named (end_count steps) (end_location i steps) label ≡ false)
      (within : j < length steps) where
    -- no step leaves or enters a location of no end
    not_left : location_of i (from_in steps j) ≢ label
    unfolding end_count end_location
    not_left same =
        both_ways _ none (is_named_at (length steps + length steps) j _ label (omega arith)
        (ap (location_of i) (end_from steps j within) ∙ same))

    not_entered : location_of i (to_in steps j) ≢ label
    unfolding end_count end_location
    not_entered same =
        both_ways _ none (is_named_at (length steps + length steps) _ _ label
        (omega arith) (ap (location_of i) (end_to steps j) ∙ same))

  not_there : (s label p at : ℕ) → location_of i at ≢ label →
      of_service i s (λ q m. eqb (location_of i m) label) p at ≡ 0
  unfolding of_service
  not_there s label p at apart = grind (arith, and_right)

  small_end : (steps : List Step) (j : ℕ) → Small i → end_location i steps j < 2 ^ 32
  unfolding end_location
  small_end steps j small = small.locations (end_in steps j)

module _ (e f : ℕ → ℕ) (j : ℕ) {label : ℕ} where
  -- one end

  pub held_again : label ≡ e j → is_named j e label ≡ true → 0 ≡ fresh e f j
  held_again is before = sym (fresh_again e f j (ap (is_named j e) (sym is) ∙ before))

  pub held_new : {x : ℕ} → label ≡ e j → is_named j e label ≡ false → x ≡ f label → x ≡ fresh e f j
  held_new is new value = grind (arith, fresh_new)

module _ (i : Tables) (steps : List Step) (j : ℕ) where
  -- the location of an end, as it is read

  pub label_from : (label : ℕ) (s : Step) → s ≡ step_at steps j → j < length steps → label ≡ location_of i s.from.0 →
      label ≡ end_location i steps j
  unfolding end_location
  label_from label s is within read =
      read ∙ ap (location_of i) (sym (end_from steps j within ∙ from_read steps j is))

  pub label_to : (n label : ℕ) (s : Step) → n ≡ length steps → n ≤ j → s ≡ step_at steps (j - n) →
      label ≡ location_of i s.to.0 → label ≡ end_location i steps j
  unfolding end_location
  label_to n label s all after is read =
      let place : length steps + (j - n) ≡ j = omega arith in
      read ∙ ap (location_of i)
      (sym (ap (end_in steps) (sym place) ∙ end_to steps (j - n) ∙ to_read steps (j - n) is))

pub ruleset labels = (label_from, label_to)

-- a move leaves no more locations than it has steps

fresh_few : (e f : ℕ → ℕ) (j : ℕ) → ((x : ℕ) → f x ≤ 1) → fresh e f j ≤ 1
unfolding fresh
fresh_few e f j each = grind arith

-- the location that a step leaves
from_location : Tables → List Step → ℕ → ℕ
from_location i steps j = location_of i (from_in steps j)

step_stays : (i : Tables) (steps : List Step) (s label j : ℕ) → is_named (length steps) (from_location i steps) label ≡
    false → j < length steps → gone (of_service i s (λ q m. eqb (location_of i m) label)) steps j ≡ 0
unfolding gone from_location
step_stays i steps s label j none within = not_there i s label _ _
    (λ same. both_ways _ none (is_named_at (length steps) j (λ k. location_of i (from_in steps k)) label within same))

pub one_grows : (m n : ℕ) → m ≤ n → one_if (ltb 0 m) ≤ one_if (ltb 0 n)
one_grows m n more = grind (arith, one_if_true, lt-ltb, one_if_le, one_if_false, le-ltb)

-- what the locations that no step leaves hold
unleft : Tables → List Machine → List Step → ℕ → ℕ → ℕ
unleft i a steps s label = cond (is_named (length steps) (from_location i steps) label) 0 (location_holds i a s label)

module _ (i : Tables) where
  small_from : (steps : List Step) (j : ℕ) → Small i → from_location i steps j < 2 ^ 32
  unfolding from_location
  small_from steps j small = small.locations (from_in steps j)

  module _ (a : List Machine) (s : ℕ) where
    pub locations_are : locations_of i a s ≡ total (2 ^ 32) (location_holds i a s)
    unfolding locations_of location_holds
    locations_are = refl

    pub held_marked : (label : ℕ) {n x : ℕ} → n ≡ marked i InLocation a s label → x ≡ one_if (ltb 0 n) →
        x ≡ location_holds i a s label
    unfolding location_holds marked in_location has_mark mark_of
    held_marked label count value = value ∙ ap (λ k. one_if (ltb 0 k)) count

    pub held_few : (label : ℕ) → location_holds i a s label ≤ 1
    unfolding location_holds
    held_few label = one_if_le _

  module _ (a : List Machine) (steps : List Step) (s : ℕ) where
    module _ (label : ℕ) (move : IsMove i a steps)
        (none : is_named (end_count steps) (end_location i steps) label ≡ false) where
      -- so it has as many processes of each service as before
      location_stays : in_location i (applied a steps) s label ≡
          in_location i a s label
      unfolding in_location members_at
      location_stays = tally_stays i a steps (of_service i s (λ q m. eqb (location_of i m) label))
          move (λ j within. not_there i s label (process_in steps j) (from_in steps j)
          (not_left i steps label j none within)
          ∙ sym (not_there i s label (process_in steps j) (to_in steps j) (not_entered i steps label j none within)))

      held_stays : location_holds i a s label ≡ location_holds i (applied a steps) s label
      unfolding location_holds
      held_stays = ap (λ n. one_if (ltb 0 n)) (sym (location_stays))

    locations_change : Small i → IsMove i a steps →
        locations_of i a s + total (end_count steps) (fresh (end_location i steps) (location_holds i (applied a steps)
        s)) ≡ locations_of i (applied a steps) s + total (end_count steps) (fresh (end_location i steps)
        (location_holds i a s))
    locations_change small move =
        let change = total_change_named (2 ^ 32) (end_count steps) (end_location i steps) (location_holds i a s)
        (location_holds i (applied a steps) s) (λ j h. small_end i steps j small)
        (λ label h none. held_stays label move none) in
        ap (λ n. n + total (end_count steps) (fresh (end_location i steps) (location_holds i (applied a steps) s)))
        (locations_are a s)
        ∙ change
        ∙ ap (λ n. n + total (end_count steps) (fresh (end_location i steps) (location_holds i a s)))
        (sym (locations_are (applied a steps) s))

    module _ {n kept came went : ℕ} (small : Small i) (move : IsMove i a steps) (all : n ≡ end_count steps)
        (so_far : Held (end_location i steps) (location_holds i a s)
        (location_holds i (applied a steps) s) n came went) (is : kept ≡ locations_of i a s) where
      pub located_enough : went ≤ kept + came
      located_enough = grind (arith, locations_change)

      pub located : kept + came - went ≡ locations_of i (applied a steps) s
      located = grind (arith, locations_change)

    module _ (label : ℕ) (move : IsMove i a steps)
        (none : is_named (length steps) (from_location i steps) label ≡ false) where
      location_grows : in_location i a s label ≤ in_location i (applied a steps) s label
      unfolding in_location members_at
      location_grows =
          omega (
            arith,
            tally_applied i a steps (of_service i s (λ q m. eqb (location_of i m) label)) move,
            total_zero (length steps) (gone (of_service i s (λ q m. eqb (location_of i m) label)) steps)
                (λ j within. step_stays i steps s label j none within),
          )

      held_grows : location_holds i a s label ≤ location_holds i (applied a steps) s label
      unfolding location_holds
      held_grows = one_grows _ _ (location_grows)

    module _ (label : ℕ) where
      unleft_left : is_named (length steps) (from_location i steps) label ≡ true → unleft i a steps s label ≡ 0
      unfolding unleft
      unleft_left left = ap (λ t. cond t 0 (location_holds i a s label)) left

      unleft_other : is_named (length steps) (from_location i steps) label ≡ false →
          unleft i a steps s label ≡ location_holds i a s label
      unfolding unleft
      unleft_other none = ap (λ t. cond t 0 (location_holds i a s label)) none

      unleft_stays : IsMove i a steps → unleft i a steps s label ≤ location_holds i (applied a steps) s label
      unleft_stays move = grind (arith, from_location, unleft_left, unleft_other, held_grows)

    pub left_few : Small i → IsMove i a steps → locations_of i a s ≤ locations_of i (applied a steps) s + length steps
    left_few small move =
        let change = total_change_named (2 ^ 32) (length steps) (from_location i steps) (location_holds i a s)
        (unleft i a steps s)
        (λ j h. small_from steps j small) (λ label h none. sym (unleft_other label none)) in
        let few : total (length steps) (fresh (from_location i steps) (location_holds i a s)) ≤ length steps * 1 =
        total_bound (length steps) 1 (fresh (from_location i steps) (location_holds i a s))
        (λ j h. fresh_few (from_location i steps) (location_holds i a s) j (held_few a s)) in
        let rest = total_le (2 ^ 32) (unleft i a steps s) (location_holds i (applied a steps) s)
        (λ label h. unleft_stays label move) in
        omega (arith, change, few, rest, locations_are a s, locations_are (applied a steps) s)
