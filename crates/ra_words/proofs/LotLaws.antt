-- The lots of the words from a place on.
use Rattle.std.proofs.Common.{◌≡◌, ℕ, zero, suc, ◌+◌, ◌*◌, ◌/◌, ◌%◌, ◌<◌, ◌≤◌, Some, None, Bool, true, false, ◌&&◌}
use Rattle.std.proofs.Common.{if◌then◌else◌, nat_le, ◌-◌, append_assoc, append-nil, List, [], ◌∷◌, ◌++◌, map, length}
use Rattle.std.proofs.Common.{drop, sum_by, refl, sym, ap, ◌∙◌, arith, add-one}
use Rattle.std.proofs.Math.Nat.{div-add-mod}
use Rattle.std.proofs.Math.Seq.{drop-cons}
use Rattle.std.proofs.lemmas.Grind.{common_steps}
use Rattle.std.proofs.lemmas.List.{length-map, drop_all, map-append}
use Rattle.std.proofs.lemmas.List.Sums.{sum_by-cons}
use Rattle.std.specs.List.{list_all}
use Rattle.ra_base.specs.Listed.{Listed}
use Rattle.ra_draws.specs.declared.sources.Lot.{Lot}
use Rattle.ra_draws.specs.Lots.{IsFitting, IsLots, lot_at}
use Rattle.ra_words.specs.Words.{word_at}
use Rattle.ra_words.specs.Numbers.{has_digits, is_number, decimal_worth}
use Rattle.ra_words.specs.LotTexts.{FromSeed, FromWords, first_place, seed_text, budget_text, is_seed_lot, is_written}
use Rattle.ra_words.specs.LotTexts.{written_pieces, is_written_lot, is_lot, source_says, budget_says, lot_says}
use Rattle.ra_words.specs.LotTexts.{are_lots}
use Rattle.ra_words.specs.Said.{said_source, said_lot}

-- without a colon there is no budget
pub no_colon : (word : List ℕ) → first_place 58 word ≡ length word → is_number (budget_text word) ≡ false
unfolding budget_text is_number has_digits
no_colon word none = rw (none, drop_all (suc (length word)) word (omega arith)) refl

pub behind_colon : (word : List ℕ) (k : ℕ) → k ≡ first_place 58 word + 1 → drop k word ≡ budget_text word
unfolding budget_text
behind_colon word k is = let e : k ≡ suc (first_place 58 word) = omega arith in ap (λ j. drop j word) e

-- what a budget tells of a word that may be a lot
yes_by : (test : Bool) (b x : ℕ) → Some b ≡ (if test then Some x else None) → (test ≡ true) × (x ≡ b)
yes_by true b x is = (refl, cc)
yes_by false b x is = cc

no_by : (test : Bool) (x : ℕ) → None ≡ (if test then Some x else None) → test ≡ false
no_by true x is = cc
no_by false x is = refl

-- the lots from a place on fit together
abbrev pub Together : List (List ℕ) → ℕ → Bool
Together words place = list_all is_lot (drop place words) && nat_le (sum_by budget_says (drop place words)) 1000000

-- before the word k all are lots, and so much is left of the budget
pub record IsLeft (words : List (List ℕ)) (place k left : ℕ) : Type 0 where
  pub all : list_all is_lot (drop k words) ≡ list_all is_lot (drop place words)
  pub sum : left + sum_by budget_says (drop place words) ≡ 1000000 + sum_by budget_says (drop k words)

above_by : (a : Bool) (x most : ℕ) → most < x → false ≡ (a && nat_le x most)
above_by true x most above = grind (arith, common_steps)
above_by false x most above = refl

-- the words before k are read
pub record IsRead (words : List (List ℕ)) (place k : ℕ) (lots : List Lot) : Type 0 where
  pub all : list_all is_lot (drop k words) ≡ true
  pub said : map said_lot lots ++ map lot_says (drop k words) ≡ map lot_says (drop place words)

rest_told : (a b : Bool) → (a && b) ≡ true → b ≡ true
rest_told true b h = h
rest_told false b h = cc

eight_by : (words : Listed ℕ) (word : List ℕ) (test : Bool) (budget : ℕ) → is_written word ≡ test →
    (if test then is_written_lot word else is_seed_lot word) ≡ true
    → FromWords words.items ≡
    (if test then FromWords (map decimal_worth (written_pieces word)) else FromSeed (decimal_worth (seed_text word)))
    → budget ≡ (if test then length (written_pieces word) / 8 else decimal_worth (budget_text word)) →
    length words.items ≡ 8 * budget
unfolding is_written_lot
eight_by words word true budget is lot source many =
    let whole : length (written_pieces word) % 8 ≡ 0 = grind (arith, common_steps) in
    let same : words.items ≡ map decimal_worth (written_pieces word) = cc in
    omega (
      arith,
      ap length same,
      length-map (written_pieces word) decimal_worth,
      div-add-mod
          (length (written_pieces word)) 8,
    )
eight_by words word false budget is lot source many = cc

-- what is said of a fitting lot
pub one_fits : (lot : Lot) (word : List ℕ) → is_lot word ≡ true → said_lot lot ≡ lot_says word → IsFitting lot
unfolding is_lot lot_says source_says budget_says
one_fits lot word passed said = record {
  eight_each = λ words is. eight_by words word (is_written word) lot.budget refl passed
      (sym (ap said_source is) ∙ ap (λ s. s.source) said) (ap (λ s. s.budget) said);
}

each_fits : (lots : List Lot) (words : List (List ℕ)) → list_all is_lot words ≡ true →
    map said_lot lots ≡ map lot_says words → (w : ℕ) → w < length lots → IsFitting (lot_at lots w)
unfolding lot_at
each_fits [] words all said w within = absurd (omega arith)
each_fits (lot ∷ lots) [] all said w within = cc
each_fits (lot ∷ lots) (word ∷ words) all said zero within = one_fits lot word (grind (arith, common_steps)) cc
each_fits (lot ∷ lots) (word ∷ words) all said (suc w) within =
    each_fits lots words (rest_told (is_lot word) (list_all is_lot words) all) (cc) w (omega arith)

same_budgets : (lots : List Lot) (words : List (List ℕ)) → map said_lot lots ≡ map lot_says words →
    sum_by (λ lot. lot.budget) lots ≡ sum_by budget_says words
unfolding lot_says
same_budgets [] [] said = refl
same_budgets (lot ∷ lots) [] said = cc
same_budgets [] (word ∷ words) said = cc
same_budgets (lot ∷ lots) (word ∷ words) said =
    let first : said_lot lot ≡ lot_says word = cc in
    let others : map said_lot lots ≡ map lot_says words = cc in
    let one : lot.budget ≡ budget_says word = ap (λ s. s.budget) first in
    let more : sum_by (λ l. l.budget) lots ≡ sum_by budget_says words = same_budgets lots words others in
    omega (arith, sum_by-cons (λ l. l.budget) lot lots, sum_by-cons budget_says word words)

pub record AreLots (words : List (List ℕ)) : Type 0 where
  pub some : 0 < length words
  pub few : length words ≤ 16
  pub all : list_all is_lot words ≡ true
  pub together : sum_by budget_says words ≤ 1000000

module _ (words : List (List ℕ)) (k : ℕ) where
  -- the words at a place and after it
  left_here : k < length words → drop k words ≡ word_at words k ∷ drop (k + 1) words
  unfolding word_at
  left_here within = rw add-one (drop-cons words k [] within)

  pub none_left : length words ≤ k → drop k words ≡ []
  none_left past = drop_all k words past

  -- the sum of the budgets from a word on
  one_summed : (b : ℕ) (word : List ℕ) → k < length words → word ≡ word_at words k → budget_says word ≡ b →
      sum_by budget_says (drop k words) ≡ b + sum_by budget_says (drop (k + 1) words)
  one_summed b word within read is =
      let e : budget_says (word_at words k) ≡ b = ap budget_says (sym read) ∙ is in
      let s : sum_by budget_says (drop k words) ≡ budget_says (word_at words k) + sum_by budget_says
      (drop (k + 1) words) =
      ap (sum_by budget_says) (left_here within)
      ∙ sum_by-cons budget_says (word_at words k) (drop (k + 1) words) in
      omega arith

pub lots_told : (words : List (List ℕ)) → are_lots words ≡ true → list_all is_lot words ≡ true
unfolding are_lots
lots_told words h = grind (arith, common_steps)

module _ (words : List (List ℕ)) (place : ℕ) where
  module _ (k left : ℕ) where
    pub all_read : IsLeft words place k left → length words ≤ k → true ≡ Together words place
    all_read is past =
        let none = none_left words k past in
        let all : list_all is_lot (drop place words) ≡ true = sym is.all ∙ ap (list_all is_lot) none in
        let sum : sum_by budget_says (drop k words) ≡ 0 = ap (sum_by budget_says) none in
        let fits : sum_by budget_says (drop place words) ≤ 1000000 = omega (arith, is.sum) in
        grind (arith, common_steps)

    pub not_lot : (word : List ℕ) → IsLeft words place k left → k < length words → word ≡ word_at words k →
        None ≡ (if is_lot word then Some (budget_says word) else None) → false ≡ Together words place
    not_lot word is within read none =
        ap (λ b. b && nat_le (sum_by budget_says (drop place words)) 1000000)
        (sym (sym is.all ∙ ap (list_all is_lot) (left_here words k within)
        ∙ ap (λ b. b && list_all is_lot (drop (k + 1) words))
        (ap is_lot (sym read) ∙ no_by (is_lot word) (budget_says word) none)))

    module _ (b : ℕ) (word : List ℕ) (is : IsLeft words place k left) (within : k < length words)
        (read : word ≡ word_at words k) (some : Some b ≡ (if is_lot word then Some (budget_says word) else None)) where
      pub too_much : left < b → false ≡ Together words place
      too_much above =
          let told = yes_by (is_lot word) b (budget_says word) some in
          let s = one_summed words k b word within read told.1 in
          above_by (list_all is_lot (drop place words)) (sum_by budget_says (drop place words)) 1000000
          (omega (arith, s, is.sum))

      pub one_lot : b ≤ left → IsLeft words place (k + 1) (left - b)
      one_lot enough =
          let told = yes_by (is_lot word) b (budget_says word) some in
          let s = one_summed words k b word within read told.1 in
          let all : list_all is_lot (drop k words) ≡ list_all is_lot (drop (k + 1) words) =
          ap (list_all is_lot) (left_here words k within)
          ∙ ap (λ b. b && list_all is_lot (drop (k + 1) words)) (ap is_lot (sym read) ∙ told.0) in
          record { all = sym all ∙ is.all; sum = omega (arith, s, is.sum) }

  pub none_read : (lots : List Lot) → are_lots (drop place words) ≡ true → lots ≡ [] → IsRead words place place lots
  none_read lots h none = record {
    all = lots_told (drop place words) h;
    said = ap (λ (ls : List Lot). map said_lot ls ++ map lot_says (drop place words)) none;
  }

  module _ (k : ℕ) (lots : List Lot) where
    pub lot_told : (word : List ℕ) → IsRead words place k lots → k < length words → word ≡ word_at words k →
        is_lot word ≡ true
    lot_told word is within read =
        let h : (is_lot (word_at words k) && list_all is_lot (drop (k + 1) words)) ≡ true =
        sym (ap (list_all is_lot) (left_here words k within)) ∙ is.all in
        let yes : is_lot (word_at words k) ≡ true = grind (arith, common_steps) in
        ap is_lot read ∙ yes

    pub one_read : (more : List Lot) (lot : Lot) (word : List ℕ) → IsRead words place k lots → k < length words →
        word ≡ word_at words k → said_lot lot ≡ lot_says word → more ≡ lots ++ lot ∷ [] →
        IsRead words place (k + 1) more
    one_read more lot word is within read said added =
        let here = left_here words k within in
        record {
          all = rest_told (is_lot (word_at words k)) (list_all is_lot (drop (k + 1) words))
              (sym (ap (list_all is_lot) here)
              ∙ is.all);
          said =
              ap (λ (ls : List Lot). map said_lot ls ++ map lot_says (drop (k + 1) words)) added
              ∙ ap (λ ls. ls ++ map lot_says (drop (k + 1) words)) (map-append said_lot lots (lot ∷ []))
              ∙ append_assoc (map said_lot lots) (said_lot lot ∷ []) (map lot_says (drop (k + 1) words))
              ∙ ap (λ l. map said_lot lots ++ l ∷ map lot_says (drop (k + 1) words)) (said ∙ ap lot_says read)
              ∙ ap (λ ls. map said_lot lots ++ map lot_says ls) (sym here)
              ∙ is.said;
        }

    pub lots_said : IsRead words place k lots → length words ≤ k → map said_lot lots ≡ map lot_says (drop place words)
    lots_said is past =
        sym (ap (λ ls. map said_lot lots ++ map lot_says ls) (none_left words k past)
        ∙ append-nil (map said_lot lots)) ∙ is.said

are_told : (words : List (List ℕ)) → are_lots words ≡ true → AreLots words
unfolding are_lots
are_told words h = record {
  some = grind (arith, common_steps);
  few = grind (arith, common_steps);
  all = grind (arith, common_steps);
  together = grind (arith, common_steps);
}

pub lots_fit : (lots : List Lot) (words : List (List ℕ)) → are_lots words ≡ true →
    map said_lot lots ≡ map lot_says words → IsLots lots
lots_fit lots words h said =
    let told = are_told words h in
    let many : length lots ≡ length words = sym (length-map lots said_lot) ∙ ap length said
    ∙ length-map words lot_says in
    record {
      some = omega (arith, told.some);
      few = omega (arith, told.few);
      together = omega (arith, told.together, same_budgets lots words said);
      each = each_fits lots words told.all said;
    }
