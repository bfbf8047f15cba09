-- Rows of requirements and of use, number by number.
use Rattle.std.proofs.Common.{◌≡◌, ◌≢◌, ℕ, ◌+◌, ◌-◌, ◌*◌, ◌<◌, ◌≤◌, List, length, get_or, arith, eq-eqb, ne_eqb, take, drop}
use Rattle.std.proofs.lemmas.Bool.{cond-true, cond-false}
use Rattle.ra_base.specs.Tables.{cell}
use Rattle.ra_base.proofs.Tables.{cell_is}
use Rattle.std.proofs.lemmas.List.{get_or-take, get_or-drop}
use Rattle.ra_weigh.specs.RowChanges.{share_at, HasMoreInRow, HasMoreInRowAt, RowHasFollowed, CanFollow}

-- a row of requirements, as it is read
pub required_cell : (width j r : ℕ) (table : List ℕ) → r < width →
    get_or (take (j * 20 + width - j * 20) (drop (j * 20) table)) r 0 ≡ cell 20 table j r
required_cell width j r table inside = grind (arith, get_or-take, get_or-drop, cell_is)

-- the first n numbers are more by their amounts
pub record MoreTo (n : ℕ) (old new amounts : List ℕ) : Type 0 where
  pub same_length : length new ≡ length old
  pub done : (k : ℕ) → k < n → get_or new k 0 ≡ get_or old k 0 + get_or amounts k 0
  pub rest : (k : ℕ) → n ≤ k → get_or new k 0 ≡ get_or old k 0

-- or less
pub record LessTo (n : ℕ) (old new amounts : List ℕ) : Type 0 where
  pub same_length : length new ≡ length old
  pub done : (k : ℕ) → k < n → get_or new k 0 + get_or amounts k 0 ≡ get_or old k 0
  pub rest : (k : ℕ) → n ≤ k → get_or new k 0 ≡ get_or old k 0

-- or more by what has come, and less by what has gone
pub record ExchangedTo (n : ℕ) (old new come gone : List ℕ) : Type 0 where
  pub same_length : length new ≡ length old
  pub done : (k : ℕ) → k < n → get_or new k 0 + get_or gone k 0 ≡ get_or old k 0 + get_or come k 0

module _ (at : ℕ) where
  module _ (m : ℕ) where
    -- a share at its machine, and elsewhere
    pub share_here : (amount : ℕ) → at ≡ m → share_at at m amount ≡ amount
    unfolding share_at
    share_here amount here = cond-true _ _ _ (eq-eqb at m here)

    pub share_elsewhere : (amount : ℕ) → at ≢ m → share_at at m amount ≡ 0
    unfolding share_at
    share_elsewhere amount apart = cond-false _ _ _ (ne_eqb at m apart)

    pub more_here : {old new amounts : List ℕ} → at ≡ m → HasMoreInRow old new amounts →
        HasMoreInRowAt at m old new amounts
    more_here {amounts} here more = grind (arith, share_here)

    pub more_elsewhere : (row amounts : List ℕ) → at ≢ m → HasMoreInRowAt at m row row amounts
    more_elsewhere row amounts apart = grind (arith, share_elsewhere)

    pub enough_here : (r : ℕ) (row amounts : List ℕ) → at ≡ m → share_at at m (get_or amounts r 0) ≤ get_or row r 0 →
        get_or amounts r 0 ≤ get_or row r 0
    enough_here r row amounts here enough = omega (arith, share_here (get_or amounts r 0) here)

module _ {from to m : ℕ} {old mid : List ℕ} where
  -- what enters, and then what leaves
  pub enough_left : (amounts : List ℕ) → CanFollow from to m old amounts → HasMoreInRowAt to m old mid amounts →
      (r : ℕ) → r < length mid → share_at from m (get_or amounts r 0) ≤ get_or mid r 0
  enough_left amounts able entered r within =
      omega (
        arith,
        able.enough r (omega (arith, entered.same_length)),
        entered.each r (omega (arith, entered.same_length)),
      )

  pub followed : (new amounts : List ℕ) → HasMoreInRowAt to m old mid amounts → HasMoreInRowAt from m new mid amounts →
      RowHasFollowed from to m old new amounts
  followed new amounts entered left = grind arith
