-- Formats that accept a text, whatever comes after it.
use Rattle.std.proofs.Common.{◌≡◌, ℕ, zero, suc, ◌<◌, ◌≤◌, refl, ap, ◌∙◌, sym, List, [], ◌∷◌, ◌++◌, length, map, take}
use Rattle.std.proofs.Common.{drop, Bool, true, false, None, arith, append_assoc}
use Rattle.std.proofs.lemmas.List.{take-append-drop, take-map}
use Rattle.std.proofs.Math.Seq.{take-append_seam, drop-append_seam}
use Rattle.ra_base.specs.Sums.{one_if}
use Rattle.ra_token.specs.declared.answers.Token.{Token}
use Rattle.ra_token.specs.Values.{value_of}
use Rattle.ra_model_read.specs.declared.faults.Field.{Field}
use Rattle.ra_model_read.specs.declared.faults.ModelFault.{ModelFault}
use Rattle.ra_model_read.specs.Formats.{Left, Read, Format, pure, ◌>>=◌, next_token, take_token, any, field, flag_value}
use Rattle.ra_model_read.specs.Formats.{flag, along, ends, take_end}
use Rattle.ra_model_read.specs.FieldOrder.{end_to_end}
use Rattle.ra_model_read.proofs.Outcomes.{bind_read}
use Rattle.ra_model_read.proofs.Limited.{limited_fits}

-- these tokens, and what is left after them
abbrev pub before : List Token → Left → Left
before ts after = record { tokens = ts ++ after.tokens; fault = after.fault }

abbrev pub nothing : Left
nothing = record { tokens = []; fault = None }

-- tokens of these values are taken, up to what is left after them, and mean x
pub record AcceptsTo {X : Type 0} (after : Left) (f : Format X) (text : List ℕ) (x : X) : Type 0 where
  pub takes : (ts : List Token) → map value_of ts ≡ text → f (before ts after) ≡ Read x after

-- whatever is left after them
pub record Accepts {X : Type 0} (f : Format X) (text : List ℕ) (x : X) : Type 0 where
  pub to : (after : Left) → AcceptsTo after f text x

pub accepts_pure : {X : Type 0} (x : X) → Accepts (pure x) [] x
unfolding pure
accepts_pure x = record { to = λ after. record { takes = none after } }
  where
    none : (after : Left) (ts : List Token) → map value_of ts ≡ [] → Read x (before ts after) ≡ Read x after
    none after [] e = refl
    none after (t ∷ ts) e = cc

front_of : (ts : List Token) (u v : List ℕ) → map value_of ts ≡ u ++ v → map value_of (take (length u) ts) ≡ u
front_of ts u v e = sym (take-map value_of (length u) ts) ∙ ap (take (length u)) e ∙ take-append_seam u v

drop_map : (n : ℕ) (ts : List Token) → drop n (map value_of ts) ≡ map value_of (drop n ts)
drop_map zero ts = refl
drop_map (suc n) [] = refl
drop_map (suc n) (t ∷ ts) = drop_map n ts

back_of : (ts : List Token) (u v : List ℕ) → map value_of ts ≡ u ++ v → map value_of (drop (length u) ts) ≡ v
back_of ts u v e = sym (drop_map (length u) ts) ∙ ap (drop (length u)) e ∙ drop-append_seam u v

split_before : (n : ℕ) (ts : List Token) (after : Left) →
    before ts after ≡ before (take n ts) (before (drop n ts) after)
split_before n ts after = ap (λ all. record { tokens = all; fault = after.fault })
    (ap (λ all. all ++ after.tokens) (sym (take-append-drop n ts)) ∙ append_assoc (take n ts) (drop n ts) after.tokens)

pub bind_to : {X Y : Type 0} {f : Format X} (next : X → Format Y) {u v : List ℕ} {x : X} {y : Y} {after : Left} →
    Accepts f u x → AcceptsTo after (next x) v y → AcceptsTo after (f >>= next) (u ++ v) y
bind_to {X} {Y} {f} next {u} {v} {x} {y} {after} one two = record {
  takes = λ ts e.
      ap (f >>= next) (split_before (length u) ts after)
      ∙ bind_read f next (before (take (length u) ts) (before (drop (length u) ts) after))
      (before (drop (length u) ts) after) x
      ((one.to (before (drop (length u) ts) after)).takes (take (length u) ts) (front_of ts u v e))
      ∙ two.takes (drop (length u) ts) (back_of ts u v e);
}

pub accepts_bind : {X Y : Type 0} {f : Format X} (next : X → Format Y) {u v : List ℕ} {x : X} {y : Y} → Accepts f u x →
    Accepts (next x) v y → Accepts (f >>= next) (u ++ v) y
accepts_bind next one two = record { to = λ after. bind_to next one (two.to after) }

pub then_to : {X Y : Type 0} {f : Format X} (next : X → Format Y) {u : List ℕ} {x : X} {y : Y} {after : Left} →
    AcceptsTo after f u x → next x ≡ pure y → AcceptsTo after (f >>= next) u y
unfolding pure
then_to {X} {Y} {f} next {u} {x} {y} {after} one made = record {
  takes = λ ts e. bind_read f next (before ts after) after x (one.takes ts e) ∙ ap (λ g. g after) made;
}

pub accepts_then : {X Y : Type 0} {f : Format X} (next : X → Format Y) {u : List ℕ} {x : X} {y : Y} → Accepts f u x →
    next x ≡ pure y → Accepts (f >>= next) u y
accepts_then next one made = record { to = λ after. then_to next (one.to after) made }

-- one token

accepts_token : {X : Type 0} (what : Field) (item v : ℕ) (next : Token → Format X) (x : X) →
    ((t : Token) → t.value ≡ v → next t ≡ pure x) → Accepts (next_token what item >>= next) (v ∷ []) x
unfolding next_token take_token pure
accepts_token {X} what item v next x made = record { to = λ after. record { takes = one after } }
  where
    one : (after : Left) (ts : List Token) → map value_of ts ≡ v ∷ [] →
        (next_token what item >>= next) (before ts after) ≡ Read x after
    one after [] e = cc
    one after (t ∷ []) e = let same : t.value ≡ v = cc in
        bind_read (next_token what item) next (before (t ∷ []) after) after t refl ∙ ap (λ g. g after) (made t same)
    one after (t ∷ (s ∷ ts)) e = cc

pub accepts_any : (what : Field) (item v : ℕ) → Accepts (any what item) (v ∷ []) v
unfolding any
accepts_any what item v = accepts_token what item v _ v (λ t e. ap pure e)

pub accepts_field : (what : Field) (item least most v : ℕ) → least ≤ v → v ≤ most →
    Accepts (field what item least most) (v ∷ []) v
unfolding field
accepts_field what item least most v low high =
    accepts_token what item v _ v (λ t e. limited_fits what least most t (rw e low) (rw e high) ∙ ap pure e)

flag_is : (b : Bool) (value : ℕ) (fault : ModelFault) → value ≡ one_if b → flag_value value fault ≡ pure b
unfolding flag_value
flag_is true value fault e = rw e refl
flag_is false value fault e = rw e refl

pub accepts_flag : (r : ℕ) (b : Bool) → Accepts (flag r) (one_if b ∷ []) b
unfolding flag
accepts_flag r b = accepts_token _ r (one_if b) _ b (λ t e. flag_is b t.value _ e)

-- steps

pub accepts_along : {X : Type 0} (step : ℕ → X → Format X) (made : ℕ → X) (text : ℕ → List ℕ) (n : ℕ) →
    ((k : ℕ) → k < n → Accepts (step k (made k)) (text k) (made (suc k))) →
    Accepts (along n step (made 0)) (end_to_end n text) (made n)
unfolding along end_to_end
accepts_along step made text zero each = accepts_pure (made 0)
accepts_along step made text (suc n) each =
    accepts_bind (step n) (accepts_along step made text n (λ k within. each k (omega arith))) (each n (omega arith))

-- the end of the file

pub ends_to : {Y : Type 0} (next : Unit {0} → Format Y) (y : Y) → next tt ≡ pure y →
    AcceptsTo nothing (ends >>= next) [] y
unfolding ends take_end pure
ends_to {Y} next y made = record { takes = none }
  where
    none : (ts : List Token) → map value_of ts ≡ [] → (ends >>= next) (before ts nothing) ≡ Read y nothing
    none [] e = bind_read ends next nothing nothing tt refl ∙ ap (λ g. g nothing) made
    none (t ∷ ts) e = cc
