-- Formats read backwards: the tokens that were taken for a value, and what is known of both.
use Rattle.std.proofs.Common.{◌≡◌, ℕ, zero, suc, ◌≤◌, refl, ap, ap₂, ◌∙◌, sym, subst, List, [], ◌∷◌, ◌++◌, length, map}
use Rattle.std.proofs.Common.{Bool, true, false, cond, Option, Some, None, arith, append_assoc, append-nil, add-one, length-append}
use Rattle.std.proofs.lemmas.List.{length_push}
use Rattle.std.specs.Prelude.{◌&&◌, nat_le}
use Rattle.ra_base.specs.Sums.{one_if}
use Rattle.ra_token.specs.declared.answers.Token.{Token}
use Rattle.ra_token.specs.declared.answers.TokenFault.{TokenFault}
use Rattle.ra_token.specs.Values.{value_of}
use Rattle.ra_model_read.specs.declared.faults.Field.{Field}
use Rattle.ra_model_read.specs.declared.faults.ModelFault.{ModelFault}
use Rattle.ra_model_read.specs.Formats.{Left, Outcome, Read, Refused, Format, pure, refuse, go_on, ◌>>=◌, next_token}
use Rattle.ra_model_read.specs.Formats.{take_token, any, limited, field, flag_value, flag, along, number_more, numbers}
use Rattle.ra_model_read.specs.Formats.{ends, take_end}

-- tokens of these values were taken
pub record Took (l m : Left) (text : List ℕ) : Type 0 where
  pub values : map value_of l.tokens ≡ text ++ map value_of m.tokens
  pub fault : m.fault ≡ l.fault

-- tokens were taken, and this is known of the value that was read and of their values
pub record Taking {X : Type 0} (Known : X → List ℕ → Type 0) (l m : Left) (x : X) : Type 0 where
  pub text : List ℕ
  pub took : Took l m text
  pub known : Known x text

-- this is known whatever the format reads
pub record Yields {X : Type 0} (f : Format X) (Known : X → List ℕ → Type 0) : Type 0 where
  pub taking : (l m : Left) (x : X) → f l ≡ Read x m → Taking Known l m x

pub yields_pure : {X : Type 0} (x : X) {Known : X → List ℕ → Type 0} → Known x [] → Yields (pure x) Known
unfolding pure
yields_pure {X} x {Known} known = record {
  taking = λ l m y e.
      let same : x ≡ y = cc in
      let stays : l ≡ m = cc in
      subst (λ n. Taking Known l n y) stays
      (record { text = []; took = record { values = refl; fault = refl }; known = subst (λ z. Known z []) same known });
}

yields_refuse : {X : Type 0} (fault : ModelFault) {Known : X → List ℕ → Type 0} → Yields (refuse fault) Known
unfolding refuse
yields_refuse fault = record { taking = λ l m y e. cc }

-- what a format and then the next read
record Through {X Y : Type 0} (f : Format X) (next : X → Format Y) (l n : Left) (y : Y) : Type 0 where
  pub value : X
  pub left : Left
  pub first : f l ≡ Read value left
  pub second : next value left ≡ Read y n

through : {X Y : Type 0} {f : Format X} {next : X → Format Y} {l n : Left} {y : Y} → (f >>= next) l ≡ Read y n →
    Through f next l n y
unfolding ◌>>=◌ go_on
through {X} {Y} {f} {next} {l} {n} {y} e = cases (f l) refl e
  where
    cases : (o : Outcome X) → f l ≡ o → go_on o next ≡ Read y n → Through f next l n y
    cases (Read x m) d e = record { value = x; left = m; first = d; second = e }
    cases (Refused fault) d e = cc

pub yields_bind : {X Y : Type 0} {f : Format X} {next : X → Format Y} {First : X → List ℕ → Type 0}
    {Known : Y → List ℕ → Type 0} → Yields f First →
    ((x : X) (u : List ℕ) → First x u → Yields (next x) (λ y v. Known y (u ++ v))) → Yields (f >>= next) Known
yields_bind {X} {Y} {f} {next} {First} {Known} one two = record {
  taking = λ l n y e.
      let both = through {f = f} {next = next} e in
      let a = one.taking l both.left both.value both.first in
      let b = (two both.value a.text a.known).taking both.left n y both.second in
      record {
        text = a.text ++ b.text;
        took = record {
          values = a.took.values ∙ ap (λ rest. a.text ++ rest) b.took.values
              ∙ sym (append_assoc a.text b.text (map value_of n.tokens));
          fault = b.took.fault ∙ a.took.fault;
        };
        known = b.known;
      };
}

-- one token

yields_token : (what : Field) (item : ℕ) → Yields (next_token what item) (λ t u. u ≡ t.value ∷ [])
unfolding next_token take_token
yields_token what item = record { taking = λ l m t e. cases l.tokens l.fault m t e }
  where
    cases : (ts : List Token) (fault : Option TokenFault) (m : Left) (t : Token) →
        take_token what item fault ts ≡ Read t m →
        Taking (λ t u. u ≡ t.value ∷ []) (record { tokens = ts; fault = fault }) m t
    cases [] fault m t e = cc
    cases (s ∷ ts) fault m t e =
        let same : s ≡ t = cc in
        let rest : record { tokens = ts; fault = fault } ≡ m = cc in
        record {
          text = t.value ∷ [];
          took = record
              { values = rw (same, ← rest) refl; fault = rw (← rest) refl };
          known = refl;
        }

-- a field that has one of these values, of which this is known
pub record One {X : Type 0} (number : X → ℕ) (Fine : X → Type 0) (x : X) (u : List ℕ) : Type 0 where
  pub text : u ≡ number x ∷ []
  pub fine : Fine x

pub one_then : {X Y : Type 0} {f : Format X} {next : X → Format Y} {number : X → ℕ} {Fine : X → Type 0}
    {Known : Y → List ℕ → Type 0} → Yields f (One number Fine) →
    ((x : X) → Fine x → Yields (next x) (λ y u. Known y (number x ∷ u))) → Yields (f >>= next) Known
one_then {X} {Y} {f} {next} {number} {Fine} {Known} one two = yields_bind one (λ x u first.
    subst (λ t. Yields (next x) (λ y v. Known y (t ++ v))) (sym first.text) (two x first.fine))

-- what the number of a token means
yields_one : {X : Type 0} (what : Field) (item : ℕ) {f : Token → Format X} {number : X → ℕ} {Fine : X → Type 0} →
    ((t : Token) → Yields (f t) (λ x u. One number Fine x (t.value ∷ u))) →
    Yields (next_token what item >>= f) (One number Fine)
yields_one {X} what item {f} {number} {Fine} each = yields_bind (yields_token what item) (λ t u e.
    subst (λ text. Yields (f t) (λ x v. One number Fine x (text ++ v))) (sym e) (each t))

pub yields_any : (what : Field) (item : ℕ) → Yields (any what item) (One (λ v. v) (λ v. Unit {0}))
unfolding any
yields_any what item = yields_one _ _ (λ t. yields_pure _ (record { text = refl; fine = tt }))

-- a number from one to another
pub record Within (least most v : ℕ) : Type 0 where
  pub low : least ≤ v
  pub high : v ≤ most

pub yields_field : (what : Field) (item : ℕ) {least most : ℕ} →
    Yields (field what item least most) (One (λ v. v) (Within least most))
unfolding field limited
yields_field what item {least} {most} =
    yields_one _ _ (λ t. cases (nat_le least t.value && nat_le t.value most) t.value _ refl)
  where
    cases : (test : Bool) (v : ℕ) (fault : ModelFault) → nat_le least v && nat_le v most ≡ test →
        Yields (cond test (pure v) (refuse fault)) (λ x u. One (λ w. w) (Within least most) x (v ∷ u))
    cases true v fault e =
        yields_pure _ (record { text = refl; fine = record { low = grind arith; high = grind arith } })
    cases false v fault e = yields_refuse _

pub yields_flag : (r : ℕ) → Yields (flag r) (One one_if (λ b. Unit {0}))
unfolding flag flag_value
yields_flag r = yields_one _ _ (λ t. cases t.value _)
  where
    cases : (v : ℕ) (fault : ModelFault) → Yields (flag_value v fault) (λ b u. One one_if (λ b. Unit {0}) b (v ∷ u))
    cases zero fault = yields_pure _ (record { text = refl; fine = tt })
    cases (suc zero) fault = yields_pure _ (record { text = refl; fine = tt })
    cases (suc (suc v)) fault = yields_refuse _

-- steps, and what is known after each

pub yields_along : {X : Type 0} {step : ℕ → X → Format X} {Known : ℕ → X → List ℕ → Type 0} →
    ((k : ℕ) (y : X) (u : List ℕ) → Known k y u → Yields (step k y) (λ z v. Known (suc k) z (u ++ v))) →
    (n : ℕ) (x : X) → Known 0 x [] → Yields (along n step x) (Known n)
unfolding along
yields_along each zero x start = yields_pure x start
yields_along each (suc n) x start = yields_bind (yields_along each n x start) (each n)

weaker : {X : Type 0} {f : Format X} {Known Less : X → List ℕ → Type 0} →
    ((x : X) (u : List ℕ) → Known x u → Less x u) → Yields f Known → Yields f Less
weaker less all = record {
  taking = λ l m x e. let a = all.taking l m x e in
      record { text = a.text; took = a.took; known = less x a.text a.known };
}

-- some steps and then one more
pub record Link {X : Type 0} (Before : X → List ℕ → Type 0) (Step : X → X → List ℕ → Type 0) (z : X)
    (u : List ℕ) : Type 0 where
  pub middle : X
  pub front : List ℕ
  pub back : List ℕ
  pub before : Before middle front
  pub step : Step middle z back
  pub text : u ≡ front ++ back

-- n steps, from x to z, that took these numbers
unfoldable pub Chain : {X : Type 0} → (ℕ → X → X → List ℕ → Type 0) → X → ℕ → X → List ℕ → Type 0
Chain Step x zero z u = (x ≡ z) × (u ≡ [])
Chain Step x (suc n) z u = Link (Chain Step x n) (Step n) z u

yields_chain : {X : Type 0} {step : ℕ → X → Format X} {Step : ℕ → X → X → List ℕ → Type 0} →
    ((k : ℕ) (y : X) → Yields (step k y) (Step k y)) → (n : ℕ) (x : X) → Yields (along n step x) (Chain Step x n)
unfolding Chain
yields_chain {X} {step} {Step} each n x =
    yields_along {Known = Chain Step x} (λ k y u before. weaker (λ z v made. record {
      middle = y;
      front = u;
      back = v;
      before = before;
      step = made;
      text = refl;
    }) (each k y)) n x (refl, refl)

-- a count within its limits, and then as many steps
pub record Counting {X : Type 0} (least most : ℕ) (Step : ℕ → ℕ → X → X → List ℕ → Type 0) (start z : X)
    (u : List ℕ) : Type 0 where
  pub count : ℕ
  pub within : Within least most count
  pub rest : List ℕ
  pub steps : Chain (Step count) start count z rest
  pub text : u ≡ count ∷ rest

pub yields_counting : {X : Type 0} (what : Field) {least most : ℕ} {step : ℕ → ℕ → X → Format X}
    {Step : ℕ → ℕ → X → X → List ℕ → Type 0} {start : X} → ((c k : ℕ) (y : X) → Yields (step c k y) (Step c k y)) →
    Yields (field what 0 least most >>= λ count. along count (step count) start) (Counting least most Step start)
yields_counting {X} what {least} {most} {step} {Step} {start} each =
    one_then (yields_field _ _) (λ count within. weaker (λ z u steps. record {
      count = count;
      within = within;
      rest = u;
      steps = steps;
      text = refl;
    }) (yields_chain (each count) count start))

-- what is known after k steps of c, and that a step can be told from what it made
pub record StepLaw {X : Type 0} (least : ℕ) (Step : ℕ → ℕ → X → X → List ℕ → Type 0) (start : X) (size : X → ℕ)
    (Known : ℕ → ℕ → X → Type 0) : Type 0 where
  pub none : (c : ℕ) → Known c 0 start
  pub more : (c k : ℕ) (y z : X) (u : List ℕ) → least ≤ c → Known c k y → Step c k y z u → Known c (suc k) z
  pub sized : (c k : ℕ) (z : X) → Known c k z → size z ≡ k
  pub same : (c k : ℕ) (y y2 z : X) (u u2 : List ℕ) → Known c k y → Known c k y2 → Step c k y z u → Step c k y2 z u2 →
      (y ≡ y2) × (u ≡ u2)

module _ {X : Type 0} {least : ℕ} {Step : ℕ → ℕ → X → X → List ℕ → Type 0} {start : X} {size : X → ℕ}
    {Known : ℕ → ℕ → X → Type 0} (law : StepLaw least Step start size Known) where
  chain_known : (c n : ℕ) (z : X) (u : List ℕ) → least ≤ c → Chain (Step c) start n z u → Known c n z
  unfolding Chain
  chain_known c zero z u some chain = subst (Known c 0) chain.0 (law.none c)
  chain_known c (suc n) z u some chain =
      law.more c n chain.middle z chain.back some
      (chain_known c n chain.middle chain.front some chain.before) chain.step

  chain_same : (c n : ℕ) (z : X) (u v : List ℕ) → least ≤ c → Chain (Step c) start n z u →
      Chain (Step c) start n z v → u ≡ v
  unfolding Chain
  chain_same c zero z u v some one two = one.1 ∙ sym two.1
  chain_same c (suc n) z u v some one two =
      let both = law.same c n one.middle two.middle z one.back two.back
      (chain_known c n one.middle one.front some one.before)
      (chain_known c n two.middle two.front some two.before)
      one.step two.step in
      one.text ∙ ap₂ (λ a b. a ++ b) (chain_same c n one.middle one.front two.front some one.before
      (subst (λ y. Chain (Step c) start n y two.front) (sym both.0) two.before)) both.1 ∙ sym two.text

  module _ {most : ℕ} {z : X} where
    pub counting_known : {u : List ℕ} → (read : Counting least most Step start z u) → Known read.count read.count z
    counting_known read = chain_known read.count read.count z read.rest read.within.low read.steps

    -- the lists can come from one text only
    pub counting_same : {u v : List ℕ} → Counting least most Step start z u → Counting least most Step start z v →
        u ≡ v
    counting_same one two =
        let count : one.count ≡ two.count = sym (law.sized one.count one.count z (counting_known one))
        ∙ law.sized two.count two.count z (counting_known two) in
        one.text ∙ ap₂ (λ n rest. n ∷ rest) count
        (chain_same one.count one.count z one.rest two.rest one.within.low one.steps
        (subst (λ n. Chain (Step n) start n z two.rest) (sym count) two.steps)) ∙ sym two.text

-- these numbers more, so many
pub record More (n : ℕ) (y z u : List ℕ) : Type 0 where
  pub made : y ++ u ≡ z
  pub size : length u ≡ n

pub yields_numbers : (what : Field) (first n : ℕ) (y : List ℕ) → Yields (numbers what first n y) (More n y)
unfolding numbers number_more
yields_numbers what first n y =
    yields_along {Known = λ k z u. More k y z u}
    (λ k z u known. one_then (yields_any _ _) (λ v fine. yields_pure _ (record {
      made = sym (append_assoc y u (v ∷ [])) ∙ ap (λ t. t ++ v ∷ []) known.made;
      size = length_push u v ∙ add-one (length u) ∙ ap suc known.size;
    }))) n y (record { made = append-nil y; size = refl })

-- the end

-- the end took nothing, and nothing is left after it
record AtEnd (l m : Left) : Type 0 where
  pub took : Took l m []
  pub left : (m.tokens ≡ []) × (m.fault ≡ None)

end_cases : (ts : List Token) (fault : Option TokenFault) (u : Unit {0}) (m : Left) → take_end fault ts ≡ Read u m →
    AtEnd (record { tokens = ts; fault = fault }) m
unfolding take_end
end_cases [] None u m e = record { took = record { values = cc; fault = cc }; left = (cc, cc) }
end_cases [] (Some fault) u m e = cc
end_cases (t ∷ ts) None u m e = cc
end_cases (t ∷ ts) (Some fault) u m e = cc

pub yields_ends : Yields ends (λ x u. u ≡ [])
unfolding ends
yields_ends = record {
  taking = λ l m x e. record { text = []; took = (end_cases l.tokens l.fault x m e).took; known = refl };
}

-- nothing is left after the format
pub record Ends {X : Type 0} (f : Format X) : Type 0 where
  pub nothing : (l m : Left) (x : X) → f l ≡ Read x m → (m.tokens ≡ []) × (m.fault ≡ None)

pub ends_end : Ends ends
unfolding ends
ends_end = record { nothing = λ l m u e. (end_cases l.tokens l.fault u m e).left }

pub ends_bind : {X Y : Type 0} (f : Format X) {next : X → Format Y} → ((x : X) → Ends (next x)) → Ends (f >>= next)
ends_bind {X} {Y} f {next} each = record {
  nothing = λ l n y e.
      let both = through {f = f} {next = next} e in (each both.value).nothing both.left n y both.second;
}

pub ends_then : {X Y : Type 0} {f : Format X} (made : X → Y) → Ends f → Ends (f >>= λ x. pure (made x))
unfolding pure
ends_then {X} {Y} {f} made last = record {
  nothing = λ l n y e.
      let both = through {f = f} {next = λ x. pure (made x)} e in
      let same : both.left ≡ n = cc in
      subst (λ m. (m.tokens ≡ []) × (m.fault ≡ None)) same (last.nothing l both.left both.value both.first);
}

-- the same list in two ways, the last parts as long
pub cut_same : {X : Type 0} (xs ys us vs : List X) → xs ++ us ≡ ys ++ vs → length us ≡ length vs → (xs ≡ ys) × (us ≡ vs)
cut_same [] [] us vs e size = (refl, e)
cut_same [] (y ∷ ys) us vs e size = absurd (omega (arith, ap length e, length-append ys vs))
cut_same (x ∷ xs) [] us vs e size = absurd (omega (arith, ap length e, length-append xs us))
cut_same (x ∷ xs) (y ∷ ys) us vs e size =
    let tail : xs ++ us ≡ ys ++ vs = cc in
    let rest = cut_same xs ys us vs tail size in
    let head : x ≡ y = cc in
    (ap₂ (λ c cs. c ∷ cs) head rest.0, rest.1)
