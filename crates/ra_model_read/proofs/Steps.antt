-- Formats that are read from a file one after another.
use Rattle.std.proofs.Common.{◌≡◌, ℕ, zero, suc, ◌+◌, ◌<◌, ◌≤◌, inl, inr, refl, ◌∙◌, sym, subst}
use Rattle.std.proofs.Common.{Option, Some, None, Result, IfErr, IsErr, IsErrAnd, arith, add-one}
use Rattle.std.specs.Prelude.{option_map}
use Rattle.std.proofs.lemmas.Bool.{cases_lt}
use Rattle.ra_io.specs.Faults.{Rose}
use Rattle.ra_model_read.specs.declared.faults.ModelFault.{ModelFault}
use Rattle.ra_model_read.specs.declared.faults.ModelFault.TheVariants.{NoMemory, ReadFault}
use Rattle.ra_model_read.specs.Formats.{Left, Read, Refused, Format, pure, refuse, ◌>>=◌, along}
use Rattle.ra_token.specs.Moments.{Here, Stands, Goes}
use Rattle.ra_token.proofs.ToldLemmas.{at_exit}
use Rattle.ra_model_read.specs.Reading.{left_of, Gives, FormatRefuses, is_by_content}
use Rattle.ra_model_read.proofs.Outcomes.{told_bind, told_refused_first, told_refused_next}

pub goes_on : {a b c : Here} → Goes a b → Goes b c → Goes a c
goes_on {a} {b} {c} one two = record {
  name = two.name ∙ one.name;
  stands = two.stands;
  kept = λ other. two.kept other ∙ one.kept other;
  never_fall = λ other. omega (arith, one.never_fall other, two.never_fall other);
}

pub goes_nowhere : {a : Here} → Stands a → Goes a a
goes_nowhere stands = record { name = refl; stands = stands; kept = λ other. refl; never_fall = λ other. omega arith }

-- nothing is taken
told_same : {X : Type 0} → (o : Option Left) (y : X) → option_map (pure y) o ≡ option_map (Read y) o
unfolding pure
told_same None y = refl
told_same (Some l) y = refl

pub gives_pure : {X : Type 0} → (a : Here) (x : X) → Stands a → Gives (pure x) a a x
gives_pure a x stands = record { goes = goes_nowhere stands; value = told_same (left_of a) x }

-- one and then the next

pub gives_bind : {X Y : Type 0} {f : Format X} (next : X → Format Y) {a b c : Here} {x : X} {y : Y} → Gives f a b x →
    Gives (next x) b c y → Gives (f >>= next) a c y
gives_bind {X} {Y} {f} next {a} {b} {c} {x} {y} one two = record {
  goes = goes_on one.goes two.goes;
  value = told_bind f next x y (left_of a) (left_of b) (left_of c) one.value two.value;
}

-- one and then a value made of it
pub gives_then : {X Y : Type 0} {f : Format X} (next : X → Format Y) {a b : Here} {x : X} {y : Y} → Gives f a b x →
    next x ≡ pure y → Gives (f >>= next) a b y
gives_then {X} {Y} {f} next {a} {b} {x} {y} one made =
    gives_bind next one (subst (λ g. Gives g b b y) (sym made) (gives_pure b y one.goes.stands))

pub refuses_first : {X Y : Type 0} {f : Format X} (next : X → Format Y) {a b : Here} {fault : ModelFault} →
    FormatRefuses f a b fault → FormatRefuses (f >>= next) a b fault
refuses_first {X} {Y} {f} next {a} {b} {fault} one = record {
  goes = one.goes;
  rose = one.rose;
  told = λ by_content. told_refused_first f next fault (left_of a) (one.told by_content);
}

rose_later : (m n k : ℕ) → m ≤ n → Rose n k → Rose m k
rose_later m n k grew rose = elim rose [
  | inl h ↦ inl (omega arith)
  | inr h ↦ inr h
]

pub refuses_next : {X Y : Type 0} {f : Format X} (next : X → Format Y) {a b c : Here} {x : X} {fault : ModelFault} →
    Gives f a b x → FormatRefuses (next x) b c fault → FormatRefuses (f >>= next) a c fault
refuses_next {X} {Y} {f} next {a} {b} {c} {x} {fault} one two = record {
  goes = goes_on one.goes two.goes;
  rose = λ e. rose_later _ _ _ (one.goes.never_fall a.tokens.name)
      (subst (λ name. Rose (b.faults name) (c.faults name)) one.goes.name (two.rose e));
  told = λ by_content. told_refused_next f next x fault (left_of a) (left_of b) one.value (two.told by_content);
}

-- a refusal for memory tells nothing of the file
pub refuses_memory : {X : Type 0} (f : Format X) {a b : Here} → Goes a b → FormatRefuses f a b NoMemory
unfolding is_by_content
refuses_memory f goes = record { goes = goes; rose = λ e. cc; told = λ e. cc }

-- steps

pub gives_none : {X : Type 0} (step : ℕ → X → Format X) (a : Here) (x : X) → Stands a → Gives (along 0 step x) a a x
unfolding along
gives_none step a x stands = gives_pure a x stands

pub gives_more : {X : Type 0} (step : ℕ → X → Format X) (k : ℕ) (x : X) {a b c : Here} {y z : X} →
    Gives (along k step x) a b y → Gives (step k y) b c z → Gives (along (k + 1) step x) a c z
unfolding along
gives_more step k x so_far more = rw add-one (gives_bind (step k) so_far more)

pub refuses_step : {X : Type 0} (step : ℕ → X → Format X) (n k : ℕ) (x : X) {a b c : Here} {y : X}
    {fault : ModelFault} → k < n → Gives (along k step x) a b y → FormatRefuses (step k y) b c fault →
    FormatRefuses (along n step x) a c fault
unfolding along
refuses_step step zero k x within so_far here = absurd (omega arith)
refuses_step step (suc n) k x {a} {b} {c} {y} {fault} within so_far here = elim (cases_lt k n) [
  | inl before ↦ refuses_first (step n) (refuses_step step n k x before so_far here)
  | inr last ↦ let e : k ≡ n = omega arith in
      refuses_next (step n) (subst (λ j. Gives (along j step x) a b y) e so_far)
      (subst (λ j. FormatRefuses (step j y) b c fault) e here)
]

-- the exit of a `?`
pub refused_at_exit : {X T : Type 0} {f : Format X} {a b : Here} (r : Result T ModelFault) {fault : ModelFault} →
    IsErr r × IsErrAnd r (λ e. e ≡ fault) → FormatRefuses f a b fault → IfErr r (FormatRefuses f a b)
refused_at_exit r why refuses = at_exit r _ _ why refuses

-- a refusal at once
told_at_once : {X : Type 0} → (fault : ModelFault) (o : Option Left) → option_map (refuse {X = X} fault) o ≡
    option_map (λ _. Refused fault) o
unfolding refuse
told_at_once fault None = refl
told_at_once fault (Some l) = refl

pub refuses_here : {X : Type 0} → (f : Format X) (fault : ModelFault) {a : Here} → Stands a → f ≡ refuse fault →
    (fault ≡ ReadFault → ⊥) → FormatRefuses f a a fault
refuses_here {X} f fault {a} stands is no_read = rw is record {
  goes = goes_nowhere stands;
  rose = λ e. absurd (no_read e);
  told = λ by_content. told_at_once fault (left_of a);
}

-- no step yet, and all steps

pub gives_start : {X : Type 0} (step : ℕ → X → Format X) {a : Here} {x y : X} → Stands a → y ≡ x →
    Gives (along 0 step x) a a y
gives_start step {a} {x} {y} stands e = subst (Gives (along 0 step x) a a) (sym e) (gives_none step a x stands)

pub gives_all : {X : Type 0} (step : ℕ → X → Format X) (n k : ℕ) (x : X) {a b : Here} {y : X} → n ≤ k → k ≤ n →
    Gives (along k step x) a b y → Gives (along n step x) a b y
gives_all step n k x {a} {b} {y} low high all =
    let e : k ≡ n = omega arith in subst (λ m. Gives (along m step x) a b y) e all

-- one format under two names

pub gives_same : {X : Type 0} {f g : Format X} {a b : Here} {x : X} → f ≡ g → Gives f a b x → Gives g a b x
gives_same {X} {f} {g} {a} {b} {x} e h = subst (λ k. Gives k a b x) e h

pub refuses_same : {X : Type 0} {f g : Format X} {a b : Here} {fault : ModelFault} → f ≡ g → FormatRefuses f a b fault →
    FormatRefuses g a b fault
refuses_same {X} {f} {g} {a} {b} {fault} e h = subst (λ k. FormatRefuses k a b fault) e h
