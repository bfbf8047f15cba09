-- What is known from one moment to the next of a file whose bytes may be told.
use Rattle.std.proofs.Common.{◌≡◌, ℕ, refl, ap, ◌∙◌, sym, subst, List, Option, Some, None, Result, Ok, Err, IfSome, IfErr, IsErr, IsErrAnd, arith}
use Rattle.ra_io.specs.Faults.{Rose}
use Rattle.ra_token.specs.Reads.{StandsIn}
use Rattle.ra_token.specs.declared.answers.TokenFault.{TokenFault}
use Rattle.ra_token.specs.TokenList.{tokens_before, IsAnswer}
use Rattle.ra_token.specs.Moments.{Here, Stands, Goes, Went, Refuses, HasFault}
use Rattle.ra_token.proofs.Exits.{rose_later}

-- the exit of a `?`
pub at_exit : {T E : Type 0} (r : Result T E) (Q : E → Type 0) (fault : E) → IsErr r × IsErrAnd r (λ e. e ≡ fault) →
    Q fault → IfErr r Q
at_exit (Ok x) Q fault why holds = tt
at_exit (Err e) Q fault why holds = subst Q (sym why.1) holds

told_always : {P : List ℕ → Type 0} (o : Option (List ℕ)) → ((bytes : List ℕ) → P bytes) → IfSome o P
told_always None f = tt
told_always (Some bytes) f = f bytes

pub told_then : {P Q : List ℕ → Type 0} (o : Option (List ℕ)) → IfSome o P → ((bytes : List ℕ) → P bytes → Q bytes) →
    IfSome o Q
told_then None p f = tt
told_then (Some bytes) p f = f bytes p

pub told_both : {P Q R : List ℕ → Type 0} (o : Option (List ℕ)) → IfSome o P → IfSome o Q →
    ((bytes : List ℕ) → P bytes → Q bytes → R bytes) → IfSome o R
told_both None p q f = tt
told_both (Some bytes) p q f = f bytes p q

goes_on : {a b c : Here} → Goes a b → Goes b c → Goes a c
goes_on {a} {b} {c} one two = record {
  name = two.name ∙ one.name;
  stands = two.stands;
  kept = λ other. two.kept other ∙ one.kept other;
  never_fall = λ other. omega (arith, one.never_fall other, two.never_fall other);
}

-- nothing happened yet
pub went_nowhere : {P : List ℕ → ℕ → ℕ → Type 0} (a : Here) → Stands a →
    ((bytes : List ℕ) → P bytes a.tokens.place a.tokens.place) → Went P a a
went_nowhere a stands f = record {
  goes = record { name = refl; stands = stands; kept = λ other. refl; never_fall = λ other. omega arith };
  told = told_always (a.held a.tokens.name) f;
}

-- what is told at a later moment is what was told
told_before : (P : List ℕ → Type 0) (a b : Here) → Goes a b → IfSome (b.held b.tokens.name) P →
    IfSome (a.held a.tokens.name) P
told_before P a b goes h = subst (λ o. IfSome o P) (ap b.held goes.name ∙ goes.kept a.tokens.name) h

pub went_as : {P R : List ℕ → ℕ → ℕ → Type 0} {a b : Here} → Went P a b →
    ((bytes : List ℕ) (x y : ℕ) → P bytes x y → R bytes x y) → Went R a b
went_as {P} {R} {a} {b} one f = record {
  goes = one.goes;
  told = told_then (a.held a.tokens.name) one.told (λ bytes p. f bytes a.tokens.place b.tokens.place p);
}

pub went_on : {P Q R : List ℕ → ℕ → ℕ → Type 0} {a b c : Here} → Went P a b → Went Q b c →
    ((bytes : List ℕ) (x y z : ℕ) → P bytes x y → Q bytes y z → R bytes x z) → Went R a c
went_on {P} {Q} {R} {a} {b} {c} one two f = record {
  goes = goes_on one.goes two.goes;
  told = told_both (a.held a.tokens.name) one.told (told_before _ a b one.goes two.told)
      (λ bytes p q. f bytes a.tokens.place b.tokens.place c.tokens.place p q);
}

-- a refusal at once
pub refuses_here : {E : Type 0} {read fault : E} {P : List ℕ → ℕ → ℕ → Type 0} {R : List ℕ → ℕ → Type 0} {a b : Here} →
    Went P a b → (fault ≡ read → ⊥) → ((bytes : List ℕ) (x y : ℕ) → P bytes x y → R bytes x) → Refuses read R a b fault
refuses_here {E} {read} {fault} {P} {R} {a} {b} one no_read f = record {
  goes = one.goes;
  rose = λ e. absurd (no_read e);
  told = told_then (a.held a.tokens.name) one.told (λ bytes p. f bytes a.tokens.place b.tokens.place p);
}

pub refuses_as : {E : Type 0} {read fault : E} {P R : List ℕ → ℕ → Type 0} {a b : Here} → Refuses read P a b fault →
    ((bytes : List ℕ) (x : ℕ) → P bytes x → R bytes x) → Refuses read R a b fault
refuses_as {E} {read} {fault} {P} {R} {a} {b} one f = record {
  goes = one.goes;
  rose = one.rose;
  told = told_then (a.held a.tokens.name) one.told (λ bytes p. f bytes a.tokens.place p);
}

pub refuses_next : {E : Type 0} {read fault : E} {P : List ℕ → ℕ → ℕ → Type 0} {Q R : List ℕ → ℕ → Type 0}
    {a b c : Here} → Went P a b → Refuses read Q b c fault →
    ((bytes : List ℕ) (x y : ℕ) → P bytes x y → Q bytes y → R bytes x) → Refuses read R a c fault
refuses_next {E} {read} {fault} {P} {Q} {R} {a} {b} {c} one two f = record {
  goes = goes_on one.goes two.goes;
  rose = λ e. rose_later _ _ _ (one.goes.never_fall a.tokens.name)
      (subst (λ name. Rose (b.faults name) (c.faults name)) one.goes.name (two.rose e));
  told = told_both (a.held a.tokens.name) one.told (told_before _ a b one.goes two.told)
      (λ bytes p q. f bytes a.tokens.place b.tokens.place p q);
}

-- what was told is told of the place of the reader too
pub went_standing : {P : List ℕ → ℕ → ℕ → Type 0} {a b : Here} → Went P a b →
    IfSome (a.held a.tokens.name) (λ bytes. StandsIn bytes b.tokens)
went_standing {P} {a} {b} one = told_before _ a b one.goes one.goes.stands

-- a fault of the tokens, under its other name
pub told_fault : {E : Type 0} (renamed : TokenFault → E) (o : Option (List ℕ)) (place : ℕ) (next : TokenFault)
    (fault : E) → fault ≡ renamed next → IfSome o (λ bytes. IsAnswer bytes (tokens_before bytes place) (Err next)) →
    IfSome o (λ bytes. HasFault renamed bytes place fault)
told_fault renamed None place next fault e h = tt
told_fault renamed (Some bytes) place next fault e h = record { token_fault = next; same = e; answer = h }

-- what was told at the start, of the bytes that the caller names
pub told_as : (P : List ℕ → Type 0) (f : List ℕ → Option (List ℕ)) (name other : List ℕ) → name ≡ other →
    IfSome (f name) P → IfSome (f other) P
told_as P f name other e h = subst (λ (n : List ℕ). IfSome (f n) P) e h

-- a refusal at the place of the reader
pub refuses_standing : {E : Type 0} {read fault : E} {P : List ℕ → ℕ → ℕ → Type 0} {R : List ℕ → ℕ → Type 0}
    {a b : Here} → Went P a b → (fault ≡ read → ⊥) →
    ((bytes : List ℕ) (x : ℕ) → P bytes x b.tokens.place → StandsIn bytes b.tokens → R bytes x) →
    Refuses read R a b fault
refuses_standing {E} {read} {fault} {P} {R} {a} {b} one no_read f = record {
  goes = one.goes;
  rose = λ e. absurd (no_read e);
  told = told_both (a.held a.tokens.name) one.told (went_standing one)
      (λ bytes p stands. f bytes a.tokens.place p stands);
}
