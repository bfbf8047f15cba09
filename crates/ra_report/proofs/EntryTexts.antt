-- The texts of a journal's entries tell them: each word tells what it says and where it ends.
use Rattle.std.proofs.Common.{◌≡◌, ℕ, ◌+◌, ◌*◌, ◌<◌, List, [], ◌∷◌, ◌++◌, length, get_or, drop, refl, sym, ◌∙◌, ap, arith, append_assoc, codes}
use Rattle.std.proofs.lemmas.List.{append_cancel_left}
use Rattle.ra_base.specs.declared.causes.Cause.{Cause}
use Rattle.ra_base.specs.declared.causes.Cause.TheVariants.{Repeat, Same, Capacity, Transient, Conflict, Spread, Dependency, Rise, Closed}
use Rattle.ra_moves.specs.declared.steps.MoveKind.{MoveKind}
use Rattle.ra_moves.specs.declared.steps.MoveKind.TheVariants.{Shift, Swap, Chain}
use Rattle.ra_moves.specs.declared.steps.Step.{Step}
use Rattle.ra_moves.specs.declared.verdicts.Verdict.{Verdict}
use Rattle.ra_moves.specs.declared.verdicts.Verdict.TheVariants.{Done, Refused}
use Rattle.ra_journal.specs.declared.entries.Entry.{Entry}
use Rattle.ra_report.specs.Texts.{space, number_text, with_one, with_two, with_three, with_four, cause_text}
use Rattle.ra_report.specs.JournalTexts.{verdict_text, kind_text, step_text, steps_text, entry_front, entry_line}
use Rattle.ra_report.proofs.NumberTexts.{Ends, Starts, number_then, number_starts}
use Rattle.ra_report.specs.Numbers.{is_digit}

-- what one list begins with, the other does
behind : (word x y : List ℕ) → word ++ x ≡ word ++ y → x ≡ y
behind word x y e = append_cancel_left word x y e

byte_then : (b : ℕ) (x y : List ℕ) → b ∷ x ≡ b ∷ y → x ≡ y
byte_then b x y e = ap (drop 1) e

-- a space, a number and what follows
spaced_then : (a b : ℕ) (x y : List ℕ) → Ends x → Ends y → 32 ∷ (number_text a ++ x) ≡ 32 ∷ (number_text b ++ y) →
    (a ≡ b) × (x ≡ y)
spaced_then a b x y ends stops e = number_then a b x y ends stops (byte_then 32 _ _ e)

more_parts : (text : List ℕ) (n : ℕ) (x : List ℕ) → (text ++ space ++ number_text n) ++ x ≡
    text ++ (32 ∷ (number_text n ++ x))
more_parts text n x = simp append_assoc

module _ (x : List ℕ) where
  -- a letter, a space, the end of a line are no digits
  pub blank : Ends (32 ∷ x)
  unfolding is_digit
  blank = record { no_digit = refl }

  lf : Ends (10 ∷ x)
  unfolding is_digit
  lf = record { no_digit = refl }

  colon : Ends (58 ∷ x)
  unfolding is_digit
  colon = record { no_digit = refl }

  arrow : Ends (62 ∷ x)
  unfolding is_digit
  arrow = record { no_digit = refl }

-- a number and a space before what follows
number_spaced : (a b : ℕ) (x y : List ℕ) → number_text a ++ 32 ∷ x ≡ number_text b ++ 32 ∷ y → (a ≡ b) × (x ≡ y)
number_spaced a b x y e = let p = number_then a b (32 ∷ x) (32 ∷ y) (blank x) (blank y) e in (p.0, byte_then 32 x y p.1)

module _ (word : List ℕ) (a b : ℕ) where
  one_then : (x y : List ℕ) → Ends x → Ends y → with_one word a ++ x ≡ with_one word b ++ y →
      (a ≡ b) × (x ≡ y)
  one_then x y ends stops e =
      spaced_then a b x y ends stops (behind word _ _ (sym (more_parts word a x) ∙ (e ∙ more_parts word b y)))

  module _ (c d : ℕ) where
    two_then : (x y : List ℕ) → Ends x → Ends y →
        with_two word a c ++ x ≡ with_two word b d ++ y → (a ≡ b) × (c ≡ d) × (x ≡ y)
    two_then x y ends stops e =
        let p = one_then _ _ (blank _) (blank _)
        (sym (more_parts (with_one word a) c x) ∙ (e ∙ more_parts (with_one word b) d y)) in
        let q = spaced_then c d x y ends stops p.1 in
        (p.0, q.0, q.1)

    three_then : (f g : ℕ) (x y : List ℕ) → Ends x → Ends y →
        with_three word a c f ++ x ≡ with_three word b d g ++ y → (a ≡ b) × (c ≡ d) × (f ≡ g) × (x ≡ y)
    three_then f g x y ends stops e =
        let p = two_then _ _ (blank _) (blank _)
        (sym (more_parts (with_two word a c) f x) ∙ (e ∙ more_parts (with_two word b d) g y)) in
        let q = spaced_then f g x y ends stops p.2 in
        (p.0, p.1, q.0, q.1)

    four_then : (f g k l : ℕ) (x y : List ℕ) → Ends x → Ends y →
        with_four word a c f k ++ x ≡ with_four word b d g l ++ y → (a ≡ b) × (c ≡ d) × (f ≡ g) × (k ≡ l) × (x ≡ y)
    four_then f g k l x y ends stops e =
        let p = three_then f g _ _ (blank _) (blank _)
        (sym (more_parts (with_three word a c f) k x) ∙ (e ∙ more_parts (with_three word b d g) l y)) in
        let q = spaced_then k l x y ends stops p.3 in
        (p.0, p.1, p.2, q.0, q.1)

-- two things are equal, and so is what follows them
pub record Both {X : Type 0} (a b : X) (x y : List ℕ) : Type 0 where
  pub same : a ≡ b
  pub rest : x ≡ y

-- the first two bytes tell words apart
abbrev two_bytes : List ℕ → ℕ
two_bytes text = get_or text 0 0 * 256 + get_or text 1 0

same_two : {X : Type 0} (f : ℕ → ℕ → X) (a b c d : ℕ) → a ≡ b → c ≡ d → f a c ≡ f b d
same_two f a b c d g h = cc

same_three : {X : Type 0} (f : ℕ → ℕ → ℕ → X) (a b c d k l : ℕ) → a ≡ b → c ≡ d → k ≡ l → f a c k ≡ f b d l
same_three f a b c d k l g h i = cc

same_four : {X : Type 0} (f : ℕ → ℕ → ℕ → ℕ → X) (a b c d k l m n : ℕ) → a ≡ b → c ≡ d → k ≡ l → m ≡ n →
    f a c k m ≡ f b d l n
same_four f a b c d k l m n g h i j = cc

-- causes of their numbers
abbrev repeat_of : ℕ → Cause
repeat_of p = Repeat (record { 0 = p })

abbrev same_of : ℕ → Cause
same_of p = Same (record { 0 = p })

abbrev capacity_cause : ℕ → ℕ → ℕ → ℕ → Cause
capacity_cause m r u c = Capacity (record { 0 = m }) (record { 0 = r }) u c

abbrev transient_cause : ℕ → ℕ → ℕ → ℕ → Cause
transient_cause m r u c = Transient (record { 0 = m }) (record { 0 = r }) u c

abbrev conflict_cause : ℕ → ℕ → Cause
conflict_cause s m = Conflict (record { 0 = s }) (record { 0 = m })

abbrev spread_cause : ℕ → ℕ → ℕ → Cause
spread_cause s h w = Spread (record { 0 = s }) h w

abbrev rise_cause : ℕ → ℕ → ℕ → Cause
rise_cause before after allowed = Rise allowed before after

abbrev dependency_cause : ℕ → ℕ → ℕ → Cause
dependency_cause s n h = Dependency (record { 0 = s }) (record { 0 = n }) h

abbrev closed_cause : ℕ → ℕ → Cause
closed_cause p m = Closed (record { 0 = p }) (record { 0 = m })

cause_then : (c d : Cause) (x y : List ℕ) → Ends x → Ends y → cause_text c ++ x ≡ cause_text d ++ y → Both c d x y
unfolding cause_text
cause_then (Repeat p) (Repeat q) x y ends stops e =
    let s = one_then (codes "repeat") p.0 q.0 x y ends stops e in
    record { same = ap repeat_of s.0; rest = s.1 }
cause_then (Same p) (Same q) x y ends stops e =
    let s = one_then (codes "same") p.0 q.0 x y ends stops e in
    record { same = ap same_of s.0; rest = s.1 }
cause_then (Capacity m r u c) (Capacity n s v d) x y ends stops e =
    let t = four_then (codes "capacity") m.0 n.0 r.0 s.0 u v c d x y ends stops e in
    record { same = same_four capacity_cause _ _ _ _ _ _ _ _ t.0 t.1 t.2 t.3; rest = t.4 }
cause_then (Transient m r u c) (Transient n s v d) x y ends stops e =
    let t = four_then (codes "transient") m.0 n.0 r.0 s.0 u v c d x y ends stops e in
    record { same = same_four transient_cause _ _ _ _ _ _ _ _ t.0 t.1 t.2 t.3; rest = t.4 }
cause_then (Conflict s m) (Conflict t n) x y ends stops e =
    let u = two_then (codes "conflict") s.0 t.0 m.0 n.0 x y ends stops e in
    record { same = same_two conflict_cause _ _ _ _ u.0 u.1; rest = u.2 }
cause_then (Spread s h w) (Spread t i v) x y ends stops e =
    let u = three_then (codes "spread") s.0 t.0 h i w v x y ends stops e in
    record { same = same_three spread_cause _ _ _ _ _ _ u.0 u.1 u.2; rest = u.3 }
cause_then (Dependency s n h) (Dependency t m g) x y ends stops e =
    let u = three_then (codes "dependency") s.0 t.0 n.0 m.0 h g x y ends stops e in
    record { same = same_three dependency_cause _ _ _ _ _ _ u.0 u.1 u.2; rest = u.3 }
cause_then (Rise l b a) (Rise m c f) x y ends stops e =
    let u = three_then (codes "rise") b c a f l m x y ends stops e in
    record { same = same_three rise_cause _ _ _ _ _ _ u.0 u.1 u.2; rest = u.3 }
cause_then (Closed p m) (Closed q n) x y ends stops e =
    let u = two_then (codes "closed") p.0 q.0 m.0 n.0 x y ends stops e in
    record { same = same_two closed_cause _ _ _ _ u.0 u.1; rest = u.2 }
cause_then c d x y ends stops e = absurd (omega (arith, ap two_bytes e))

verdict_then : (v w : Verdict) (x y : List ℕ) → Ends x → Ends y → verdict_text v ++ x ≡ verdict_text w ++ y →
    Both v w x y
unfolding verdict_text
verdict_then (Done a) (Done b) x y ends stops e =
    let s = one_then (codes "done") a b x y ends stops e in record { same = ap Done s.0; rest = s.1 }
verdict_then (Refused c) (Refused d) x y ends stops e =
    let s = cause_then c d x y ends stops (behind (codes "refused ") _ _ e) in
    record { same = ap Refused s.same; rest = s.rest }
verdict_then v w x y ends stops e = absurd (omega (arith, ap two_bytes e))

verdict_ends : (v : Verdict) (x : List ℕ) → Ends (verdict_text v ++ x)
unfolding verdict_text is_digit
verdict_ends (Done cost) x = record { no_digit = refl }
verdict_ends (Refused cause) x = record { no_digit = refl }

kind_then : (k l : MoveKind) (x y : List ℕ) → kind_text k ++ x ≡ kind_text l ++ y → Both k l x y
unfolding kind_text
kind_then Shift Shift x y e = record { same = refl; rest = behind (codes "shift") x y e }
kind_then Swap Swap x y e = record { same = refl; rest = behind (codes "swap") x y e }
kind_then Chain Chain x y e = record { same = refl; rest = behind (codes "chain") x y e }
kind_then k l x y e = absurd (omega (arith, ap two_bytes e))

step_parts : (s : Step) (x : List ℕ) →
    step_text s ++ x ≡ number_text s.process.0 ++ 58 ∷ (number_text s.from.0 ++ 62 ∷ (number_text s.to.0 ++ x))
unfolding step_text
step_parts s x = simp append_assoc

abbrev step_of : ℕ → ℕ → ℕ → Step
step_of p f t = record { process = record { 0 = p }; from = record { 0 = f }; to = record { 0 = t } }

step_same : (p q f g t u : ℕ) → p ≡ q → f ≡ g → t ≡ u → step_of p f t ≡ step_of q g u
step_same p q f g t u a b c = cc

step_then : (s t : Step) (x y : List ℕ) → Ends x → Ends y → step_text s ++ x ≡ step_text t ++ y → Both s t x y
step_then s t x y ends stops e =
    let p = number_then s.process.0 t.process.0 _ _ (colon _) (colon _) (sym (step_parts s x) ∙ (e ∙ step_parts t y)) in
    let q = number_then s.from.0 t.from.0 _ _ (arrow _) (arrow _) (byte_then 58 _ _ p.1) in
    let r = number_then s.to.0 t.to.0 x y ends stops (byte_then 62 _ _ q.1) in
    record { same = step_same _ _ _ _ _ _ p.0 q.0 r.0; rest = r.1 }

steps_parts : (s : Step) (ss : List Step) (x : List ℕ) →
    steps_text (s ∷ ss) ++ x ≡ step_text s ++ 32 ∷ (steps_text ss ++ x)
unfolding steps_text
steps_parts s ss x =
    append_assoc _ _ x ∙ append_assoc _ space _

steps_start : (s : Step) (ss : List Step) (x : List ℕ) → Starts (steps_text (s ∷ ss) ++ x)
steps_start s ss x = grind (arith, steps_parts, step_parts, number_starts)

apart : (x y : List ℕ) → Ends x → Starts y → x ≡ y → ⊥
apart x y ends starts e = grind arith

steps_then : (s t : List Step) (x y : List ℕ) → Ends x → Ends y → steps_text s ++ x ≡ steps_text t ++ y → Both s t x y
unfolding steps_text
steps_then [] [] x y ends stops e = record { same = refl; rest = e }
steps_then [] (t ∷ ts) x y ends stops e = absurd (apart x _ ends (steps_start t ts y) e)
steps_then (s ∷ ss) [] x y ends stops e = absurd (apart y _ stops (steps_start s ss x) (sym e))
steps_then (s ∷ ss) (t ∷ ts) x y ends stops e =
    let p = step_then s t _ _ (blank _) (blank _)
    (sym (steps_parts s ss x) ∙ (e ∙ steps_parts t ts y)) in
    let q = steps_then ss ts x y ends stops (byte_then 32 _ _ p.rest) in
    record { same = let a = p.same in let b = q.same in (cc); rest = q.rest }

abbrev entry_of : ℕ → ℕ → ℕ → MoveKind → List Step → Verdict → Entry
entry_of w k q kind steps v = record {
  worker = w;
  k = k;
  q = q;
  mv = record { kind = kind; steps = steps };
  verdict = v;
}

entry_same : (w x k l q r : ℕ) (a b : MoveKind) (s t : List Step) (u v : Verdict) → w ≡ x → k ≡ l → q ≡ r → a ≡ b →
    s ≡ t → u ≡ v → entry_of w k q a s u ≡ entry_of x l r b t v
entry_same w x k l q r a b s t u v c d e f g h = cc

pub entry_parts : (j : ℕ) (e : Entry) (x : List ℕ) →
    entry_line j e ++ x ≡ number_text j ++ 32 ∷
    (number_text e.worker ++ 32 ∷
    (number_text e.k ++ 32 ∷
    (number_text e.q ++ 32 ∷
    (kind_text e.mv.kind ++ 32 ∷ (steps_text e.mv.steps ++ (verdict_text e.verdict ++ 10 ∷ x))))))
unfolding entry_line entry_front
entry_parts j e x = simp append_assoc

pub entry_then : (j : ℕ) (e f : Entry) (x y : List ℕ) → entry_line j e ++ x ≡ entry_line j f ++ y → Both e f x y
entry_then j e f x y same =
    let place = number_spaced j j _ _ (sym (entry_parts j e x) ∙ (same ∙ entry_parts j f y)) in
    let worker = number_spaced e.worker f.worker _ _ place.1 in
    let k = number_spaced e.k f.k _ _ worker.1 in
    let q = number_spaced e.q f.q _ _ k.1 in
    let kind = kind_then e.mv.kind f.mv.kind _ _ q.1 in
    let steps = steps_then e.mv.steps f.mv.steps _ _ (verdict_ends e.verdict _) (verdict_ends f.verdict _)
    (byte_then 32 _ _ kind.rest) in
    let verdict = verdict_then e.verdict f.verdict (10 ∷ x) (10 ∷ y) (lf x) (lf y) steps.rest in
    record {
      same = entry_same _ _ _ _ _ _ _ _ _ _ _ _ worker.0 k.0 q.0 kind.same steps.same verdict.same;
      rest = byte_then 10 x y verdict.rest;
    }

starts_some : (y : List ℕ) → Starts y → 0 < length y
unfolding is_digit
starts_some [] starts = absurd (let t = starts.digit in (cc))
starts_some (b ∷ y) starts = omega arith

-- a line isn't empty
pub line_some : (j : ℕ) (e : Entry) (x : List ℕ) → 0 < length (entry_line j e ++ x)
line_some j e x = rw (entry_parts j e x) (starts_some _ (number_starts j _))
