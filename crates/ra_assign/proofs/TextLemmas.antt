-- The text of an assignment, one machine after another.
use Rattle.std.proofs.Common.{◌≡◌, ℕ, zero, suc, ◌+◌, ◌<◌, ◌≤◌, List, [], ◌∷◌, ◌++◌, length, refl, sym, ap, ◌∙◌, get_or}
use Rattle.std.proofs.Common.{arith, add-one}
use Rattle.std.proofs.lemmas.List.{drop_all, append_assoc}
use Rattle.std.proofs.Math.Seq.{drop-cons}
use Rattle.std.specs.Prelude.{drop, decimal}
use Rattle.ra_base.specs.declared.ids.Machine.{Machine}
use Rattle.ra_assign.specs.Lists.{assignment_bytes, more_machines_text, assigned_text, text_from}

-- one machine and what is after it
text_step : (p : ℕ) (m : Machine) (ms : List Machine) → text_from p (m ∷ ms) ≡ assigned_text p m ++ text_from (suc p) ms
unfolding text_from assigned_text assignment_bytes more_machines_text
text_step zero m ms = refl
text_step (suc p) m ms = refl

-- nothing written yet
pub none_written : (a : List Machine) → [] ++ text_from 0 (drop 0 a) ≡ assignment_bytes a
unfolding text_from
none_written a = refl

-- after the last machine
pub all_written : (p : ℕ) (text : List ℕ) (a : List Machine) → text ++ text_from p [] ≡ assignment_bytes a →
    text ++ 10 ∷ [] ≡ assignment_bytes a
unfolding text_from assignment_bytes more_machines_text
all_written zero text a e = e
all_written (suc p) text a e = e

module _ (p : ℕ) (text : List ℕ) where
  module _ (after : List ℕ) (a : List Machine) where
    -- one more machine
    pub more_written : (m d : Machine) → p < length a → text ++ text_from p (drop p a) ≡ assignment_bytes a →
        m ≡ get_or a p d → after ≡ text ++ assigned_text p m →
        after ++ text_from (p + 1) (drop (p + 1) a) ≡ assignment_bytes a
    more_written m d within before read e =
        rw (add-one, e, read) (append_assoc text (assigned_text p (get_or a p d)) (text_from (suc p) (drop (suc p) a))
        ∙ (ap (λ (r : List ℕ). text ++ r) (sym (text_step p (get_or a p d) (drop (suc p) a)))
        ∙ (ap (λ (r : List Machine). text ++ text_from p r) (sym (drop-cons a p d within)) ∙ before)))

    -- the end of the loop
    pub written : length a ≤ p → text ++ text_from p (drop p a) ≡ assignment_bytes a → after ≡ text ++ 10 ∷ [] →
        after ≡ assignment_bytes a
    written past before e =
        e ∙ all_written p text a (ap (λ (r : List Machine). text ++ text_from p r) (sym (drop_all p a past)) ∙ before)

-- a machine after others, and the first
pub pushed_later : (p : ℕ) (m : Machine) (before between after : List ℕ) → 0 < p → between ≡ before ++ 32 ∷ [] →
    after ≡ between ++ decimal m.0 → after ≡ before ++ assigned_text p m
unfolding assigned_text
pushed_later zero m before between after later space e = absurd (omega (arith, later))
pushed_later (suc p) m before between after later space e =
    e ∙ (ap (λ (t : List ℕ). t ++ decimal m.0) space ∙ append_assoc before (32 ∷ []) (decimal m.0))

pub pushed_first : (p : ℕ) (m : Machine) (before between after : List ℕ) → p ≤ 0 → between ≡ before →
    after ≡ between ++ decimal m.0 → after ≡ before ++ assigned_text p m
unfolding assigned_text
pushed_first zero m before between after start same e = e ∙ ap (λ (t : List ℕ). t ++ decimal m.0) same
pushed_first (suc p) m before between after start same e = absurd (omega (arith, start))
