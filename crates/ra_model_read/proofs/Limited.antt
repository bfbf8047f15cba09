-- Values within limits, and flags.
use Rattle.std.proofs.Common.{◌≡◌, ◌≢◌, ℕ, zero, suc, ◌<◌, ◌≤◌, ◌⊎◌, refl, true, false, arith}
use Rattle.ra_token.specs.declared.answers.Token.{Token}
use Rattle.ra_model_read.specs.declared.faults.Field.{Field}
use Rattle.ra_model_read.specs.declared.faults.ModelFault.{ModelFault}
use Rattle.ra_model_read.specs.declared.faults.ModelFault.TheVariants.{Range, Flag}
use Rattle.ra_model_read.specs.Formats.{pure, refuse, limited, flag_value}
use Rattle.ra_token.specs.Moments.{Here, Stands}
use Rattle.ra_model_read.specs.Reading.{FormatRefuses}
use Rattle.ra_model_read.proofs.Steps.{refuses_here}

module _ (what : Field) (least : ℕ) where
  module _ (most : ℕ) (t : Token) where
    pub limited_fits : least ≤ t.value → t.value ≤ most → limited what least most t ≡ pure t.value
    unfolding limited
    limited_fits low high = grind arith

    pub limited_out : (t.value < least) ⊎ (most < t.value) →
        limited what least most t ≡ refuse (Range what t.at t.value least most)
    unfolding limited
    limited_out out = grind arith

    pub limited_refuses : (a : Here) → Stands a → (t.value < least)
        ⊎ (most < t.value) → FormatRefuses (limited what least most t) a a (Range what t.at t.value least most)
    limited_refuses a stands out =
        refuses_here _ (Range what t.at t.value least most) stands (limited_out out) (λ e. cc)

flag_out : (value : ℕ) (fault : ModelFault) → value ≢ 0 → value ≢ 1 → flag_value value fault ≡ refuse fault
unfolding flag_value
flag_out zero fault some more = absurd (some refl)
flag_out (suc zero) fault some more = absurd (more refl)
flag_out (suc (suc value)) fault some more = refl

pub flag_refuses : (t : Token) (a : Here) → Stands a → t.value ≢ 0 → t.value ≢ 1 →
    FormatRefuses (flag_value t.value (Flag t.at t.value)) a a (Flag t.at t.value)
flag_refuses t a stands some more =
    refuses_here _ (Flag t.at t.value) stands (flag_out t.value (Flag t.at t.value) some more) (λ e. cc)

pub flag_off : (value : ℕ) (fault : ModelFault) → value ≡ 0 → flag_value value fault ≡ pure false
unfolding flag_value
flag_off value fault e = rw e refl

pub flag_on : (value : ℕ) (fault : ModelFault) → value ≡ 1 → flag_value value fault ≡ pure true
unfolding flag_value
flag_on value fault e = rw e refl
