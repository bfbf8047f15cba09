-- What formats make of what is left, one after another.
use Rattle.std.proofs.Common.{◌≡◌, refl, ap, ◌∙◌, Option, Some, None}
use Rattle.std.specs.Prelude.{option_map}
use Rattle.ra_model_read.specs.declared.faults.ModelFault.{ModelFault}
use Rattle.ra_model_read.specs.Formats.{Left, Read, Refused, Format, go_on, ◌>>=◌}

pub bind_read : {X Y : Type 0} → (f : Format X) (next : X → Format Y) (l m : Left) (x : X) → f l ≡ Read x m →
    (f >>= next) l ≡ next x m
unfolding ◌>>=◌ go_on
bind_read f next l m x e = rw e refl

pub bind_refused : {X Y : Type 0} → (f : Format X) (next : X → Format Y) (l : Left) (fault : ModelFault) →
    f l ≡ Refused fault → (f >>= next) l ≡ Refused fault
unfolding ◌>>=◌ go_on
bind_refused f next l fault e = rw e refl

-- if what is left may be untold, one format reads and then the next

pub told_bind : {X Y : Type 0} → (f : Format X) (next : X → Format Y) (x : X) (y : Y) (o p q : Option Left) →
    option_map f o ≡ option_map (Read x) p → option_map (next x) p ≡ option_map (Read y) q →
    option_map (f >>= next) o ≡ option_map (Read y) q
told_bind f next x y None None None d e = refl
told_bind f next x y None None (Some q) d e = cc
told_bind f next x y None (Some p) q d e = cc
told_bind f next x y (Some o) None q d e = cc
told_bind f next x y (Some o) (Some p) None d e = cc
told_bind f next x y (Some o) (Some p) (Some q) d e =
    let first : f o ≡ Read x p = cc in ap Some (bind_read f next o p x first) ∙ e

pub told_refused_first : {X Y : Type 0} → (f : Format X) (next : X → Format Y) (fault : ModelFault) (o : Option Left) →
    option_map f o ≡ option_map (λ _. Refused fault) o → option_map (f >>= next) o ≡ option_map (λ _. Refused fault) o
told_refused_first f next fault None d = refl
told_refused_first f next fault (Some o) d =
    let first : f o ≡ Refused fault = cc in ap Some (bind_refused f next o fault first)

pub told_refused_next : {X Y : Type 0} → (f : Format X) (next : X → Format Y) (x : X) (fault : ModelFault)
    (o p : Option Left) → option_map f o ≡ option_map (Read x) p →
    option_map (next x) p ≡ option_map (λ _. Refused fault) p →
    option_map (f >>= next) o ≡ option_map (λ _. Refused fault) o
told_refused_next f next x fault None None d e = refl
told_refused_next f next x fault None (Some p) d e = refl
told_refused_next f next x fault (Some o) None d e = cc
told_refused_next f next x fault (Some o) (Some p) d e =
    let first : f o ≡ Read x p = cc in ap Some (bind_read f next o p x first) ∙ e
