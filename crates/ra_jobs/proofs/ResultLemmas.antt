-- What follows of the result of a stage.
use Rattle.std.proofs.Common.{Result, Ok, Err, OnOk, IfOk, IfErr}
use Rattle.ra_jobs.specs.declared.refusals.Refusal.{Refusal}

-- what follows from what is known of a result holds of it too
pub on_ok_then : {X : Type 0} → (result : Result X Refusal) (known follows : Type 0) → (known → follows) →
    OnOk result known → OnOk result follows
on_ok_then (Ok x) known follows then is = then is
on_ok_then (Err e) known follows then is = tt

pub if_err_then : {X : Type 0} → (result : Result X Refusal) (known follows : Refusal → Type 0) →
    ((refusal : Refusal) → known refusal → follows refusal) → IfErr result known → IfErr result follows
if_err_then (Ok x) known follows then is = tt
if_err_then (Err e) known follows then is = then e is

pub if_ok_then : {X : Type 0} → (result : Result X Refusal) (known follows : X → Type 0) →
    ((x : X) → known x → follows x) → IfOk result known → IfOk result follows
if_ok_then (Ok x) known follows then is = then x is
if_ok_then (Err e) known follows then is = tt
