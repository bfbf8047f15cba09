-- A repair that words say has one lot.
use Rattle.std.proofs.Common.{◌≡◌, ◌∙◌, ◌+◌, ℕ, true, List, Option, Some, None, length, drop, map, subst, refl, arith}
use Rattle.std.proofs.lemmas.Grind.{common_steps}
use Rattle.std.proofs.lemmas.List.{length-drop, length-map}
use Rattle.ra_words.specs.declared.forms.Form.{Form}
use Rattle.ra_words.specs.declared.forms.Form.TheVariants.{Check, Bound, BoundFrom, Solve, Trial, Verify, Repair, Edit}
use Rattle.ra_words.specs.LotTexts.{lot_says}
use Rattle.ra_words.specs.Jobs.{HasOneLot, JobSays, job_of, check_says, bound_says, bound_from_says, solve_says}
use Rattle.ra_words.specs.Jobs.{trial_says, verify_says, is_repair, repair_says, lot_place, edit_says}
use Rattle.ra_words.specs.Forms.{form_of}
use Rattle.ra_words.proofs.FormLaws.{IsA, says, told, no_form}

one_lot : (words : List (List ℕ)) → is_repair words ≡ true → length (map lot_says (drop (lot_place words) words)) ≡ 1
unfolding is_repair
one_lot words repair =
    let last : length words ≡ lot_place words + 1 = grind (arith, common_steps) in
    length-map (drop (lot_place words) words) lot_says ∙ length-drop (lot_place words) words ∙ omega (arith, last)

in_form : (form : Form) (words : List (List ℕ)) → IsA form words → HasOneLot (says form words)
unfolding check_says bound_says bound_from_says solve_says trial_says verify_says repair_says edit_says
in_form Check words is = tt
in_form Bound words is = tt
in_form BoundFrom words is = tt
in_form Solve words is = tt
in_form Trial words is = tt
in_form Verify words is = tt
in_form Repair words is = one_lot words is
in_form Edit words is = tt

pub has_one_lot : (words : List (List ℕ)) (said : JobSays) → job_of words ≡ Some said → HasOneLot said
has_one_lot words said is = of_form (form_of words) refl
  where
    of_form : (o : Option Form) → form_of words ≡ o → HasOneLot said
    of_form None e = absurd (let none = no_form words e in cc)
    of_form (Some form) e =
        let t = told words form e in
        let job = t.told in
        let same : says form words ≡ said = cc in
        subst HasOneLot same (in_form form words t.is)
