-- One edit more of a run.
use Rattle.std.proofs.Common.{◌≡◌, ℕ, ◌+◌, ◌≤◌, List, [], ◌∷◌, ◌++◌, length, refl, ap, ◌∙◌, add-one}
use Rattle.ra_edit_read.specs.EditLists.{EditLists}
use Rattle.ra_edit.specs.declared.replies.EditReply.{EditReply}
use Rattle.ra_edit.specs.Drafts.{Drafted}
use Rattle.ra_edit.specs.Replies.{edit_answer, after_edit, after_edits, reply_at, replies_to, IsAfterSome}

pub none_after : (d : Drafted) (e : EditLists) → d ≡ after_edits d e 0
unfolding after_edits
none_after d e = refl

pub none_replied : (d : Drafted) (e : EditLists) → [] ≡ replies_to d e 0
unfolding replies_to
none_replied d e = refl

pub one_after : (d before after : Drafted) (e : EditLists) (n : ℕ) → before ≡ after_edits d e n →
    after ≡ after_edit before e n → after ≡ after_edits d e (n + 1)
unfolding after_edits
one_after d before after e n was is = rw add-one (is ∙ ap (λ (x : Drafted). after_edit x e n) was)

pub one_replied : (d before : Drafted) (e : EditLists) (n : ℕ) (replies : List EditReply) (reply : EditReply) →
    replies ≡ replies_to d e n → before ≡ after_edits d e n → reply ≡ edit_answer before e n →
    replies ++ reply ∷ [] ≡ replies_to d e (n + 1)
unfolding replies_to reply_at
one_replied d before e n replies reply were was is =
    rw add-one (ap (λ (xs : List EditReply). xs ++ reply ∷ []) were
    ∙ ap (λ (r : EditReply). replies_to d e n ++ r ∷ []) (is ∙ ap (λ (x : Drafted). edit_answer x e n) was))

pub after_some : (d before after : Drafted) (e : EditLists) (n : ℕ) → n ≤ length e.edits → before ≡ after_edits d e n →
    after ≡ before → IsAfterSome d e after
after_some d before after e n few was same = record { number = n; few = few; is = same ∙ was }

-- what the loop needs
pub ruleset runs = (none_after, none_replied, one_after, one_replied, after_some)
