use Rattle.ra_token.proofs.ToldLemmas.{went_as, refuses_as}
use Rattle.std.proofs.Common.{◌≡◌, arith}
use Rattle.std.proofs.lemmas.Result.{IfOk-weaker, IfErr-weaker}
use Rattle.ra_edit_read.proofs.EditLaws.{test_resized, takes_other}
use Rattle.ra_edit_read.specs.EditTexts.{numbers_test}
use Rattle.ra_edit_read.proofs.reading.read_numbers.Goals as goal

pub returns-in-1-clause-refuses : goal.returns-in-1-clause-refuses
unfolding numbers_test
returns-in-1-clause-refuses g c =
    IfErr-weaker c.read_added.result _ _
    (λ fault h. refuses_as h (λ bytes x says. rw c.in-1.is says)) c.read_added.ensures.refuses

pub returns-in-2-clause-refuses : goal.returns-in-2-clause-refuses
unfolding numbers_test
returns-in-2-clause-refuses g c =
    IfErr-weaker c.read_retired.result _ _
    (λ fault h. refuses_as h (λ bytes x says. rw c.in-2.is says))
    c.read_retired.ensures.refuses

pub returns-in_default-clause-gives : goal.returns-in_default-clause-gives
returns-in_default-clause-gives g c =
    IfOk-weaker c.read_resized.result _ _
    (λ edit h. went_as h
    (λ bytes x y takes. takes_other (λ (e : c.args.kind ≡ 1). omega arith)
    (λ (e : c.args.kind ≡ 2). omega arith) takes)) c.read_resized.ensures.gives

pub returns-in_default-clause-refuses : goal.returns-in_default-clause-refuses
returns-in_default-clause-refuses g c =
    IfErr-weaker c.read_resized.result _ _
    (λ fault h. refuses_as h
    (λ bytes x says. test_resized bytes _ _ c.args.kind _ _ (λ (e : c.args.kind ≡ 1). omega arith)
    (λ (e : c.args.kind ≡ 2). omega arith) says)) c.read_resized.ensures.refuses
