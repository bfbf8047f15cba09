use Rattle.std.proofs.Common.{arith, sym, ◌∙◌, ap, drop, Some}
use Rattle.std.proofs.lemmas.List.{take_rest}
use Rattle.std.proofs.lemmas.Option.{none-some}
use Rattle.ra_report.specs.Numbers.{told}
use Rattle.ra_report.proofs.FrontLaws.{numbers_there, found_is, same_found, front_same}
use Rattle.ra_report.proofs.front.read_numbers.Goals as goal

pub returns-in_err-worker : goal.returns-in_err-worker
returns-in_err-worker c = λ j w k q rest small_w small_q e.
    let there = numbers_there c.args.line.now j w k q rest _ _ _ c.in_ok-worker_at.worker_at c.in_ok-k_at.k_at
    c.in_ok-q_at.q_at c.behind_number.ensures.behind c.in_ok-worker_at.was c.behind_number-2.ensures.behind
    c.in_ok-k_at.was c.behind_number-3.ensures.behind c.in_ok-q_at.was e in
    let worker = found_is w (told 0 (drop c.in_ok-worker_at.worker_at c.args.line.now)) c.number_at.result
    (rw take_rest at c.number_at.ensures) there.0 (omega arith) in
    absurd (none-some w (sym c.in_err-worker.was ∙ worker))

pub returns-in_err-q : goal.returns-in_err-q
returns-in_err-q c = λ j w k q rest small_w small_q e.
    let there = numbers_there c.args.line.now j w k q rest _ _ _ c.in_ok-worker_at.worker_at c.in_ok-k_at.k_at
    c.in_ok-q_at.q_at c.behind_number.ensures.behind c.in_ok-worker_at.was c.behind_number-2.ensures.behind
    c.in_ok-k_at.was c.behind_number-3.ensures.behind c.in_ok-q_at.was e in
    let taken = found_is q (told 0 (drop c.in_ok-q_at.q_at c.args.line.now)) c.number_at-2.result
    (rw take_rest at c.number_at-2.ensures) there.1 small_q in
    absurd (none-some q (sym c.in_err-q.was ∙ taken))

pub returns-then-worker : goal.returns-then-worker
returns-then-worker c = λ j w k q rest small_w small_q e.
    let there = numbers_there c.args.line.now j w k q rest _ _ _ c.in_ok-worker_at.worker_at c.in_ok-k_at.k_at
    c.in_ok-q_at.q_at c.behind_number.ensures.behind c.in_ok-worker_at.was c.behind_number-2.ensures.behind
    c.in_ok-k_at.was c.behind_number-3.ensures.behind c.in_ok-q_at.was e in
    let worker = found_is w (told 0 (drop c.in_ok-worker_at.worker_at c.args.line.now)) c.number_at.result
    (rw take_rest at c.number_at.ensures) there.0 (omega arith) in
    absurd (omega (arith, (same_found c.in_ok-worker.worker w c.number_at.result c.in_ok-worker.was worker), c.if-worker.true))

pub returns : goal.returns
returns c = λ j w k q rest small_w small_q e.
    let there = numbers_there c.args.line.now j w k q rest _ _ _ c.in_ok-worker_at.worker_at c.in_ok-k_at.k_at
    c.in_ok-q_at.q_at c.behind_number.ensures.behind c.in_ok-worker_at.was c.behind_number-2.ensures.behind
    c.in_ok-k_at.was c.behind_number-3.ensures.behind c.in_ok-q_at.was e in
    let worker = found_is w (told 0 (drop c.in_ok-worker_at.worker_at c.args.line.now)) c.number_at.result
    (rw take_rest at c.number_at.ensures) there.0 (omega arith) in
    let taken = found_is q (told 0 (drop c.in_ok-q_at.q_at c.args.line.now)) c.number_at-2.result
    (rw take_rest at c.number_at-2.ensures) there.1 small_q in
    ap (λ f. Some f)
    (front_same c.in_ok-worker.worker w c.in_ok-q.q q
    (same_found c.in_ok-worker.worker w c.number_at.result c.in_ok-worker.was worker)
    (same_found c.in_ok-q.q q c.number_at-2.result c.in_ok-q.was taken))
