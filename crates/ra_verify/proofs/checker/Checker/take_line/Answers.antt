use Rattle.std.proofs.Common.{◌≡◌}
use Rattle.ra_journal.specs.Journals.{opening_in}
use Rattle.ra_verify.proofs.FollowLemmas.{small_entry, small_front}
use Rattle.ra_verify.proofs.checker.Checker.take_line.Goals as goal

pub returns-in-Some-clause-wrong : goal.returns-in-Some-clause-wrong
returns-in-Some-clause-wrong c = λ no e legal text.
    let j = c.args.self.now.journal in
    let front = c.read_front.ensures.whole _ e
    (small_entry (opening_in j) j.entries e legal) text in
    let own : e.worker ≡ c.in-Some.front.worker = (let is = c.in-Some.is in cc) in
    let q : e.q ≡ c.in-Some.front.q = (let is = c.in-Some.is in cc) in
    c.take_fronted.ensures.wrong no e legal own q text

pub returns-in-Some-clause-short : goal.returns-in-Some-clause-short
returns-in-Some-clause-short c = λ e rest legal long text.
    let j = c.args.self.now.journal in
    let front = c.read_front.ensures.cut _ e rest
    (small_front (opening_in j) j.entries e legal) long text in
    let own : e.worker ≡ c.in-Some.front.worker = (let is = c.in-Some.is in cc) in
    let q : e.q ≡ c.in-Some.front.q = (let is = c.in-Some.is in cc) in
    c.take_fronted.ensures.short e legal own q

pub returns-in-None-clause-wrong : goal.returns-in-None-clause-wrong
returns-in-None-clause-wrong c = λ no e legal text.
    let j = c.args.self.now.journal in
    let front = c.read_front.ensures.whole _ e
    (small_entry (opening_in j) j.entries e legal) text in
    let is = c.in-None.is in (cc)

pub returns-in-None-clause-short : goal.returns-in-None-clause-short
returns-in-None-clause-short c = λ e rest legal long text.
    let j = c.args.self.now.journal in
    let front = c.read_front.ensures.cut _ e rest
    (small_front (opening_in j) j.entries e legal) long text in
    let is = c.in-None.is in absurd (cc)
