use Rattle.std.proofs.Common.{ℕ, List, Bor, map, ◌∙◌, arith}
use Rattle.std.proofs.lemmas.List.{length-map}
use Rattle.ra_words.proofs.LotLaws.{none_read, lot_told, one_read, lots_said, lots_fit}
use Rattle.ra_words.proofs.lots.read_lots.Goals as goal

pub loop-k-init : goal.loop-k-init
loop-k-init c = none_read (map (λ (word : Bor (List ℕ)). word.now) c.args.words.now) c.args.place
    c.new-lots.result.items c.requires c.new-lots.ensures.items

pub read_lot-requires : goal.read_lot-requires
read_lot-requires c =
    lot_told (map (λ (word : Bor (List ℕ)). word.now) c.args.words.now) c.args.place c.loop-k.k c.loop-k.lots.items
    c.as_bytes.result.now c.loop-k.invariant
    (omega (arith, length-map c.args.words.now (λ (word : Bor (List ℕ)). word.now), c.loop-k-test.true))
    (c.as_bytes.ensures.value ∙ c.str_at.ensures)

pub loop-k-preserved : goal.loop-k-preserved
loop-k-preserved c =
    one_read (map (λ (word : Bor (List ℕ)). word.now) c.args.words.now) c.args.place c.loop-k.k c.loop-k.lots.items
    c.push.new.self.items c.in_ok-read_lot.field-0 c.as_bytes.result.now c.loop-k.invariant
    (omega (arith, length-map c.args.words.now (λ (word : Bor (List ℕ)). word.now), c.loop-k-test.true))
    (c.as_bytes.ensures.value ∙ c.str_at.ensures) c.in_ok-read_lot.ensures c.in_ok-push.ensures.items

pub returns-clause-said : goal.returns-clause-said
returns-clause-said c = lots_said (map (λ (word : Bor (List ℕ)). word.now) c.args.words.now) c.args.place c.loop-k.k
    c.loop-k.lots.items c.loop-k.invariant
    (omega (arith, length-map c.args.words.now (λ (word : Bor (List ℕ)). word.now), c.loop-k-test.false))

pub returns-clause-fitting : goal.returns-clause-fitting
returns-clause-fitting c =
    lots_fit c.loop-k.lots.items _ c.requires
    (lots_said (map (λ (word : Bor (List ℕ)). word.now) c.args.words.now) c.args.place c.loop-k.k
    c.loop-k.lots.items c.loop-k.invariant
    (omega (arith, length-map c.args.words.now (λ (word : Bor (List ℕ)). word.now), c.loop-k-test.false)))
