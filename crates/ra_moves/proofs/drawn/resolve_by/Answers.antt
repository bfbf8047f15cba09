use Rattle.std.proofs.Common.{◌≡◌, ℕ, ◌<◌, ◌≤◌, length, ◌%◌, sym, ap, ◌∙◌, arith}
use Rattle.ra_moves.specs.Options.{option_at}
use Rattle.ra_moves.proofs.OptionLemmas.{shift_named, swap_few, option_shift, option_swap, option_chain, option_stands, option_reaches}
use Rattle.ra_moves.proofs.Repeats.{distinct_from_none}
use Rattle.ra_moves.proofs.drawn.resolve_by.Goals as goal

pub machine_of-requires : goal.machine_of-requires
machine_of-requires c = record { named = shift_named _ _ _ _ (sym c.kind.ensures ∙ c.in-Shift.is) c.requires.named }

pub bounds-words-option : goal.bounds-words-option
bounds-words-option c =
    let few : c.args.option < 4 = swap_few _ _ _ _ (sym c.kind.ensures ∙ c.in-Swap.is) c.requires.named in omega arith

pub returns-in-Shift : goal.returns-in-Shift
returns-in-Shift c =
    let same : (word : ℕ) → word % c.args.by.now.processes.number ≡ word % length c.args.a.now.items =
    λ word. ap (λ n. word % n) c.requires.processes in
    let some : 1 ≤ length c.args.a.now.items = rw (sym c.requires.processes) c.args.by.now.processes.inverse_is.some in
    let is : c.shift.result ≡ option_at c.args.a.now.items c.args.words.now c.args.by.now.machines.number c.args.drawing
    c.args.option = c.shift.ensures ∙ option_shift _ _ _ _ _ _ _ (sym c.kind.ensures ∙ c.in-Shift.is)
    (c.rest.ensures.value ∙ same _) c.machine_of.ensures in
    record {
      option = is;
      stands = rw is (option_stands _ _ _ _ _ some c.args.by.now.machines.inverse_is.some);
      reaches = rw is (option_reaches _ _ _ _ _ some c.args.by.now.machines.inverse_is.some);
      distinct = distinct_from_none _;
    }

pub returns-in-Swap : goal.returns-in-Swap
returns-in-Swap c =
    let same : (word : ℕ) → word % c.args.by.now.processes.number ≡ word % length c.args.a.now.items =
    λ word. ap (λ n. word % n) c.requires.processes in
    let some : 1 ≤ length c.args.a.now.items = rw (sym c.requires.processes) c.args.by.now.processes.inverse_is.some in
    let is : c.swap.result ≡ option_at c.args.a.now.items c.args.words.now c.args.by.now.machines.number c.args.drawing
    c.args.option = c.swap.ensures
    ∙ option_swap _ _ _ _ _ _ _ (sym c.kind.ensures ∙ c.in-Swap.is) (c.rest.ensures.value ∙ same _)
    (c.rest-in-Swap.ensures.value ∙ same _) in
    record {
      option = is;
      stands = rw is (option_stands _ _ _ _ _ some c.args.by.now.machines.inverse_is.some);
      reaches = rw is (option_reaches _ _ _ _ _ some c.args.by.now.machines.inverse_is.some);
      distinct = distinct_from_none _;
    }

pub returns-in-Chain : goal.returns-in-Chain
returns-in-Chain c =
    let same : (word : ℕ) → word % c.args.by.now.processes.number ≡ word % length c.args.a.now.items =
    λ word. ap (λ n. word % n) c.requires.processes in
    let some : 1 ≤ length c.args.a.now.items = rw (sym c.requires.processes) c.args.by.now.processes.inverse_is.some in
    let is : c.chain.result ≡ option_at c.args.a.now.items c.args.words.now c.args.by.now.machines.number c.args.drawing
    c.args.option = c.chain.ensures ∙ option_chain _ _ _ _ _ _ _ _ _ (sym c.kind.ensures ∙ c.in-Chain.is)
    (c.rest.ensures.value ∙ same _) (c.rest-in-Chain.ensures.value ∙ same _)
    (c.rest-in-Chain-2.ensures.value ∙ same _) c.rest-in-Chain-3.ensures.value in
    record {
      option = is;
      stands = rw is (option_stands _ _ _ _ _ some c.args.by.now.machines.inverse_is.some);
      reaches = rw is (option_reaches _ _ _ _ _ some c.args.by.now.machines.inverse_is.some);
      distinct = distinct_from_none _;
    }
