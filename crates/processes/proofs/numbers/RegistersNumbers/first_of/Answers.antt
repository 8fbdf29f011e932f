use Rattle.std.proofs.Common.{◌+◌, ◌≤◌, ℕ, ap, subst, sym, ◌∙◌}
use Rattle.std.specs.Option.{IfSome}
use Rattle.bm_base.specs.declared.size.Size.TheVariants.{Nodes}
use Rattle.bm_base.specs.Size.{limit_of}
use Rattle.targets.specs.Numbers.{number_at}
use Rattle.vlog_tree.specs.Meaning.Keys.{bit_count}
use Rattle.processes.proofs.NumberLemmas.{no_bits, placed_numbers, placed_within}
use Rattle.processes.proofs.numbers.RegistersNumbers.first_of.Goals as goal

pub returns-in-Some-clause-numbers : goal.returns-in-Some-clause-numbers
returns-in-Some-clause-numbers c bit below =
    placed_numbers c.args.self.now.places.now c.args.name.now c.in-Some.place c.in-Some.ensures.place bit below
    ∙ ap (λ first. number_at first bit) (sym c.in_registers.ensures)

pub returns-in-Some-clause-within : goal.returns-in-Some-clause-within
returns-in-Some-clause-within c =
    let count : ℕ = bit_count c.args.self.now.places.now.definition c.args.name.now in
    subst (λ found. IfSome found (λ first. first + count ≤ limit_of Nodes)) (sym c.in_registers.ensures)
    (placed_within c.in-Some.place count c.in-Some.ensures.within)

pub returns-in-None-clause-numbers : goal.returns-in-None-clause-numbers
returns-in-None-clause-numbers c bit below =
    absurd (no_bits c.args.self.now.places.now.definition c.args.name.now c.in-None.ensures.found bit below)
