use Rattle.std.proofs.Common.{◌++◌, ap, sym, ◌∙◌}
use Rattle.std.proofs.lemmas.List.{append-nil}
use Rattle.std.specs.Option.{option_map}
use Rattle.targets.specs.Numbers.{bits_of_run, numbers_down}
use Rattle.vlog_tree.specs.Meaning.Lefts.{some_bits}
use Rattle.targets.proofs.NumberLemmas.{none_down}
use Rattle.targets.proofs.runs.add_run.Goals as goal

pub returns-in-None : goal.returns-in-None
returns-in-None g c =
    let n = g.N.Numbers.number_of c.args.numbers.now in
    sym (append-nil c.args.list.now)
    ∙ ap (λ more. c.args.list.now ++ more)
    (sym (ap (λ run. numbers_down n (some_bits (option_map (bits_of_run c.args.name.now) run))) c.in-None.is ∙ none_down n))
