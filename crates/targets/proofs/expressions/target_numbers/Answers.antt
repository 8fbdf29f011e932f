use Rattle.std.proofs.Common.{◌++◌, ap, sym, ◌∙◌}
use Rattle.targets.specs.Numbers.{assigned_bits, numbers_down}
use Rattle.targets.proofs.NumberLemmas.{none_down}
use Rattle.targets.proofs.TargetLemmas.{not_target}
use Rattle.targets.proofs.expressions.target_numbers.Goals as goal

pub returns-then-not-is_target : goal.returns-then-not-is_target
returns-then-not-is_target g c =
    let m = g.N.Numbers.module_of c.args.numbers.now in
    let number = g.N.Numbers.number_of c.args.numbers.now in
    c.new-list.ensures
    ∙ sym (ap (numbers_down number) (not_target m c.args.expr.now (sym (c.is_target.ensures m) ∙ c.if-not-is_target.true)) ∙ none_down number)

pub returns : goal.returns
returns g c =
    let m = g.N.Numbers.module_of c.args.numbers.now in
    let number = g.N.Numbers.number_of c.args.numbers.now in
    c.in_ok-add_target.ensures (sym (c.is_target.ensures m) ∙ c.if-not-is_target.false)
    ∙ ap (λ list. list ++ numbers_down number (assigned_bits m c.args.expr.now)) c.new-list.ensures
