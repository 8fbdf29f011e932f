use Rattle.std.proofs.Common.{◌≡◌, ap, arith, map, subst, sym, ◌∙◌}
use Rattle.std.specs.List.{range_with_len}
use Rattle.std.specs.Result.{IfOk}
use Rattle.vlog_tree.specs.Meaning.Keys.{bit_count}
use Rattle.targets.specs.Numbers.{number_at}
use Rattle.targets.proofs.NumberLemmas.{each_numbered}
use Rattle.targets.proofs.names.name_numbers.Goals as goal

pub returns : goal.returns
returns g c =
    let m = g.N.Numbers.module_of c.args.numbers.now in
    let number = g.N.Numbers.number_of c.args.numbers.now in
    subst (λ wanted. IfOk c.numbers_up.result (λ list. list ≡ wanted))
    (ap (λ n. map (number_at c.first_of.result) (range_with_len 0 n)) (c.width_of-width.ensures ∙ ap (λ m. bit_count m c.args.name.now) c.nets.ensures)
    ∙ sym (each_numbered m number c.args.name.now c.first_of.result c.first_of.ensures.numbers 0 (bit_count m c.args.name.now) (omega arith)))
    c.numbers_up.ensures
