use Rattle.std.proofs.Common.{OnOk, ◌≡◌, ◌++◌, ap, flat_map, subst, sym, ◌∙◌}
use Rattle.targets.specs.Numbers.{numbers_down}
use Rattle.vlog_tree.specs.Meaning.Lefts.{left_bits, some_bits}
use Rattle.vlog_tree.specs.Meaning.Ranges.{bit_with, part_bits, whole_bits}
use Rattle.targets.proofs.LeftLemmas.{left_bit, left_join, left_part, left_whole}
use Rattle.targets.proofs.NumberLemmas.{beside_down}
use Rattle.targets.proofs.lefts.+lefts.Goals as goal

pub add_left-returns-in-Whole : goal.add_left-returns-in-Whole
add_left-returns-in-Whole g t c =
    let m = g.N.Numbers.module_of c.args.numbers.now in
    let n = g.N.Numbers.number_of c.args.numbers.now in
    let i = c.in-Whole in
    subst (λ more. OnOk c.add_run.result (c.add_run.new.list ≡ c.args.list.now ++ more))
    (ap (λ bits. numbers_down n (some_bits bits)) (c.whole.ensures.bits ∙ ap (λ m. whole_bits m i.name) c.nets.ensures)
    ∙ sym (ap (numbers_down n) (left_whole m c.args.left.now i.at i.name i.is)))
    c.add_run.ensures

pub add_left-returns-in-Bit : goal.add_left-returns-in-Bit
add_left-returns-in-Bit g t c =
    let m = g.N.Numbers.module_of c.args.numbers.now in
    let n = g.N.Numbers.number_of c.args.numbers.now in
    let i = c.in-Bit in
    subst (λ more. OnOk c.add_run-in-Bit.result (c.add_run-in-Bit.new.list ≡ c.args.list.now ++ more))
    (ap (λ bits. numbers_down n (some_bits bits)) (c.bit.ensures.bits ∙ ap (λ m. bit_with m i.name i.index) c.nets-in-Bit.ensures)
    ∙ sym (ap (numbers_down n) (left_bit m c.args.left.now i.at i.name i.index i.is)))
    c.add_run-in-Bit.ensures

pub add_left-returns-in-Part : goal.add_left-returns-in-Part
add_left-returns-in-Part g t c =
    let m = g.N.Numbers.module_of c.args.numbers.now in
    let n = g.N.Numbers.number_of c.args.numbers.now in
    let i = c.in-Part in
    subst (λ more. OnOk c.add_run-in-Part.result (c.add_run-in-Part.new.list ≡ c.args.list.now ++ more))
    (ap (λ bits. numbers_down n (some_bits bits)) (c.part.ensures.bits ∙ ap (λ m. part_bits m i.name i.range) c.nets-in-Part.ensures)
    ∙ sym (ap (numbers_down n) (left_part m c.args.left.now i.at i.name i.range i.is)))
    c.add_run-in-Part.ensures

pub add_left-returns-in-Join : goal.add_left-returns-in-Join
add_left-returns-in-Join g t c =
    let m = g.N.Numbers.module_of c.args.numbers.now in
    let n = g.N.Numbers.number_of c.args.numbers.now in
    subst (λ more. OnOk c.add_lefts.result (c.add_lefts.new.list ≡ c.args.list.now ++ more))
    (ap (flat_map (λ part. numbers_down n (left_bits m part))) c.as_slice.ensures
    ∙ sym (ap (numbers_down n) (left_join m c.args.left.now c.in-Join.parts c.in-Join.is) ∙ beside_down n (left_bits m) c.in-Join.parts))
    c.add_lefts.ensures
