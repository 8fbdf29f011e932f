use Rattle.std.proofs.Common.{[], ◌∷◌, ◌++◌, arith, sym, ◌∙◌}
use Rattle.std.proofs.lemmas.List.FromFn.{map-range_with_len_more}
use Rattle.targets.specs.Numbers.{number_at}
use Rattle.targets.proofs.names.numbers_up.Goals as goal

pub loop-bit-preserved : goal.loop-bit-preserved
loop-bit-preserved c =
    c.in_ok-push.ensures.ok
    ∙ (λ j. c.loop-bit.invariant j ++ c.number_of.ensures j ∷ [])
    ∙ sym (map-range_with_len_more (number_at c.args.first) 0 c.loop-bit.bit c.loop-bit.bit (omega arith))
