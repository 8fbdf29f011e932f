use Rattle.std.proofs.Common.{◌≡◌, ◌+◌, ◌-◌, ◌++◌, ap, arith, append_assoc}
use Rattle.std.specs.List.{repeat}
use Rattle.lowering.proofs.ListLemmas.{repeat_less}
use Rattle.lowering.proofs.edges.repeated.Goals as goal

pub loop-preserved : goal.loop-preserved
loop-preserved c =
    let xs = c.args.edges.now in
    let n = c.args.count - c.loop.counter in
    let next : repeat n xs ≡ xs ++ repeat (n - 1) xs = repeat_less n xs (omega arith) in
    let count : n - 1 ≡ c.args.count - (c.loop.counter + 1) = omega arith in
    let rest : repeat (n - 1) xs ≡ repeat (c.args.count - (c.loop.counter + 1)) xs = ap (λ k. repeat k xs) count in
    grind (arith, append_assoc)
