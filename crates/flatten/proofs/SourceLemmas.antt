-- Nodes that are pushed in a loop.
use Rattle.std.proofs.Common.{◌≡◌, ℕ, ◌+◌, List, [], ◌∷◌, ◌++◌, ap, append_assoc, arith, map, sym, ◌∙◌}
use Rattle.std.specs.List.{range_with_len}
use Rattle.std.proofs.lemmas.List.FromFn.{map-range_with_len_more}
use Rattle.flat_net.specs.declared.node.Node.{Node}

pub one_more : (f : ℕ → Node) (start so_far after : List Node) (i : ℕ) → so_far ≡ start ++ map f (range_with_len 0 i)
    → after ≡ so_far ++ f i ∷ [] → after ≡ start ++ map f (range_with_len 0 (i + 1))
one_more f start so_far after i is pushed =
    pushed ∙ ap (λ nodes. nodes ++ f i ∷ []) is
    ∙ append_assoc start (map f (range_with_len 0 i)) (f i ∷ [])
    ∙ ap (λ more. start ++ more) (sym (map-range_with_len_more f 0 i i (omega arith)))
