-- Lists of uses.
use Rattle.std.proofs.Common.{◌≡◌, ◌++◌, List, flat_map, map, ap, ◌∙◌}
use Rattle.std.proofs.lemmas.List.{append_assoc}
use Rattle.std.proofs.lemmas.List.Folds.{flat_map-map}
use Rattle.vlog_tree.specs.declared.expr.Expr.{Expr}
use Rattle.vlog_tree.specs.declared.left.Left.{Left}
use Rattle.vlog_tree.specs.Meaning.Uses.{Use, expr_uses, joined, left_uses}

pub joined_map : {X : Type 0} (f : X → List Use) (xs : List X) → joined (map f xs) ≡ flat_map f xs
joined_map f xs = flat_map-map (λ list. list) f xs

-- the outputs of a gate, and then its inputs
pub gate_uses : (before between after : List Use) (outs : List Left) (ins : List Expr)
    → between ≡ before ++ joined (map left_uses outs) → after ≡ between ++ joined (map expr_uses ins)
    → after ≡ before ++ (flat_map left_uses outs ++ flat_map expr_uses ins)
gate_uses before between after outs ins first second =
    second ∙ ap (λ uses. uses ++ joined (map expr_uses ins)) first
    ∙ append_assoc before (joined (map left_uses outs)) (joined (map expr_uses ins))
    ∙ ap (λ uses. before ++ (uses ++ joined (map expr_uses ins))) (joined_map left_uses outs)
    ∙ ap (λ uses. before ++ (flat_map left_uses outs ++ uses)) (joined_map expr_uses ins)
