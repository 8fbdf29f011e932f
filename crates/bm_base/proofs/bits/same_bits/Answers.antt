use Rattle.std.proofs.Common.{◌≡◌, ap, arith}
use Rattle.std.specs.Bool.{Decides}
use Rattle.std.proofs.lemmas.Bool.Decides.{Decides-eqb}
use Rattle.std.proofs.lemmas.Slice.Eq.{slice_eq-Decides}
use Rattle.bm_base.specs.Bits.{value_at}
use Rattle.bm_base.proofs.BitsLemmas.{same_words}
use Rattle.bm_base.proofs.bits.same_bits.Goals as goal

pub returns : goal.returns
returns c =
    let left = c.args.left.now in
    let right = c.args.right.now in
    let decided : Decides c.eq.result (left ≡ right) = slice_eq-Decides Decides-eqb _ _ _ c.eq.ensures in
    (λ h i. ap (λ words. value_at words i) (decided.0 h), λ same. decided.1 (same_words left right (λ k. omega (arith, c.type_inv.left k)) (λ k. omega (arith, c.type_inv.right k)) c.requires same))
