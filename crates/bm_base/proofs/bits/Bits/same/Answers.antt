use Rattle.std.proofs.Common.{eqb-true, sym, ◌∙◌}
use Rattle.bm_base.proofs.BitsLemmas.{length_from_values, same_values, same_bits_from_values}
use Rattle.bm_base.proofs.bits.Bits.same.Goals as goal

pub returns-then-self-other : goal.returns-then-self-other
returns-then-self-other c =
    let left = c.deref.ensures.value in
    let right = c.deref-then-self-other.ensures.value in (
      λ h. sym c.self.view_is ∙ same_values _ _ _ _ c.if-self-other.true (rw (left, right) at c.same_bits.ensures.0 h) ∙ c.other.view_is,
      λ same. c.same_bits.ensures.1 (rw (left, right) (same_bits_from_values _ _ _ _ c.self.invariant c.other.invariant (c.self.view_is ∙ same ∙ sym c.other.view_is))),
    )

pub returns-else-self-other : goal.returns-else-self-other
returns-else-self-other c = (
  λ h. absurd (c.if-self-other.false (eqb-true _ _ h)),
  λ same. absurd (c.if-self-other.false (length_from_values _ _ _ (c.self.view_is ∙ same) ∙ sym (length_from_values _ _ _ c.other.view_is))),
)
