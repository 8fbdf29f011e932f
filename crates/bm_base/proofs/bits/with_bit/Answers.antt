use Rattle.std.proofs.Common.{w64, sym, ap, ◌∙◌, eqb}
use Rattle.std.proofs.lemmas.Nat.Bits.{bit_at_set_same, bit_at_set_other, bit_at_clear_same, bit_at_clear_other}
use Rattle.bm_base.proofs.bits.with_bit.Goals as goal

pub returns-then-v : goal.returns-then-v
returns-then-v c = record {
  here = ap (λ b. eqb b 1) (bit_at_set_same w64 _ _ c.requires) ∙ sym c.if-v.true;
  others = λ k _ apart. ap (λ b. eqb b 1) (bit_at_set_other w64 _ _ c.requires k apart);
}

pub returns-else-v : goal.returns-else-v
returns-else-v c = record {
  here = ap (λ b. eqb b 1) (bit_at_clear_same w64 _ _ c.requires) ∙ sym c.if-v.false;
  others = λ k below apart. ap (λ b. eqb b 1) (bit_at_clear_other w64 _ _ c.requires k below apart);
}
