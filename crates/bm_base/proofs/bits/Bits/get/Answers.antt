use Rattle.std.proofs.Common.{sym, ap, ◌∙◌, Some, arith}
use Rattle.bm_base.proofs.BitsLemmas.{slice_get_from_values, word_in_bounds}
use Rattle.bm_base.proofs.bits.Bits.get.Goals as goal

pub index-requires : goal.index-requires
index-requires c =
    omega (arith, c.self.inside.words.ok.0, word_in_bounds _ _ _ _ c.self.view_is c.self.invariant c.requires)

pub returns : goal.returns
returns c =
    slice_get_from_values _ _ _ _ _ c.self.view_is c.self.invariant c.requires c.index.ensures ∙ ap Some (sym c.bit.ensures)
