use Rattle.std.proofs.Common.{arith}
use Rattle.bm_base.proofs.BitsLemmas.{word_in_bounds, set_from_values}
use Rattle.bm_base.proofs.bits.Bits.set.Goals as goal

pub index-requires : goal.index-requires
index-requires c =
    omega (arith, c.self.inside.words.ok.0, word_in_bounds _ _ _ _ c.self.view_is c.self.invariant c.requires)

pub index_mut-requires : goal.index_mut-requires
index_mut-requires c =
    omega (arith, c.self.inside.words.ok.0, word_in_bounds _ _ _ _ c.self.view_is c.self.invariant c.requires)

pub invariant_of-self : goal.invariant_of-self
invariant_of-self c =
    let both = set_from_values _ _ _ _ _ _ _ c.self.view_is c.self.invariant c.requires c.index.ensures c.with_bit.ensures in
    both.1

pub returns : goal.returns
returns c =
    let both = set_from_values _ _ _ _ _ _ _ c.self.view_is c.self.invariant c.requires c.index.ensures c.with_bit.ensures in
    both.0
