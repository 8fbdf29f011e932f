use Rattle.keys.specs.Kinds.{is_of}
use Rattle.keys.proofs.BitLemmas.{Walked}
use Rattle.keys.proofs.found.bit_at.Given as goal

abbrev pub invariant-loop-i : goal.invariant-loop-i
invariant-loop-i l = Walked l.nets (is_of l.kind l.is_top l.clock l.nets) l.number l.i l.left
