use Rattle.std.proofs.Common.{length}
use Rattle.vcd_reader.specs.Body.{items}
use Rattle.vcd_reader.specs.Sampling.{IsAligned}
use Rattle.vcd_reader.proofs.ReadLemmas.{HasRead}
use Rattle.vcd_reader.proofs.body.sampled.Given as goal

abbrev pub invariant-loop-said : goal.invariant-loop-said
invariant-loop-said l = record {
  aligned : IsAligned (length l.sources.inputs) l.sampler;
  read : HasRead l.declarations.variables l.registers l.sources (items l.fn.tokens) (items l.tokens) l.last l.sampler;
}

abbrev pub decreases-loop-said : goal.decreases-loop-said
decreases-loop-said l = length l.tokens
