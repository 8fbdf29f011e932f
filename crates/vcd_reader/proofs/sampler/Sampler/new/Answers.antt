use Rattle.std.proofs.Common.{refl}
use Rattle.vcd_reader.proofs.SamplingLemmas.{nothing_sampled}
use Rattle.vcd_reader.proofs.sampler.Sampler.new.Goals as goal

pub returns-clause-sampled : goal.returns-clause-sampled
returns-clause-sampled c = λ sources first wide.
    nothing_sampled c.args.registers sources first c.args.width _ wide refl c.in_ok-inputs.ensures refl refl c.new.ensures.rows
