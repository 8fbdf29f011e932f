use Rattle.std.proofs.Common.{[], ◌∷◌, ◌++◌, not, if◌then◌else◌, map, length, refl, subst}
use Rattle.vcd_reader.specs.Rows.{sampled}
use Rattle.vcd_reader.specs.Sampling.{HoldsRows}
use Rattle.vcd_reader.specs.Values.{values_at}
use Rattle.vcd_reader.proofs.SamplingLemmas.{time_sampled}
use Rattle.vcd_reader.proofs.sampler.Sampler.end_time.Goals as goal

pub returns-in_ok-self-clause-sampled : goal.returns-in_ok-self-clause-sampled
returns-in_ok-self-clause-sampled c = λ registers changes earlier now later h holds.
    time_sampled registers c.args.sources.now changes earlier now c.args.self.now holds later
    (record { clock = c.args.self.now.clock; inputs = c.args.self.now.inputs; is_low = not c.args.self.now.clock; before = c.in_ok-self.field-0; unknown = c.args.self.now.unknown; rows = c.push_if.new.self })
    h refl refl refl (λ is. c.in_ok-self.ensures.cases) refl
    (subst (λ test. HoldsRows registers (length c.args.sources.now.inputs) (map (values_at changes c.args.sources.now.inputs) (sampled changes c.args.sources.now.clock earlier) ++ (if test then c.args.self.now.before ∷ [] else [])) c.push_if.new.self) c.is_edge-is_edge.ensures
    (c.in_ok-push_if.ensures.rows registers (length c.args.sources.now.inputs) (map (values_at changes c.args.sources.now.inputs) (sampled changes c.args.sources.now.clock earlier)) holds.rows_are))

pub returns-else-self-clause-sampled : goal.returns-else-self-clause-sampled
returns-else-self-clause-sampled c = λ registers changes earlier now later h holds.
    time_sampled registers c.args.sources.now changes earlier now c.args.self.now holds later
    (record { clock = c.args.self.now.clock; inputs = c.args.self.now.inputs; is_low = not c.args.self.now.clock; before = c.args.self.now.before; unknown = c.args.self.now.unknown; rows = c.push_if.new.self })
    h refl refl refl (λ is. absurd (cc)) refl
    (subst (λ test. HoldsRows registers (length c.args.sources.now.inputs) (map (values_at changes c.args.sources.now.inputs) (sampled changes c.args.sources.now.clock earlier) ++ (if test then c.args.self.now.before ∷ [] else [])) c.push_if.new.self) c.is_edge-is_edge.ensures
    (c.in_ok-push_if.ensures.rows registers (length c.args.sources.now.inputs) (map (values_at changes c.args.sources.now.inputs) (sampled changes c.args.sources.now.clock earlier)) holds.rows_are))
