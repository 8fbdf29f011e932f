use Rattle.std.proofs.Common.{[], ◌∷◌, ◌++◌, ◌&&◌, if◌then◌else◌, inl, map, length, subst}
use Rattle.vcd_reader.specs.Rows.{sampled}
use Rattle.vcd_reader.specs.Sampling.{HoldsRows}
use Rattle.vcd_reader.specs.Values.{values_at}
use Rattle.vcd_reader.proofs.SamplingLemmas.{all_rows, read_all, read_too_many}
use Rattle.vcd_reader.proofs.sampler.Sampler.finish.Goals as goal

pub returns-clause-err : goal.returns-clause-err
returns-clause-err c = λ registers changes earlier now holds.
    let width = length c.args.sources.now.inputs in
    let rows = map (values_at changes c.args.sources.now.inputs) (sampled changes c.args.sources.now.clock earlier) in
    let edge = subst (λ test. HoldsRows registers width (rows ++ (if test then c.args.self.before ∷ [] else [])) c.push_if.new.self) c.is_edge-is_edge.ensures (c.in_ok-push_if.ensures.rows registers width rows holds.rows_are) in
    inl (read_too_many registers c.args.sources.now changes earlier now c.args.self holds c.in-Err.fault
    (c.in-Err.ensures.err registers width (all_rows registers c.args.sources.now changes earlier now c.args.self holds) (c.in_ok-push.ensures.rows registers width (rows ++ (if c.args.self.is_low && c.args.self.clock then c.args.self.before ∷ [] else [])) edge)))

pub returns-in-Ok-clause-ok : goal.returns-in-Ok-clause-ok
returns-in-Ok-clause-ok c = λ registers changes earlier now holds.
    let width = length c.args.sources.now.inputs in
    let rows = map (values_at changes c.args.sources.now.inputs) (sampled changes c.args.sources.now.clock earlier) in
    let edge = subst (λ test. HoldsRows registers width (rows ++ (if test then c.args.self.before ∷ [] else [])) c.push_if.new.self) c.is_edge-is_edge.ensures (c.in_ok-push_if.ensures.rows registers width rows holds.rows_are) in
    read_all registers c.args.sources.now changes earlier now c.args.self holds c.in-Ok.trace
    (c.in-Ok.ensures.ok registers width (all_rows registers c.args.sources.now changes earlier now c.args.self holds) (c.in_ok-push.ensures.rows registers width (rows ++ (if c.args.self.is_low && c.args.self.clock then c.args.self.before ∷ [] else [])) edge))
