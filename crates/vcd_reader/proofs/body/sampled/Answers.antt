use Rattle.std.proofs.Common.{inl, subst, sym, ◌∙◌}
use Rattle.vcd_reader.specs.Body.{items}
use Rattle.vcd_reader.specs.Changes.{all_times, first_time}
use Rattle.vcd_reader.specs.Said.{item_of}
use Rattle.vcd_reader.specs.Sampling.{IsAligned}
use Rattle.vcd_reader.proofs.ReadLemmas.{read_err, read_fault, read_more, read_no_time, read_nothing, read_ok}
use Rattle.vcd_reader.proofs.body.sampled.Goals as goal

pub loop-said-init : goal.loop-said-init
loop-said-init c = record {
  aligned = subst (λ width. IsAligned width c.in_ok-sampler.sampler) c.input_count.ensures c.in_ok-sampler.ensures.aligned;
  read = read_nothing c.args.declarations.now.variables c.args.registers c.args.sources.now (items c.args.tokens.now) c.in_ok-sampler.sampler
      (c.in_ok-sampler.ensures.sampled c.args.sources.now (first_time (all_times (items c.args.tokens.now))) (sym c.input_count.ensures));
}

pub returns-in-Some-fault_after-clause-err : goal.returns-in-Some-fault_after-clause-err
returns-in-Some-fault_after-clause-err c =
    inl (read_fault c.args.declarations.now.variables c.args.registers c.args.sources.now (items c.args.tokens.now) (items c.loop-said.tokens) c.loop-said.last c.loop-said.sampler c.loop-said.invariant.read
    (items c.next_item.new.tokens) (item_of c.in-Some.said) c.in-Some-fault_after.fault c.in-Some.ensures.said (sym c.fault_after.ensures ∙ c.in-Some-fault_after.is))

pub loop-said-preserved : goal.loop-said-preserved
loop-said-preserved c = record {
  aligned = c.in_ok-take_item.ensures.aligned;
  read = read_more c.args.declarations.now.variables c.args.registers c.args.sources.now (items c.args.tokens.now) (items c.loop-said.tokens) c.loop-said.last c.loop-said.sampler c.loop-said.invariant.read
      (items c.next_item.new.tokens) c.time_after-last.result (item_of c.in-Some.said) c.take_item.new.sampler c.in-Some.ensures.said (sym c.fault_after.ensures ∙ c.in-None.is) c.time_after-last.ensures c.in_ok-take_item.ensures.samples;
}

pub returns-in-Some-last-clause-ok : goal.returns-in-Some-last-clause-ok
returns-in-Some-last-clause-ok c =
    read_ok c.args.declarations.now.variables c.args.registers c.args.sources.now (items c.args.tokens.now) (items c.loop-said.tokens) c.loop-said.last c.loop-said.sampler c.loop-said.invariant.read
    c.in-Some-last.field-0 c.in_default.ensures.none c.in-Some-last.is c.finish.result c.finish.ensures.ok

pub returns-in-Some-last-clause-err : goal.returns-in-Some-last-clause-err
returns-in-Some-last-clause-err c =
    read_err c.args.declarations.now.variables c.args.registers c.args.sources.now (items c.args.tokens.now) (items c.loop-said.tokens) c.loop-said.last c.loop-said.sampler c.loop-said.invariant.read
    c.in-Some-last.field-0 c.in_default.ensures.none c.in-Some-last.is c.finish.result c.finish.ensures.err

pub returns-in-None-last-clause-err : goal.returns-in-None-last-clause-err
returns-in-None-last-clause-err c =
    inl (read_no_time c.args.declarations.now.variables c.args.registers c.args.sources.now (items c.args.tokens.now) (items c.loop-said.tokens) c.loop-said.last c.loop-said.sampler c.loop-said.invariant.read
    c.in_default.ensures.none c.in-None-last.is)
