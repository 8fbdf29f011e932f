use Rattle.std.proofs.Common.{inl, sym, ◌∙◌}
use Rattle.vcd_header.specs.Tokens.{tok_of}
use Rattle.vcd_header.proofs.HeaderSteps.{done_all, done_fault, done_more, done_none}
use Rattle.vcd_header.proofs.header.take_header.Goals as goal

pub returns-in-Ok-true-clause-faultless : goal.returns-in-Ok-true-clause-faultless
returns-in-Ok-true-clause-faultless c =
    (done_all c.args.tokens.now c.loop-first.tokens c.next.new.self c.take_group.new.tokens (tok_of c.in-Some.first) c.loop-first.declarations c.take_group.new.declarations c.args.size c.loop-first.invariant c.in-Some.ensures c.in-Ok-true.ensures.faultless c.in-Ok-true.ensures.declared c.in-Ok-true.ensures.rest (sym c.in-Ok-true.ensures.last ∙ c.in-Ok-true.field-0-test)).0

pub returns-in-Ok-true-clause-declared : goal.returns-in-Ok-true-clause-declared
returns-in-Ok-true-clause-declared c =
    (done_all c.args.tokens.now c.loop-first.tokens c.next.new.self c.take_group.new.tokens (tok_of c.in-Some.first) c.loop-first.declarations c.take_group.new.declarations c.args.size c.loop-first.invariant c.in-Some.ensures c.in-Ok-true.ensures.faultless c.in-Ok-true.ensures.declared c.in-Ok-true.ensures.rest (sym c.in-Ok-true.ensures.last ∙ c.in-Ok-true.field-0-test)).1

pub returns-in-Ok-true-clause-body : goal.returns-in-Ok-true-clause-body
returns-in-Ok-true-clause-body c =
    (done_all c.args.tokens.now c.loop-first.tokens c.next.new.self c.take_group.new.tokens (tok_of c.in-Some.first) c.loop-first.declarations c.take_group.new.declarations c.args.size c.loop-first.invariant c.in-Some.ensures c.in-Ok-true.ensures.faultless c.in-Ok-true.ensures.declared c.in-Ok-true.ensures.rest (sym c.in-Ok-true.ensures.last ∙ c.in-Ok-true.field-0-test)).2

pub loop-first-preserved : goal.loop-first-preserved
loop-first-preserved c =
    done_more c.args.tokens.now c.loop-first.tokens c.next.new.self c.take_group.new.tokens (tok_of c.in-Some.first) c.loop-first.declarations c.take_group.new.declarations c.loop-first.invariant c.in-Some.ensures c.in-Ok-false.ensures.faultless c.in-Ok-false.ensures.declared c.in-Ok-false.ensures.rest (sym c.in-Ok-false.ensures.last ∙ c.in-Ok-false.field-0-test)

pub returns-in-Err-clause-fault : goal.returns-in-Err-clause-fault
returns-in-Err-clause-fault c =
    done_fault c.args.tokens.now c.loop-first.tokens c.next.new.self c.take_group.new.tokens (tok_of c.in-Some.first) c.loop-first.declarations c.take_group.new.declarations c.args.size c.in-Err.fault c.loop-first.invariant c.in-Some.ensures c.in-Err.ensures.fault

pub returns-clause-fault : goal.returns-clause-fault
returns-clause-fault c = inl (done_none c.args.size c.args.tokens.now c.loop-first.tokens c.loop-first.declarations c.loop-first.invariant c.in_default.ensures.0)
