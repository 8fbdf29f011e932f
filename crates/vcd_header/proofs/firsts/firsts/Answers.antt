use Rattle.std.proofs.Common.{◌<◌, length, arith}
use Rattle.vcd_header.specs.Names.{number_in}
use Rattle.vcd_header.proofs.FirstLemmas.{entered_all, entered_more, first_count}
use Rattle.vcd_header.proofs.firsts.firsts.Goals as goal

pub push_first-requires : goal.push_first-requires
push_first-requires c =
    let within : c.loop-scope.scope-index < length c.args.scopes.now = omega (arith, c.loop-scope-test.true) in
    first_count c.args.scopes.now c.loop-scope.scope-index _ _ (number_in c.loop-scope.names) c.requires within c.loop-scope.invariant

pub loop-scope-preserved : goal.loop-scope-preserved
loop-scope-preserved c =
    let within : c.loop-scope.scope-index < length c.args.scopes.now = omega (arith, c.loop-scope-test.true) in
    entered_more c.args.scopes.now c.loop-scope.scope-index _ c.loop-scope.firsts.items c.push_first.new.firsts.items (number_in c.loop-scope.names) (number_in c.push_first.new.names) c.requires within c.loop-scope.invariant c.in_ok-push_first.ensures.firsts c.in_ok-push_first.ensures.names

pub returns : goal.returns
returns c = entered_all c.args.scopes.now c.loop-scope.scope-index c.loop-scope.firsts.items (number_in c.loop-scope.names) (omega (arith, c.loop-scope-test.false)) c.loop-scope.invariant
