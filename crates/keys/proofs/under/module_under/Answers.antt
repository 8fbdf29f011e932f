use Rattle.std.specs.Option.{option_map}
use Rattle.keys.specs.Under.{module_under}
use Rattle.keys.proofs.UnderLemmas.{no_name, one_name}
use Rattle.keys.proofs.under.module_under.Goals as goal

pub loop-name-preserved : goal.loop-name-preserved
loop-name-preserved c =
    one_name c.args.design.now (module_under c.args.design.now c.args.top.now c.args.path.now)
    (option_map (λ m. m.now) c.loop-name.found) c.args.path.now c.loop-name.name-index c.loop-name.invariant c.loop-name-test.true
    c.name-item.result c.name-item.is c.bytes.result.now c.bytes.ensures (option_map (λ m. m.now) c.inner_named-found.result) c.inner_named-found.ensures

pub returns : goal.returns
returns c =
    no_name c.args.design.now (module_under c.args.design.now c.args.top.now c.args.path.now)
    (option_map (λ m. m.now) c.loop-name.found) c.args.path.now c.loop-name.name-index c.loop-name.invariant c.loop-name-test.false
