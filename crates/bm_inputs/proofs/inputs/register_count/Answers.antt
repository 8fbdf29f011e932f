use Rattle.std.proofs.Common.{◌<◌, arith, length, subst}
use Rattle.flat_net.specs.Nets.{IsNet}
use Rattle.bm_inputs.proofs.ReadLemmas.{few_registers}
use Rattle.bm_inputs.proofs.inputs.register_count.Goals as goal

pub overflow_cast-result : goal.overflow_cast-result
overflow_cast-result c =
    let few : length c.args.level.now.net.power_up < 4294967296 = few_registers c.args.level.now.net (subst IsNet c.net.ensures c.nodes-nodes.ensures.net) in
    grind (arith, few)
