use Rattle.std.specs.Option.{option_map}
use Rattle.keys.proofs.UnderLemmas.{written_there}
use Rattle.keys.proofs.printed.range_of.Goals as goal

pub returns : goal.returns
returns c =
    written_there c.args.design.now c.args.top.now c.args.key.now c.as_slice.result.now c.as_slice.ensures c.bytes.result.now
    c.bytes.ensures (option_map (λ m. m.now) c.module_under-m.result) c.module_under-m.ensures c.written_range.result
    c.written_range.ensures
