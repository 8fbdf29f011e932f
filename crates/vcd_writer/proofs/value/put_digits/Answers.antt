use Rattle.std.proofs.Common.{rules, tests}
use Rattle.std.proofs.lemmas.Iterator.{YieldsList-from_map}
use Rattle.std.proofs.lemmas.Iterator.Adapters.{YieldsList-from_rev_slice, items_from_extend}
use Rattle.vcd_writer.specs.Value.{bit_digit}
use Rattle.vcd_writer.proofs.value.put_digits.Goals as goal

pub returns : goal.returns
returns c =
    let h = items_from_extend c.extend.result c.extend.ensures.ran (YieldsList-from_map _ bit_digit (YieldsList-from_rev_slice c.args.bits.now (cc)) (cc) (λ x r q k. search (rules, tests))) in
    search rules
