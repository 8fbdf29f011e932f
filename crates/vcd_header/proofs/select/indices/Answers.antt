use Rattle.std.proofs.Common.{◌+◌}
use Rattle.std.proofs.lemmas.List.{take_rest}
use Rattle.vcd_header.proofs.SelectLemmas.{indices_parted, indices_alone}
use Rattle.vcd_header.proofs.select.indices.Goals as goal

pub returns-then-colon-text : goal.returns-then-colon-text
returns-then-colon-text c =
    let e = indices_parted c.args.text.now c.colon_at-colon.result c.colon_at-colon.ensures.at c.if-colon-text.true in
    let rest = take_rest c.args.text.now (c.colon_at-colon.result + 1) in
    cc

pub returns-else-colon-text : goal.returns-else-colon-text
returns-else-colon-text c =
    let e = indices_alone c.args.text.now c.colon_at-colon.result c.colon_at-colon.ensures.at c.if-colon-text.false in
    cc
