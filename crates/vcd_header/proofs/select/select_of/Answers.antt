use Rattle.std.proofs.Common.{◌∙◌, sym}
use Rattle.vcd_header.proofs.SelectLemmas.{select_parted}
use Rattle.vcd_header.proofs.select.select_of.Goals as goal

pub returns : goal.returns
returns c = c.indices.ensures ∙ sym (select_parted c.args.text.now c.if-text-lt2.false c.if-text-ne91.false c.if-text-ne93.false)
