use Rattle.std.proofs.Common.{ap, ◌&&◌, ◌∙◌}
use Rattle.nets.specs.Nets.{is_one_bit}
use Rattle.vlog_tree.specs.Meaning.Names.{is_output}
use Rattle.elab.proofs.ports.is_output_bit.Goals as goal

pub returns-then-is_output : goal.returns-then-is_output
returns-then-is_output c =
    c.is_one_bit.ensures ∙ ap (is_one_bit c.args.top.now) c.bytes-name.ensures
    ∙ ap (λ b. b && is_one_bit c.args.top.now c.args.name.now) (c.if-is_output.ensures ∙ ap (is_output c.args.top.now) c.bytes-name.ensures)
