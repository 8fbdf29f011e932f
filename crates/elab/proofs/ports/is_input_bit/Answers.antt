use Rattle.std.proofs.Common.{ap, ◌&&◌, ◌∙◌}
use Rattle.nets.specs.Nets.{is_one_bit}
use Rattle.vlog_tree.specs.Meaning.Names.{is_input}
use Rattle.elab.proofs.ports.is_input_bit.Goals as goal

pub returns-then-is_input : goal.returns-then-is_input
returns-then-is_input c =
    c.is_one_bit.ensures ∙ ap (is_one_bit c.args.top.now) c.bytes-name.ensures
    ∙ ap (λ b. b && is_one_bit c.args.top.now c.args.name.now) (c.if-is_input.ensures ∙ ap (is_input c.args.top.now) c.bytes-name.ensures)
