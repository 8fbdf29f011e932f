use Rattle.std.proofs.Common.{ap, length, sym, ◌∙◌}
use Rattle.vlog_tree.specs.Meaning.Keys.{register_keys}
use Rattle.numbering.proofs.NumberEdgeLemmas.{numbers_bits}
use Rattle.frames.specs.Numbered.{setting_with}
use Rattle.frames.specs.declared.start.Start.{Start}
use Rattle.frames.proofs.frames.Frames.registers.Goals as goal

pub returns : goal.returns
returns c =
    ap (λ (start : Start). start.registers) c.self.invariant.starts.ended
    ∙ sym (numbers_bits.register_count (setting_with c.self.inside.ground))
    ∙ ap (λ it. length (register_keys (setting_with it))) c.self.view_is
