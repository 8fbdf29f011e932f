use Rattle.std.proofs.Common.{arith, ◌<◌, length, sym, ◌∙◌}
use Rattle.vcd_header.proofs.TokenLemmas.{token_at}
use Rattle.vcd_header.proofs.token.Tokens.next.Goals as goal

pub returns : goal.returns
returns c =
    let within : c.blank_end-from.result < length c.self.inside.bytes.now = omega arith in
    sym c.self.view_is ∙ sym c.blank_end-from.ensures.tokens ∙ token_at c.self.inside.bytes.now c.blank_end-from.result c.token_end-to.result within (c.blank_end-from.ensures.ink within) c.token_end-to.ensures.run
