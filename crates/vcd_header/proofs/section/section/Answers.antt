use Rattle.std.proofs.Common.{◌≡◌, ◌++◌, [], ◌∷◌, false, rules, ◌∙◌}
use Rattle.vcd_header.specs.Sections.{is_end}
use Rattle.vcd_header.specs.Tokens.{tok_of}
use Rattle.vcd_header.proofs.SectionLemmas.{closed_step, inner_step, rest_step}
use Rattle.vcd_header.proofs.section.section.Goals as goal

pub loop-token-preserved : goal.loop-token-preserved
loop-token-preserved c =
    let token = c.in-Some.token in
    let other : is_end (tok_of token) ≡ false = search rules in
    let pushed : c.push.new.self.items ≡ c.loop-token.inside.items ++ token ∷ [] = search rules in
    record {
      closed = closed_step token c.loop-token.tokens c.next.new.self c.in-Some.ensures other ∙ c.loop-token.invariant.closed;
      inside = inner_step c.loop-token.inside.items c.push.new.self.items token c.loop-token.tokens c.next.new.self _ pushed c.in-Some.ensures other c.loop-token.invariant.inside;
      rest = rest_step token c.loop-token.tokens c.next.new.self c.in-Some.ensures other ∙ c.loop-token.invariant.rest;
    }
