use Rattle.std.proofs.Common.{◌≡◌, List, subst}
use Rattle.vlog_tokens.specs.Toks.{Tok}
use Rattle.vlog_tree.specs.Spelling.Modules.{IsDesign}
use Rattle.vlog_parse.proofs.laws.bytes_spell_one_design.Goals as goal

pub returns : goal.returns
returns c = λ bytes one other a b.
    let same : a.tokens ≡ b.tokens = c.one_token_list.ensures bytes a.tokens b.tokens a.are b.are in
    c.one_design.ensures b.tokens one other (subst (λ (ts : List Tok). IsDesign ts one) same a.spell) b.spell
