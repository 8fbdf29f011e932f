use Rattle.std.proofs.Common.{◌≡◌, ℕ, ◌==◌, List, [], ◌∷◌, false, length, map, refl, sym, ◌∙◌}
use Rattle.vcd_header.specs.declared.token.Token.{Token}
use Rattle.vcd_header.specs.Scopes.{without_backslash}
use Rattle.vcd_header.specs.Tokens.{tok_of}
use Rattle.vcd_header.specs.Variables.{name_and_select}
use Rattle.vcd_header.proofs.declaration.name_and_select.Goals as goal

named_with : (name : List ℕ) (further : List Token) → (length further == 0) ≡ false → (name_and_select name (map tok_of further)).0 ≡ without_backslash name
named_with name [] some = absurd (cc)
named_with name (token ∷ tokens) some = refl

pub returns-clause-name : goal.returns-clause-name
returns-clause-name c =
    c.without_backslash.ensures ∙ sym (named_with c.args.name.now c.args.further.now (sym c.is_empty.ensures ∙ c.if-is_empty.false))
