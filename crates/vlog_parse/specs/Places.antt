-- The places of a source at which the grammar may be refused.
use Rattle.std.specs.Prelude.{◌≡◌, ◌⊎◌, ℕ, List, [], ◌∷◌, ◌++◌}
use Rattle.vlog_tokens.specs.Toks.{Lexed, Tok}
use Rattle.vlog_tree.specs.Spelling.Modules.{IsDesign}
use Rattle.vlog_tree.specs.declared.design.Design.{Design}

-- The tokens spell no design.
abbrev pub SpellNothing : List Tok → Type 0
SpellNothing ts = (design : Design) → IsDesign ts design → ⊥

-- A token stands at this place that does not fit: no list of tokens that begins with those up to and with it spells a
-- design.
pub record IsMisfit (ts : List Tok) (at : ℕ) : Type 0 where
  pub front : List Tok
  pub tok : Tok
  pub rest : List Tok
  pub stands : ts ≡ front ++ tok ∷ rest
  pub place : at ≡ tok.at
  pub none : (more : List Tok) → SpellNothing (front ++ tok ∷ more)

-- Such a token stands here, or the source ends here.
abbrev pub IsPlace : Lexed → ℕ → Type 0
IsPlace lexed at = (at ≡ lexed.source_len) ⊎ IsMisfit lexed.list at

-- the place of the first of the tokens that are left, or the end of the source
abbrev pub place_in : Lexed → List Tok → ℕ
place_in lexed [] = lexed.source_len
place_in lexed (tok ∷ rest) = tok.at
