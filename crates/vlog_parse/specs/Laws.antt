-- What the definitions say of every list of tokens.
use Rattle.std.specs.Prelude.{◌≡◌, List}
use Rattle.vlog_tokens.specs.Toks.{Tok}
use Rattle.vlog_tree.specs.declared.design.Design.{Design}
use Rattle.vlog_tree.specs.Spelling.Modules.{IsDesign}

-- Tokens spell one design at most.
abbrev pub IsOneDesignOfTokens : Type 0
IsOneDesignOfTokens =
    (tokens : List Tok) (one other : Design) → IsDesign tokens one → IsDesign tokens other → one ≡ other
