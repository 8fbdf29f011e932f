-- Which bytes spell which design.
use Rattle.std.specs.Prelude.{◌≡◌, ℕ, List}
use Rattle.vlog_tokens.specs.Toks.{Tok}
use Rattle.vlog_tokens.specs.Tokens.{AreTokens}
use Rattle.vlog_tree.specs.declared.design.Design.{Design}
use Rattle.vlog_tree.specs.Spelling.Modules.{IsDesign}
pub mod Declarations
pub mod Exprs
pub mod Gates
pub mod Items
pub mod Lefts
pub mod Modules
pub mod Numbers
pub mod Operators
pub mod Parts
pub mod Selects
pub mod Stmts

-- The bytes are tokens, blanks aside, and these are a design.
pub record Spells (bytes : List ℕ) (design : Design) : Type 0 where
  pub tokens : List Tok
  pub are : AreTokens bytes tokens
  pub spell : IsDesign tokens design

-- Bytes spell one design at most.
abbrev pub IsOneDesign : Type 0
IsOneDesign = (bytes : List ℕ) (one other : Design) → Spells bytes one → Spells bytes other → one ≡ other
