-- Why a source has no tokens.
use Rattle.std.specs.Prelude.{◌≡◌, ℕ, ◌<◌, List, length}
use Rattle.vlog_tokens.specs.Forms.{IsPiece}
use Rattle.vlog_tokens.specs.Rows.{row_at}
use Rattle.vlog_tokens.specs.Tokens.{ArePieces, AreTokens}
use Rattle.vlog_tokens.specs.Toks.{Tok}
use Rattle.vlog_tokens.specs.declared.row.Row.{Row}
use Rattle.vlog_tokens.specs.declared.row.Row.TheVariants.{BlockComment, Directive as Line, Token}
use Rattle.vlog_tokens.specs.declared.token.TokenKind.TheVariants.{Text}
use Rattle.vlog_lexer.specs.declared.fault.LexFault.{LexFault}
use Rattle.vlog_lexer.specs.declared.fault.LexFault.TheVariants.{BadByte, OpenComment, OpenString, Directive}

-- what a place is at which no piece stands, by what it would begin
abbrev pub fault_of : Row → ℕ → LexFault
fault_of BlockComment at = OpenComment at
fault_of Line at = Directive at
fault_of (Token Text) at = OpenString at
fault_of _ at = BadByte at

-- The source is pieces up to a place at which none stands, and this says why.
pub record FailsAt (source : List ℕ) (fault : LexFault) : Type 0 where
  pub at : ℕ
  pub ends : List ℕ
  pub pieces : ArePieces source 0 ends at
  pub within : at < length source
  pub none : (to : ℕ) → IsPiece source at to → ⊥
  pub is : fault ≡ fault_of (row_at source at) at

-- A source has one fault at most.
abbrev pub IsOneFault : Type 0
IsOneFault = (source : List ℕ) (e f : LexFault) → FailsAt source e → FailsAt source f → e ≡ f

-- No source has both tokens and a fault.
abbrev pub IsTokensOrFault : Type 0
IsTokensOrFault = (source : List ℕ) (ts : List Tok) (e : LexFault) → AreTokens source ts → FailsAt source e → ⊥
