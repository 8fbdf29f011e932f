-- A token as contracts see it.
use Rattle.std.specs.Prelude.{ℕ, List, map}
use Rattle.vlog_tokens.specs.declared.token.Token.{Token}
use Rattle.vlog_tokens.specs.declared.token.TokenKind.{TokenKind}

-- a token: what it is, the byte of the source that it starts at, and its bytes
pub record Tok : Type 0 where
  pub kind : TokenKind
  pub at : ℕ
  pub text : List ℕ

abbrev pub tok_of : Token → Tok
tok_of token = record { kind = token.kind; at = token.at; text = token.text.now }

abbrev pub toks : List Token → List Tok
toks tokens = map tok_of tokens

-- what `lex` gives: the tokens in order, and how many bytes the source has
pub record Lexed : Type 0 where
  pub list : List Tok
  pub source_len : ℕ
