-- Reserved words that the profile leaves out.
use Rattle.std.specs.Prelude.{ℕ, ◌&&◌, Bool, true, false, List, Option}
use Rattle.std.specs.List.{find}
use Rattle.std.specs.Option.{option_map}
use Rattle.vlog_tokens.specs.Toks.{Tok}
use Rattle.vlog_tokens.specs.declared.token.TokenKind.{TokenKind}
use Rattle.vlog_tokens.specs.declared.token.TokenKind.TheVariants.{Word}
use Rattle.vlog_words.specs.Words.{is_text_among, outside_words}

abbrev pub is_word_kind : TokenKind → Bool
is_word_kind Word = true
is_word_kind kind = false

-- The token is a reserved word outside the profile.
abbrev pub is_outside : Tok → Bool
is_outside tok = is_word_kind tok.kind && is_text_among outside_words tok.text

-- the place of the first of them
abbrev pub outside_at : List Tok → Option ℕ
outside_at ts = option_map (λ tok. tok.at) (find is_outside ts)
