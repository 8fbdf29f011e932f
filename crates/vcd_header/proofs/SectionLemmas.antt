-- Sections, token by token.
use Rattle.std.proofs.Common.{◌≡◌, List, [], ◌∷◌, ◌++◌, false, map, sym, ap, ◌∙◌}
use Rattle.std.specs.List.{after_first}
use Rattle.std.proofs.lemmas.List.{append_assoc, map-append}
use Rattle.vcd_header.specs.declared.token.Token.{Token}
use Rattle.vcd_header.specs.Sections.{inner, is_closed, is_end}
use Rattle.vcd_header.specs.Tokens.{Tok, tok_of}
use Rattle.vcd_header.proofs.ListLemmas.{after_more, any_more, before_more}

pub inner_step : (before after : List Token) (token : Token) (tokens rest whole : List Tok)
    → after ≡ before ++ token ∷ [] → tokens ≡ tok_of token ∷ rest → is_end (tok_of token) ≡ false → map tok_of before ++ inner tokens ≡ whole
    → map tok_of after ++ inner rest ≡ whole
inner_step before after token tokens rest whole pushed front other so_far =
    ap (λ (items : List Token). map tok_of items ++ inner rest) pushed
    ∙ ap (λ items. items ++ inner rest) (map-append tok_of before (token ∷ []))
    ∙ append_assoc (map tok_of before) (tok_of token ∷ []) (inner rest)
    ∙ ap (λ items. map tok_of before ++ items) (sym (before_more is_end (tok_of token) rest other) ∙ ap inner (sym front))
    ∙ so_far

pub closed_step : (token : Token) (tokens rest : List Tok) → tokens ≡ tok_of token ∷ rest → is_end (tok_of token) ≡ false → is_closed rest ≡ is_closed tokens
closed_step token tokens rest front other = sym (any_more is_end (tok_of token) rest other) ∙ ap is_closed (sym front)

pub rest_step : (token : Token) (tokens rest : List Tok) → tokens ≡ tok_of token ∷ rest → is_end (tok_of token) ≡ false → after_first is_end rest ≡ after_first is_end tokens
rest_step token tokens rest front other = sym (after_more is_end (tok_of token) rest other) ∙ ap (after_first is_end) (sym front)
