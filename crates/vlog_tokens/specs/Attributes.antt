-- The tokens that stay when attributes are dropped.
use Rattle.std.specs.Prelude.{◌≡◌, ◌&&◌, ◌++◌, Bool, true, false, if◌then◌else◌, List, [], ◌∷◌, codes}
use Rattle.std.specs.List.{list_any}
use Rattle.std.specs.Str.{bytes_eq}
use Rattle.vlog_tokens.specs.Toks.{Tok}

-- the mark that opens an attribute, which no other token has as its text
abbrev pub opens : Tok → Bool
opens token = bytes_eq token.text (codes "(*")

-- the mark that closes one
abbrev pub closes : Tok → Bool
closes token = bytes_eq token.text (codes "*)")

-- the tokens that stay, where the first stands outside (false) or inside (true) of an attribute; a `(*` opens one where
-- a `*)` follows
abbrev pub stay : Bool → List Tok → List Tok
stay inside [] = []
stay false (token ∷ tokens) =
    if opens token && list_any closes tokens then stay true tokens else (token ∷ stay false tokens)
stay true (token ∷ tokens) = if closes token then stay false tokens else stay true tokens

-- the tokens without those from a `(*` to the next `*)`
abbrev pub without_attributes : List Tok → List Tok
without_attributes tokens = stay false tokens

-- An attribute is dropped: the first `(*`, the next `*)` and what stands between them.
abbrev pub DropsAttributes : Type 0
DropsAttributes =
    (front inside rest : List Tok) (first last : Tok) → list_any opens front ≡ false → opens first ≡ true
    → list_any closes inside ≡ false → closes last ≡ true
    → without_attributes (front ++ (first ∷ (inside ++ (last ∷ rest)))) ≡ front ++ without_attributes rest

-- After tokens without a `(*`, tokens without a `*)` stay, a `(*` among them too.
abbrev pub KeepsOpenMarks : Type 0
KeepsOpenMarks =
    (front rest : List Tok) → list_any opens front ≡ false → list_any closes rest ≡ false
    → without_attributes (front ++ rest) ≡ front ++ rest
