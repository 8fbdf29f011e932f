-- What the functions of the parser read from a list of tokens, and what they leave.
use Rattle.std.specs.Prelude.{◌≡◌, ℕ, zero, suc, Bool, true, false, not, List, [], ◌∷◌, ◌++◌, length, codes, Option, Some, None, Result, Ok, Err, if◌then◌else◌}
use Rattle.std.specs.Str.{bytes_eq}
use Rattle.vlog_tokens.specs.Toks.{Tok, tok_of}
use Rattle.vlog_tokens.specs.declared.token.Token.{Token}
use Rattle.vlog_tree.specs.Spelling.Parts.{place_of, terminal}
use Rattle.vlog_numbers.specs.declared.fault.Fault.{Fault}
use Rattle.vlog_numbers.specs.declared.fault.Fault.TheVariants as fault

-- what was read and what is left, or else what is left from the first token on that does not fit
abbrev pub Outcome : Type 0 → Type 0
Outcome A = Result (A × List Tok) (List Tok)

abbrev pub Parser : Type 0 → Type 0
Parser A = List Tok → Outcome A

abbrev pub and_then : {A B : Type 0} → Outcome A → (A → Parser B) → Outcome B
and_then (Ok p) f = f p.0 p.1
and_then (Err left) f = Err left

infixl 10 ◌>>=◌
abbrev pub ◌>>=◌ : {A B : Type 0} → Parser A → (A → Parser B) → Parser B
p >>= f = λ ts. and_then (p ts) f

infixl 10 ◌>>◌
abbrev pub ◌>>◌ : {A B : Type 0} → Parser A → Parser B → Parser B
p >> q = p >>= (λ _. q)

abbrev pub pure : {A : Type 0} → A → Parser A
pure a = λ ts. Ok (a, ts)

-- the next token does not fit
abbrev pub refuse : {A : Type 0} → Parser A
refuse = λ ts. Err ts

-- ---- the next token

-- nothing is left
abbrev pub is_end : List Tok → Bool
is_end [] = true
is_end (tok ∷ rest) = false

-- the reserved word or mark that the next token is; nothing where it is neither, and at the end
abbrev pub next_terminal : List Tok → List ℕ
next_terminal [] = []
next_terminal (tok ∷ rest) = terminal tok

-- whether the next token is this reserved word or mark
abbrev pub sees : List ℕ → List Tok → Bool
sees text [] = false
sees text (tok ∷ rest) = bytes_eq (terminal tok) text

abbrev pub taken_by : {A : Type 0} → Option A → Tok → List Tok → Outcome A
taken_by (Some a) tok rest = Ok (a, rest)
taken_by None tok rest = Err (tok ∷ rest)

-- the next token, if it stands for something
unfoldable pub take_if : {A : Type 0} → (Tok → Option A) → Parser A
take_if meaning [] = Err []
take_if meaning (tok ∷ rest) = taken_by (meaning tok) tok rest

abbrev pub token_if : List ℕ → Tok → Option Tok
token_if text tok = if bytes_eq (terminal tok) text then Some tok else None

-- this reserved word or mark
unfoldable pub expect : List ℕ → Parser Tok
expect text = take_if (token_if text)

-- the place of the next token
abbrev pub here : Parser ℕ
here = λ ts. Ok (place_of ts, ts)

-- ---- loops. The number bounds the turns, and each turn takes a token, so the count of tokens is enough.

unfoldable pub loop_from : {S : Type 0} → (List Tok → Bool) → (S → Parser S) → ℕ → S → Parser S
loop_from goes step zero state = refuse
loop_from goes step (suc turns) state =
    λ ts. if goes ts then (step state >>= loop_from goes step turns) ts else Ok (state, ts)

-- one step more as long as the next token asks for it
unfoldable pub loop : {S : Type 0} → (List Tok → Bool) → (S → Parser S) → S → Parser S
loop goes step state = λ ts. loop_from goes step (suc (length ts)) state ts

-- one more of a list
unfoldable pub one_more : {A : Type 0} → Parser A → List A → Parser (List A)
one_more item found = do
  a ← item
  pure (found ++ a ∷ [])

-- a comma and one more of a list
unfoldable pub one_more_after_comma : {A : Type 0} → Parser A → List A → Parser (List A)
one_more_after_comma item found = do
  expect (codes ",")
  one_more item found

-- one or more, with commas between
unfoldable pub separated : {A : Type 0} → Parser A → Parser (List A)
separated item = do
  first ← one_more item []
  loop (sees (codes ",")) (one_more_after_comma item) first

-- any number, up to this reserved word or mark
unfoldable pub repeated_until : {A : Type 0} → List ℕ → Parser A → Parser (List A)
repeated_until stop item = loop (λ ts. not (sees stop ts)) (one_more item) []

-- ---- what a function that reads ensures: the outcome, unless memory fails

abbrev pub Reads : {A : Type 0} → Outcome A → Result A Fault → List Tok → Type 0
Reads outcome (Ok a) new = outcome ≡ Ok (a, new)
Reads outcome (Err fault.Token) new = outcome ≡ Err new
Reads outcome (Err fault.Memory) new = Unit {0}

-- the same of a function that gives a token
abbrev pub ReadsToken : Outcome Tok → Result Token Fault → List Tok → Type 0
ReadsToken outcome (Ok token) new = outcome ≡ Ok (tok_of token, new)
ReadsToken outcome (Err fault.Token) new = outcome ≡ Err new
ReadsToken outcome (Err fault.Memory) new = Unit {0}

-- the same of a function that adds to a state
abbrev pub ReadsInto : {S : Type 0} → Outcome S → Result (Unit {0}) Fault → S → List Tok → Type 0
ReadsInto outcome (Ok _) state new = outcome ≡ Ok (state, new)
ReadsInto outcome (Err fault.Token) state new = outcome ≡ Err new
ReadsInto outcome (Err fault.Memory) state new = Unit {0}
