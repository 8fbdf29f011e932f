-- What one token stands for, as a test and as a fact.
use Rattle.std.proofs.Common.{◌≡◌, ◌==◌, ◌≤◌, ◌&&◌, ℕ, Bool, true, false, List, [], ◌∷◌, Some, None, Ok, nat_le, if◌then◌else◌, sym, refl, inl, inr, arith}
use Rattle.std.proofs.lemmas.Bool.{cases_Bool, eqb-true, le-leb, leb-true, and_from, and_parts}
use Rattle.vlog_words.specs.AmongWords.{is_text_among-Decides}
use Rattle.vlog_words.specs.Words.{IsReserved, is_reserved_text, reserved_words}
use Rattle.vlog_tokens.specs.Toks.{Tok}
use Rattle.vlog_tokens.specs.declared.token.TokenKind.{TokenKind}
use Rattle.vlog_tokens.specs.declared.token.TokenKind.TheVariants.{Word, Escaped, System, Decimal, Based, Text, Mark}
use Rattle.vlog_tree.specs.Spelling.Parts.{IsCount, IsDecimal, IsName, IsNameBy, decimal_value, terminal, terminal_by}
use Rattle.vlog_numbers.specs.Terminals.{decimal_between, decimal_of, is_size, name_by, name_of, number_by, unescaped}
use Rattle.vlog_parse.specs.Terminals.{decimal, name}
use Rattle.vlog_parse.proofs.Rules.{take_took, takes}

-- ---- reserved words

-- A text that the test doesn't find is no reserved word.
unreserved : (text : List ℕ) → is_reserved_text text ≡ false → IsReserved text → ⊥
unreserved text free is = (let found = (is_text_among-Decides reserved_words text).1 is in cc)

-- The test doesn't find what is no reserved word.
not_found : (text : List ℕ) → (IsReserved text → ⊥) → is_reserved_text text ≡ false
not_found text free = elim (cases_Bool (is_reserved_text text)) [
  | inl found ↦ absurd (free ((is_text_among-Decides reserved_words text).0 found))
  | inr e ↦ e
]

-- ---- names

word_is : (text : List ℕ) (n : List ℕ) → (if is_reserved_text text then None else Some text) ≡ Some n → (is_reserved_text text ≡ false) × (n ≡ text)
word_is text n e = by (is_reserved_text text) refl e
  where
    by : (found : Bool) → is_reserved_text text ≡ found → (if found then None else Some text) ≡ Some n → (is_reserved_text text ≡ false) × (n ≡ text)
    by true h e = cc
    by false h e = (h, (cc))

escaped_is : (text : List ℕ) (n : List ℕ) → unescaped text ≡ Some n → text ≡ 92 ∷ n
escaped_is [] n e = cc
escaped_is (byte ∷ name) n e = by (byte == 92) refl e
  where
    by : (slash : Bool) → (byte == 92) ≡ slash → (if slash then Some name else None) ≡ Some n → byte ∷ name ≡ 92 ∷ n
    by true h e = (let same = eqb-true byte 92 h in cc)
    by false h e = cc

name_is_by : (kind : TokenKind) (text : List ℕ) (n : List ℕ) → name_by kind text ≡ Some n → IsNameBy kind text n
name_is_by Word text n e = let (free, same) = word_is text n e in (unreserved text free, same)
name_is_by Escaped text n e = escaped_is text n e
name_is_by System text n e = cc
name_is_by Decimal text n e = cc
name_is_by Based text n e = cc
name_is_by Text text n e = cc
name_is_by Mark text n e = cc

pub name_is : (tok : Tok) (n : List ℕ) → name_of tok ≡ Some n → IsName tok n
unfolding name_of
name_is tok n e = name_is_by tok.kind tok.text n e

name_found_by : (kind : TokenKind) (text : List ℕ) (n : List ℕ) → IsNameBy kind text n → name_by kind text ≡ Some n
name_found_by Word text n (free, same) = rw (not_found text free) (cc)
name_found_by Escaped text n same = rw same refl
name_found_by System text n h = absurd h
name_found_by Decimal text n h = absurd h
name_found_by Based text n h = absurd h
name_found_by Text text n h = absurd h
name_found_by Mark text n h = absurd h

pub name_found : (tok : Tok) (n : List ℕ) → IsName tok n → name_of tok ≡ Some n
unfolding name_of
name_found tok n h = name_found_by tok.kind tok.text n h

name_free_by : (kind : TokenKind) (text : List ℕ) (n : List ℕ) → IsNameBy kind text n → terminal_by kind text ≡ []
name_free_by Word text n (free, same) = rw (not_found text free) refl
name_free_by Escaped text n h = refl
name_free_by System text n h = absurd h
name_free_by Decimal text n h = absurd h
name_free_by Based text n h = absurd h
name_free_by Text text n h = absurd h
name_free_by Mark text n h = absurd h

-- A name is no reserved word and no mark.
pub name_free : (tok : Tok) (n : List ℕ) → IsName tok n → terminal tok ≡ []
name_free tok n h = name_free_by tok.kind tok.text n h

pub name_took : (ts : List Tok) (n : List ℕ) (rest : List Tok) → name ts ≡ Ok (n, rest) → (tok : Tok) × (ts ≡ tok ∷ rest) × IsName tok n
unfolding name
name_took ts n rest e = let (tok, same, h) = take_took name_of ts n rest e in (tok, same, name_is tok n h)

pub names : (tok : Tok) (n : List ℕ) (rest : List Tok) → IsName tok n → name (tok ∷ rest) ≡ Ok (n, rest)
unfolding name
names tok n rest h = takes name_of tok n rest (name_found tok n h)

-- ---- decimals

within : (least most value n : ℕ) → (if nat_le least value && nat_le value most then Some value else None) ≡ Some n → (n ≡ value) × (least ≤ n) × (n ≤ most)
within least most value n e = by (nat_le least value && nat_le value most) refl e
  where
    by : (fits : Bool) → (nat_le least value && nat_le value most) ≡ fits → (if fits then Some value else None) ≡ Some n → (n ≡ value) × (least ≤ n) × (n ≤ most)
    by true h e =
        let (low, high) = and_parts (nat_le least value) (nat_le value most) h in
        let same : value ≡ n = cc in
        (sym same, rw same at (leb-true least value low), rw same at (leb-true value most high))
    by false h e = cc

number_is_by : (least most : ℕ) (kind : TokenKind) (value n : ℕ) → number_by least most kind value ≡ Some n → (kind ≡ Decimal) × (n ≡ value) × (least ≤ n) × (n ≤ most)
number_is_by least most Decimal value n e = let (same, low, high) = within least most value n e in (refl, same, low, high)
number_is_by least most Word value n e = cc
number_is_by least most Escaped value n e = cc
number_is_by least most System value n e = cc
number_is_by least most Based value n e = cc
number_is_by least most Text value n e = cc
number_is_by least most Mark value n e = cc

number_is : (least most : ℕ) (tok : Tok) (n : ℕ) → decimal_between least most tok ≡ Some n → (tok.kind ≡ Decimal) × (n ≡ decimal_value tok.text) × (least ≤ n) × (n ≤ most)
unfolding decimal_between
number_is least most tok n e = number_is_by least most tok.kind (decimal_value tok.text) n e

number_found : (least most : ℕ) (tok : Tok) (n : ℕ) → tok.kind ≡ Decimal → n ≡ decimal_value tok.text → least ≤ n → n ≤ most → decimal_between least most tok ≡ Some n
unfolding decimal_between
number_found least most tok n kind same low high =
    let fits : (nat_le least n && nat_le n most) ≡ true = and_from (nat_le least n) (nat_le n most) (le-leb least n low) (le-leb n most high) in
    rw (kind, sym same, fits) refl

based_free_by : (kind : TokenKind) (text : List ℕ) → kind ≡ Based → terminal_by kind text ≡ []
based_free_by kind text e = rw e refl

-- A based token is no reserved word and no mark.
pub based_free : (tok : Tok) → tok.kind ≡ Based → terminal tok ≡ []
based_free tok h = based_free_by tok.kind tok.text h

number_free_by : (kind : TokenKind) (text : List ℕ) → kind ≡ Decimal → terminal_by kind text ≡ []
number_free_by kind text e = rw e refl

-- A decimal is no reserved word and no mark.
pub decimal_free : (tok : Tok) → tok.kind ≡ Decimal → terminal tok ≡ []
decimal_free tok h = number_free_by tok.kind tok.text h

pub decimal_is : (tok : Tok) (n : ℕ) → decimal_of tok ≡ Some n → IsDecimal tok n
decimal_is tok n e = let (kind, same, low, high) = number_is 0 2147483647 tok n e in (kind, same, high)

pub decimal_found : (tok : Tok) (n : ℕ) → IsDecimal tok n → decimal_of tok ≡ Some n
decimal_found tok n (kind, same, high) = number_found 0 2147483647 tok n kind same (omega arith) high

-- A decimal that may be a size is a count.
pub count_is : (tok : Tok) (n : ℕ) → IsDecimal tok n → is_size n ≡ true → IsCount tok n
count_is tok n (kind, same, high) fits = let (least, most) = and_parts (nat_le 1 n) (nat_le n 4096) fits in (kind, same, leb-true 1 n least, leb-true n 4096 most)

-- A count is a decimal that may be a size.
pub count_decimal : (tok : Tok) (n : ℕ) → IsCount tok n → IsDecimal tok n × (is_size n ≡ true)
count_decimal tok n (kind, same, least, most) = ((kind, same, omega arith), and_from (nat_le 1 n) (nat_le n 4096) (le-leb 1 n least) (le-leb n 4096 most))

pub decimal_took : (ts : List Tok) (n : ℕ) (rest : List Tok) → decimal ts ≡ Ok (n, rest) → (tok : Tok) × (ts ≡ tok ∷ rest) × IsDecimal tok n
unfolding decimal
decimal_took ts n rest e = let (tok, same, h) = take_took decimal_of ts n rest e in (tok, same, decimal_is tok n h)

pub decimals : (tok : Tok) (n : ℕ) (rest : List Tok) → IsDecimal tok n → decimal (tok ∷ rest) ≡ Ok (n, rest)
unfolding decimal
decimals tok n rest h = takes decimal_of tok n rest (decimal_found tok n h)
