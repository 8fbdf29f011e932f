-- What `number` reads is a number, and each number is read.
use Rattle.std.proofs.Common.{◌≡◌, ◌⊎◌, inl, inr, ℕ, Bool, true, false, not, List, [], ◌∷◌, ◌++◌, ◌==◌, drop, Option, Some, None, Ok, if◌then◌else◌, option_map, refl, sym, ap, ◌∙◌, subst}
use Rattle.std.specs.Option.{option_and_then}
use Rattle.std.specs.List.{list_all}
use Rattle.vlog_tokens.specs.Toks.{Tok}
use Rattle.vlog_tokens.specs.declared.token.TokenKind.{TokenKind}
use Rattle.vlog_tokens.specs.declared.token.TokenKind.TheVariants.{Word, Escaped, System, Decimal, Based, Text, Mark}
use Rattle.vlog_tree.specs.Spelling.Parts.{terminal, terminal_by}
use Rattle.vlog_tree.specs.Spelling.Numbers.{IsBased, IsNumber, at_width, based_value, bits_of}
use Rattle.vlog_parse.specs.Reads.{Outcome, and_then, next_terminal, refuse, take_if}
use Rattle.vlog_numbers.specs.Terminals.{is_size, name_by, name_of}
use Rattle.vlog_parse.specs.Terminals.{decimal}
use Rattle.vlog_numbers.specs.Values.{based_by, based_of, in_word, is_based_kind, sees_based, sized_of, unsized_of}
use Rattle.vlog_parse.specs.Numbers.{decimal_number, number, sized_digits, sized_number, unsized_number}
use Rattle.vlog_parse.specs.Looks.{sees_size}
use Rattle.vlog_parse.proofs.Rules.{◌>>=◌, Sound, Took, found_is, left_is, take_took, takes, then_took}
use Rattle.vlog_parse.proofs.Terminals.{based_free, count_decimal, count_is, decimal_free, decimals, decimal_took}

-- ---- one token

based_is_by : (kind : TokenKind) (text : List ℕ) (bits : List Bool) → based_by kind text ≡ Some bits → (kind ≡ Based) × (based_value text ≡ Some bits)
based_is_by Based text bits e = (refl, e)
based_is_by Word text bits e = cc
based_is_by Escaped text bits e = cc
based_is_by System text bits e = cc
based_is_by Decimal text bits e = cc
based_is_by Text text bits e = cc
based_is_by Mark text bits e = cc

based_is : (tok : Tok) (bits : List Bool) → based_of tok ≡ Some bits → IsBased tok bits
based_is tok bits e = based_is_by tok.kind tok.text bits e

based_found_by : (kind : TokenKind) (text : List ℕ) (bits : List Bool) → kind ≡ Based → based_value text ≡ Some bits → based_by kind text ≡ Some bits
based_found_by kind text bits h e = rw h e

based_found : (tok : Tok) (bits : List Bool) → IsBased tok bits → based_of tok ≡ Some bits
based_found tok bits (h, e) = based_found_by tok.kind tok.text bits h e

sized_is : (width : ℕ) (tok : Tok) (found : Option (List Bool)) (bits : List Bool) → based_of tok ≡ found → option_map (at_width width) found ≡ Some bits → (given : List Bool) × IsBased tok given × (bits ≡ at_width width given)
sized_is width tok (Some given) bits h e = (given, based_is tok given h, (cc))
sized_is width tok None bits h e = cc

in_word_is : (given bits : List Bool) (fits : Bool) → list_all not (drop 32 given) ≡ fits → (if fits then Some (at_width 32 given) else None) ≡ Some bits → (list_all not (drop 32 given) ≡ true) × (bits ≡ at_width 32 given)
in_word_is given bits true h e = (h, (cc))
in_word_is given bits false h e = cc

unsized_is : (tok : Tok) (found : Option (List Bool)) (bits : List Bool) → based_of tok ≡ found → option_and_then in_word found ≡ Some bits
    → (given : List Bool) × IsBased tok given × (list_all not (drop 32 given) ≡ true) × (bits ≡ at_width 32 given)
unsized_is tok (Some given) bits h e = let (fits, same) = in_word_is given bits (list_all not (drop 32 given)) refl e in (given, based_is tok given h, fits, same)
unsized_is tok None bits h e = cc

-- ---- what is read is a number

unsized_sound : Sound unsized_number IsNumber
unfolding unsized_number unsized_of
unsized_sound ts bits rest e = do
  (tok, e1, h) ← take_took _ ts bits rest e
  (given, based, fits, same) ← unsized_is tok (based_of tok) bits refl h
  (tok ∷ [], e1, subst (IsNumber (tok ∷ [])) (sym same) (IsNumber.based tok given based fits))

-- A size that may be one, and the token behind it.
digits_took : (width : ℕ) (ts : List Tok) (bits : List Bool) (rest : List Tok) → sized_digits width ts ≡ Ok (bits, rest) → (is_size width ≡ true) × (take_if (sized_of width) ts ≡ Ok (bits, rest))
unfolding sized_digits
digits_took width ts bits rest e = by (is_size width) refl e
  where
    by : (b : Bool) → is_size width ≡ b → (if b then take_if (sized_of width) else refuse) ts ≡ Ok (bits, rest) → (is_size width ≡ true) × (take_if (sized_of width) ts ≡ Ok (bits, rest))
    by true h e = (h, e)
    by false h e = cc

sized_sound : Sound sized_number IsNumber
unfolding sized_number sized_of
sized_sound ts bits rest e = do
  (width, left, e1, m1) ← then_took (decimal ts) _ bits rest e
  (size, e2, h2) ← decimal_took ts width left e1
  (fits, took) ← digits_took width left bits rest m1
  (tok, e3, h3) ← take_took _ left bits rest took
  (given, based, same) ← sized_is width tok (based_of tok) bits refl h3
  (size ∷ tok ∷ [], e2 ∙ ap (λ (xs : List Tok). size ∷ xs) e3, subst (IsNumber (size ∷ tok ∷ [])) (sym same) (IsNumber.sized size tok width given (count_is size width h2 fits) based))

decimal_sound : Sound decimal_number IsNumber
unfolding decimal_number
decimal_sound ts bits rest e = do
  (value, left, e1, m1) ← then_took (decimal ts) _ bits rest e
  (tok, e2, h2) ← decimal_took ts value left e1
  (tok ∷ [], e2 ∙ ap (λ (xs : List Tok). tok ∷ xs) (sym (left_is m1)), subst (IsNumber (tok ∷ [])) (sym (found_is m1)) (IsNumber.decimal tok value h2))

pub number_sound : Sound number IsNumber
unfolding number
number_sound ts bits rest e = first (sees_based ts) refl e
  where
    second : (size : Bool) → (if size then sized_number else decimal_number) ts ≡ Ok (bits, rest) → Took IsNumber ts bits rest
    second true e = sized_sound ts bits rest e
    second false e = decimal_sound ts bits rest e

    first : (based : Bool) → sees_based ts ≡ based → (if based then unsized_number else (if sees_size ts then sized_number else decimal_number)) ts ≡ Ok (bits, rest) → Took IsNumber ts bits rest
    first true h e = unsized_sound ts bits rest e
    first false h e = second (sees_size ts) e

-- ---- each number is read

based_kind : (kind : TokenKind) → kind ≡ Based → is_based_kind kind ≡ true
based_kind kind h = rw h refl

decimal_kind : (kind : TokenKind) → kind ≡ Decimal → is_based_kind kind ≡ false
decimal_kind kind h = rw h refl

is_unsized : (ts : List Tok) → sees_based ts ≡ true → number ts ≡ unsized_number ts
unfolding number
is_unsized ts h = rw h refl

is_sized : (ts : List Tok) → sees_based ts ≡ false → sees_size ts ≡ true → number ts ≡ sized_number ts
unfolding number
is_sized ts h size = rw (h, size) refl

is_decimal : (ts : List Tok) → sees_based ts ≡ false → sees_size ts ≡ false → number ts ≡ decimal_number ts
unfolding number
is_decimal ts h size = rw (h, size) refl

decimal_reads : (ts left : List Tok) (value : ℕ) → decimal ts ≡ Ok (value, left) → decimal_number ts ≡ Ok (bits_of 32 value, left)
unfolding decimal_number
decimal_reads ts left value e = rw e refl

sized_reads : (ts left rest : List Tok) (width : ℕ) (bits : List Bool) → decimal ts ≡ Ok (width, left) → is_size width ≡ true → take_if (sized_of width) left ≡ Ok (bits, rest) → sized_number ts ≡ Ok (bits, rest)
unfolding sized_number sized_digits
sized_reads ts left rest width bits e fits m = ap (λ (o : Outcome ℕ). and_then o sized_digits) e ∙ ap (λ (b : Bool). (if b then take_if (sized_of width) else refuse) left) fits ∙ m

unsized_found : (tok : Tok) (given : List Bool) → IsBased tok given → list_all not (drop 32 given) ≡ true → unsized_of tok ≡ Some (at_width 32 given)
unfolding unsized_of
unsized_found tok given h fits = ap (option_and_then in_word) (based_found tok given h) ∙ rw fits refl

sized_found : (width : ℕ) (tok : Tok) (given : List Bool) → IsBased tok given → sized_of width tok ≡ Some (at_width width given)
unfolding sized_of
sized_found width tok given h = ap (option_map (at_width width)) (based_found tok given h)

unsized_complete : (tok : Tok) (given : List Bool) (rest : List Tok) → IsBased tok given → list_all not (drop 32 given) ≡ true → number (tok ∷ rest) ≡ Ok (at_width 32 given, rest)
unfolding unsized_number
unsized_complete tok given rest h fits = is_unsized (tok ∷ rest) (based_kind tok.kind h.0) ∙ takes unsized_of tok (at_width 32 given) rest (unsized_found tok given h fits)

-- What spells a number is read, where no based token follows.
pub number_complete : (front : List Tok) (bits : List Bool) (rest : List Tok) → IsNumber front bits → sees_based rest ≡ false → number (front ++ rest) ≡ Ok (bits, rest)
number_complete front bits rest (IsNumber.decimal digits value h) follows =
    is_decimal (digits ∷ rest) (decimal_kind digits.kind h.0) follows ∙ decimal_reads (digits ∷ rest) rest value (decimals digits value rest h)
number_complete front bits rest (IsNumber.based digits given h fits) follows = unsized_complete digits given rest h fits
number_complete front bits rest (IsNumber.sized size digits width given h based) follows =
    is_sized (size ∷ digits ∷ rest) (decimal_kind size.kind h.0) (based_kind digits.kind based.0)
    ∙ sized_reads (size ∷ digits ∷ rest) (digits ∷ rest) rest width (at_width width given) (decimals size width (digits ∷ rest) (count_decimal size width h).0) (count_decimal size width h).1 (takes (sized_of width) digits (at_width width given) rest (sized_found width digits given based))

-- ---- the first token of a number, and the token behind one

unnamed_by : (kind : TokenKind) (text : List ℕ) → (kind ≡ Decimal) ⊎ (kind ≡ Based) → name_by kind text ≡ None
unnamed_by kind text (inl h) = rw h refl
unnamed_by kind text (inr h) = rw h refl

unnamed : (tok : Tok) → (tok.kind ≡ Decimal) ⊎ (tok.kind ≡ Based) → name_of tok ≡ None
unfolding name_of
unnamed tok h = unnamed_by tok.kind tok.text h

-- A number begins with a token that is no reserved word, no mark and no name.
pub number_begins : (front : List Tok) (bits : List Bool) → IsNumber front bits → (tok : Tok) × (more : List Tok) × (front ≡ tok ∷ more) × (terminal tok ≡ []) × (name_of tok ≡ None)
number_begins front bits (IsNumber.decimal digits value h) = (digits, [], refl, decimal_free digits h.0, unnamed digits (inl h.0))
number_begins front bits (IsNumber.based digits given h fits) = (digits, [], refl, based_free digits h.0, unnamed digits (inr h.0))
number_begins front bits (IsNumber.sized size digits width given h based) = (size, digits ∷ [], refl, decimal_free size h.0, unnamed size (inl h.0))

unbased_by : (kind : TokenKind) (text : List ℕ) → (terminal_by kind text ≡ [] → ⊥) → is_based_kind kind ≡ false
unbased_by Based text h = absurd (h refl)
unbased_by Word text h = refl
unbased_by Escaped text h = refl
unbased_by System text h = refl
unbased_by Decimal text h = refl
unbased_by Text text h = refl
unbased_by Mark text h = refl

-- A reserved word or a mark is not based, so a number may end before it.
pub unbased : (ts : List Tok) → (next_terminal ts ≡ [] → ⊥) → sees_based ts ≡ false
unbased [] h = refl
unbased (tok ∷ rest) h = unbased_by tok.kind tok.text h
