-- Every delay is read, whatever follows it but a based token after a decimal.
use Rattle.std.proofs.Common.{◌≡◌, ℕ, Bool, true, false, List, [], ◌∷◌, ◌++◌, length, codes, Ok, refl, inl, inr, append_assoc, arith}
use Rattle.vlog_tokens.specs.Toks.{Tok}
use Rattle.vlog_tokens.specs.declared.token.TokenKind.{TokenKind}
use Rattle.vlog_tokens.specs.declared.token.TokenKind.TheVariants.{Word, Escaped, System, Decimal, Based, Text, Mark}
use Rattle.vlog_tree.specs.Spelling.Parts.{Commas, Is, IsAnyDelay, IsDecimal, IsDelay, One}
use Rattle.vlog_tree.specs.Spelling.Stmts.{BeginsBased, EndsInDecimal, IsParted}
use Rattle.vlog_parse.specs.Delays.{any_delay, delay, parted, several, single, values}
use Rattle.vlog_numbers.specs.Values.{is_based_kind, sees_based}
use Rattle.vlog_parse.specs.Reads.{sees}
use Rattle.vlog_parse.specs.Terminals.{decimal}
use Rattle.vlog_parse.proofs.DelaysSound.{parted_by}
use Rattle.vlog_parse.proofs.Lists.{separated_complete}
use Rattle.vlog_parse.proofs.Rules.{Complete, expects, sees_is, sees_other}
use Rattle.vlog_parse.proofs.Terminals.{decimals, decimal_free}

kind_based : (kind : TokenKind) → is_based_kind kind ≡ true → kind ≡ Based
kind_based Word h = cc
kind_based Escaped h = cc
kind_based System h = cc
kind_based Decimal h = cc
kind_based Based h = refl
kind_based Text h = cc
kind_based Mark h = cc

-- A based token that is seen comes next.
pub seen_begins : (ts : List Tok) → sees_based ts ≡ true → BeginsBased ts
seen_begins [] h = cc
seen_begins (tok ∷ rest) h = kind_based tok.kind h

-- After a decimal no based token is seen.
pub unseen : (before rest : List Tok) → EndsInDecimal before → IsParted before rest → sees_based rest ≡ false
unseen before rest ends free = by (sees_based rest) refl
  where
    by : (b : Bool) → sees_based rest ≡ b → b ≡ false
    by true h = absurd (free ends (seen_begins rest h))
    by false h = refl

-- A decimal is no reserved word and no mark.
decimal_unseen : (tok : Tok) (n : ℕ) (first : ℕ) (text : List ℕ) (rest : List Tok) → IsDecimal tok n → sees (first ∷ text) (tok ∷ rest) ≡ false
decimal_unseen tok n first text rest is = sees_other [] (first ∷ text) tok rest (decimal_free tok is.0) refl

parts : (rest : List Tok) → sees_based rest ≡ false → parted rest ≡ Ok (tt, rest)
unfolding parted
parts rest h = rw h refl

singles : (value : Tok) (n : ℕ) (rest : List Tok) → IsDecimal value n → sees_based rest ≡ false → values (value ∷ rest) ≡ Ok (tt, rest)
unfolding values single
singles value n rest is h = rw (decimal_unseen value n _ _ rest is, decimals value n rest is) (parts rest h)

one_decimal : (size : ℕ) → Complete (λ rest. Unit {0}) size decimal (One IsDecimal)
one_decimal size [] n rest is fits ends = absurd is
one_decimal size (tok ∷ []) n rest is fits ends = decimals tok n rest is
one_decimal size (tok ∷ next ∷ more) n rest is fits ends = absurd is

severals : (opening closing : Tok) (front : List Tok) (ns : List ℕ) (rest : List Tok) → Is (codes "(") opening → Commas (One IsDecimal) front ns → Is (codes ")") closing
    → values (opening ∷ (front ++ closing ∷ rest)) ≡ Ok (tt, rest)
unfolding values several
severals opening closing front ns rest h spelled h1 =
    let read = separated_complete decimal (One IsDecimal) (λ rest. Unit {0}) (length front) (one_decimal (length front)) (λ comma ts is. tt) front ns (closing ∷ rest) spelled (omega arith) (tt, sees_other (codes ")") (codes ",") closing rest h1 refl) in
    rw (sees_is (codes "(") opening (front ++ closing ∷ rest) h, expects (codes "(") opening (front ++ closing ∷ rest) h, read, expects (codes ")") closing rest h1) refl

delays : (front rest : List Tok) → IsDelay front → IsParted front rest → delay (front ++ rest) ≡ Ok (tt, rest)
unfolding delay
delays front rest (IsDelay.single hash value n h is) free = rw (expects (codes "#") hash (value ∷ rest) h) (singles value n rest is (unseen (hash ∷ value ∷ []) rest is.0 free))
delays front rest (IsDelay.several hash opening closing decimals_of ns h h1 spelled h2) free =
    rw (append_assoc decimals_of (closing ∷ []) rest, expects (codes "#") hash (opening ∷ (decimals_of ++ closing ∷ rest)) h) (severals opening closing decimals_of ns rest h1 spelled h2)

begins_hash : (front rest : List Tok) → IsDelay front → sees (codes "#") (front ++ rest) ≡ true
begins_hash front rest (IsDelay.single hash value n h is) = sees_is (codes "#") hash (value ∷ rest) h
begins_hash front rest (IsDelay.several hash opening closing decimals_of ns h h1 spelled h2) = sees_is (codes "#") hash (opening ∷ ((decimals_of ++ closing ∷ []) ++ rest)) h

-- What follows is no delay, and no based token where the delay ends in a decimal.
pub delay_complete : (front rest : List Tok) → IsAnyDelay front → sees (codes "#") rest ≡ false → IsParted front rest → any_delay (front ++ rest) ≡ Ok (tt, rest)
unfolding any_delay
delay_complete front rest (inl none) h free = rw (none, h) refl
delay_complete front rest (inr is) h free = rw (begins_hash front rest is) (delays front rest is free)

-- What follows is neither a delay nor a based token.
pub any_delay_complete : (front rest : List Tok) → IsAnyDelay front → sees (codes "#") rest ≡ false → sees_based rest ≡ false → any_delay (front ++ rest) ≡ Ok (tt, rest)
any_delay_complete front rest is none unbased = delay_complete front rest is none (parted_by front rest unbased)
