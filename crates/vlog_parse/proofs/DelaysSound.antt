-- What a delay reads is spelled by the tokens that it takes, and no based token follows a decimal at its end.
use Rattle.std.proofs.Common.{◌≡◌, ℕ, Bool, true, false, List, [], ◌∷◌, ◌++◌, codes, Ok, refl, inl, inr, sym, ap, ◌∙◌, subst, append_assoc}
use Rattle.vlog_tokens.specs.Toks.{Tok}
use Rattle.vlog_tokens.specs.declared.token.TokenKind.{TokenKind}
use Rattle.vlog_tokens.specs.declared.token.TokenKind.TheVariants.{Decimal, Based}
use Rattle.vlog_tree.specs.Spelling.Parts.{Is, IsAnyDelay, IsDecimal, IsDelay, One, terminal_by}
use Rattle.vlog_tree.specs.Spelling.Stmts.{BeginsBased, EndsInDecimal, IsParted}
use Rattle.vlog_parse.specs.Delays.{any_delay, delay, parted, several, single, values}
use Rattle.vlog_numbers.specs.Values.{is_based_kind, sees_based}
use Rattle.vlog_parse.specs.Reads.{sees, separated}
use Rattle.vlog_parse.specs.Terminals.{decimal}
use Rattle.vlog_parse.proofs.Lists.{separated_sound}
use Rattle.vlog_parse.proofs.Rules.{◌>>=◌, Sound, left_is, mark_took, then_took}
use Rattle.vlog_parse.proofs.Terminals.{decimal_took}

-- ---- a decimal, and a based token after it

based_seen : (kind : TokenKind) → kind ≡ Based → is_based_kind kind ≡ true
based_seen kind h = ap is_based_kind h

-- A based token that comes next is seen.
pub begins_seen : (ts : List Tok) → BeginsBased ts → sees_based ts ≡ true
begins_seen [] h = absurd h
begins_seen (tok ∷ rest) h = based_seen tok.kind h

pub parted_by : (before rest : List Tok) → sees_based rest ≡ false → IsParted before rest
parted_by before rest h ends begins = let seen = begins_seen rest begins in cc

-- the last token of a list
pub last_ends : (ts : List Tok) (last : Tok) → EndsInDecimal (ts ++ last ∷ []) → last.kind ≡ Decimal
last_ends [] last h = h
last_ends (tok ∷ []) last h = h
last_ends (tok ∷ next ∷ ts) last h = last_ends (next ∷ ts) last h

decimal_terminal : (kind : TokenKind) (text : List ℕ) → kind ≡ Decimal → terminal_by kind text ≡ []
decimal_terminal kind text h = ap (λ (k : TokenKind). terminal_by k text) h

-- A list that ends in a mark ends in no decimal.
pub mark_parts : (ts : List Tok) (first : ℕ) (text : List ℕ) (last : Tok) (rest : List Tok) → Is (first ∷ text) last → IsParted (ts ++ last ∷ []) rest
mark_parts ts first text last rest is ends begins = let none = decimal_terminal last.kind last.text (last_ends ts last ends) in cc

-- ---- the rules

-- the tokens of a delay, after which no based token follows a decimal
abbrev DelayTook : List Tok → List Tok → Type 0
DelayTook ts rest = (front : List Tok) × (ts ≡ front ++ rest) × IsDelay front × IsParted front rest

one_decimal : Sound decimal (One IsDecimal)
one_decimal ts n rest e = let (tok, is, h) = decimal_took ts n rest e in (tok ∷ [], is, h)

parted_took : (ts rest : List Tok) → parted ts ≡ Ok (tt, rest) → (ts ≡ rest) × (sees_based rest ≡ false)
unfolding parted
parted_took ts rest e = by (sees_based ts) refl
  where
    by : (b : Bool) → sees_based ts ≡ b → (ts ≡ rest) × (sees_based rest ≡ false)
    by true h = (let no_ok = rw h at e in cc)
    by false h = (let same = sym (left_is (rw h at e)) in (same, subst (λ (xs : List Tok). sees_based xs ≡ false) same h))

single_took : (hash : Tok) (ts rest : List Tok) → Is (codes "#") hash → single ts ≡ Ok (tt, rest) → DelayTook (hash ∷ ts) rest
unfolding single
single_took hash ts rest h e = do
  (n, left, was, next) ← then_took (decimal ts) _ tt rest e
  (value, e1, is) ← decimal_took ts n left was
  (same, free) ← parted_took left rest next
  (hash ∷ value ∷ [], cc, IsDelay.single hash value n h is, parted_by (hash ∷ value ∷ []) rest free)

several_took : (hash : Tok) (ts rest : List Tok) → Is (codes "#") hash → several ts ≡ Ok (tt, rest) → DelayTook (hash ∷ ts) rest
unfolding several
several_took hash ts rest h e = do
  (opening, ts1, e1, h1, m1) ← mark_took (codes "(") _ ts tt rest e
  (ns, ts2, was, m2) ← then_took (separated decimal ts1) _ tt rest m1
  (front, e2, spelled) ← separated_sound decimal (One IsDecimal) one_decimal ts1 ns ts2 was
  (closing, ts3, e3, h3, m3) ← mark_took (codes ")") _ ts2 tt rest m2
  (
    hash ∷ opening ∷ (front ++ closing ∷ []),
    ap (λ (xs : List Tok). hash ∷ xs) (e1 ∙ ap (λ (xs : List Tok). opening ∷ xs) (e2 ∙ ap (λ (xs : List Tok). front ++ xs) (e3 ∙ ap (λ (xs : List Tok). closing ∷ xs) (sym (left_is m3))) ∙ sym (append_assoc front (closing ∷ []) rest))),
    IsDelay.several hash opening closing front ns h h1 spelled h3,
    mark_parts (hash ∷ opening ∷ front) _ _ closing rest h3,
  )

delay_took : (ts rest : List Tok) → delay ts ≡ Ok (tt, rest) → DelayTook ts rest
unfolding delay values
delay_took ts rest e = do
  (hash, left, is, h, m) ← mark_took (codes "#") _ ts tt rest e
  (front, same, spelled, free) ← by hash left h m (sees (codes "(") left) refl
  (front, is ∙ same, spelled, free)
  where
    by : (hash : Tok) (left : List Tok) → Is (codes "#") hash → values left ≡ Ok (tt, rest) → (b : Bool) → sees (codes "(") left ≡ b → DelayTook (hash ∷ left) rest
    by hash left h m true s = several_took hash left rest h (rw s at m)
    by hash left h m false s = single_took hash left rest h (rw s at m)

pub delay_sound : (ts rest : List Tok) → any_delay ts ≡ Ok (tt, rest) → (front : List Tok) × (ts ≡ front ++ rest) × IsAnyDelay front × IsParted front rest
unfolding any_delay
delay_sound ts rest e = by (sees (codes "#") ts) refl
  where
    by : (b : Bool) → sees (codes "#") ts ≡ b → (front : List Tok) × (ts ≡ front ++ rest) × IsAnyDelay front × IsParted front rest
    by true h = let (front, is, spelled, free) = delay_took ts rest (rw h at e) in (front, is, inr spelled, free)
    by false h = ([], sym (left_is (rw h at e)), inl refl, λ ends begins. ends)

pub any_delay_sound : Sound any_delay (λ ts _. IsAnyDelay ts)
any_delay_sound ts _ rest e = let (front, is, spelled, free) = delay_sound ts rest e in (front, is, spelled)
