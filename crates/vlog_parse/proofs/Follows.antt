-- What may follow an expression, and what it is not.
use Rattle.std.proofs.Common.{◌≡◌, ◌≤◌, ◌||◌, ℕ, Bool, true, false, List, [], ◌∷◌, codes, None, is_some, bytes_eq, refl, sym, ap, ◌∙◌, ◌⊎◌, inl, inr}
use Rattle.std.proofs.lemmas.Slice.Eq.{bytes_eq-Decides}
use Rattle.vlog_tokens.specs.Toks.{Tok}
use Rattle.vlog_tokens.specs.declared.token.TokenKind.{TokenKind}
use Rattle.vlog_tokens.specs.declared.token.TokenKind.TheVariants.{Word, Escaped, System, Decimal, Based, Text, Mark}
use Rattle.vlog_tree.specs.Spelling.Operators.{binary_operator}
use Rattle.vlog_tree.specs.Spelling.Parts.{Is, terminal, terminal_by}
use Rattle.vlog_parse.specs.Chains.{of_level, sees_binary}
use Rattle.vlog_numbers.specs.Values.{is_based_kind, sees_based}
use Rattle.vlog_parse.specs.Reads.{next_terminal, sees}

-- `) } , ; :`, one of which stands after an expression
abbrev pub is_end_mark : List ℕ → Bool
is_end_mark text = bytes_eq text (codes ")") || (bytes_eq text (codes "}") || (bytes_eq text (codes ",") || (bytes_eq text (codes ";") || bytes_eq text (codes ":"))))

abbrev pub ends_expr : List Tok → Bool
ends_expr ts = is_end_mark (next_terminal ts)

abbrev pub EndsExpr : List Tok → Type 0
EndsExpr rest = ends_expr rest ≡ true

-- The next token is this mark, which may stand after an expression.
pub mark_ends : (text : List ℕ) (tok : Tok) (rest : List Tok) → Is text tok → is_end_mark text ≡ true → EndsExpr (tok ∷ rest)
mark_ends text tok rest h ends = ap is_end_mark h ∙ ends

-- ---- what stands after a primary, or after operands of some level

-- no bracket, no based token, and no binary operator of the level or a tighter one
pub record Quiet (n : ℕ) (rest : List Tok) : Type 0 where
  pub bracket : sees (codes "[") rest ≡ false
  pub based : sees_based rest ≡ false
  pub operator : (k : ℕ) → k ≤ n → sees_binary k rest ≡ false

based_has_none : (kind : TokenKind) (text : List ℕ) → is_based_kind kind ≡ true → terminal_by kind text ≡ []
based_has_none Based text h = refl
based_has_none Word text h = cc
based_has_none Escaped text h = cc
based_has_none System text h = cc
based_has_none Decimal text h = cc
based_has_none Text text h = cc
based_has_none Mark text h = cc

-- A reserved word or a mark is no based token.
pub some_not_based : (tok : Tok) (rest : List Tok) → (terminal tok ≡ [] → ⊥) → sees_based (tok ∷ rest) ≡ false
some_not_based tok rest some = by (is_based_kind tok.kind) refl
  where
    by : (b : Bool) → is_based_kind tok.kind ≡ b → is_based_kind tok.kind ≡ false
    by true e = absurd (some (based_has_none tok.kind tok.text e))
    by false e = e

pub mark_not_based : (text : List ℕ) (tok : Tok) (rest : List Tok) → Is text tok → (text ≡ [] → ⊥) → sees_based (tok ∷ rest) ≡ false
mark_not_based text tok rest h some = some_not_based tok rest (λ e. some (sym h ∙ e))

-- A mark that is neither a bracket nor an operator.
pub mark_quiet : (n : ℕ) (text : List ℕ) (tok : Tok) (rest : List Tok) → Is text tok → (text ≡ [] → ⊥) → bytes_eq text (codes "[") ≡ false → binary_operator text ≡ None → Quiet n (tok ∷ rest)
mark_quiet n text tok rest h some bracket none = record {
  bracket = ap (λ (t : List ℕ). bytes_eq t (codes "[")) h ∙ bracket;
  based = mark_not_based text tok rest h some;
  operator = λ k _. ap (λ (t : List ℕ). is_some (of_level k (binary_operator t))) h ∙ ap (λ found. is_some (of_level k found)) none;
}

abbrev OneOf : List ℕ → Type 0
OneOf text = (text ≡ codes ")") ⊎ ((text ≡ codes "}") ⊎ ((text ≡ codes ",") ⊎ ((text ≡ codes ";") ⊎ (text ≡ codes ":"))))

or_parts : (a b : Bool) → (a || b) ≡ true → (a ≡ true) ⊎ (b ≡ true)
or_parts true b h = inl refl
or_parts false b h = inr h

text_is : (found text : List ℕ) → bytes_eq found text ≡ true → found ≡ text
text_is found text h = (bytes_eq-Decides found text).0 h

module _ (text : List ℕ) where
  last_two : (bytes_eq text (codes ";") || bytes_eq text (codes ":")) ≡ true → (text ≡ codes ";") ⊎ (text ≡ codes ":")
  last_two h = elim (or_parts (bytes_eq text (codes ";")) (bytes_eq text (codes ":")) h) [
    | inl a ↦ inl (text_is text (codes ";") a)
    | inr b ↦ inr (text_is text (codes ":") b)
  ]

  last_three : (bytes_eq text (codes ",") || (bytes_eq text (codes ";") || bytes_eq text (codes ":"))) ≡ true → (text ≡ codes ",") ⊎ ((text ≡ codes ";") ⊎ (text ≡ codes ":"))
  last_three h = elim (or_parts (bytes_eq text (codes ",")) (bytes_eq text (codes ";") || bytes_eq text (codes ":")) h) [
    | inl a ↦ inl (text_is text (codes ",") a)
    | inr b ↦ inr (last_two b)
  ]

  last_four : (bytes_eq text (codes "}") || (bytes_eq text (codes ",") || (bytes_eq text (codes ";") || bytes_eq text (codes ":")))) ≡ true
      → (text ≡ codes "}") ⊎ ((text ≡ codes ",") ⊎ ((text ≡ codes ";") ⊎ (text ≡ codes ":")))
  last_four h = elim (or_parts (bytes_eq text (codes "}")) (bytes_eq text (codes ",") || (bytes_eq text (codes ";") || bytes_eq text (codes ":"))) h) [
    | inl a ↦ inl (text_is text (codes "}") a)
    | inr b ↦ inr (last_three b)
  ]

  end_is : is_end_mark text ≡ true → OneOf text
  end_is h = elim (or_parts (bytes_eq text (codes ")")) (bytes_eq text (codes "}") || (bytes_eq text (codes ",") || (bytes_eq text (codes ";") || bytes_eq text (codes ":")))) h) [
    | inl a ↦ inl (text_is text (codes ")") a)
    | inr b ↦ inr (last_four b)
  ]

module _ (n : ℕ) (tok : Tok) (rest : List Tok) where
  abbrev Ended : Type 0
  Ended = Quiet n (tok ∷ rest) × (sees (codes "?") (tok ∷ rest) ≡ false)

  ended_by : (text : List ℕ) → Is text tok → (text ≡ [] → ⊥) → bytes_eq text (codes "[") ≡ false → binary_operator text ≡ None → bytes_eq text (codes "?") ≡ false → Ended
  ended_by text h some bracket none question = (mark_quiet n text tok rest h some bracket none, ap (λ (t : List ℕ). bytes_eq t (codes "?")) h ∙ question)

  ended_one : OneOf (terminal tok) → Ended
  ended_one (inl h) = ended_by (codes ")") h (λ e. cc) refl refl refl
  ended_one (inr (inl h)) = ended_by (codes "}") h (λ e. cc) refl refl refl
  ended_one (inr (inr (inl h))) = ended_by (codes ",") h (λ e. cc) refl refl refl
  ended_one (inr (inr (inr (inl h)))) = ended_by (codes ";") h (λ e. cc) refl refl refl
  ended_one (inr (inr (inr (inr h)))) = ended_by (codes ":") h (λ e. cc) refl refl refl

-- What may stand after an expression does not go on with it.
pub end_quiet : (n : ℕ) (rest : List Tok) → EndsExpr rest → Quiet n rest × (sees (codes "?") rest ≡ false)
end_quiet n [] h = cc
end_quiet n (tok ∷ rest) h = ended_one n tok rest (end_is (terminal tok) h)
