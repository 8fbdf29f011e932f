-- What may follow a left side.
use Rattle.std.proofs.Common.{◌≡◌, ◌||◌, ℕ, Bool, true, false, List, ◌∷◌, codes, bytes_eq, refl, ap, ◌∙◌}
use Rattle.vlog_tokens.specs.Toks.{Tok}
use Rattle.vlog_tree.specs.Spelling.Parts.{Is}
use Rattle.vlog_parse.specs.Reads.{next_terminal, sees}
use Rattle.vlog_parse.proofs.Rules.{◌>>=◌, seen_is}

-- `=`, `<=`, a comma, or the end of parentheses or braces
abbrev pub ends_left_by : List ℕ → Bool
ends_left_by text = bytes_eq text (codes "=") || bytes_eq text (codes "<=") || bytes_eq text (codes ",") || bytes_eq text (codes ")") || bytes_eq text (codes "}")

abbrev pub ends_left : List Tok → Bool
ends_left rest = ends_left_by (next_terminal rest)

abbrev pub EndsLeft : List Tok → Type 0
EndsLeft rest = ends_left rest ≡ true

-- such a mark comes next
pub left_ends : (text : List ℕ) (tok : Tok) (rest : List Tok) → Is text tok → ends_left_by text ≡ true → EndsLeft (tok ∷ rest)
left_ends text tok rest is h = ap ends_left_by is ∙ h

-- no other word or mark comes next
pub left_unseen : (text : List ℕ) (rest : List Tok) → ends_left_by text ≡ false → EndsLeft rest → sees text rest ≡ false
left_unseen text rest other ends = by (sees text rest) refl
  where
    by : (b : Bool) → sees text rest ≡ b → b ≡ false
    by false h = refl
    by true h = do
      (tok, more, is, met) ← seen_is text rest h
      let first : ends_left_by (next_terminal rest) ≡ false = ap (λ (ts : List Tok). ends_left_by (next_terminal ts)) is ∙ ap ends_left_by met ∙ other in cc
