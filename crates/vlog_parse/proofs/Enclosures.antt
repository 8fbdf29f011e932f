-- Tokens between two others.
use Rattle.std.proofs.Common.{◌≡◌, ◌≤◌, ℕ, suc, List, [], ◌∷◌, ◌++◌, length, sym, ap, ◌∙◌, append_assoc, length-append, arith}
use Rattle.vlog_tokens.specs.Toks.{Tok}

-- tokens between two, taken piece by piece
pub enclosed : (opening closing : Tok) (ts ts1 ts2 ts3 front rest : List Tok) → ts ≡ opening ∷ ts1 → ts1 ≡ front ++ ts2 → ts2 ≡ closing ∷ ts3 → rest ≡ ts3 → ts ≡ (opening ∷ (front ++ closing ∷ [])) ++ rest
enclosed opening closing ts ts1 ts2 ts3 front rest e1 e2 e3 same =
    e1 ∙ ap (λ (us : List Tok). opening ∷ us) (e2 ∙ ap (λ (us : List Tok). front ++ us) (e3 ∙ ap (λ (us : List Tok). closing ∷ us) (sym same)) ∙ sym (append_assoc front (closing ∷ []) rest))

pub inside_fits : (opening closing : Tok) (front : List Tok) (size : ℕ) → length (opening ∷ (front ++ closing ∷ [])) ≤ suc size → length front ≤ size
inside_fits opening closing front size fits = let whole = rw length-append at fits in omega arith
