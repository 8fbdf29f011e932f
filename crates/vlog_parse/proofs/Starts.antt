-- How lists of tokens begin.
use Rattle.std.proofs.Common.{◌≡◌, ◌<◌, ℕ, false, List, ◌∷◌, ◌++◌, length, bytes_eq, ap, ◌∙◌, append_assoc, length-append, arith}
use Rattle.vlog_tokens.specs.Toks.{Tok}
use Rattle.vlog_tree.specs.Spelling.Parts.{Is}
use Rattle.vlog_parse.specs.Reads.{sees}
use Rattle.vlog_parse.proofs.Rules.{sees_other}

-- There is a token, and the first one is not this reserved word or mark.
abbrev pub Starts : List ℕ → List Tok → Type 0
Starts other ts = (0 < length ts) × ((rest : List Tok) → sees other (ts ++ rest) ≡ false)

pub starts_longer : (other : List ℕ) (front more : List Tok) → Starts other front → Starts other (front ++ more)
starts_longer other front more (some, unseen) =
    (omega (arith, length-append {A = Tok}), λ rest. ap (λ (ts : List Tok). sees other ts) (append_assoc front more rest) ∙ unseen (more ++ rest))

-- another word or mark
pub starts_with : (text other : List ℕ) (tok : Tok) (more : List Tok) → Is text tok → bytes_eq text other ≡ false → Starts other (tok ∷ more)
starts_with text other tok more h differs = (omega arith, λ rest. sees_other text other tok (more ++ rest) h differs)
