-- What is assigned (IEEE 1364-2005, clauses 6.1.3 and 9.2).
use Rattle.std.specs.Prelude.{ℕ, zero, suc, List, [], ◌∷◌, ◌++◌, codes}
use Rattle.vlog_tokens.specs.Toks.{Tok}
use Rattle.vlog_tree.specs.declared.left.Left.{Left}
use Rattle.vlog_tree.specs.declared.left.Left.TheVariants as left
use Rattle.vlog_tree.specs.Spelling.Parts.{Commas, Is, IsName}
use Rattle.vlog_tree.specs.Spelling.Selects.{IsSelect, Select, whole, bit, part}

-- a name that is assigned
abbrev pub assigned : Select → ℕ → List ℕ → Left
assigned whole at name = left.Whole at name
assigned (bit index) at name = left.Bit at name index
assigned (part range) at name = left.Part at name range

-- name | name "[" decimal "]" | name range | "{" left,+ "}", where the inner ones are given
module _ (Inner : List Tok → Left → Type 0) where
  pub data Target : List Tok → Left → Type 0 where
    name : (word : Tok) (ts : List Tok) (text : List ℕ) (select : Select) → IsName word text → IsSelect ts select
        → Target (word ∷ ts) (assigned select word.at text)
    join : (opening closing : Tok) (ts : List Tok) (parts : List Left) → Is (codes "{") opening → Commas Inner ts parts
        → Is (codes "}") closing
        → Target (opening ∷ (ts ++ closing ∷ [])) (left.Join parts)

-- A left side in which braces nest less deep than the number.
abbrev pub IsLeft : ℕ → List Tok → Left → Type 0
IsLeft zero ts target = ⊥
IsLeft (suc depth) ts target = Target (IsLeft depth) ts target

-- left
abbrev pub SpellsLeft : List Tok → Left → Type 0
SpellsLeft ts target = (depth : ℕ) × IsLeft depth ts target
