-- Gates and instances (IEEE 1364-2005, clauses 7 and 12.3).
use Rattle.std.specs.Prelude.{◌≡◌, ℕ, List, [], ◌∷◌, ◌++◌, codes, Option, Some, None, if◌then◌else◌}
use Rattle.std.specs.Str.{bytes_eq}
use Rattle.vlog_tokens.specs.Toks.{Tok}
use Rattle.vlog_tree.specs.declared.expr.Expr.{Expr}
use Rattle.vlog_tree.specs.declared.item.GateKind.{GateKind}
use Rattle.vlog_tree.specs.declared.item.GateKind.TheVariants.{And, Nand, Or, Nor, Xor, Xnor, Buf, Not}
use Rattle.vlog_tree.specs.declared.item.Item.{Item}
use Rattle.vlog_tree.specs.declared.item.Item.TheVariants.{Gate, Instance}
use Rattle.vlog_tree.specs.declared.item.Link.{Link}
use Rattle.vlog_tree.specs.declared.left.Left.{Left}
use Rattle.vlog_tree.specs.Spelling.Exprs.{SpellsExpr}
use Rattle.vlog_tree.specs.Spelling.Lefts.{SpellsLeft}
use Rattle.vlog_tree.specs.Spelling.Parts.{Commas, Is, IsName, One, Optional, place_of}

-- the gate with this text that has one output and any number of inputs
abbrev pub input_gate : List ℕ → Option GateKind
input_gate text =
    if bytes_eq text (codes "and") then Some And
    else (if bytes_eq text (codes "nand") then Some Nand
    else (if bytes_eq text (codes "or") then Some Or
    else (if bytes_eq text (codes "nor") then Some Nor
    else (if bytes_eq text (codes "xor") then Some Xor
    else (if bytes_eq text (codes "xnor") then Some Xnor
    else None)))))

-- the gate with this text that has any number of outputs and one input
abbrev pub output_gate : List ℕ → Option GateKind
output_gate text =
    if bytes_eq text (codes "buf") then Some Buf else (if bytes_eq text (codes "not") then Some Not else None)

-- agate = name? "(" left "," expr,+ ")"
pub data IsInputGate (kind : GateKind) : List Tok → Item → Type 0 where
  gate : (title : List Tok) (opening : Tok) (outs : List Tok) (comma : Tok) (ins : List Tok) (closing : Tok)
      (name : Option (List ℕ)) (out : Left) (inputs : List Expr)
      → Optional (One IsName) title name → Is (codes "(") opening → SpellsLeft outs out → Is (codes ",") comma
      → Commas SpellsExpr ins inputs → Is (codes ")") closing
      → IsInputGate kind (title ++ opening ∷ (outs ++ comma ∷ (ins ++ closing ∷ [])))
      (Gate (place_of (title ++ opening ∷ [])) kind name (out ∷ []) inputs)

-- bgate = name? "(" left,+ "," expr ")"
pub data IsOutputGate (kind : GateKind) : List Tok → Item → Type 0 where
  gate : (title : List Tok) (opening : Tok) (outs : List Tok) (comma : Tok) (ins : List Tok) (closing : Tok)
      (name : Option (List ℕ)) (outputs : List Left) (input : Expr)
      → Optional (One IsName) title name → Is (codes "(") opening → Commas SpellsLeft outs outputs
      → Is (codes ",") comma → SpellsExpr ins input → Is (codes ")") closing
      → IsOutputGate kind (title ++ opening ∷ (outs ++ comma ∷ (ins ++ closing ∷ [])))
      (Gate (place_of (title ++ opening ∷ [])) kind name outputs (input ∷ []))

-- link = "." name "(" expr? ")"
pub data IsLink : List Tok → Link → Type 0 where
  named_link : (dot word opening : Tok) (ts : List Tok) (closing : Tok) (port : List ℕ) (connected : Option Expr)
      → Is (codes ".") dot → IsName word port → Is (codes "(") opening → Optional SpellsExpr ts connected
      → Is (codes ")") closing
      → IsLink (dot ∷ word ∷ opening ∷ (ts ++ closing ∷ []))
      (record { at = dot.at; port = Some port; expr = connected })

-- olink = expr?, where a blank one has the place of the token after it
pub data IsOrderedLink (after : Tok) : List Tok → Link → Type 0 where
  blank : IsOrderedLink after [] (record { at = after.at; port = None; expr = None })
  connected : (ts : List Tok) (e : Expr) → SpellsExpr ts e
      → IsOrderedLink after ts (record { at = place_of ts; port = None; expr = Some e })

-- olink,+ ")"
pub data AreOrderedLinks : List Tok → List Link → Type 0 where
  last : (ts : List Tok) (closing : Tok) (link : Link) → Is (codes ")") closing → IsOrderedLink closing ts link
      → AreOrderedLinks (ts ++ closing ∷ []) (link ∷ [])
  next : (ts : List Tok) (comma : Tok) (rest : List Tok) (link : Link) (links : List Link) → Is (codes ",") comma
      → IsOrderedLink comma ts link → AreOrderedLinks rest links
      → AreOrderedLinks (ts ++ comma ∷ rest) (link ∷ links)

-- A single blank connection is none.
abbrev pub IsLoneBlank : List Link → Type 0
IsLoneBlank [] = ⊥
IsLoneBlank (link ∷ []) = link.expr ≡ None
IsLoneBlank (link ∷ second ∷ links) = ⊥

-- ")" | link,+ ")" | olink,+ ")"
pub data AreLinks : List Tok → List Link → Type 0 where
  none : (closing : Tok) → Is (codes ")") closing → AreLinks (closing ∷ []) []
  named : (ts : List Tok) (closing : Tok) (links : List Link) → Commas IsLink ts links → Is (codes ")") closing
      → AreLinks (ts ++ closing ∷ []) links
  ordered : (ts : List Tok) (links : List Link) → AreOrderedLinks ts links → (IsLoneBlank links → ⊥) → AreLinks ts links

-- inst = name "(" ")" | name "(" link,+ ")" | name "(" olink,+ ")"
pub data IsInstance (definition : List ℕ) : List Tok → Item → Type 0 where
  instance : (word opening : Tok) (ts : List Tok) (name : List ℕ) (links : List Link) → IsName word name
      → Is (codes "(") opening → AreLinks ts links
      → IsInstance definition (word ∷ opening ∷ ts) (Instance word.at definition name links)
