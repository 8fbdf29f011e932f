-- Headers, modules and designs (IEEE 1364-2005, clauses 12.1 and 12.3).
use Rattle.std.specs.Prelude.{ℕ, List, [], ◌∷◌, ◌++◌, codes}
use Rattle.std.specs.List.{flat_map}
use Rattle.vlog_tokens.specs.Toks.{Tok}
use Rattle.vlog_tree.specs.declared.design.Design.{Design}
use Rattle.vlog_tree.specs.declared.design.Module.{Module}
use Rattle.vlog_tree.specs.declared.item.Item.{Item}
use Rattle.vlog_tree.specs.Spelling.Declarations.{Declared, IsPortShape, IsRegister, Shape, register_items}
use Rattle.vlog_tree.specs.Spelling.Items.{IsItem}
use Rattle.vlog_tree.specs.Spelling.Parts.{Commas, Is, IsName, Many, One}

-- aport,+ after the direction, kind and range of the first: a port without a direction takes those of the one before
pub data ArePorts : Shape → List Tok → List (List ℕ) → List Item → Type 0 where
  last : (shape : Shape) (ts : List Tok) (declared : Declared) → IsRegister shape.kind ts declared
      → ArePorts shape ts (declared.name ∷ []) (register_items shape declared)
  same : (shape : Shape) (ts : List Tok) (comma : Tok) (rest : List Tok) (declared : Declared) (names : List (List ℕ))
      (items : List Item) → IsRegister shape.kind ts declared → Is (codes ",") comma → ArePorts shape rest names items
      → ArePorts shape (ts ++ comma ∷ rest) (declared.name ∷ names) (register_items shape declared ++ items)
  other : (shape : Shape) (ts : List Tok) (comma : Tok) (ss rest : List Tok) (next : Shape) (declared : Declared)
      (names : List (List ℕ)) (items : List Item) → IsRegister shape.kind ts declared → Is (codes ",") comma
      → IsPortShape ss next → ArePorts next rest names items
      → ArePorts shape (ts ++ comma ∷ (ss ++ rest)) (declared.name ∷ names) (register_items shape declared ++ items)

-- header?, where header = "(" ")" | "(" name,+ ")" | "(" aport,+ ")": the names of the ports, and what it declares
pub data IsHeader : List Tok → List (List ℕ) → List Item → Type 0 where
  none : IsHeader [] [] []
  empty : (opening closing : Tok) → Is (codes "(") opening → Is (codes ")") closing
      → IsHeader (opening ∷ closing ∷ []) [] []
  names : (opening : Tok) (ts : List Tok) (closing : Tok) (ports : List (List ℕ)) → Is (codes "(") opening
      → Commas (One IsName) ts ports → Is (codes ")") closing
      → IsHeader (opening ∷ (ts ++ closing ∷ [])) ports []
  ports : (opening : Tok) (ss ts : List Tok) (closing : Tok) (shape : Shape) (ports : List (List ℕ)) (items : List Item)
      → Is (codes "(") opening → IsPortShape ss shape → ArePorts shape ts ports items → Is (codes ")") closing
      → IsHeader (opening ∷ (ss ++ (ts ++ closing ∷ []))) ports items

-- module = "module" name header? ";" item* "endmodule"
pub data IsModule : List Tok → Module → Type 0 where
  module_of : (word name : Tok) (hs : List Tok) (semi : Tok) (ts : List Tok) (last : Tok) (text : List ℕ)
      (ports : List (List ℕ)) (declared : List Item) (items : List (List Item))
      → Is (codes "module") word → IsName name text → IsHeader hs ports declared → Is (codes ";") semi
      → Many IsItem ts items → Is (codes "endmodule") last
      → IsModule (word ∷ name ∷ (hs ++ semi ∷ (ts ++ last ∷ [])))
      (record { at = word.at; name = text; ports = ports; items = declared ++ flat_map (λ group. group) items })

-- design = module*
pub data IsDesign : List Tok → Design → Type 0 where
  design : (ts : List Tok) (modules : List Module) → Many IsModule ts modules
      → IsDesign ts (record { modules = modules })
