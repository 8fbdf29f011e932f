-- How an item begins: with a token that is neither `endmodule` nor `else`.
use Rattle.std.proofs.Common.{◌≡◌, ◌<◌, ℕ, Bool, true, false, List, [], ◌∷◌, ◌++◌, length, codes, Some, None, bytes_eq, refl, sym, ap, ◌∙◌, subst, arith, Option}
use Rattle.std.proofs.lemmas.Slice.Eq.{bytes_eq-Decides}
use Rattle.vlog_tokens.specs.Toks.{Tok}
use Rattle.vlog_tree.specs.declared.item.Item.{Item}
use Rattle.vlog_tree.specs.Spelling.Declarations.{IsPortShape, Shape, direction}
use Rattle.vlog_tree.specs.Spelling.Gates.{input_gate, output_gate}
use Rattle.vlog_tree.specs.Spelling.Items.{IsItem}
use Rattle.vlog_tree.specs.Spelling.Parts.{terminal}
use Rattle.vlog_parse.specs.Reads.{sees}
use Rattle.vlog_parse.proofs.Terminals.{name_free}

-- It begins with a token, and that is not this reserved word.
abbrev pub BeginsOther : List ℕ → List Tok → Type 0
BeginsOther text front = (word : Tok) × (more : List Tok) × (front ≡ word ∷ more) × (bytes_eq (terminal word) text ≡ false)

-- A word that a table has is another than one that it doesn't have.
pub in_table : {A : Type 0} (table : List ℕ → Option A) (found text : List ℕ) (a : A) → table found ≡ Some a → table text ≡ None → bytes_eq found text ≡ false
in_table table found text a e none = by (bytes_eq found text) refl
  where
    by : (b : Bool) → bytes_eq found text ≡ b → b ≡ false
    by true h = let same : found ≡ text = (bytes_eq-Decides found text).0 h in (let no : Some a ≡ None = sym e ∙ ap table same ∙ none in cc)
    by false h = refl

other_than : (text found other : List ℕ) → found ≡ text → bytes_eq text other ≡ false → bytes_eq found other ≡ false
other_than text found other same differs = ap (λ (t : List ℕ). bytes_eq t other) same ∙ differs

shape_front : (text : List ℕ) → direction text ≡ None → (ss : List Tok) (shape : Shape) (rest : List Tok) → IsPortShape ss shape → BeginsOther text (ss ++ rest)
shape_front text none _ _ rest (IsPortShape.port_shape word ks rs dir kind range d k r) = (word, (ks ++ rs) ++ rest, refl, in_table direction (terminal word) text dir d none)

module _ (text : List ℕ) (none_of : (direction text ≡ None) × (input_gate text ≡ None) × (output_gate text ≡ None))
    (differs : (bytes_eq (codes "wire") text ≡ false) × (bytes_eq (codes "reg") text ≡ false) × (bytes_eq (codes "assign") text ≡ false) × (bytes_eq (codes "always") text ≡ false) × (bytes_eq (codes "initial") text ≡ false) × (bytes_eq [] text ≡ false)) where
  begins_other : (front : List Tok) (items : List Item) → IsItem front items → BeginsOther text front
  begins_other _ _ (IsItem.port ss ns semi shape names s spelled h) = shape_front text none_of.0 ss shape (ns ++ semi ∷ []) s
  begins_other _ _ (IsItem.wire word rs ds ns semi range names is r d spelled h) = (word, rs ++ (ds ++ (ns ++ semi ∷ [])), refl, other_than (codes "wire") (terminal word) text is differs.0)
  begins_other _ _ (IsItem.reg word rs ns semi range names is r spelled h) = (word, rs ++ (ns ++ semi ∷ []), refl, other_than (codes "reg") (terminal word) text is differs.1)
  begins_other _ _ (IsItem.assign word ds ts semi assigns is d spelled h) = (word, ds ++ (ts ++ semi ∷ []), refl, other_than (codes "assign") (terminal word) text is differs.2)
  begins_other _ _ (IsItem.input_gates word ds ts semi kind gates is d spelled h) = (word, ds ++ (ts ++ semi ∷ []), refl, in_table input_gate (terminal word) text kind is none_of.1)
  begins_other _ _ (IsItem.output_gates word ds ts semi kind gates is d spelled h) = (word, ds ++ (ts ++ semi ∷ []), refl, in_table output_gate (terminal word) text kind is none_of.2)
  begins_other _ _ (IsItem.instances word ts semi definition instances is spelled h) = (word, ts ++ semi ∷ [], refl, other_than [] (terminal word) text (name_free word definition is) differs.5)
  begins_other _ _ (IsItem.always word event opening edge name closing ts clock body is a b c d e s) = (word, event ∷ opening ∷ edge ∷ name ∷ closing ∷ ts, refl, other_than (codes "always") (terminal word) text is differs.3)
  begins_other _ _ (IsItem.initial word name equals ts semi text1 bits is n e b h) = (word, name ∷ equals ∷ (ts ++ semi ∷ []), refl, other_than (codes "initial") (terminal word) text is differs.4)

pub item_begins : (front : List Tok) (items : List Item) → IsItem front items → BeginsOther (codes "endmodule") front × BeginsOther (codes "else") front
item_begins front items h = (
  begins_other (codes "endmodule") (refl, refl, refl) (refl, refl, refl, refl, refl, refl) front items h,
  begins_other (codes "else") (refl, refl, refl) (refl, refl, refl, refl, refl, refl) front items h,
)

-- what of this stands in front of other tokens too
pub other_unseen : (text : List ℕ) (front rest : List Tok) → BeginsOther text front → (sees text (front ++ rest) ≡ false) × (0 < length front)
other_unseen text front rest (word, more, is, differs) = (ap (λ (xs : List Tok). sees text (xs ++ rest)) is ∙ differs, subst (λ (xs : List Tok). 0 < length xs) (sym is) (omega arith))
