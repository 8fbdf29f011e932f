-- Modules and designs that tokens spell are read.
use Rattle.std.proofs.Common.{◌≡◌, ◌≤◌, ℕ, ◌+◌, Bool, false, not, List, [], ◌∷◌, ◌++◌, length, codes, Ok, refl, sym, ap, ◌∙◌, append_assoc, append-nil, length-append, arith}
use Rattle.std.specs.List.{flat_map}
use Rattle.vlog_tokens.specs.Toks.{Tok}
use Rattle.vlog_tree.specs.declared.design.Design.{Design}
use Rattle.vlog_tree.specs.declared.design.Module.{Module}
use Rattle.vlog_tree.specs.declared.item.Item.{Item}
use Rattle.vlog_tree.specs.Spelling.Items.{IsItem}
use Rattle.vlog_tree.specs.Spelling.Modules.{IsDesign, IsModule}
use Rattle.vlog_tree.specs.Spelling.Numbers.{IsNumber}
use Rattle.vlog_tree.specs.Spelling.Parts.{Is, Many}
use Rattle.vlog_parse.specs.Gathers.{gathered_until}
use Rattle.vlog_parse.specs.Items as rule
use Rattle.vlog_parse.specs.Modules.{design, module_rule, modules}
use Rattle.vlog_numbers.specs.Values.{sees_based}
use Rattle.vlog_parse.specs.Numbers.{number}
use Rattle.vlog_parse.specs.Reads.{is_end, loop, one_more, sees}
use Rattle.vlog_parse.proofs.Gathered.{until_complete}
use Rattle.vlog_parse.proofs.HeadersComplete.{header_complete}
use Rattle.vlog_parse.proofs.ItemFronts.{item_begins, other_unseen}
use Rattle.vlog_parse.proofs.Lists.{Begins}
use Rattle.vlog_parse.proofs.Manys.{Starts, many_complete}
use Rattle.vlog_parse.proofs.Rules.{◌>>=◌, Complete, expects, found_is, sees_is, sees_other}
use Rattle.vlog_parse.proofs.Terminals.{names}

-- An item may end where no `else` follows.
abbrev pub EndsItem : List Tok → Type 0
EndsItem rest = sees (codes "else") rest ≡ false

items_begin : Begins {A = List Item} (λ ts. Ok ([], ts)) IsItem (codes "endmodule") EndsItem
items_begin front items rest s = do
  (ends, others) ← item_begins front items s
  (unseen, some) ← other_unseen (codes "endmodule") front rest ends
  (unseen, some, (other_unseen (codes "else") front rest others).0)

-- the items are no longer than the module
body_fits : (hs : List Tok) (semi : Tok) (ts : List Tok) (last word name : Tok) (depth : ℕ) → length (word ∷ name ∷ (hs ++ semi ∷ (ts ++ last ∷ []))) ≤ depth → length ts ≤ depth
body_fits hs semi ts last word name depth fits =
    let first : length (hs ++ semi ∷ (ts ++ last ∷ [])) ≡ length hs + length (semi ∷ (ts ++ last ∷ [])) = length-append hs (semi ∷ (ts ++ last ∷ [])) in
    let second : length (ts ++ last ∷ []) ≡ length ts + length (last ∷ []) = length-append ts (last ∷ []) in
    omega (arith, fits, first, second)

module_starts : Starts {A = Module} (λ ts. Ok (record { at = 0; name = []; ports = []; items = [] }, ts)) IsModule (λ ts. not (is_end ts))
module_starts _ _ rest (IsModule.module_of word name hs semi ts last text ports declared items w n h s spelled l) = (refl, omega arith)

module _ (number_complete : (front : List Tok) (bits : List Bool) (rest : List Tok) → IsNumber front bits → sees_based rest ≡ false → number (front ++ rest) ≡ Ok (bits, rest))
    (item_complete : (depth : ℕ) → Complete EndsItem depth (rule.item depth) IsItem) where
  body_read : (depth : ℕ) (declared : List Item) (ts : List Tok) (items : List (List Item)) (last : Tok) (rest : List Tok) → Many IsItem ts items → length ts ≤ depth → Is (codes "endmodule") last
      → gathered_until (codes "endmodule") (λ group. group) (rule.item depth) declared (ts ++ last ∷ rest) ≡ Ok (declared ++ flat_map (λ group. group) items, last ∷ rest)
  body_read depth declared ts items last rest spelled fits l =
      until_complete (λ group. group) (rule.item depth) IsItem EndsItem depth (item_complete depth) (codes "endmodule") items_begin declared ts items (last ∷ rest) spelled fits
      (sees_other (codes "endmodule") (codes "else") last rest l refl) (sees_is (codes "endmodule") last rest l)

  pub module_complete : (depth : ℕ) → Complete (λ _. Unit {0}) depth (module_rule depth) IsModule
  unfolding module_rule
  module_complete depth _ _ rest (IsModule.module_of word name hs semi ts last text ports declared items w n h s spelled l) fits ends =
      let inner : (ts ++ last ∷ []) ++ rest ≡ ts ++ last ∷ rest = append_assoc ts (last ∷ []) rest in
      let whole : (hs ++ semi ∷ (ts ++ last ∷ [])) ++ rest ≡ hs ++ semi ∷ (ts ++ last ∷ rest) = append_assoc hs (semi ∷ (ts ++ last ∷ [])) rest ∙ ap (λ (xs : List Tok). hs ++ semi ∷ xs) inner in
      let headed = header_complete number_complete hs ports declared (semi ∷ (ts ++ last ∷ rest)) h (sees_other (codes ";") (codes "(") semi (ts ++ last ∷ rest) s refl) in
      let body = body_read depth declared ts items last rest spelled (body_fits hs semi ts last word name depth fits) l in
      rw (
        whole,
        expects (codes "module") word (name ∷ (hs ++ semi ∷ (ts ++ last ∷ rest))) w,
        names name text (hs ++ semi ∷ (ts ++ last ∷ rest)) n,
        headed,
        expects (codes ";") semi (ts ++ last ∷ rest) s,
        body,
        expects (codes "endmodule") last rest l,
      ) refl

  pub design_complete : (ts : List Tok) (found : Design) → IsDesign ts found → design (length ts) ts ≡ Ok (found, [])
  unfolding design modules
  design_complete _ _ (IsDesign.design ts listed spelled) =
      let read : loop (λ us. not (is_end us)) (one_more (module_rule (length ts))) [] (ts ++ []) ≡ Ok (listed, []) =
      many_complete (module_rule (length ts)) IsModule (λ us. not (is_end us)) (length ts) (module_complete (length ts)) module_starts ts listed [] spelled (omega arith) refl in
      let all : loop (λ us. not (is_end us)) (one_more (module_rule (length ts))) [] ts ≡ Ok (listed, []) = rw (append-nil ts) at read in
      rw all refl

  -- Tokens spell one design at most, since the reader is a function.
  pub one_design_at_most : (ts : List Tok) (one other : Design) → IsDesign ts one → IsDesign ts other → one ≡ other
  one_design_at_most ts one other a b = sym (found_is (sym (design_complete ts one a) ∙ design_complete ts other b))
