-- The law on statements, and what the items of a module come to.
use Rattle.std.specs.Prelude.{◌≡◌, List, [], ◌∷◌, Bool, true, Option, map, refl}
use Rattle.std.specs.List.{cons_option, list_all}
use Rattle.std.proofs.Common.{sym, subst, ◌∙◌}
use Rattle.std.proofs.lemmas.Bool.{and_from, and_parts}
use Rattle.std.proofs.lemmas.List.Folds.{fold-map, list_all-map}
use Rattle.flat_net.specs.Values.{edge_value}
use Rattle.vlog_tree.specs.declared.design.Design.{Design}
use Rattle.vlog_tree.specs.declared.design.Module.{Module}
use Rattle.vlog_tree.specs.declared.item.Item.{Item}
use Rattle.vlog_tree.specs.declared.item.Item.TheVariants as item
use Rattle.vlog_tree.specs.declared.stmt.Stmt.{Stmt}
use Rattle.vlog_tree.specs.Meaning.Expressions.{Names}
use Rattle.vlog_tree.specs.Meaning.Lefts.{Bit}
use Rattle.vlog_tree.specs.Meaning.Step.{after_item, after_statement}
use Rattle.lowering.specs.Expressions.{Wires}
use Rattle.lowering.specs.Meaning.{IsAbove}
use Rattle.design_laws.specs.Sound.{each, item_is_sound, stmt_is_sound}
use Rattle.processes.specs.Means.{MeansOf, after_all, after_items, bodies, body_of, conditions_known}
use Rattle.processes.specs.Statements.{in_order, process_of}
use Rattle.processes.proofs.StatementLemmas.{means, row_means}

-- ---- statements

pub statement_means : (m : Module) (names : Names) (wires : Wires) (stmt : Stmt) → stmt_is_sound m stmt ≡ true
    → conditions_known m names stmt ≡ true
    → MeansOf m names wires (process_of m wires stmt).change (λ bit. after_statement m names bit stmt)
statement_means m names wires stmt sound known state row read before next none named holds bit old register above =
    (means m names wires state row read none named stmt sound known).gives before next holds bit old register above

each_of : {X : Type 0} (test : X → Bool) (xs : List X) → list_all test xs ≡ true → each (map test xs) ≡ true
each_of test xs all = list_all-map (λ (passes : Bool). passes) test xs ∙ all

pub statements_mean : (m : Module) (names : Names) (wires : Wires) (body : List Stmt) → list_all (stmt_is_sound m) body ≡ true
    → list_all (conditions_known m names) body ≡ true
    → MeansOf m names wires (in_order (map (process_of m wires) body)) (after_all m names body)
statements_mean m names wires body sound known state row read before next none named holds bit old register above =
    subst (λ value. IsAbove value (edge_value read ((in_order (map (process_of m wires) body) before next).registers bit)))
    (fold-map (λ (value : Option Bool) change. change value) (after_statement m names bit) old body)
    ((row_means m names wires state row read none named body (each_of (stmt_is_sound m) body sound)
    (each_of (conditions_known m names) body known)).gives before next holds bit old register above)

-- ---- items

module _ (design : Design) (m : Module) where
  sound_body : (one : Item) (rest : List Stmt) → item_is_sound design m one ≡ true → list_all (stmt_is_sound m) rest ≡ true
      → list_all (stmt_is_sound m) (cons_option (body_of one) rest) ≡ true
  sound_body (item.Decl at dir kind range name) rest sound all = all
  sound_body (item.Assign at left right) rest sound all = all
  sound_body (item.Gate at kind name outs ins) rest sound all = all
  sound_body (item.Instance at inner name links) rest sound all = all
  sound_body (item.Always at clock body) rest sound all = and_from (stmt_is_sound m body) (list_all (stmt_is_sound m) rest) sound all
  sound_body (item.Initial at name value) rest sound all = all

  sound_bodies : (items : List Item) → list_all (item_is_sound design m) items ≡ true → list_all (stmt_is_sound m) (bodies items) ≡ true
  sound_bodies [] sound = refl
  sound_bodies (one ∷ items) sound =
      let parts = and_parts (item_is_sound design m one) (list_all (item_is_sound design m) items) sound in
      sound_body one (bodies items) parts.0 (sound_bodies items parts.1)

module _ (m : Module) (names : Names) (bit : Bit) where
  item_step : (one : Item) (rest : List Stmt) (old : Option Bool)
      → after_all m names rest bit (after_item m names bit old one) ≡ after_all m names (cons_option (body_of one) rest) bit old
  item_step (item.Decl at dir kind range name) rest old = refl
  item_step (item.Assign at left right) rest old = refl
  item_step (item.Gate at kind name outs ins) rest old = refl
  item_step (item.Instance at inner name links) rest old = refl
  item_step (item.Always at clock body) rest old = refl
  item_step (item.Initial at name value) rest old = refl

  -- Of the items only the bodies count.
  items_are : (items : List Item) (old : Option Bool) → after_items m names items bit old ≡ after_all m names (bodies items) bit old
  items_are [] old = refl
  items_are (one ∷ items) old = items_are items (after_item m names bit old one) ∙ item_step one (bodies items) old

pub items_mean : (design : Design) (m : Module) (names : Names) (wires : Wires) (items : List Item)
    → list_all (item_is_sound design m) items ≡ true → list_all (conditions_known m names) (bodies items) ≡ true
    → MeansOf m names wires (in_order (map (process_of m wires) (bodies items))) (after_items m names items)
items_mean design m names wires items sound known state row read before next none named holds bit old register above =
    subst (λ value. IsAbove value (edge_value read ((in_order (map (process_of m wires) (bodies items)) before next).registers bit)))
    (sym (items_are m names bit items old))
    (statements_mean m names wires (bodies items) (sound_bodies design m items sound) known state row read before next none named holds
    bit old register above)
