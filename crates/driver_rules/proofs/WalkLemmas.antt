-- The walks that look for bits that are driven twice.
use Rattle.std.proofs.Common.{ℕ, ◌+◌, ◌<◌, ◌≡◌, ◌++◌, List, [], ◌∷◌, Option, append_assoc, append-nil, drop, flat_map, fold, get_or, length, take, refl, ap, sym, ◌∙◌}
use Rattle.std.proofs.lemmas.Grind.{flat_map-append}
use Rattle.std.proofs.lemmas.List.{map-append, take_more}
use Rattle.hierarchy.specs.Failures.{Failure, earlier}
use Rattle.vlog_tree.specs.declared.design.Design.{Design}
use Rattle.vlog_tree.specs.declared.design.Module.{Module}
use Rattle.vlog_tree.specs.declared.item.Item.{Item}
use Rattle.driver_rules.specs.declared.select.Select.{Select}
use Rattle.driver_rules.specs.Doubles.{Assigned}
use Rattle.driver_rules.specs.Driven.{assigned_by, double_in, doubles_by_item, doubles_in_group, doubles_in_groups}
use Rattle.driver_rules.specs.Groups.{groups_of, groups_shown}
use Rattle.driver_rules.specs.Selects.{assigned, shown}
use Rattle.driver_rules.proofs.ListLemmas.{after_step}

pub group_step : (m : Module) (before others : List Assigned) (group : List Select) (i : ℕ) (select : Select) → i < length group → select ≡ get_or group i select
    → (found next : Option Failure) → next ≡ fold earlier found (double_in m before (others ++ shown (take i group)) (assigned select))
    → fold earlier next (doubles_in_group m before (others ++ shown (take (i + 1) group)) (shown (drop (i + 1) group)))
    ≡ fold earlier found (doubles_in_group m before (others ++ shown (take i group)) (shown (drop i group)))
group_step m before others group =
    after_step (λ here select. double_in m before (others ++ shown here) (assigned select)) (λ here rest. doubles_in_group m before (others ++ shown here) (shown rest))
    (λ here select rest.
    ap (λ list. double_in m before (others ++ shown here) (assigned select) ++ doubles_in_group m before list (shown rest))
    (append_assoc others (shown here) (assigned select ∷ []) ∙ ap (λ list. others ++ list) (sym (map-append assigned here (select ∷ [])))))
    group

pub groups_step : (m : Module) (before : List Assigned) (groups : List (List Select)) (i : ℕ) (group : List Select) → i < length groups → group ≡ get_or groups i group
    → (found next : Option Failure) → next ≡ fold earlier found (doubles_in_group m before [] (shown group))
    → fold earlier next (doubles_in_groups m before (groups_shown (drop (i + 1) groups))) ≡ fold earlier found (doubles_in_groups m before (groups_shown (drop i groups)))
groups_step m before groups =
    after_step (λ others group. doubles_in_group m before [] (shown group)) (λ others rest. doubles_in_groups m before (groups_shown rest)) (λ others group rest. refl) groups

more : (design : Design) (m : Module) (before : List Item) (one : Item)
    → flat_map (assigned_by design m) (before ++ one ∷ []) ≡ flat_map (assigned_by design m) before ++ assigned_by design m one
more design m before one =
    flat_map-append (assigned_by design m) before (one ∷ []) ∙ ap (λ list. flat_map (assigned_by design m) before ++ list) (append-nil (assigned_by design m one))

-- all that one item more assigns
pub assigned_more : (design : Design) (m : Module) (items : List Item) (i : ℕ) (one : Item) → i < length items → one ≡ get_or items i one
    → flat_map (assigned_by design m) (take i items) ++ assigned_by design m one ≡ flat_map (assigned_by design m) (take (i + 1) items)
assigned_more design m items i one within is =
    sym (more design m (take i items) one)
    ∙ ap (flat_map (assigned_by design m)) (sym (take_more items i one within ∙ ap (λ x. take i items ++ x ∷ []) (sym is)))

pub items_step : (design : Design) (m : Module) (items : List Item) (i : ℕ) (one : Item) → i < length items → one ≡ get_or items i one
    → (found next : Option Failure) → next ≡ fold earlier found (doubles_in_groups m (flat_map (assigned_by design m) (take i items)) (groups_of design m one))
    → fold earlier next (doubles_by_item design m (flat_map (assigned_by design m) (take (i + 1) items)) (drop (i + 1) items))
    ≡ fold earlier found (doubles_by_item design m (flat_map (assigned_by design m) (take i items)) (drop i items))
items_step design m items =
    after_step (λ before one. doubles_in_groups m (flat_map (assigned_by design m) before) (groups_of design m one))
    (λ before rest. doubles_by_item design m (flat_map (assigned_by design m) before) rest)
    (λ before one rest. ap (λ list. doubles_in_groups m (flat_map (assigned_by design m) before) (groups_of design m one) ++ doubles_by_item design m list rest) (sym (more design m before one)))
    items
