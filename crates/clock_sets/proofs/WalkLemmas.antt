-- What is gathered in loops over items, connections and modules.
use Rattle.std.proofs.Common.{◌≡◌, ℕ, zero, suc, ◌+◌, ◌<◌, ◌≤◌, Bool, true, false, List, [], ◌∷◌, ◌++◌, length, get_or, drop, refl, sym, ◌∙◌, ap, arith, Option, Some, None, cond, filter, flat_map, fold}
use Rattle.std.specs.List.{cons_option, enumerate_from, filter_map}
use Rattle.std.specs.Option.{option_map, option_to_list}
use Rattle.std.proofs.lemmas.List.{append-nil, append_assoc, drop_all, drop_more}
use Rattle.std.proofs.lemmas.List.Sums.{fold-append}
use Rattle.vlog_tree.specs.declared.design.Design.{Design}
use Rattle.vlog_tree.specs.declared.design.Module.{Module}
use Rattle.vlog_tree.specs.declared.item.Item.{Item}
use Rattle.vlog_tree.specs.declared.item.Item.TheVariants.{Instance}
use Rattle.vlog_tree.specs.declared.item.Link.{Link}
use Rattle.vlog_tree.specs.Meaning.Instances.{connection_of, module_named}
use Rattle.vlog_tree.specs.Meaning.Uses.{Text}
use Rattle.hierarchy.specs.Graph.{name_at, place_among}
use Rattle.hierarchy.proofs.DesignLemmas.{name_is, place_within}
use Rattle.hierarchy.specs.Reach.{reaches}
use Rattle.clock_sets.specs.Passing.{Pass, child_passes, connection_pass, passes_in}
use Rattle.clock_sets.specs.Steps.{instance_of, link_passes}

-- ---- one after the other is the whole list

with_option : {X : Type 0} (o : Option X) (xs : List X) → option_to_list o ++ xs ≡ cons_option o xs
with_option None xs = refl
with_option (Some x) xs = refl

pub gathered : {X Y : Type 0} (f : X → Option Y) (so_far : List Y) (xs : List X) → fold (λ list x. list ++ option_to_list (f x)) so_far xs ≡ so_far ++ filter_map f xs
gathered f so_far [] = sym (append-nil so_far)
gathered f so_far (x ∷ xs) =
    gathered f (so_far ++ option_to_list (f x)) xs
    ∙ append_assoc so_far (option_to_list (f x)) (filter_map f xs)
    ∙ ap (λ list. so_far ++ list) (with_option (f x) (filter_map f xs))

-- ---- connections

pub links_turn : {X : Type 0} (add : X → Pass → X) (f : ℕ × Link → List Pass) (links : List Link) (place : ℕ) (link : Link) (so_far after : X) → place < length links → link ≡ get_or links place link → after ≡ fold add so_far (f (place, link))
    → fold add after (flat_map f (enumerate_from (place + 1) (drop (place + 1) links))) ≡ fold add so_far (flat_map f (enumerate_from place (drop place links)))
links_turn add f links place link so_far after h is added =
    ap (λ x. fold add x (flat_map f (enumerate_from (place + 1) (drop (place + 1) links)))) added
    ∙ sym (fold-append add so_far (f (place, link)) (flat_map f (enumerate_from (place + 1) (drop (place + 1) links))))
    ∙ sym (ap (λ list. fold add so_far (flat_map f (enumerate_from place list))) (drop_more links place link h ∙ ap (λ l. l ∷ drop (place + 1) links) (sym is)))

flat_gathered : {X Y Z : Type 0} (f : Y → List Z) (g : X → Option Y) (xs : List X) → flat_map f (filter_map g xs) ≡ flat_map (λ x. flat_map f (option_to_list (g x))) xs
flat_gathered f g [] = refl
flat_gathered f g (x ∷ xs) = by (g x) ∙ ap (λ list. flat_map f (option_to_list (g x)) ++ list) (flat_gathered f g xs)
  where
    by : (o : Option _) → flat_map f (cons_option o (filter_map g xs)) ≡ flat_map f (option_to_list o) ++ flat_map f (filter_map g xs)
    by None = refl
    by (Some y) = ap (λ list. list ++ flat_map f (filter_map g xs)) (sym (append-nil (f y)))

-- the passes of an instance, by its module and its connections
pub instance_passes : (m inner : Module) (name : Text) (links : List Link) → flat_map (link_passes m inner) (enumerate_from 0 links) ≡ child_passes m (record { name = name; definition = inner; links = links }) ++ []
instance_passes m inner name links =
    sym (flat_gathered (connection_pass m (instance_of inner [])) (connection_of inner) (enumerate_from 0 links))
    ∙ sym (append-nil (child_passes m (record { name = name; definition = inner; links = links })))

pub item_passes : (design : Design) (m inner : Module) (at : ℕ) (module_name name : Text) (links list : List Link) (i : Item) → list ≡ links → Some inner ≡ module_named design module_name → i ≡ Instance at module_name name links
    → flat_map (link_passes m inner) (enumerate_from 0 list) ≡ passes_in design m i
item_passes design m inner at module_name name links list i same found is =
    ap (λ ls. flat_map (link_passes m inner) (enumerate_from 0 ls)) same
    ∙ instance_passes m inner name links
    ∙ ap (λ o. flat_map (child_passes m) (option_to_list (option_map (λ n. record { name = name; definition = n; links = links }) o))) found
    ∙ ap (passes_in design m) (sym is)

-- ---- modules

pub name_there : (modules : List Module) (place : ℕ) (m : Module) → place < length modules → m ≡ get_or modules place m → name_at modules place ≡ m.name
name_there [] place m within is = absurd (omega arith)
name_there (first ∷ modules) zero m within is = ap (λ (n : Module). n.name) (sym is)
name_there (first ∷ modules) (suc place) m within is = name_there modules place m (omega arith) is

next_reached : {X Y : Type 0} (add : X → Y → X) (f : Module → List Y) (p : Module → Bool) (m : Module) (modules : List Module) (so_far : X) → fold add (fold add so_far (cond (p m) (f m) [])) (flat_map f (filter p modules)) ≡ fold add so_far (flat_map f (filter p (m ∷ modules)))
next_reached add f p m modules so_far = by (p m)
  where
    by : (b : Bool) → fold add (fold add so_far (cond b (f m) [])) (flat_map f (filter p modules)) ≡ fold add so_far (flat_map f (cond b (m ∷ filter p modules) (filter p modules)))
    by true = sym (fold-append add so_far (f m) (flat_map f (filter p modules)))
    by false = refl

-- the next module, if it is reached
pub reached_turn : {X Y : Type 0} (add : X → Y → X) (f : Module → List Y) (design : Design) (top : Text) (place : ℕ) (modules : List Module) (m : Module) (so_far after : X) → modules ≡ design.modules → place < length modules → m ≡ get_or modules place m
    → after ≡ fold add so_far (cond (reaches design top (name_at design.modules place)) (f m) [])
    → fold add after (flat_map f (filter (λ n. reaches design top n.name) (drop (place + 1) design.modules))) ≡ fold add so_far (flat_map f (filter (λ n. reaches design top n.name) (drop place design.modules)))
reached_turn add f design top place modules m so_far after same h is added =
    let name : name_at design.modules place ≡ m.name = ap (λ ms. name_at ms place) (sym same) ∙ name_there modules place m h is in
    let next : drop place design.modules ≡ m ∷ drop (place + 1) design.modules =
    ap (drop place) (sym same) ∙ drop_more modules place m h ∙ ap (λ n. n ∷ drop (place + 1) modules) (sym is) ∙ ap (λ ms. m ∷ drop (place + 1) ms) same in
    ap (λ x. fold add x (flat_map f (filter (λ n. reaches design top n.name) (drop (place + 1) design.modules))))
    (added ∙ ap (λ text. fold add so_far (cond (reaches design top text) (f m) [])) name)
    ∙ next_reached add f (λ n. reaches design top n.name) m (drop (place + 1) design.modules) so_far
    ∙ ap (λ ms. fold add so_far (flat_map f (filter (λ n. reaches design top n.name) ms))) (sym next)

-- at the end
pub reached_end : {X Y : Type 0} (add : X → Y → X) (f : Module → List Y) (p : Module → Bool) (place : ℕ) (items modules : List Module) (so_far : X) → items ≡ modules → length items ≤ place
    → so_far ≡ fold add so_far (flat_map f (filter p (drop place modules)))
reached_end add f p place items modules so_far same h =
    sym (ap (λ ms. fold add so_far (flat_map f (filter p ms))) (ap (drop place) (sym same) ∙ drop_all place items h))

-- the module at the place of a name
pub named_so : (modules : List Module) (name : Text) (place : ℕ) (m : Module) → place_among modules name ≡ Some place → m ≡ get_or modules place m → m.name ≡ name
named_so modules name place m found is = sym (name_there modules place m (place_within modules name place found) is) ∙ name_is modules name place found
