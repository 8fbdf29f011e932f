-- What is wrong with the connections of an instance.
use Rattle.std.specs.Prelude.{◌≡◌, ℕ, List, [], ◌∷◌, ◌++◌, Bool, true, false, Option, None, Some, cond, filter, filter_map, flat_map, refl}
use Rattle.std.specs.List.{cons_option, enumerate_from}
use Rattle.std.specs.Option.{option_map, option_to_list}
use Rattle.std.proofs.Common.{ap, sym, ◌∙◌}
use Rattle.std.proofs.lemmas.List.{append-nil}
use Rattle.hierarchy.specs.Failures.{Failure}
use Rattle.vlog_tree.specs.declared.design.Design.{Design}
use Rattle.vlog_tree.specs.declared.design.Module.{Module}
use Rattle.vlog_tree.specs.declared.item.Item.{Item}
use Rattle.vlog_tree.specs.declared.item.Item.TheVariants as item
use Rattle.vlog_tree.specs.declared.item.Link.{Link}
use Rattle.vlog_tree.specs.Meaning.Drivers.{outputs_of}
use Rattle.vlog_tree.specs.Meaning.Instances.{Child, connection_of, module_named}
use Rattle.vlog_tree.specs.Meaning.Names.{is_output}
use Rattle.vlog_tree.specs.Meaning.Uses.{Text}
use Rattle.target_rules.specs.Judged.{bad_link}
use Rattle.target_rules.specs.Targets.{bad_output, bad_targets_in}

each : {X Y Z : Type 0} (judge : Y → List Z) (test : Y → Bool) (value : X → Option Y) (xs : List X)
    → flat_map judge (filter test (filter_map value xs)) ≡ flat_map (λ x. flat_map judge (filter test (option_to_list (value x)))) xs
each judge test value [] = refl
each {Y = Y} {Z = Z} judge test value (x ∷ xs) = by (value x) (each judge test value xs)
  where
    left : List Y
    left = filter_map value xs

    rest : List Z
    rest = flat_map (λ x. flat_map judge (filter test (option_to_list (value x)))) xs

    kept : (y : Y) (b : Bool) → flat_map judge (filter test left) ≡ rest
        → flat_map judge (cond b (y ∷ filter test left) (filter test left)) ≡ flat_map judge (cond b (y ∷ []) []) ++ rest
    kept y true others = ap (λ zs. judge y ++ zs) others ∙ ap (λ zs. zs ++ rest) (sym (append-nil (judge y)))
    kept y false others = others

    by : (found : Option Y) → flat_map judge (filter test left) ≡ rest
        → flat_map judge (filter test (cons_option found left)) ≡ flat_map judge (filter test (option_to_list found)) ++ rest
    by None others = others
    by (Some y) others = kept y (test y) others

pub instance_noted : (design : Design) (m inner : Module) (i : Item) (at : ℕ) (module_name name : Text) (links : List Link)
    → i ≡ item.Instance at module_name name links → module_named design module_name ≡ Some inner
    → bad_targets_in design m i ≡ flat_map (bad_link m inner) (enumerate_from 0 links)
instance_noted design m inner i at module_name name links is named =
    ap (bad_targets_in design m) is
    ∙ (ap (λ found. flat_map bad_child (option_to_list (option_map child found))) named
    ∙ (append-nil (bad_child (child inner))
    ∙ each (bad_output m) (λ connection. is_output inner connection.port) (connection_of inner) (enumerate_from 0 links)))
  where
    child : Module → Child
    child definition = record { name = name; definition = definition; links = links }

    bad_child : Child → List Failure
    bad_child child = flat_map (bad_output m) (outputs_of child)
