-- The ports that connections name, as they are kept.
use Rattle.std.proofs.Common.{ℕ, ◌+◌, ◌<◌, ◌≡◌, ◌++◌, List, [], ◌∷◌, Bool, true, false, ◌||◌, not, cond, Option, Some, None, drop, fold, get_or, length, take, refl, ap, sym, ◌∙◌}
use Rattle.std.specs.List.{list_any}
use Rattle.std.specs.Option.{option_to_list}
use Rattle.std.specs.Str.{bytes_eq}
use Rattle.std.proofs.lemmas.List.{take_more}
use Rattle.std.proofs.lemmas.List.Folds.{list_any-append}
use Rattle.hierarchy.specs.Failures.{Failure, earlier, failure}
use Rattle.vlog_tree.specs.declared.design.Module.{Module}
use Rattle.vlog_tree.specs.declared.item.Link.{Link}
use Rattle.vlog_tree.specs.Meaning.Uses.{Text}
use Rattle.name_rules.specs.Declarations.{is_among}
use Rattle.name_rules.specs.Ports.{bad_by, is_free, linked_after, named_after, port_state}
use Rattle.name_rules.specs.Uses.{bad_link, bad_links_after, names_port}
use Rattle.name_rules.proofs.ListLemmas.{after_step}
use Rattle.name_rules.proofs.NameLemmas.{or_false, same_bytes}

free_or_bad : (is_port is_named : Bool) (bad : List Failure)
    → cond (is_free (cond is_port (Some is_named) None)) [] bad ≡ cond (not is_port || is_named) bad []
free_or_bad true true bad = refl
free_or_bad true false bad = refl
free_or_bad false is_named bad = refl

-- what is wrong with a connection is told by what is kept
bad_by_kept : (m inner : Module) (before : List Link) (known : Text → Option Bool) (link : Link)
    → ((name : Text) → known name ≡ port_state inner.ports before name) → (port : Option Text)
    → bad_by m known link port ≡ bad_link m inner before link port
bad_by_kept m inner before known link kept None = refl
bad_by_kept m inner before known link kept (Some port) =
    ap (λ state. cond (is_free state) [] (failure link.at m.name port ∷ [])) (kept port)
    ∙ free_or_bad (is_among inner.ports port) (list_any (names_port port) before) (failure link.at m.name port ∷ [])

-- one name more among those that are named
name_more : (ports : List Text) (before : List Link) (port name : Text)
    → named_after (port_state ports before) port name
    ≡ cond (is_among ports name) (Some (list_any (names_port name) before || (bytes_eq port name || false))) None
name_more ports before port name = by (bytes_eq port name) refl
  where
    free : (is_port is_named : Bool) → cond (is_free (cond is_port (Some is_named) None)) (Some true) (cond is_port (Some is_named) None)
        ≡ cond is_port (Some (is_named || true)) None
    free true true = refl
    free true false = refl
    free false is_named = refl

    same : (b : Bool) (known : Option Bool) → cond b known known ≡ known
    same true known = refl
    same false known = refl

    by : (b : Bool) → bytes_eq port name ≡ b
        → cond (is_free (port_state ports before port)) (cond b (Some true) (port_state ports before name)) (port_state ports before name)
        ≡ cond (is_among ports name) (Some (list_any (names_port name) before || (b || false))) None
    by true is =
        ap (λ text. cond (is_free (port_state ports before text)) (Some true) (port_state ports before name)) (same_bytes port name is)
        ∙ free (is_among ports name) (list_any (names_port name) before)
    by false is =
        same (is_free (port_state ports before port)) (port_state ports before name)
        ∙ ap (λ is_named. cond (is_among ports name) (Some is_named) None) (sym (or_false (list_any (names_port name) before)))

kept_more : (ports : List Text) (before : List Link) (link : Link) (name : Text)
    → linked_after (port_state ports before) link.port name ≡ port_state ports (before ++ link ∷ []) name
kept_more ports before link name =
    by link.port
    ∙ ap (λ is_named. cond (is_among ports name) (Some is_named) None) (sym (list_any-append (names_port name) before (link ∷ [])))
  where
    by : (port : Option Text) → linked_after (port_state ports before) port name
        ≡ cond (is_among ports name) (Some (list_any (names_port name) before || (list_any (λ other. bytes_eq other name) (option_to_list port) || false))) None
    by None = ap (λ is_named. cond (is_among ports name) (Some is_named) None) (sym (or_false (list_any (names_port name) before)))
    by (Some port) =
        name_more ports before port name
        ∙ ap (λ b. cond (is_among ports name) (Some (list_any (names_port name) before || b)) None) (sym (or_false (bytes_eq port name || false)))

-- one connection more
pub links_step : (m inner : Module) (links : List Link) (i : ℕ) (link : Link) → i < length links → link ≡ get_or links i link
    → (known : Text → Option Bool) → ((name : Text) → known name ≡ port_state inner.ports (take i links) name)
    → (found next : Option Failure) → next ≡ fold earlier found (bad_by m known link link.port)
    → fold earlier next (bad_links_after m inner (take (i + 1) links) (drop (i + 1) links)) ≡ fold earlier found (bad_links_after m inner (take i links) (drop i links))
links_step m inner links i link within is known kept found next noted =
    after_step (λ before link. bad_link m inner before link link.port) (bad_links_after m inner) (λ before link rest. refl)
    links i link within is found next (noted ∙ ap (fold earlier found) (bad_by_kept m inner (take i links) known link kept link.port))

linked_same : (known other : Text → Option Bool) → ((name : Text) → known name ≡ other name) → (port : Option Text) (name : Text)
    → linked_after known port name ≡ linked_after other port name
linked_same known other same None name = same name
linked_same known other same (Some port) name =
    ap (λ state. cond (is_free state) (cond (bytes_eq port name) (Some true) (known name)) (known name)) (same port)
    ∙ ap (λ state. cond (is_free (other port)) (cond (bytes_eq port name) (Some true) state) state) (same name)

pub kept_step : (ports : List Text) (links : List Link) (i : ℕ) (link : Link) → i < length links → link ≡ get_or links i link
    → (known next : Text → Option Bool) → ((name : Text) → known name ≡ port_state ports (take i links) name)
    → ((name : Text) → next name ≡ linked_after known link.port name)
    → (name : Text) → next name ≡ port_state ports (take (i + 1) links) name
kept_step ports links i link within is known next kept after name =
    after name ∙ linked_same known (port_state ports (take i links)) kept link.port name ∙ kept_more ports (take i links) link name
    ∙ ap (λ before. port_state ports before name) (sym (take_more links i link within ∙ ap (λ other. take i links ++ other ∷ []) (sym is)))
