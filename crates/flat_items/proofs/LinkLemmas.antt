-- The connections of a child.
use Rattle.std.proofs.Common.{◌≡◌, ◌+◌, ◌≤◌, ℕ, List, [], Option, None, Some, ap, drop, length, option_map, slice_get, subst, sym, ◌∙◌}
use Rattle.std.specs.List.{enumerate_from}
use Rattle.std.specs.Option.{option_and_then, option_to_list}
use Rattle.std.proofs.lemmas.List.{at_drop_all}
use Rattle.flat_design.specs.Items.{Giving, connection_given, each, link_given}
use Rattle.flat_items.specs.Carried.{Carried, CarriesTo}
use Rattle.flat_items.specs.Linked.{AreLinked, Links, LinksTo, connection, to_given}
use Rattle.flat_items.proofs.CarryLemmas.{Yet, all_left, alone_carried, first_fails, none_left, nothing_carried, one_turn, turn_fails}
use Rattle.flat_net.specs.declared.edge.Edge.{Edge}
use Rattle.flat_net.specs.declared.fault.FlatFault.{FlatFault}
use Rattle.frames.specs.Framed.{Framed}
use Rattle.lowering.specs.Limits.{Added}
use Rattle.lowering.proofs.ListLemmas.{next_found}
use Rattle.vlog_tree.specs.declared.expr.Expr.{Expr}
use Rattle.vlog_tree.specs.declared.item.Link.{Link}
use Rattle.vlog_tree.specs.Meaning.Instances.{Child, Connection, Instance, connection_of, port_of}
use Rattle.vlog_tree.specs.Meaning.Setting.{Setting}
use Rattle.vlog_tree.specs.Meaning.Uses.{Text}

module _ (frame inner : Framed) where
  -- ---- what is connected to a port

  pub some_to : (port : Text) (e : Option Expr) (there : Expr) → e ≡ Some there → (start end : Added) (old new : List (Option Edge))
      → Links frame inner (λ setting instance child. connection_given setting instance child (connection port there)) start end old new
      → Links frame inner (to_given port e) start end old new
  some_to port e there is start end old new links setting instance child linked was =
      subst (λ (e : Option Expr). Carried setting instance.definition (to_given port e setting instance child) start end old new was was)
      (sym is)
      (alone_carried setting instance.definition (connection_given setting instance child) (connection port there) start end old new was was
      (links setting instance child linked was))

  pub some_fails : (port : Text) (e : Option Expr) (there : Expr) → e ≡ Some there → (start : Added) (fault : FlatFault)
      → LinksTo frame inner (λ setting instance child. connection_given setting instance child (connection port there)) start fault
      → LinksTo frame inner (to_given port e) start fault
  some_fails port e there is start fault links setting instance child linked was =
      subst (λ (e : Option Expr). CarriesTo instance.definition (to_given port e setting instance child) start was fault)
      (sym is)
      (first_fails setting instance.definition (connection_given setting instance child) (connection port there) [] start was fault
      (links setting instance child linked was))

  pub none_to : (port : Text) (e : Option Expr) → e ≡ None → (start : Added) (old : List (Option Edge))
      → Links frame inner (to_given port e) start start old old
  none_to port e is start old setting instance child linked was =
      subst (λ (e : Option Expr). Carried setting instance.definition (to_given port e setting instance child) start start old old was was)
      (sym is) (nothing_carried setting instance.definition start old was)

  -- ---- one link

  module _ (place : ℕ) (link : Link) where
    -- of a port that it leads to, or of none
    abbrev by_port : Option Text → Option Connection
    by_port port = option_and_then (λ port. option_map (connection port) link.expr) port

    port_is : (setting : Setting) (instance : Instance) (child : Child) → AreLinked setting instance child frame inner
        → (port : Option Text) → port ≡ port_of inner.placing.definition (place, link)
        → by_port port ≡ connection_of child.definition (place, link)
    port_is setting instance child linked port is = ap by_port (is ∙ (λ j. port_of (linked.inner_is.definition j) (place, link)))

    pub link_to : (port : Text) → Some port ≡ port_of inner.placing.definition (place, link) → (start end : Added) (old new : List (Option Edge))
        → Links frame inner (to_given port link.expr) start end old new
        → Links frame inner (λ setting instance child. link_given setting instance child (place, link)) start end old new
    link_to port is start end old new links setting instance child linked was =
        subst (λ (to : Option Connection). Carried setting instance.definition
        (each (connection_given setting instance child) (option_to_list to)) start end old new was was)
        (port_is setting instance child linked (Some port) is) (links setting instance child linked was)

    pub link_fails : (port : Text) → Some port ≡ port_of inner.placing.definition (place, link) → (start : Added) (fault : FlatFault)
        → LinksTo frame inner (to_given port link.expr) start fault
        → LinksTo frame inner (λ setting instance child. link_given setting instance child (place, link)) start fault
    link_fails port is start fault links setting instance child linked was =
        subst (λ (to : Option Connection). CarriesTo instance.definition
        (each (connection_given setting instance child) (option_to_list to)) start was fault)
        (port_is setting instance child linked (Some port) is) (links setting instance child linked was)

    pub no_port : None ≡ port_of inner.placing.definition (place, link) → (start : Added) (old : List (Option Edge))
        → Links frame inner (λ setting instance child. link_given setting instance child (place, link)) start start old old
    no_port is start old setting instance child linked was =
        subst (λ (to : Option Connection). Carried setting instance.definition
        (each (connection_given setting instance child) (option_to_list to)) start start old old was was)
        (port_is setting instance child linked None is) (nothing_carried setting instance.definition start old was)

  -- ---- one after another

  module _ (links : List Link) where
    abbrev whole_of : Setting → Instance → Child → Giving
    whole_of setting instance child = each (link_given setting instance child) (enumerate_from 0 links)

    -- what is given from a place on
    abbrev from_place : ℕ → List Link → Setting → Instance → Child → Giving
    from_place i left setting instance child = each (link_given setting instance child) (enumerate_from i left)

    abbrev pub LinksLeft : ℕ → Added → Added → List (Option Edge) → List (Option Edge) → Type 0
    LinksLeft i here start given old =
        (setting : Setting) (instance : Instance) (child : Child) → AreLinked setting instance child frame inner → (was : List Edge)
        → Yet setting instance.definition (from_place i (drop i links) setting instance child) (whole_of setting instance child)
        here start given old was was

    pub links_begin : (start : Added) (old : List (Option Edge)) → LinksLeft 0 start start old old
    links_begin start old setting instance child linked was =
        all_left setting instance.definition (whole_of setting instance child) start old was

    pub links_turn : (i : ℕ) (link : Link) → slice_get links i ≡ Some link → (here there start : Added) (given more old : List (Option Edge))
        → LinksLeft i here start given old
        → Links frame inner (λ setting instance child. link_given setting instance child (i, link)) here there given more
        → LinksLeft (i + 1) there start more old
    links_turn i link at here there start given more old left one setting instance child linked was =
        one_turn setting instance.definition (link_given setting instance child) (i, link) (enumerate_from (i + 1) (drop (i + 1) links))
        (whole_of setting instance child) here there start given more old was was was
        (subst (λ (left : List Link). Yet setting instance.definition (from_place i left setting instance child) (whole_of setting instance child)
        here start given old was was) (next_found links i link at) (left setting instance child linked was))
        (one setting instance child linked was)

    pub links_fail : (i : ℕ) (link : Link) → slice_get links i ≡ Some link → (here start : Added) (given old : List (Option Edge)) (fault : FlatFault)
        → LinksLeft i here start given old
        → LinksTo frame inner (λ setting instance child. link_given setting instance child (i, link)) here fault
        → LinksTo frame inner (λ setting instance child. each (link_given setting instance child) (enumerate_from 0 links)) start fault
    links_fail i link at here start given old fault left one setting instance child linked was =
        turn_fails setting instance.definition (link_given setting instance child) (i, link) (enumerate_from (i + 1) (drop (i + 1) links))
        (whole_of setting instance child) here start given old was was fault
        (subst (λ (left : List Link). Yet setting instance.definition (from_place i left setting instance child) (whole_of setting instance child)
        here start given old was was) (next_found links i link at) (left setting instance child linked was))
        (one setting instance child linked was)

    pub links_end : (i : ℕ) → length links ≤ i → (here start : Added) (given old : List (Option Edge)) → LinksLeft i here start given old
        → Links frame inner (λ setting instance child. each (link_given setting instance child) (enumerate_from 0 links)) start here old given
    links_end i past here start given old left setting instance child linked was =
        none_left setting instance.definition (link_given setting instance child) (whole_of setting instance child) here start given old was was
        (subst (λ (giving : Giving). Yet setting instance.definition giving (whole_of setting instance child) here start given old was was)
        (at_drop_all (λ left. from_place i left setting instance child) links i past) (left setting instance child linked was))
