-- What is kept of names and of connections.
use Rattle.std.proofs.Common.{◌≡◌, List, [], ◌∷◌, Bool, true, false, ◌||◌, Bor, cond, find, not, Option, Some, None, is_none, is_some, map, option_and_then, refl, sym, ap, subst, ◌∙◌}
use Rattle.std.specs.List.{list_any}
use Rattle.std.specs.Map.{update}
use Rattle.std.specs.Option.{option_map, option_or}
use Rattle.std.specs.Str.{bytes_eq}
use Rattle.std.proofs.lemmas.Slice.Eq.{bytes_eq-Decides}
use Rattle.vlog_tree.specs.declared.design.Module.{Module}
use Rattle.vlog_tree.specs.declared.item.Link.{Link}
use Rattle.vlog_tree.specs.Meaning.Instances.{Connection}
use Rattle.vlog_tree.specs.Meaning.Uses.{Text}
use Rattle.clock_sets.specs.Passing.{plain_name}
use Rattle.clock_rules.specs.Clocks.{is_unplain}
use Rattle.clock_rules.specs.Kept.{child_of_links, connected_from, first_plain, is_unplain_by}

pub same_bytes : (xs ys : Text) → bytes_eq xs ys ≡ true → xs ≡ ys
same_bytes xs ys is = (bytes_eq-Decides xs ys).0 is

-- one name more
pub or_other : (b c : Bool) → cond b true c ≡ (c || b)
or_other true true = refl
or_other true false = refl
or_other false true = refl
or_other false false = refl

option_or_none : {X : Type 0} (known : Option X) → option_or known None ≡ known
option_or_none None = refl
option_or_none (Some x) = refl

-- what is kept of a port of which nothing was
pub port_added : (old new : Text → Option Bool) (port : Text) (is_plain : Bool) → old port ≡ None
    → ((other : Text) → new other ≡ update bytes_eq old port (Some is_plain) other)
    → (other : Text) → new other ≡ option_or (old other) (cond (bytes_eq port other) (Some is_plain) None)
port_added old new port is_plain none updated other = by (bytes_eq port other) refl (updated other)
  where
    by : (b : Bool) → bytes_eq port other ≡ b → new other ≡ cond b (Some is_plain) (old other)
        → new other ≡ option_or (old other) (cond b (Some is_plain) None)
    by true same now =
        let none_here : old other ≡ None = subst (λ text. old text ≡ None) (same_bytes port other same) none in
        now ∙ sym (ap (λ known. option_or known (Some is_plain)) none_here)
    by false same now = now ∙ sym (option_or_none (old other))

-- A port isn't connected plainly, as is told by what is kept of its first connection.
unplain_told : (m : Module) (found : Option Connection)
    → is_unplain_by (option_map (λ (connection : Connection). is_some (plain_name m connection.expression)) found)
    ≡ is_none (option_and_then (plain_name m) (option_map (λ (connection : Connection). connection.expression) found))
unplain_told m None = refl
unplain_told m (Some connection) = by (plain_name m connection.expression)
  where
    by : (name : Option Text) → not (is_some name) ≡ is_none name
    by None = refl
    by (Some name) = refl

pub unplain_among : (m inner : Module) (links : List Link) (kept : Text → Option Bool)
    → ((port : Text) → kept port ≡ first_plain m port (connected_from inner 0 links))
    → (ports : List (Bor Text))
    → list_any (λ (port : Bor Text). is_unplain_by (kept port.now)) ports ≡ list_any (is_unplain m (child_of_links inner links)) (map (λ (port : Bor Text). port.now) ports)
unplain_among m inner links kept known [] = refl
unplain_among m inner links kept known (port ∷ ports) =
    ap (λ b. b || list_any (λ (port : Bor Text). is_unplain_by (kept port.now)) ports)
    (ap is_unplain_by (known port.now) ∙ unplain_told m (find (λ (connection : Connection). bytes_eq connection.port port.now) (connected_from inner 0 links)))
    ∙ ap (λ b. is_unplain m (child_of_links inner links) port.now || b) (unplain_among m inner links kept known ports)
