-- What instances give one after another, in a loop.
use Rattle.std.proofs.Common.{◌≡◌, ℕ, zero, suc, ◌+◌, ◌<◌, ◌≤◌, List, [], ◌∷◌, ◌++◌, Option, None, Some, add-one, ap, append_assoc, append-nil, arith, drop, length, map, refl, replicate, slice_get, sym, ◌∙◌}
use Rattle.std.proofs.Math.ListN.{drop_of_length-le}
use Rattle.std.proofs.lemmas.List.{length-append}
use Rattle.std.proofs.lemmas.Option.{same_Some}
use Rattle.drives.specs.Given.{given_so_far}
use Rattle.drives.proofs.SettingLemmas.{none_so_far}
use Rattle.flat_design.specs.Flat.{flat, whole_of}
use Rattle.flat_design.specs.Instances.{Whole, instance_given, whole_from}
use Rattle.flat_design.specs.Items.{Drive, Given}
use Rattle.flat_items.specs.Whole.{InstanceGives, InstanceGivesTo}
use Rattle.flat_net.specs.declared.edge.Edge.{Edge}
use Rattle.flat_net.specs.declared.fault.FlatFault.{FlatFault}
use Rattle.flat_net.specs.declared.node.Node.{Node}
use Rattle.lowering.specs.Limits.{Added, Excuses, next_of, with_more}
use Rattle.lowering.specs.Lowered.{lowered}
use Rattle.numbering.specs.Bits.{register_bits}
use Rattle.numbering.specs.Numbering.{driven_keys, first_of_expressions}
use Rattle.vlog_tree.specs.Meaning.Instances.{Instance, instances}
use Rattle.vlog_tree.specs.Meaning.Setting.{Setting}
use Rattle.flatten.specs.Gathered.{IsWhole}
use Rattle.flatten.proofs.FaultLemmas.{excused_more}
use Rattle.flatten.proofs.NodeLemmas.{node_count}

-- ---- lists

pub drop_at : {X : Type 0} (xs : List X) (i : ℕ) (x : X) → slice_get xs i ≡ Some x → drop i xs ≡ x ∷ drop (suc i) xs
drop_at [] i x at = absurd cc
drop_at (y ∷ ys) zero x at = ap (λ first. first ∷ ys) (same_Some y x at)
drop_at (y ∷ ys) (suc i) x at = drop_at ys i x at

pub there_is : {X : Type 0} (xs : List X) (i : ℕ) → i < length xs → (x : X) × (slice_get xs i ≡ Some x)
there_is [] i few = absurd (omega arith)
there_is (x ∷ xs) zero few = (x, refl)
there_is (x ∷ xs) (suc i) few = there_is xs i (omega arith)

-- ---- what the first instances give, and what is left

abbrev joined : List Node → List Drive → List Drive → List Edge → Whole → Whole
joined nodes drives ports next rest = record {
  nodes = nodes ++ rest.nodes;
  drives = drives ++ rest.drives;
  ports = ports ++ rest.ports;
  next = next ++ rest.next;
}

-- What the instances before a place gave, and then what those from there on give, is the whole.
pub record SoFar (setting : Setting) (place : ℕ) (added : Added) (driven : List (Option Edge)) (next : List Edge) : Type 0 where
  pub drives : List Drive
  pub ports : List Drive
  pub first : added.first ≡ first_of_expressions setting
  pub given : driven ≡ given_so_far setting drives ports
  pub whole : joined added.nodes drives ports next (whole_from setting (next_of added) (drop place (instances setting)))
      ≡ whole_of setting

abbrev pub none_added : ℕ → Added
none_added first = record { first = first; nodes = [] }

module _ (setting : Setting) where
  pub none_gathered : (first count : ℕ) (added : Added) (driven : List (Option Edge)) (next : List Edge)
      → first ≡ first_of_expressions setting → added ≡ none_added first → count ≡ length (driven_keys setting)
      → driven ≡ replicate count None → next ≡ [] → SoFar setting 0 added driven next
  none_gathered first count added driven next is none all undriven nothing = record {
    drives = [];
    ports = [];
    first = ap (λ (added : Added). added.first) none ∙ is;
    given = undriven ∙ ap (λ n. replicate n None) all ∙ sym (none_so_far setting);
    whole =
        (λ j. joined (none j).nodes [] [] (nothing j) (whole_from setting (next_of (none j)) (instances setting)))
        ∙ ap (λ n. whole_from setting n (instances setting)) (let same : first + 0 ≡ first = omega arith in same ∙ is);
  }

  module _ (place : ℕ) (added : Added) (driven : List (Option Edge)) (next : List Edge) (so_far : SoFar setting place added driven next)
      (instance : Instance) (at : slice_get (instances setting) place ≡ Some instance) where
    abbrev one : Given
    one = instance_given setting instance (next_of added)

    abbrev edges : List Edge
    edges = map one.registers (register_bits instance.definition)

    abbrev rest : Whole
    rest = whole_from setting (next_of added + length one.nodes) (drop (suc place) (instances setting))

    abbrev from_here : Whole
    from_here = whole_from setting (next_of added) (instance ∷ drop (suc place) (instances setting))

    -- the whole, by what this instance gives and those behind it
    by_one : joined added.nodes so_far.drives so_far.ports next from_here ≡ whole_of setting
    by_one =
        sym (ap (λ list. joined added.nodes so_far.drives so_far.ports next (whole_from setting (next_of added) list))
        (drop_at (instances setting) place instance at))
        ∙ so_far.whole

    regrouped : joined (added.nodes ++ one.nodes) (so_far.drives ++ one.drives) (so_far.ports ++ one.ports) (next ++ edges) rest
        ≡ joined added.nodes so_far.drives so_far.ports next from_here
    regrouped = λ j. record {
      nodes = append_assoc added.nodes one.nodes rest.nodes j;
      drives = append_assoc so_far.drives one.drives rest.drives j;
      ports = append_assoc so_far.ports one.ports rest.ports j;
      next = append_assoc next edges rest.next j;
    }

    next_is : next_of (with_more added (lowered one.nodes [])) ≡ next_of added + length one.nodes
    next_is =
        let both : length (added.nodes ++ one.nodes) ≡ length added.nodes + length one.nodes = length-append added.nodes one.nodes in
        omega (arith, both)

    pub one_gathered : (after : Added) (driven_after : List (Option Edge)) (next_after : List Edge)
        → InstanceGives setting place added after driven driven_after next next_after
        → SoFar setting (place + 1) after driven_after next_after
    one_gathered after driven_after next_after gives = record {
      drives = so_far.drives ++ one.drives;
      ports = so_far.ports ++ one.ports;
      first = ap (λ (added : Added). added.first) (gives.nodes instance at) ∙ so_far.first;
      given = gives.driven instance at so_far.drives so_far.ports so_far.given;
      whole =
          (λ j. joined (gives.nodes instance at j).nodes (so_far.drives ++ one.drives) (so_far.ports ++ one.ports)
          (gives.registers instance at j)
          (whole_from setting (next_of (gives.nodes instance at j)) (drop (add-one place j) (instances setting))))
          ∙ ap (λ n. joined (added.nodes ++ one.nodes) (so_far.drives ++ one.drives) (so_far.ports ++ one.ports) (next ++ edges)
          (whole_from setting n (drop (suc place) (instances setting)))) next_is
          ∙ regrouped ∙ by_one;
    }

    -- The nodes of this instance are among all nodes.
    pub one_excused : (why : FlatFault) → InstanceGivesTo setting place added why → Excuses (length (flat setting).nodes) why
    one_excused why gives =
        let all : length (added.nodes ++ (one.nodes ++ rest.nodes)) ≡ length (whole_of setting).nodes =
        ap (λ (whole : Whole). length whole.nodes) by_one in
        let outer : length (added.nodes ++ (one.nodes ++ rest.nodes)) ≡ length added.nodes + length (one.nodes ++ rest.nodes) =
        length-append added.nodes (one.nodes ++ rest.nodes) in
        let inner : length (one.nodes ++ rest.nodes) ≡ length one.nodes + length rest.nodes = length-append one.nodes rest.nodes in
        let count = node_count setting in
        let first = so_far.first in
        excused_more (next_of added + length one.nodes) (length (flat setting).nodes) why
        (omega (arith, all, outer, inner, count, first)) (gives instance at)

  pub all_gathered : (place : ℕ) (added : Added) (driven : List (Option Edge)) (next : List Edge) → length (instances setting) ≤ place
      → SoFar setting place added driven next → IsWhole setting added driven next
  all_gathered place added driven next past so_far =
      let whole : joined added.nodes so_far.drives so_far.ports next (whole_from setting (next_of added) []) ≡ whole_of setting =
      ap (λ list. joined added.nodes so_far.drives so_far.ports next (whole_from setting (next_of added) list))
      (sym (drop_of_length-le (instances setting) past)) ∙ so_far.whole in
      record {
        first = so_far.first;
        nodes = sym (append-nil added.nodes) ∙ ap (λ (whole : Whole). whole.nodes) whole;
        driven =
            so_far.given
            ∙ (λ j. given_so_far setting
            ((sym (append-nil so_far.drives) ∙ ap (λ (whole : Whole). whole.drives) whole) j)
            ((sym (append-nil so_far.ports) ∙ ap (λ (whole : Whole). whole.ports) whole) j));
        next = sym (append-nil next) ∙ ap (λ (whole : Whole). whole.next) whole;
      }

  -- All nodes are those behind which the next would stand.
  pub all_counted : (added : Added) (driven : List (Option Edge)) (next : List Edge) → IsWhole setting added driven next
      → length (flat setting).nodes ≡ next_of added
  all_counted added driven next whole =
      let count = node_count setting in
      let first = whole.first in
      let nodes : length added.nodes ≡ length (whole_of setting).nodes = ap (λ (nodes : List Node). length nodes) whole.nodes in
      omega (arith, count, first, nodes)
