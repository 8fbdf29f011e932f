-- What statements give to registers, form by form.
use Rattle.std.specs.Prelude.{◌≡◌, ⊤, ℕ, zero, suc, ◌+◌, ◌<◌, List, [], ◌∷◌, ◌++◌, Bool, true, false, ◌&&◌, Option, Some, None, cond, fold, is_some, length, map, max, option_and_then, refl, slice_get, slice_index_or}
use Rattle.std.specs.List.{list_any}
use Rattle.std.proofs.Common.{ap, arith, sym, subst, ◌∙◌}
use Rattle.std.proofs.lemmas.Bool.{and_parts}
use Rattle.std.proofs.lemmas.List.{append_assoc}
use Rattle.std.proofs.lemmas.Option.{none-some, same_Some, slice_get-get_or, slice_get_within}
use Rattle.flat_net.specs.declared.edge.Edge.{Edge}
use Rattle.flat_net.specs.declared.node.Node.{Node}
use Rattle.flat_net.specs.Edges.{zero_edge}
use Rattle.flat_net.specs.Values.{Reading, edge_value}
use Rattle.vlog_tree.specs.declared.design.Module.{Module}
use Rattle.vlog_tree.specs.declared.expr.Expr.{Expr}
use Rattle.vlog_tree.specs.declared.left.Left.{Left}
use Rattle.vlog_tree.specs.declared.stmt.Stmt.{Stmt, map-Stmt, roll-Stmt}
use Rattle.vlog_tree.specs.declared.stmt.Stmt.TheFolds.{fold-roll-Stmt, ind-Stmt}
use Rattle.vlog_tree.specs.declared.stmt.Stmt.TheOpen.{Stmt-F}
use Rattle.vlog_tree.specs.Meaning.Expressions.{Names, assigned_bit, is_true}
use Rattle.vlog_tree.specs.Meaning.Expressions as meaning
use Rattle.vlog_tree.specs.Meaning.Lefts.{Bit, left_bits, number_in, same_bit}
use Rattle.vlog_tree.specs.Meaning.Step as step
use Rattle.vlog_tree.specs.Meaning.Step.{after_at, after_set, after_statement}
use Rattle.lowering.specs.Expressions.{Wires, assigned, condition, only, width_of}
use Rattle.lowering.specs.Gates.{chosen_bits, chosen_nodes}
use Rattle.lowering.specs.Lowered.{Lowered}
use Rattle.lowering.specs.Meaning.{HasNames, HasZero, Holds, IsAbove, edge_at, is_sound}
use Rattle.lowering.proofs.GateLemmas.{chooses}
use Rattle.lowering.proofs.LawLemmas.{assigned_means, condition_means, edge_count}
use Rattle.lowering.proofs.LoweredLemmas.{holds-append}
use Rattle.lowering.proofs.RelationLemmas.{above_kept}
use Rattle.numbering.specs.Bits.{register_bits}
use Rattle.design_laws.specs.Sound.{each, left_is_sound, stmt_is_sound, stmt_is_sound_at}
use Rattle.processes.specs.Means.{Step, conditions_known, conditions_known_at}
use Rattle.processes.specs.Statements.{Changed, Process, Registers, block, branched, merged, nothing, ordered, process, process_at, process_of, set, then_change}
use Rattle.processes.proofs.BitLemmas.{at_number, in_neither, no_number, not_among, not_ordered}

-- ---- values

edge_there : (read : Reading) (edges : List Edge) (place : ℕ) → place < length edges
    → edge_at read edges place ≡ edge_value read (slice_index_or edges place zero_edge)
edge_there read edges place inside = ap (option_and_then (edge_value read)) (slice_get-get_or edges place zero_edge inside)

-- the edge with a number, where there is a number
abbrev placed : List Edge → Edge → Option ℕ → Edge
placed edges other o = elim o as (λ number. Edge) [ Some number ↦ slice_index_or edges number zero_edge | None ↦ other ]

-- Where both branches have values, the one that is chosen has its own.
choice_shown : (a b c : Option Bool) (value : Bool) → meaning.chosen a b c ≡ Some value
    → option_and_then (λ choice. cond choice b c) a ≡ Some value
choice_shown None b c value is = absurd (none-some value is)
choice_shown (Some choice) None c value is = absurd (none-some value is)
choice_shown (Some choice) (Some x) None value is = absurd (none-some value is)
choice_shown (Some true) (Some x) (Some y) value is = is
choice_shown (Some false) (Some x) (Some y) value is = is

-- a choice of one and the same
same_choice : (a : Option Bool) → is_some a ≡ true → (b c old : Option Bool) → b ≡ old → c ≡ old
    → option_and_then (λ choice. cond choice b c) a ≡ old
same_choice None there b c old one other = absurd cc
same_choice (Some true) there b c old one other = one
same_choice (Some false) there b c old one other = other

-- ---- what a statement comes to

module _ (m : Module) (names : Names) (wires : Wires) (state row : List Bool) (read : Reading) (none : HasZero IsAbove read)
    (named : HasNames IsAbove read m names wires) where
  abbrev Founded : ℕ → List Node → Type 0
  Founded next nodes = Holds IsAbove read state row next nodes

  -- the nodes of four, one behind the other
  holds_four : (next : ℕ) (a b c d : List Node) → Founded next (a ++ b ++ c ++ d)
      → Founded next a × Founded (next + length a) b × Founded (next + length a + length b) c
      × Founded (next + length a + length b + length c) d
  holds_four next a b c d holds =
      let parts = holds-append IsAbove read state row next a (b ++ (c ++ d))
      (subst (Founded next) (append_assoc (a ++ b) c d ∙ append_assoc a b (c ++ d)) holds) in
      let more = holds-append IsAbove read state row (next + length a) b (c ++ d) parts.1 in
      let rest = holds-append IsAbove read state row (next + length a + length b) c d more.1 in
      (parts.0, more.0, rest.0, rest.1)

  -- The bits are given no values but those that they have; one that is not assigned stays.
  pub record Tells (one : Process) (after : Step) : Type 0 where
    pub gives : (before : Registers) (next : ℕ) → Founded next (one.change before next).nodes → (bit : Bit) (old : Option Bool)
        → list_any (same_bit bit) (register_bits m) ≡ true → IsAbove old (edge_value read (before bit))
        → IsAbove (after bit old) (edge_value read ((one.change before next).registers bit))
    pub value : (bit : Bit) → list_any (same_bit bit) one.assigns ≡ false → (old : Option Bool) → after bit old ≡ old
    pub edge : (bit : Bit) → list_any (same_bit bit) one.assigns ≡ false → (before : Registers) (next : ℕ)
        → (one.change before next).registers bit ≡ before bit

  nothing_tells : Tells nothing (λ bit old. old)
  nothing_tells = record {
    gives = λ before next holds bit old register above. above;
    value = λ bit absent old. refl;
    edge = λ bit absent before next. refl;
  }

  -- ---- assignments

  abbrev set_value : List Bit → Expr → Option Bool → Option ℕ → Option Bool
  set_value bits right old o =
      elim o as (λ number. Option Bool) [ Some number ↦ assigned_bit m names (length bits) right number | None ↦ old ]

  set_case : (bits : List Bit) (right : Expr) → is_sound m right ≡ true → (before : Registers) (next : ℕ)
      → Founded next (assigned m wires (length bits) right next).nodes
      → (bit : Bit) (old : Option Bool) → IsAbove old (edge_value read (before bit)) → (o : Option ℕ) → number_in bits bit ≡ o
      → IsAbove (set_value bits right old o) (edge_value read (placed (assigned m wires (length bits) right next).edges (before bit) o))
  set_case bits right sound before next holds bit old above None is = above
  set_case bits right sound before next holds bit old above (Some number) is =
      let edges : List Edge = (assigned m wires (length bits) right next).edges in
      let inside : number < length bits = slice_get_within bits number bit (at_number bits bit number is) in
      let count : length edges ≡ max (length bits) (width_of m right) =
      edge_count m wires right (max (length bits) (width_of m right)) next sound (omega arith) in
      subst (IsAbove (assigned_bit m names (length bits) right number)) (edge_there read edges number (omega (arith, count, inside)))
      (assigned_means IsAbove above_kept m names wires state row read (length bits) right next sound none named holds number
      (omega (arith, inside)))

  set_tells : (left : Left) (right : Expr) → is_sound m right ≡ true
      → Tells (process (left_bits m left) (set m wires left right)) (λ bit old. after_set m names bit left right old)
  set_tells left right sound = record {
    gives = λ before next holds bit old register above.
        set_case (left_bits m left) right sound before next holds bit old above (number_in (left_bits m left) bit) refl;
    value = λ bit absent old. ap (set_value (left_bits m left) right old) (no_number (left_bits m left) bit absent);
    edge = λ bit absent before next.
        ap (placed (assigned m wires (length (left_bits m left)) right next).edges (before bit)) (no_number (left_bits m left) bit absent);
  }

  -- ---- conditions

  -- the choice of one bit among others
  chosen_at : (a : Option Bool) (choice : Edge) → IsAbove a (edge_value read choice) → (first second : Registers) (bits : List Bit)
      → (next : ℕ) → Founded next (chosen_bits choice (map first bits) (map second bits) next).nodes
      → (place : ℕ) (bit : Bit) → slice_get bits place ≡ Some bit → (b c : Option Bool)
      → IsAbove b (edge_value read (first bit)) → IsAbove c (edge_value read (second bit))
      → IsAbove (meaning.chosen a b c)
      (edge_value read (slice_index_or (chosen_bits choice (map first bits) (map second bits) next).edges place zero_edge))
  chosen_at a choice on first second [] next holds place bit at b c on_first on_second = absurd cc
  chosen_at a choice on first second (one ∷ bits) next holds zero bit at b c on_first on_second =
      let same : bit ≡ one = sym (same_Some one bit at) in
      let parts = holds-append IsAbove read state row next (chosen_nodes choice (first one) (second one) next)
      (chosen_bits choice (map first bits) (map second bits) (next + 3)).nodes holds in
      chooses IsAbove read state row above_kept a b c choice (first one) (second one) on
      (subst (λ (bit : Bit). IsAbove b (edge_value read (first bit))) same on_first)
      (subst (λ (bit : Bit). IsAbove c (edge_value read (second bit))) same on_second) next parts.0
  chosen_at a choice on first second (one ∷ bits) next holds (suc place) bit at b c on_first on_second =
      let parts = holds-append IsAbove read state row next (chosen_nodes choice (first one) (second one) next)
      (chosen_bits choice (map first bits) (map second bits) (next + 3)).nodes holds in
      chosen_at a choice on first second bits (next + 3) parts.1 place bit at b c on_first on_second

  abbrev merged_edges : Edge → List Bit → Registers → Registers → ℕ → List Edge
  merged_edges choice assigns first second next =
      (chosen_bits choice (map first (ordered m assigns)) (map second (ordered m assigns)) next).edges

  -- one bit after both branches, by its number among the bits that either assigns
  merged_case : (a : Option Bool) → is_some a ≡ true → (choice : Edge) → IsAbove a (edge_value read choice) → (assigns : List Bit)
      → (first second before : Registers) (next : ℕ) → Founded next (merged m choice assigns first second before next).nodes
      → (bit : Bit) (b c old : Option Bool) → list_any (same_bit bit) (register_bits m) ≡ true
      → IsAbove b (edge_value read (first bit)) → IsAbove c (edge_value read (second bit)) → IsAbove old (edge_value read (before bit))
      → (list_any (same_bit bit) assigns ≡ false → (b ≡ old) × (c ≡ old))
      → (o : Option ℕ) → number_in (ordered m assigns) bit ≡ o
      → IsAbove (option_and_then (λ choice. cond choice b c) a)
      (edge_value read (placed (merged_edges choice assigns first second next) (before bit) o))
  merged_case a there choice on assigns first second before next holds bit b c old register on_first on_second above stays None is =
      let same : (b ≡ old) × (c ≡ old) = stays (not_among m assigns bit register is) in
      subst (λ value. IsAbove value (edge_value read (before bit))) (sym (same_choice a there b c old same.0 same.1)) above
  merged_case a there choice on assigns first second before next holds bit b c old register on_first on_second above stays (Some number) is =
      λ value has. choice_shown a b c value
      (chosen_at a choice on first second (ordered m assigns) next holds number bit (at_number (ordered m assigns) bit number is) b c
      on_first on_second value has)

  if_gives : (test : Expr) (first other : Process) (first_after other_after : Step) → is_sound m test ≡ true
      → is_some (is_true m names test) ≡ true → Tells first first_after → Tells other other_after
      → (before : Registers) (next : ℕ) → Founded next (branched m (condition m wires test next) first other before next).nodes
      → (bit : Bit) (old : Option Bool) → list_any (same_bit bit) (register_bits m) ≡ true → IsAbove old (edge_value read (before bit))
      → IsAbove (option_and_then (λ choice. cond choice (first_after bit old) (other_after bit old)) (is_true m names test))
      (edge_value read ((branched m (condition m wires test next) first other before next).registers bit))
  if_gives test first other first_after other_after sound there on_first on_other before next holds bit old register above =
      let tested : Lowered = condition m wires test next in
      let behind : ℕ = next + length tested.nodes in
      let one : Changed = first.change before behind in
      let two : Changed = other.change before (behind + length one.nodes) in
      let assigns : List Bit = first.assigns ++ other.assigns in
      let last : ℕ = behind + length one.nodes + length two.nodes in
      let end : Changed = merged m (only tested.edges) assigns one.registers two.registers before last in
      let parts = holds_four next tested.nodes one.nodes two.nodes end.nodes holds in
      merged_case (is_true m names test) there (only tested.edges)
      (condition_means IsAbove above_kept m names wires state row read test next sound none named parts.0)
      assigns one.registers two.registers before last parts.3 bit (first_after bit old) (other_after bit old) old register
      (on_first.gives before behind parts.1 bit old register above)
      (on_other.gives before (behind + length one.nodes) parts.2 bit old register above) above
      (λ absent.
      let apart = in_neither (same_bit bit) first.assigns other.assigns absent in
      (on_first.value bit apart.0 old, on_other.value bit apart.1 old))
      (number_in (ordered m assigns) bit) refl

  if_tells : (test : Expr) (first other : Process) (first_after other_after : Step) → is_sound m test ≡ true
      → is_some (is_true m names test) ≡ true → Tells first first_after → Tells other other_after
      → Tells (process (first.assigns ++ other.assigns) (λ before next. branched m (condition m wires test next) first other before next))
      (λ bit old. option_and_then (λ choice. cond choice (first_after bit old) (other_after bit old)) (is_true m names test))
  if_tells test first other first_after other_after sound there on_first on_other = record {
    gives = if_gives test first other first_after other_after sound there on_first on_other;
    value = λ bit absent old.
        let apart = in_neither (same_bit bit) first.assigns other.assigns absent in
        same_choice (is_true m names test) there (first_after bit old) (other_after bit old) old
        (on_first.value bit apart.0 old) (on_other.value bit apart.1 old);
    edge = λ bit absent before next.
        let tested : Lowered = condition m wires test next in
        let behind : ℕ = next + length tested.nodes in
        let one : Changed = first.change before behind in
        let two : Changed = other.change before (behind + length one.nodes) in
        let last : ℕ = behind + length one.nodes + length two.nodes in
        let assigns : List Bit = first.assigns ++ other.assigns in
        ap (placed (merged_edges (only tested.edges) assigns one.registers two.registers last) (before bit))
        (not_ordered m assigns bit absent);
  }

  -- ---- one after another

  then_tells : (first rest : Process) (first_after rest_after : Step) → Tells first first_after → Tells rest rest_after
      → Tells (process (first.assigns ++ rest.assigns) (then_change first.change rest.change))
      (λ bit old. rest_after bit (first_after bit old))
  then_tells first rest first_after rest_after on_first on_rest = record {
    gives = λ before next holds bit old register above.
        let one : Changed = first.change before next in
        let two : Changed = rest.change one.registers (next + length one.nodes) in
        let parts = holds-append IsAbove read state row next one.nodes two.nodes holds in
        on_rest.gives one.registers (next + length one.nodes) parts.1 bit (first_after bit old) register
        (on_first.gives before next parts.0 bit old register above);
    value = λ bit absent old.
        let apart = in_neither (same_bit bit) first.assigns rest.assigns absent in
        on_rest.value bit apart.1 (first_after bit old) ∙ on_first.value bit apart.0 old;
    edge = λ bit absent before next.
        let apart = in_neither (same_bit bit) first.assigns rest.assigns absent in
        let one : Changed = first.change before next in
        on_rest.edge bit apart.1 one.registers (next + length one.nodes) ∙ on_first.edge bit apart.0 before next;
  }

  -- ---- statements

  abbrev after : Stmt → Step
  after stmt bit = after_statement m names bit stmt

  abbrev Means : Stmt → Type 0
  Means stmt = stmt_is_sound m stmt ≡ true → conditions_known m names stmt ≡ true → Tells (process_of m wires stmt) (after stmt)

  abbrev AllMean : List Stmt → Type 0
  AllMean [] = ⊤
  AllMean (stmt ∷ body) = Means stmt × AllMean body

  abbrev after_row : List Stmt → Step
  after_row body bit old = fold (λ value change. change value) old (map (after_statement m names bit) body)

  row_tells : (body : List Stmt) → AllMean body → each (map (stmt_is_sound m) body) ≡ true
      → each (map (conditions_known m names) body) ≡ true → Tells (block (map (process_of m wires) body)) (after_row body)
  row_tells [] all sound known = nothing_tells
  row_tells (stmt ∷ body) all sound known =
      let sounds = and_parts (stmt_is_sound m stmt) (each (map (stmt_is_sound m) body)) sound in
      let knowns = and_parts (conditions_known m names stmt) (each (map (conditions_known m names) body)) known in
      then_tells (process_of m wires stmt) (block (map (process_of m wires) body)) (after stmt) (after_row body)
      (all.0 sounds.0 knowns.0) (row_tells body all.1 sounds.1 knowns.1)

  -- one level
  abbrev after_level : Stmt-F Stmt → Step
  after_level x bit = after_at m names bit (map-Stmt Stmt step.Change (after_statement m names bit) x)

  abbrev LevelTells : Stmt-F Stmt → Type 0
  LevelTells x =
      stmt_is_sound_at m (map-Stmt Stmt Bool (stmt_is_sound m) x) ≡ true
      → conditions_known_at m names (map-Stmt Stmt Bool (conditions_known m names) x) ≡ true
      → Tells (process_at m wires (map-Stmt Stmt Process (process_of m wires) x)) (after_level x)

  level : (x : Stmt-F Stmt) → LevelTells x → Means (roll-Stmt x)
  level x h sound known =
      let here = h (subst (λ test. test ≡ true) (fold-roll-Stmt Bool (stmt_is_sound_at m) x) sound)
      (subst (λ test. test ≡ true) (fold-roll-Stmt Bool (conditions_known_at m names) x) known) in
      let given : Tells (process_of m wires (roll-Stmt x)) (after_level x) =
      subst (λ (one : Process). Tells one (after_level x)) (sym (fold-roll-Stmt Process (process_at m wires) x)) here in
      let same : after_level x ≡ after (roll-Stmt x) = λ j bit. sym (fold-roll-Stmt step.Change (after_at m names bit) x) j in
      subst (Tells (process_of m wires (roll-Stmt x))) same given

  abbrev Proved : Type 0
  Proved = (stmt : Stmt) × Means stmt

  abbrev bare : List Proved → List Stmt
  bare body = map (λ stmt. stmt.0) body

  all_mean : (body : List Proved) → AllMean (bare body)
  all_mean [] = tt
  all_mean (stmt ∷ body) = (stmt.1, all_mean body)

  abbrev FormMeans : Stmt-F Stmt → Type 0
  FormMeans x = Means (roll-Stmt x)

  means_if : (test : Expr) (first : Proved) (other : Option Proved)
      → FormMeans (map-Stmt Proved Stmt (λ stmt. stmt.0) (Stmt-F.If test first other))
  means_if test first None =
      level (Stmt-F.If test first.0 None) (λ sound known.
      let sounds = and_parts (is_sound m test) (stmt_is_sound m first.0 && true) sound in
      let knowns = and_parts (is_some (is_true m names test)) (conditions_known m names first.0 && true) known in
      let own_sound = and_parts (stmt_is_sound m first.0) true sounds.1 in
      let own_known = and_parts (conditions_known m names first.0) true knowns.1 in
      if_tells test (process_of m wires first.0) nothing (after first.0) (λ bit old. old) sounds.0 knowns.0
      (first.1 own_sound.0 own_known.0) nothing_tells)
  means_if test first (Some other) =
      level (Stmt-F.If test first.0 (Some other.0)) (λ sound known.
      let sounds = and_parts (is_sound m test) (stmt_is_sound m first.0 && stmt_is_sound m other.0) sound in
      let knowns = and_parts (is_some (is_true m names test)) (conditions_known m names first.0 && conditions_known m names other.0)
      known in
      let both_sound = and_parts (stmt_is_sound m first.0) (stmt_is_sound m other.0) sounds.1 in
      let both_known = and_parts (conditions_known m names first.0) (conditions_known m names other.0) knowns.1 in
      if_tells test (process_of m wires first.0) (process_of m wires other.0) (after first.0) (after other.0) sounds.0 knowns.0
      (first.1 both_sound.0 both_known.0) (other.1 both_sound.1 both_known.1))

  form : (y : Stmt-F Proved) → FormMeans (map-Stmt Proved Stmt (λ stmt. stmt.0) y)
  form Stmt-F.Empty = level Stmt-F.Empty (λ sound known. nothing_tells)
  form (Stmt-F.Block body) =
      level (Stmt-F.Block (bare body)) (λ sound known. row_tells (bare body) (all_mean body) sound known)
  form (Stmt-F.If test first other) = means_if test first other
  form (Stmt-F.Set at left right) =
      level (Stmt-F.Set at left right) (λ sound known.
      set_tells left right (and_parts (left_is_sound m left) (is_sound m right) sound).1)

  pub means : (stmt : Stmt) → Means stmt
  means = ind-Stmt Means (λ x y is. subst FormMeans is (form y))

  all_means : (body : List Stmt) → AllMean body
  all_means [] = tt
  all_means (stmt ∷ body) = (means stmt, all_means body)

  -- statements in their order
  pub row_means : (body : List Stmt) → each (map (stmt_is_sound m) body) ≡ true → each (map (conditions_known m names) body) ≡ true
      → Tells (block (map (process_of m wires) body)) (after_row body)
  row_means body sound known = row_tells body (all_means body) sound known
