-- Statements that are carried out.
use Rattle.std.proofs.Common.{◌≡◌, ◌<◌, ◌+◌, ℕ, List, [], ◌∷◌, ◌++◌, Bool, true, false, ◌||◌, cond, Option, None, Some, Result, Ok, Err, refl, ap, sym, ◌∙◌, subst, arith, append_assoc, drop, filter, get_or, length, length-append, map, reverse}
use Rattle.std.proofs.lemmas.List.{at_drop_more, length-map, length-reverse}
use Rattle.std.proofs.lemmas.List.Folds.{list_any-append}
use Rattle.std.specs.List.{list_any}
use Rattle.std.specs.Result.{IfErr, IsErrAnd, OnOk}
use Rattle.flat_net.specs.declared.edge.Edge.{Edge}
use Rattle.flat_net.specs.declared.fault.FlatFault.{FlatFault}
use Rattle.flat_net.specs.declared.node.Node.{Node}
use Rattle.flat_net.specs.Edges.{zero_edge}
use Rattle.lowering.specs.Expressions.{Wires, assigned, condition, only}
use Rattle.lowering.specs.Gates.{chosen_bits}
use Rattle.lowering.specs.Limits.{Added, Excuses, next_of, with_more}
use Rattle.lowering.specs.Lowered.{Lowered, after, lowered}
use Rattle.lowering.proofs.BoundLemmas.{excuses_more}
use Rattle.lowering.proofs.RemainsLemmas.{more_none, more_twice, next_of_more}
use Rattle.numbering.specs.Bits.{register_bits}
use Rattle.numbering.proofs.BitLemmas.{or_left_false, or_right_false}
use Rattle.processes.specs.Carried.{Carried, CarriesTo, Keeps, Tried, Within, if_process, taken}
use Rattle.processes.specs.Numbers.{edges_at, numbers_down, numbers_of, ordered_numbers, written}
use Rattle.processes.specs.Statements.{Changed, Process, Registers, block, nothing, ordered, process, replaced, set}
use Rattle.processes.proofs.ApartLemmas.{bits_same}
use Rattle.processes.proofs.NumberLemmas.{none_at}
use Rattle.processes.proofs.PutLemmas.{down_bits, edges_ordered, replaced_same, restored, written_bits, written_ordered}
use Rattle.vlog_tree.specs.declared.design.Module.{Module}
use Rattle.vlog_tree.specs.declared.expr.Expr.{Expr}
use Rattle.vlog_tree.specs.declared.left.Left.{Left}
use Rattle.vlog_tree.specs.declared.stmt.Stmt.{Stmt}
use Rattle.vlog_tree.specs.Meaning.Lefts.{Bit, left_bits, same_bit}

-- ---- a fault

pub passed_on : {X : Type 0} (P : FlatFault → Type 0) (result : Result X FlatFault) (fault : FlatFault)
    → IsErrAnd result (λ other. other ≡ fault) → P fault → IfErr result P
passed_on P (Ok x) fault is holds = tt
passed_on P (Err other) fault is holds = subst P (sym is) holds

-- ---- nodes

abbrev more : Added → List Node → Added
more start nodes = with_more start (lowered nodes [])

more_both : (start : Added) (first rest : List Node) → more (more start first) rest ≡ more start (first ++ rest)
more_both start first rest = more_twice start (lowered first []) (lowered rest [])

next_more : (start : Added) (nodes : List Node) → next_of (more start nodes) ≡ next_of start + length nodes
next_more start nodes = next_of_more start (lowered nodes [])

-- ---- bits that stay

pub keeps_nothing : Keeps nothing
keeps_nothing bit none before next = refl

not_replaced : (bits : List Bit) (edges : List Edge) (before : Registers) (bit : Bit) → list_any (same_bit bit) bits ≡ false → replaced bits edges before bit ≡ before bit
not_replaced bits edges before bit none =
    ap (λ (number : Option ℕ). elim number as (λ number. Edge) [ Some number ↦ get_or edges number zero_edge | None ↦ before bit ]) (none_at (same_bit bit) bits none)

keeps_set : (m : Module) (wires : Wires) (left : Left) (right : Expr) → Keeps (process (left_bits m left) (set m wires left right))
keeps_set m wires left right bit none before next =
    not_replaced (left_bits m left) (assigned m wires (length (left_bits m left)) right next).edges before bit none

pub keeps_then : (first : Process) (others : List Process) → Keeps first → Keeps (block others) → Keeps (block (first ∷ others))
keeps_then first others one rest bit none before next =
    let both : (list_any (same_bit bit) first.assigns || list_any (same_bit bit) (block others).assigns) ≡ false =
    sym (list_any-append (same_bit bit) first.assigns (block others).assigns) ∙ none in
    rest bit (or_right_false (list_any (same_bit bit) first.assigns) (list_any (same_bit bit) (block others).assigns) both)
    (first.change before next).registers (next + length (first.change before next).nodes)
    ∙ one bit (or_left_false (list_any (same_bit bit) first.assigns) (list_any (same_bit bit) (block others).assigns) both) before next

-- A bit that is not among these is none of those in their order.
out_of_order : (test : Bit → Bool) (bit : Bit) → test bit ≡ false → (bits : List Bit) → list_any (same_bit bit) (filter test bits) ≡ false
out_of_order test bit fails [] = refl
out_of_order test bit fails (other ∷ bits) = by (test other) refl (out_of_order test bit fails bits)
  where
    differs : (b : Bool) → same_bit bit other ≡ b → test other ≡ true → b ≡ false
    differs true same passes = absurd (let it = ap test (bits_same bit other same) in cc)
    differs false same passes = refl

    by : (b : Bool) → test other ≡ b → list_any (same_bit bit) (filter test bits) ≡ false
        → list_any (same_bit bit) (cond b (other ∷ filter test bits) (filter test bits)) ≡ false
    by true passes ih = (λ j. differs (same_bit bit other) refl passes j || ih j)
    by false passes ih = ih

keeps_if : (m : Module) (wires : Wires) (test : Expr) (first other : Process) → Keeps (if_process m wires test first other)
keeps_if m wires test first other bit none before next =
    not_replaced (ordered m (first.assigns ++ other.assigns)) _ before bit
    (out_of_order (λ bit. list_any (same_bit bit) (first.assigns ++ other.assigns)) bit none (register_bits m))

-- ---- an assignment

module _ (m placed : Module) (wires : Wires) (left : Left) (right : Expr) (same : m ≡ placed) (numbers : List (Option ℕ))
    (numbered : numbers ≡ numbers_down placed (left_bits placed left)) (start : Added) (old : List Edge) where
  numbered_here : reverse numbers ≡ numbers_of m (left_bits m left)
  numbered_here =
      ap reverse (numbered ∙ ap (λ m. numbers_down m (left_bits m left)) (sym same)) ∙ down_bits m (left_bits m left)

  as_many : length numbers ≡ length (left_bits m left)
  as_many = sym (length-reverse numbers) ∙ ap length numbered_here ∙ length-map (left_bits m left) _

  abbrev counted : Lowered
  counted = assigned m wires (length numbers) right (next_of start)

  counted_is : counted ≡ assigned m wires (length (left_bits m left)) right (next_of start)
  counted_is = ap (λ count. assigned m wires count right (next_of start)) as_many

  pub set_carried : (end : Added) (edges new : List Edge) → end ≡ with_more start (assigned m wires (length numbers) right (next_of start))
      → edges ≡ (assigned m wires (length numbers) right (next_of start)).edges → new ≡ written (reverse numbers) edges old
      → Carried m (process (left_bits m left) (set m wires left right)) start end old new
  set_carried end edges new end_is edges_are new_is = record {
    edges = λ before is.
        new_is
        ∙ (λ j. written (numbered_here j) ((edges_are ∙ ap (λ (it : Lowered). it.edges) counted_is) j) (is j))
        ∙ written_bits m (left_bits m left) (assigned m wires (length (left_bits m left)) right (next_of start)).edges before;
    nodes = λ before is. end_is ∙ ap (λ (it : Lowered). more start it.nodes) counted_is;
    keeps = keeps_set m wires left right;
  }

  pub set_carries : (fault : FlatFault) → Excuses (after (next_of start) (assigned m wires (length numbers) right (next_of start))) fault
      → CarriesTo m (process (left_bits m left) (set m wires left right)) start old fault
  set_carries fault excused before is = subst (λ (it : Lowered). Excuses (next_of start + length it.nodes) fault) counted_is excused

-- ---- nothing

pub nothing_carried : (m : Module) (start : Added) (old : List Edge) → Carried m nothing start start old old
nothing_carried m start old = record {
  edges = λ before is. is;
  nodes = λ before is. sym (more_none start []);
  keeps = keeps_nothing;
}

-- ---- one after another

-- where a part of the processes is carried out
pub record Reached (m : Module) (left whole : Process) (start now : Added) (current : List Edge) (before : Registers) : Type 0 where
  pub between : Registers
  pub edges : current ≡ map between (register_bits m)
  pub nodes : more now (left.change between (next_of now)).nodes ≡ more start (whole.change before (next_of start)).nodes
  pub registers : (left.change between (next_of now)).registers ≡ (whole.change before (next_of start)).registers

pub record Yet (m : Module) (left whole : Process) (start now : Added) (old current : List Edge) : Type 0 where
  pub reached : (before : Registers) → old ≡ map before (register_bits m) → Reached m left whole start now current before
  pub keeps : Keeps left → Keeps whole

pub yet_all : (m : Module) (whole : Process) (start : Added) (old : List Edge) → Yet m whole whole start start old old
yet_all m whole start old = record {
  reached = λ before is. record { between = before; edges = is; nodes = refl; registers = refl };
  keeps = λ keeps. keeps;
}

module _ (m : Module) (one : Process) (others : List Process) (whole : Process) (start now : Added) (old current : List Edge) where
  pub yet_more : (then : Added) (changed : List Edge) → Yet m (block (one ∷ others)) whole start now old current → Carried m one now then current changed
      → Yet m (block others) whole start then old changed
  yet_more then changed yet carried = record {
    reached = λ before is.
        let here : Reached m (block (one ∷ others)) whole start now current before = yet.reached before is in
        let first : Changed = one.change here.between (next_of now) in
        let then_is : then ≡ more now first.nodes = carried.nodes here.between here.edges in
        let number : next_of then ≡ next_of now + length first.nodes = ap next_of then_is ∙ next_more now first.nodes in
        record {
          between = first.registers;
          edges = carried.edges here.between here.edges;
          nodes =
              (λ j. more (then_is j) ((block others).change first.registers (number j)).nodes)
              ∙ more_both now first.nodes ((block others).change first.registers (next_of now + length first.nodes)).nodes
              ∙ here.nodes;
          registers = ap (λ n. ((block others).change first.registers n).registers) number ∙ here.registers;
        };
    keeps = λ keeps. yet.keeps (keeps_then one others carried.keeps keeps);
  }

  -- A fault of the next process is one of all.
  pub yet_carries : (fault : FlatFault) → Yet m (block (one ∷ others)) whole start now old current → CarriesTo m one now current fault
      → CarriesTo m whole start old fault
  yet_carries fault yet carries before is =
      let here : Reached m (block (one ∷ others)) whole start now current before = yet.reached before is in
      let first : Changed = one.change here.between (next_of now) in
      let rest : Changed = (block others).change first.registers (next_of now + length first.nodes) in
      let count : next_of now + length (first.nodes ++ rest.nodes) ≡ next_of start + length (whole.change before (next_of start)).nodes =
      sym (next_more now (first.nodes ++ rest.nodes)) ∙ ap next_of here.nodes ∙ next_more start (whole.change before (next_of start)).nodes in
      excuses_more (next_of now + length first.nodes) (next_of start + length (whole.change before (next_of start)).nodes) fault
      (omega (arith, count, length-append first.nodes rest.nodes)) (carries here.between here.edges)

pub yet_none : (m : Module) (whole : Process) (start now : Added) (old current : List Edge) → Yet m (block []) whole start now old current
    → Carried m whole start now old current
yet_none m whole start now old current yet = record {
  edges = λ before is.
      let here : Reached m (block []) whole start now current before = yet.reached before is in
      here.edges ∙ ap (λ registers. map registers (register_bits m)) here.registers;
  nodes = λ before is.
      let here : Reached m (block []) whole start now current before = yet.reached before is in
      sym (more_none now []) ∙ here.nodes;
  keeps = yet.keeps keeps_nothing;
}

-- ---- the first branch

pub tried : (m : Module) (it : Process) (numbers : List ℕ) (start end : Added) (old changed new before_edges kept : List Edge)
    → Carried m it start end old changed → before_edges ≡ edges_at numbers old → kept ≡ edges_at numbers changed
    → new ≡ written (map Some numbers) before_edges changed → Tried m it numbers start end old new kept
tried m it numbers start end old changed new before_edges kept carried before_is kept_is new_is = record {
  back = λ bits numbers_are within before is.
      let after_it : Registers = (it.change before (next_of start)).registers in
      let edges_are : before_edges ≡ map before (ordered m bits) = before_is ∙ (λ j. edges_at (numbers_are j) (is j)) ∙ edges_ordered m bits before in
      new_is
      ∙ (λ j. written (map Some (numbers_are j)) (edges_are j) (carried.edges before is j))
      ∙ written_ordered m bits (map before (ordered m bits)) after_it
      ∙ restored m bits after_it before (λ bit none. carried.keeps bit (within bit none) before (next_of start))
      ∙ sym is;
  edges = λ bits numbers_are before is.
      kept_is ∙ (λ j. edges_at (numbers_are j) (carried.edges before is j)) ∙ edges_ordered m bits (it.change before (next_of start)).registers;
  nodes = carried.nodes;
  keeps = carried.keeps;
}

-- ---- a condition, and a branch for each of its values

within_first : (first other : Process) → Within first.assigns (first.assigns ++ other.assigns)
within_first first other bit none =
    or_left_false (list_any (same_bit bit) first.assigns) (list_any (same_bit bit) other.assigns)
    (sym (list_any-append (same_bit bit) first.assigns other.assigns) ∙ none)

within_other : (first other : Process) → Within other.assigns (first.assigns ++ other.assigns)
within_other first other bit none =
    or_right_false (list_any (same_bit bit) first.assigns) (list_any (same_bit bit) other.assigns)
    (sym (list_any-append (same_bit bit) first.assigns other.assigns) ∙ none)

module _ (m : Module) (wires : Wires) (test : Expr) (first other : Process) (start : Added) (old : List Edge) where
  abbrev tested : Lowered
  tested = condition m wires test (next_of start)

  -- by the edges before it, what each branch comes to
  module _ (before : Registers) where
    abbrev one : Changed
    one = first.change before (next_of start + length tested.nodes)

    abbrev two : Changed
    two = other.change before (next_of start + length tested.nodes + length one.nodes)

    abbrev end_of : ℕ
    end_of = next_of start + length tested.nodes + length one.nodes + length two.nodes

    abbrev done : Lowered
    done =
        chosen_bits (only tested.edges) (map one.registers (ordered m (first.assigns ++ other.assigns)))
        (map two.registers (ordered m (first.assigns ++ other.assigns))) end_of

    all_nodes : length ((if_process m wires test first other).change before (next_of start)).nodes
        ≡ length tested.nodes + length one.nodes + length two.nodes + length done.nodes
    all_nodes =
        length-append (tested.nodes ++ one.nodes ++ two.nodes) done.nodes
        ∙ ap (λ n. n + length done.nodes)
        (length-append (tested.nodes ++ one.nodes) two.nodes ∙ ap (λ n. n + length two.nodes) (length-append tested.nodes one.nodes))

  pub test_carries : (fault : FlatFault) → Excuses (after (next_of start) (condition m wires test (next_of start))) fault
      → CarriesTo m (if_process m wires test first other) start old fault
  test_carries fault excused before is =
      excuses_more (next_of start + length tested.nodes) (next_of start + length ((if_process m wires test first other).change before (next_of start)).nodes) fault
      (omega (arith, all_nodes before)) excused

  module _ (after_test : Added) (tested_is : after_test ≡ with_more start (condition m wires test (next_of start))) where
    number_1 : next_of after_test ≡ next_of start + length tested.nodes
    number_1 = ap next_of tested_is ∙ next_of_more start tested

    first_is : (before : Registers) → first.change before (next_of after_test) ≡ one before
    first_is before = ap (first.change before) number_1

    pub first_carries : (fault : FlatFault) → CarriesTo m first after_test old fault → CarriesTo m (if_process m wires test first other) start old fault
    first_carries fault carries before is =
        excuses_more (next_of after_test + length (first.change before (next_of after_test)).nodes)
        (next_of start + length ((if_process m wires test first other).change before (next_of start)).nodes) fault
        (omega (arith, all_nodes before, number_1, ap (λ (it : Changed). length it.nodes) (first_is before))) (carries before is)

    module _ (numbers : List ℕ) (numbers_are : numbers ≡ ordered_numbers m (first.assigns ++ other.assigns)) (after_first : Added) (back kept : List Edge)
        (first_tried : Tried m first numbers after_test after_first old back kept) where
      back_is : (before : Registers) → old ≡ map before (register_bits m) → back ≡ map before (register_bits m)
      back_is before is = first_tried.back (first.assigns ++ other.assigns) numbers_are (within_first first other) before is ∙ is

      first_nodes : (before : Registers) → old ≡ map before (register_bits m) → after_first ≡ more after_test (one before).nodes
      first_nodes before is = first_tried.nodes before is ∙ ap (λ (it : Changed). more after_test it.nodes) (first_is before)

      number_2 : (before : Registers) → old ≡ map before (register_bits m) → next_of after_first ≡ next_of start + length tested.nodes + length (one before).nodes
      number_2 before is = ap next_of (first_nodes before is) ∙ next_more after_test (one before).nodes ∙ ap (λ n. n + length (one before).nodes) number_1

      other_is : (before : Registers) → old ≡ map before (register_bits m) → other.change before (next_of after_first) ≡ two before
      other_is before is = ap (other.change before) (number_2 before is)

      pub other_carries : (fault : FlatFault) → CarriesTo m other after_first back fault → CarriesTo m (if_process m wires test first other) start old fault
      other_carries fault carries before is =
          excuses_more (next_of after_first + length (other.change before (next_of after_first)).nodes)
          (next_of start + length ((if_process m wires test first other).change before (next_of start)).nodes) fault
          (omega (arith, all_nodes before, number_2 before is, ap (λ (it : Changed). length it.nodes) (other_is before is)))
          (carries before (back_is before is))

      module _ (after_other : Added) (changed : List Edge) (other_carried : Carried m other after_first after_other back changed) where
        other_nodes : (before : Registers) → old ≡ map before (register_bits m) → after_other ≡ more after_first (two before).nodes
        other_nodes before is =
            other_carried.nodes before (back_is before is) ∙ ap (λ (it : Changed). more after_first it.nodes) (other_is before is)

        number_3 : (before : Registers) → old ≡ map before (register_bits m) → next_of after_other ≡ end_of before
        number_3 before is =
            ap next_of (other_nodes before is) ∙ next_more after_first (two before).nodes ∙ ap (λ n. n + length (two before).nodes) (number_2 before is)

        kept_is : (before : Registers) → old ≡ map before (register_bits m) → kept ≡ map (one before).registers (ordered m (first.assigns ++ other.assigns))
        kept_is before is =
            first_tried.edges (first.assigns ++ other.assigns) numbers_are before is
            ∙ ap (λ (it : Changed). map it.registers (ordered m (first.assigns ++ other.assigns))) (first_is before)

        changed_is : (before : Registers) → old ≡ map before (register_bits m) → changed ≡ map (two before).registers (register_bits m)
        changed_is before is =
            other_carried.edges before (back_is before is) ∙ ap (λ (it : Changed). map it.registers (register_bits m)) (other_is before is)

        taken_is : (before : Registers) → old ≡ map before (register_bits m) → (choice : Edge) → choice ≡ only (condition m wires test (next_of start)).edges
            → taken choice numbers kept changed (next_of after_other) ≡ done before
        taken_is before is choice choice_is =
            (λ j. chosen_bits (choice_is j) (kept_is before is j) (edges_at (numbers_are j) (changed_is before is j)) (number_3 before is j))
            ∙ ap (λ seconds. chosen_bits (only tested.edges) (map (one before).registers (ordered m (first.assigns ++ other.assigns))) seconds (end_of before))
            (edges_ordered m (first.assigns ++ other.assigns) (two before).registers)

        module _ (choice : Edge) (choice_is : choice ≡ only (condition m wires test (next_of start)).edges) where
          pub choice_carries : (fault : FlatFault) → Excuses (after (next_of after_other) (taken choice numbers kept changed (next_of after_other))) fault
              → CarriesTo m (if_process m wires test first other) start old fault
          choice_carries fault excused before is =
              excuses_more (next_of after_other + length (taken choice numbers kept changed (next_of after_other)).nodes)
              (next_of start + length ((if_process m wires test first other).change before (next_of start)).nodes) fault
              (omega (arith, all_nodes before, number_3 before is, ap (λ (it : Lowered). length it.nodes) (taken_is before is choice choice_is))) excused

          pub if_carried : (end : Added) (new : List Edge) → end ≡ with_more after_other (taken choice numbers kept changed (next_of after_other))
              → new ≡ written (map Some numbers) (taken choice numbers kept changed (next_of after_other)).edges changed
              → Carried m (if_process m wires test first other) start end old new
          if_carried end new end_is new_is = record {
            edges = λ before is.
                new_is
                ∙ (λ j. written (map Some (numbers_are j)) (taken_is before is choice choice_is j).edges (changed_is before is j))
                ∙ written_ordered m (first.assigns ++ other.assigns) (done before).edges (two before).registers
                ∙ replaced_same m (first.assigns ++ other.assigns) (done before).edges (two before).registers before
                (λ bit none. other_carried.keeps bit (within_other first other bit none) before (next_of start + length tested.nodes + length (one before).nodes));
            nodes = λ before is.
                end_is
                ∙ ap (λ (it : Lowered). more after_other it.nodes) (taken_is before is choice choice_is)
                ∙ ap (λ (added : Added). more added (done before).nodes) (other_nodes before is)
                ∙ more_both after_first (two before).nodes (done before).nodes
                ∙ ap (λ (added : Added). more added ((two before).nodes ++ (done before).nodes)) (first_nodes before is)
                ∙ more_both after_test (one before).nodes ((two before).nodes ++ (done before).nodes)
                ∙ ap (λ (added : Added). more added ((one before).nodes ++ ((two before).nodes ++ (done before).nodes))) tested_is
                ∙ more_both start tested.nodes ((one before).nodes ++ ((two before).nodes ++ (done before).nodes))
                ∙ ap (more start)
                (sym (append_assoc tested.nodes (one before).nodes ((two before).nodes ++ (done before).nodes))
                ∙ sym (append_assoc (tested.nodes ++ (one before).nodes) (two before).nodes (done before).nodes));
            keeps = keeps_if m wires test first other;
          }

-- ---- a turn of a loop over statements

module _ (m : Module) (as_process : Stmt → Process) (body : List Stmt) (i : ℕ) (one : Stmt) (within : i < length body) (is : one ≡ get_or body i one)
    (whole : Process) (start now : Added) (old current : List Edge)
    (yet : Yet m (block (map as_process (drop i body))) whole start now old current) where
  here : Yet m (block (as_process one ∷ map as_process (drop (i + 1) body))) whole start now old current
  here =
      subst (λ left. Yet m left whole start now old current)
      (at_drop_more (λ body. block (map as_process body)) body i one within
      ∙ ap (λ one. block (as_process one ∷ map as_process (drop (i + 1) body))) (sym is))
      yet

  pub yet_step : (then : Added) (changed : List Edge) → Carried m (as_process one) now then current changed
      → Yet m (block (map as_process (drop (i + 1) body))) whole start then old changed
  yet_step then changed carried =
      yet_more m (as_process one) (map as_process (drop (i + 1) body)) whole start now old current then changed here carried

  pub yet_carried_step : (fault : FlatFault) → CarriesTo m (as_process one) now current fault → CarriesTo m whole start old fault
  yet_carried_step fault carries =
      yet_carries m (as_process one) (map as_process (drop (i + 1) body)) whole start now old current fault here carries

-- what a result that is passed on as it is may answer
pub if_err : {X : Type 0} (P Q : FlatFault → Type 0) (result : Result X FlatFault) → IfErr result P → ((fault : FlatFault) → P fault → Q fault) → IfErr result Q
if_err P Q (Ok x) holds change = tt
if_err P Q (Err fault) holds change = change fault holds

-- what both say of a result that is there
pub on_ok_both : {X E : Type 0} (P Q R : Type 0) (result : Result X E) → OnOk result P → OnOk result Q → (P → Q → R) → OnOk result R
on_ok_both P Q R (Ok x) first second both = both first second
on_ok_both P Q R (Err e) first second both = tt
