-- Gates.
use Rattle.std.proofs.Common.{◌≡◌, ◌+◌, ◌++◌, ℕ, List, [], ◌∷◌, Option, append-nil, ap, arith, flat_map, length, length-append, map, refl, subst, sym, ◌∙◌}
use Rattle.drives.specs.Given.{given_all, given_one, given_so_far}
use Rattle.drives.proofs.SettingLemmas.{same_given}
use Rattle.flat_design.specs.Items.{gate_given}
use Rattle.flat_items.specs.Carried.{Gives, GivesTo}
use Rattle.flat_items.specs.Framing.{IsFrame, number_by}
use Rattle.flat_items.specs.Parts.{inputs_of}
use Rattle.flat_items.specs.declared.side.Side.TheVariants.{Inside}
use Rattle.flat_items.proofs.FrameLemmas.{inside_numbers, wires_are}
use Rattle.flat_net.specs.declared.edge.Edge.{Edge}
use Rattle.flat_net.specs.declared.fault.FlatFault.{FlatFault}
use Rattle.frames.specs.Framed.{Framed, wires_of}
use Rattle.lowering.specs.Expressions.{Wires, expression, only}
use Rattle.lowering.specs.Gates.{gate}
use Rattle.lowering.specs.Limits.{Added, Excuses, next_of, with_more}
use Rattle.lowering.specs.Loops.{continued}
use Rattle.lowering.specs.Lowered.{Lowered, Lowering, after, lowered}
use Rattle.lowering.proofs.BoundLemmas.{excuses_more}
use Rattle.lowering.proofs.RemainsLemmas.{more_twice, next_of_more}
use Rattle.numbering.specs.Numbering.{keyed, wires_in}
use Rattle.vlog_tree.specs.declared.design.Module.{Module}
use Rattle.vlog_tree.specs.declared.expr.Expr.{Expr}
use Rattle.vlog_tree.specs.declared.item.GateKind.{GateKind}
use Rattle.vlog_tree.specs.declared.left.Left.{Left}
use Rattle.vlog_tree.specs.Meaning.Instances.{Instance}
use Rattle.vlog_tree.specs.Meaning.Lefts.{Bit, left_bits}
use Rattle.vlog_tree.specs.Meaning.Setting.{Setting}

-- ---- one edge for several bits

abbrev pub with_edge : Edge → List (Option ℕ) → List (Option ℕ × Edge)
with_edge edge numbers = map (λ number. (number, edge)) numbers

all_given : (edges : List (Option Edge)) (first rest : List (Option ℕ × Edge))
    → given_all edges (first ++ rest) ≡ given_all (given_all edges first) rest
all_given edges [] rest = refl
all_given edges (one ∷ first) rest = all_given (given_one edges one.0 one.1) first rest

with_both : (edge : Edge) (first rest : List (Option ℕ)) → with_edge edge (first ++ rest) ≡ with_edge edge first ++ with_edge edge rest
with_both edge [] rest = refl
with_both edge (number ∷ first) rest = ap (λ others. (number, edge) ∷ others) (with_both edge first rest)

numbers_both : (number : Bit → Option ℕ) (first rest : List Bit) → map number (first ++ rest) ≡ map number first ++ map number rest
numbers_both number [] rest = refl
numbers_both number (bit ∷ first) rest = ap (λ others. number bit ∷ others) (numbers_both number first rest)

-- the bits of one output more
pub one_out : (number : Bit → Option ℕ) (edge : Edge) (edges : List (Option Edge)) (bits others : List Bit)
    → given_all edges (with_edge edge (map number (bits ++ others)))
    ≡ given_all (given_all edges (with_edge edge (map number bits))) (with_edge edge (map number others))
one_out number edge edges bits others =
    ap (λ numbers. given_all edges (with_edge edge numbers)) (numbers_both number bits others)
    ∙ ap (given_all edges) (with_both edge (map number bits) (map number others))
    ∙ all_given edges (with_edge edge (map number bits)) (with_edge edge (map number others))

-- ---- inputs

-- what one input adds
abbrev pub one_input : Module → Wires → Expr → Lowering
one_input m wires input next = lowered (expression m wires input 1 next).nodes (only (expression m wires input 1 next).edges ∷ [])

pub inputs_more : (m : Module) (wires : Wires) (input : Expr) (others : List Expr) (next : ℕ)
    → inputs_of m wires (input ∷ others) next
    ≡ continued (one_input m wires input next) (inputs_of m wires others (after next (one_input m wires input next)))
inputs_more m wires input others next = refl

-- ---- gates

module _ (frame : Framed) (kind : GateKind) (outs : List Left) (ins : List Expr) (start here : Added) (inputs : List Edge) where
  abbrev all_inputs : Lowered
  all_inputs = inputs_of frame.placing.definition (wires_of frame) ins (next_of start)

  abbrev end_of : Lowered
  end_of = gate kind inputs (next_of here)

  module _ (here_is : here ≡ with_more start all_inputs) (inputs_are : inputs ≡ all_inputs.edges) where
    module _ (setting : Setting) (place : ℕ) (instance : Instance) (is : IsFrame setting place instance frame) where
      abbrev inputs_there : Lowered
      inputs_there = inputs_of instance.definition (wires_in setting instance.path) ins (next_of start)

      abbrev end_there : Lowered
      end_there = gate kind inputs_there.edges (next_of start + length inputs_there.nodes)

      there : all_inputs ≡ inputs_there
      there = λ j. inputs_of (is.definition j) (wires_are setting place instance frame is j) ins (next_of start)

      number_is : next_of here ≡ next_of start + length inputs_there.nodes
      number_is = ap next_of here_is ∙ next_of_more start all_inputs ∙ ap (λ (part : Lowered). next_of start + length part.nodes) there

      end_is : end_of ≡ end_there
      end_is = λ j. gate kind ((inputs_are ∙ ap (λ (part : Lowered). part.edges) there) j) (number_is j)

      count_is : after (next_of here) end_of ≡ next_of start + length (inputs_there.nodes ++ end_there.nodes)
      count_is =
          (λ j. after (number_is j) (end_is j))
          ∙ (let both = length-append inputs_there.nodes end_there.nodes in omega (arith, both))

    pub gate_gives : (end : Added) (old new : List (Option Edge)) (edge : Edge) → end ≡ with_more here end_of → edge ≡ only end_of.edges
        → new ≡ given_all old (with_edge edge (map (number_by Inside frame) (flat_map (left_bits frame.placing.definition) outs)))
        → Gives frame (λ setting instance. gate_given setting instance kind outs ins) start end old new
    gate_gives end old new edge nodes_are edge_is new_is setting place instance is was = record {
      nodes =
          λ before was_is. nodes_are ∙ (λ j. with_more (here_is j) (end_is setting place instance is j))
          ∙ (λ j. with_more (with_more start (there setting place instance is j)) (end_there setting place instance is))
          ∙ more_twice start (inputs_there setting place instance is) (end_there setting place instance is);
      driven =
          λ before was_is drives ports old_is. new_is
          ∙ (λ j. given_all (old_is j) (with_edge ((edge_is ∙ ap (λ (part : Lowered). only part.edges) (end_is setting place instance is)) j)
          (map (inside_numbers setting place instance frame is j) (flat_map (left_bits (is.definition j)) outs))))
          ∙ same_given setting place instance is.placed (flat_map (left_bits instance.definition) outs)
          (only (end_there setting place instance is).edges) drives ports
          ∙ (λ j. given_so_far setting (drives ++ map (λ key. (key, only (end_there setting place instance is).edges))
          (keyed instance.path (flat_map (left_bits instance.definition) outs))) (sym (append-nil ports) j));
      registers = λ before was_is. was_is;
    }

    pub gate_fails : (fault : FlatFault) → Excuses (after (next_of here) end_of) fault
        → GivesTo frame (λ setting instance. gate_given setting instance kind outs ins) start fault
    gate_fails fault excused setting place instance is was before was_is =
        subst (λ count. Excuses count fault) (count_is setting place instance is) excused

-- the inputs are within the gate
pub inputs_fail : (frame : Framed) (kind : GateKind) (outs : List Left) (ins : List Expr) (start : Added) (fault : FlatFault)
    → Excuses (after (next_of start) (inputs_of frame.placing.definition (wires_of frame) ins (next_of start))) fault
    → GivesTo frame (λ setting instance. gate_given setting instance kind outs ins) start fault
inputs_fail frame kind outs ins start fault excused setting place instance is was before was_is =
    let whole : Lowered = inputs_of instance.definition (wires_in setting instance.path) ins (next_of start) in
    let end : Lowered = gate kind whole.edges (next_of start + length whole.nodes) in
    excuses_more (next_of start + length whole.nodes) (next_of start + length (whole.nodes ++ end.nodes)) fault
    (let both = length-append whole.nodes end.nodes in omega (arith, both))
    (subst (λ (part : Lowered). Excuses (after (next_of start) part) fault)
    (λ j. inputs_of (is.definition j) (wires_are setting place instance frame is j) ins (next_of start)) excused)
