-- Continuous assignments.
use Rattle.std.proofs.Common.{◌≡◌, ◌++◌, ℕ, List, Option, append-nil, ap, length, map, reverse, subst, sym, ◌∙◌}
use Rattle.std.specs.List.{zip}
use Rattle.std.proofs.lemmas.List.{length-map, length-reverse, reverse-reverse}
use Rattle.drives.specs.Given.{drive_number, given_all, given_so_far}
use Rattle.drives.proofs.SettingLemmas.{drives_given}
use Rattle.flat_design.specs.Items.{assign_given}
use Rattle.flat_items.specs.Carried.{Gives, GivesTo}
use Rattle.flat_items.specs.Framing.{IsFrame, number_by}
use Rattle.flat_items.specs.declared.side.Side.TheVariants.{Inside}
use Rattle.flat_items.proofs.FrameLemmas.{inside_numbers, wires_are}
use Rattle.flat_net.specs.declared.edge.Edge.{Edge}
use Rattle.flat_net.specs.declared.fault.FlatFault.{FlatFault}
use Rattle.frames.specs.Framed.{Framed, wires_of}
use Rattle.lowering.specs.Expressions.{assigned}
use Rattle.lowering.specs.Limits.{Added, Excuses, next_of, with_more}
use Rattle.lowering.specs.Lowered.{Lowered, after}
use Rattle.numbering.specs.Numbering.{keyed, wires_in}
use Rattle.targets.specs.Numbers.{Numbering, numbers_down}
use Rattle.vlog_tree.specs.declared.expr.Expr.{Expr}
use Rattle.vlog_tree.specs.declared.left.Left.{Left}
use Rattle.vlog_tree.specs.Meaning.Instances.{Instance}
use Rattle.vlog_tree.specs.Meaning.Lefts.{Bit, left_bits}
use Rattle.vlog_tree.specs.Meaning.Setting.{Setting}

-- ---- numbers from the last to the first

pub reversed_down : (number : Numbering) (bits : List Bit) → reverse (numbers_down number bits) ≡ map number bits
unfolding numbers_down
reversed_down number bits = reverse-reverse (map number bits)

pub count_down : (number : Numbering) (bits : List Bit) → length (numbers_down number bits) ≡ length bits
unfolding numbers_down
count_down number bits = length-reverse (map number bits) ∙ length-map bits number

-- ---- assignments

module _ (frame : Framed) (left : Left) (right : Expr) (start : Added) (numbers : List (Option ℕ)) (numbers_are : numbers ≡ numbers_down (number_by Inside frame) (left_bits frame.placing.definition left)) where
  abbrev at_count : ℕ → Lowered
  at_count count = assigned frame.placing.definition (wires_of frame) count right (next_of start)

  module _ (setting : Setting) (place : ℕ) (instance : Instance) (is : IsFrame setting place instance frame) where
    abbrev bits : List Bit
    bits = left_bits instance.definition left

    count_is : length numbers ≡ length bits
    count_is =
        ap length numbers_are ∙ count_down (number_by Inside frame) (left_bits frame.placing.definition left)
        ∙ (λ j. length (left_bits (is.definition j) left))

    done_is : at_count (length numbers) ≡ assigned instance.definition (wires_in setting instance.path) (length bits) right (next_of start)
    done_is =
        λ j. assigned (is.definition j) (wires_are setting place instance frame is j) (count_is j) right (next_of start)

    reversed : reverse numbers ≡ map (drive_number setting instance) bits
    reversed =
        ap reverse numbers_are ∙ reversed_down (number_by Inside frame) (left_bits frame.placing.definition left)
        ∙ (λ j. map (inside_numbers setting place instance frame is j) (left_bits (is.definition j) left))

  pub assign_gives : (end : Added) (old new : List (Option Edge)) (edges : List Edge)
      → end ≡ with_more start (at_count (length numbers)) → edges ≡ (at_count (length numbers)).edges
      → new ≡ given_all old (zip (reverse numbers) edges)
      → Gives frame (λ setting instance. assign_given setting instance left right) start end old new
  assign_gives end old new edges nodes_are edges_are new_is setting place instance is was = record {
    nodes = λ before was_is. nodes_are ∙ ap (with_more start) (done_is setting place instance is);
    driven =
        λ before was_is drives ports old_is. new_is
        ∙ (λ j. given_all (old_is j) (zip (reversed setting place instance is j) ((edges_are ∙ ap (λ (part : Lowered). part.edges) (done_is setting place instance is)) j)))
        ∙ drives_given setting place instance is.placed (bits setting place instance is)
        (assigned instance.definition (wires_in setting instance.path) (length (bits setting place instance is)) right (next_of start)).edges
        drives ports
        ∙ (λ j. given_so_far setting (drives ++ zip (keyed instance.path (bits setting place instance is))
        (assigned instance.definition (wires_in setting instance.path) (length (bits setting place instance is)) right (next_of start)).edges)
        (sym (append-nil ports) j));
    registers = λ before was_is. was_is;
  }

  pub assign_fails : (fault : FlatFault) → Excuses (after (next_of start) (at_count (length numbers))) fault
      → GivesTo frame (λ setting instance. assign_given setting instance left right) start fault
  assign_fails fault excused setting place instance is was before was_is =
      subst (λ (done : Lowered). Excuses (after (next_of start) done) fault) (done_is setting place instance is) excused
