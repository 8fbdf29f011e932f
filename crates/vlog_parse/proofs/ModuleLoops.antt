-- The loops of the code that read ports, items and modules, beside what they read.
use Rattle.std.proofs.Common.{◌≡◌, ℕ, List, [], codes, not, Ok, Err, Result, IsErr, IsErrAnd, Bool, true, ap, sym, refl}
use Rattle.vlog_tokens.specs.Toks.{Tok}
use Rattle.vlog_tree.specs.declared.design.Module.{Module}
use Rattle.vlog_tree.specs.declared.item.Item.{Item}
use Rattle.vlog_tree.specs.Spelling.Declarations as spelling
use Rattle.vlog_parse.specs.Declarations.{port_shape}
use Rattle.vlog_parse.specs.Gathers.{add, gathered_until}
use Rattle.vlog_parse.specs.Modules.{add_port, add_port_after_comma, module_rule, modules, port_list}
use Rattle.vlog_parse.specs.Reads.{Outcome, Parser, ReadsInto, is_end, loop, one_more, sees}
use Rattle.vlog_numbers.specs.declared.fault.Fault.{Fault}
use Rattle.vlog_numbers.specs.declared.fault.Fault.TheVariants as fault
use Rattle.vlog_parse.specs.declared.port.Ports.{Ports}
use Rattle.vlog_parse.proofs.Loops.{GoesOn, fails}

-- a turn that gives a fault is what the whole reads
pub stuck_into : {S : Type 0} (goes : List Tok → Bool) (step : S → Parser S) (whole : Outcome S) (state after : S) (left new : List Tok) (e : Fault) → GoesOn goes step whole state left → goes left ≡ true
    → ReadsInto (step state left) (Err e) after new → (result : Result (Unit {0}) Fault) → IsErr result × IsErrAnd result (λ f. f ≡ e) → ReadsInto whole result after new
stuck_into goes step whole state after left new fault.Token on h s (Ok a) gives = cc gives.0
stuck_into goes step whole state after left new fault.Token on h s (Err fault.Token) gives = fails goes step whole state left new on h s
stuck_into goes step whole state after left new fault.Token on h s (Err fault.Memory) gives = tt
stuck_into goes step whole state after left new fault.Memory on h s (Ok a) gives = cc gives.0
stuck_into goes step whole state after left new fault.Memory on h s (Err fault.Token) gives = cc gives.1
stuck_into goes step whole state after left new fault.Memory on h s (Err fault.Memory) gives = tt

pub until_is : {A B : Type 0} (stop : List ℕ) (items_of : A → List B) (part : Parser A) (found : List B) (ts : List Tok)
    → gathered_until stop items_of part found ts ≡ loop (λ us. not (sees stop us)) (add items_of part) found ts
unfolding gathered_until
until_is stop items_of part found ts = refl

pub modules_are : (depth : ℕ) (ts : List Tok) (none : List Module) → none ≡ [] → modules depth ts ≡ loop (λ us. not (is_end us)) (one_more (module_rule depth)) none ts
unfolding modules
modules_are depth ts none is_none = ap (λ (xs : List Module). loop (λ us. not (is_end us)) (one_more (module_rule depth)) xs ts) (sym is_none)

pub ports_go_on : (ts behind left : List Tok) (shape : spelling.Shape) (names : List (List ℕ)) (items : List Item) (first : Ports) → port_shape ts ≡ Ok (shape, behind) → names ≡ [] → items ≡ []
    → add_port (record { shape = shape; names = names; items = items }) behind ≡ Ok (first, left) → port_list ts ≡ loop (sees (codes ",")) add_port_after_comma first left
unfolding port_list
ports_go_on ts behind left shape names items first shaped no_names no_items e =
    let one : add_port (record { shape = shape; names = []; items = [] }) behind ≡ Ok (first, left) = rw (no_names, no_items) at e in
    rw (shaped, one) refl
