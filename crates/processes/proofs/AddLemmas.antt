-- Numbers that statements add.
use Rattle.std.proofs.Common.{◌≡◌, ◌≤◌, ◌<◌, ◌+◌, ◌==◌, ◌||◌, ℕ, List, [], ◌++◌, Option, Result, Ok, Err, ap, sym, ◌∙◌, subst, drop, get_or, length, map}
use Rattle.std.proofs.lemmas.List.{at_drop_all, at_drop_more}
use Rattle.std.specs.List.{list_any}
use Rattle.std.specs.List.Sorted.{IsStrictlyIncreasing}
use Rattle.std.specs.Option.{option_map}
use Rattle.std.specs.Result.{OnOk}
use Rattle.lowering.specs.Expressions.{Wires}
use Rattle.processes.specs.Numbers.{Adds, holds, numbers_down, numbers_of, ordered_numbers}
use Rattle.processes.specs.Statements.{Process, block, other_process, process_of}
use Rattle.processes.proofs.OrderLemmas.{are_ordered, adds_left, adds_none, adds_then}
use Rattle.processes.proofs.ProcessLemmas.{process_block, process_if, process_set}
use Rattle.vlog_tree.specs.declared.design.Module.{Module}
use Rattle.vlog_tree.specs.declared.expr.Expr.{Expr}
use Rattle.vlog_tree.specs.declared.left.Left.{Left}
use Rattle.vlog_tree.specs.declared.stmt.Stmt.{Stmt}
use Rattle.vlog_tree.specs.declared.stmt.Stmt.TheVariants as stmt
use Rattle.vlog_tree.specs.Meaning.Lefts.{Bit, left_bits}

pub on_ok : {X E : Type 0} (P Q : Type 0) (result : Result X E) → OnOk result P → (P → Q) → OnOk result Q
on_ok P Q (Ok x) holds change = change holds
on_ok P Q (Err e) holds change = tt

module _ (m : Module) (old new : List (Option ℕ)) where
  pub adds_same : (one other : List Bit) → one ≡ other → Adds m one old new → Adds m other old new
  adds_same one other is adds = subst (λ bits. Adds m bits old new) is adds

  -- by the statement that a reference leads to
  pub adds_shown : (wires : Wires) (shown statement : Stmt) → shown ≡ statement → Adds m (process_of m wires shown).assigns old new
      → Adds m (process_of m wires statement).assigns old new
  adds_shown wires shown statement is = adds_same (process_of m wires shown).assigns (process_of m wires statement).assigns (ap (λ one. (process_of m wires one).assigns) is)

  pub adds_block : (wires : Wires) (statement : Stmt) (body shown : List Stmt) → statement ≡ stmt.Block body → shown ≡ body
      → Adds m (block (map (process_of m wires) shown)).assigns old new → Adds m (process_of m wires statement).assigns old new
  adds_block wires statement body shown is same =
      adds_same (block (map (process_of m wires) shown)).assigns (process_of m wires statement).assigns
      (ap (λ body. (block (map (process_of m wires) body)).assigns) same
      ∙ sym (ap (λ (it : Process). it.assigns) (process_block m wires statement body is)))

  pub adds_set : (wires : Wires) (statement : Stmt) (at : ℕ) (left : Left) (right : Expr) → statement ≡ stmt.Set at left right
      → new ≡ old ++ numbers_down m (left_bits m left) → Adds m (process_of m wires statement).assigns old new
  adds_set wires statement at left right is added =
      adds_same (left_bits m left) (process_of m wires statement).assigns
      (sym (ap (λ (it : Process). it.assigns) (process_set m wires statement at left right is)))
      (adds_left m (left_bits m left) old new added)

  -- an `if`, whose other branch may be left out
  pub adds_if : (wires : Wires) (statement : Stmt) (test : Expr) (first : Stmt) (other given : Option Stmt) → statement ≡ stmt.If test first other
      → other ≡ given → (between : List (Option ℕ)) → Adds m (process_of m wires first).assigns old between
      → Adds m (other_process (option_map (process_of m wires) given)).assigns between new → Adds m (process_of m wires statement).assigns old new
  adds_if wires statement test first other given is same between one two =
      adds_same ((process_of m wires first).assigns ++ (other_process (option_map (process_of m wires) given)).assigns) (process_of m wires statement).assigns
      (ap (λ other. (process_of m wires first).assigns ++ (other_process (option_map (process_of m wires) other)).assigns) (sym same)
      ∙ sym (ap (λ (it : Process). it.assigns) (process_if m wires statement test first other is)))
      (adds_then m (process_of m wires first).assigns (other_process (option_map (process_of m wires) given)).assigns old between new one two)

-- What both add, sorted, are their register bits in their order.
pub both_ordered : (m : Module) (one other : List Bit) (none between added given : List (Option ℕ)) → none ≡ []
    → Adds m one none between → Adds m other between added → given ≡ added
    → (sorted : List ℕ) → IsStrictlyIncreasing sorted → ((n : ℕ) → list_any (λ number. n == number) sorted ≡ holds n given)
    → sorted ≡ ordered_numbers m (one ++ other)
both_ordered m one other none between added given is first second same sorted increasing numbers =
    are_ordered m (one ++ other) sorted increasing
    (λ n. numbers n ∙ ap (holds n) same ∙ adds_then m one other none between added first second n
    ∙ ap (λ none. holds n none || holds n (numbers_of m (one ++ other))) is)

-- ---- statements one after another

-- What is added yet, and what was added so far, is what all add.
abbrev pub AddsYet : Module → Wires → List Stmt → ℕ → List (Option ℕ) → List (Option ℕ) → Type 0
AddsYet m wires body i initial now =
    (new : List (Option ℕ)) → Adds m (block (map (process_of m wires) (drop i body))).assigns now new
    → Adds m (block (map (process_of m wires) body)).assigns initial new

module _ (m : Module) (wires : Wires) (body : List Stmt) (i : ℕ) (initial now : List (Option ℕ)) where
  pub adds_more : (one : Stmt) (more : List (Option ℕ)) → i < length body → one ≡ get_or body i one → Adds m (process_of m wires one).assigns now more
      → AddsYet m wires body i initial now → AddsYet m wires body (i + 1) initial more
  adds_more one more within is adds yet new rest =
      yet new
      (subst (λ bits. Adds m bits now new)
      (ap (λ one. (process_of m wires one).assigns ++ (block (map (process_of m wires) (drop (i + 1) body))).assigns) is
      ∙ sym (at_drop_more (λ body. (block (map (process_of m wires) body)).assigns) body i one within))
      (adds_then m (process_of m wires one).assigns (block (map (process_of m wires) (drop (i + 1) body))).assigns now more new adds rest))

  pub adds_end : length body ≤ i → AddsYet m wires body i initial now → Adds m (block (map (process_of m wires) body)).assigns initial now
  adds_end le yet =
      yet now
      (subst (λ bits. Adds m bits now now) (sym (at_drop_all (λ body. (block (map (process_of m wires) body)).assigns) body i le)) (adds_none m now))
