-- The loops of the code that gather items, beside what they read.
use Rattle.std.proofs.Common.{◌≡◌, List, [], codes, Ok, Err, Result, IsErr, IsErrAnd, ap, sym, ◌∙◌}
use Rattle.vlog_tokens.specs.Toks.{Tok}
use Rattle.vlog_parse.specs.Gathers.{add, add_after_comma, gathered}
use Rattle.vlog_parse.specs.Reads.{Outcome, Parser, Reads, ReadsInto, and_then, loop, sees}
use Rattle.vlog_numbers.specs.declared.fault.Fault.{Fault}
use Rattle.vlog_numbers.specs.declared.fault.Fault.TheVariants as fault

module _ {A B : Type 0} (items_of : A → List B) (part : Parser A) (ts : List Tok) (none : List B) (is_none : none ≡ []) where
  abbrev Rest : Outcome (List B) → Outcome (List B)
  Rest outcome = and_then outcome (loop (sees (codes ",")) (add_after_comma items_of part))

  gathered_is : (outcome : Outcome (List B)) → add items_of part none ts ≡ outcome → gathered items_of part ts ≡ Rest outcome
  unfolding gathered
  gathered_is outcome e = ap Rest (ap (λ (xs : List B). add items_of part xs ts) (sym is_none) ∙ e)

  pub gathered_goes_on : (first : List B) (left : List Tok) → add items_of part none ts ≡ Ok (first, left) → gathered items_of part ts ≡ loop (sees (codes ",")) (add_after_comma items_of part) first left
  gathered_goes_on first left e = gathered_is (Ok (first, left)) e

  pub gathered_stuck : (first : List B) (new : List Tok) (e : Fault) → ReadsInto (add items_of part none ts) (Err e) first new
      → (result : Result (List B) Fault) → IsErr result × IsErrAnd result (λ f. f ≡ e) → Reads (gathered items_of part ts) result new
  gathered_stuck first new fault.Token s (Ok a) gives = cc gives.0
  gathered_stuck first new fault.Token s (Err fault.Token) gives = gathered_is (Err new) s
  gathered_stuck first new fault.Token s (Err fault.Memory) gives = tt
  gathered_stuck first new fault.Memory s (Ok a) gives = cc gives.0
  gathered_stuck first new fault.Memory s (Err fault.Token) gives = cc gives.1
  gathered_stuck first new fault.Memory s (Err fault.Memory) gives = tt
