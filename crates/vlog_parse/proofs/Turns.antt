-- The loops of gates and links, turn by turn.
use Rattle.std.proofs.Common.{◌≡◌, ◌<◌, Bool, true, false, List, [], ◌∷◌, ◌++◌, length, Some, None, Result, Ok, Err, IsErr, IsErrAnd, ap, sym, ◌∙◌, refl}
use Rattle.vlog_tokens.specs.Toks.{Tok}
use Rattle.vlog_parse.specs.Attempts.{attempt, attempt_by}
use Rattle.vlog_parse.specs.Gates.{is_read}
use Rattle.vlog_parse.specs.Reads.{Outcome, Parser, ReadsInto, and_then, one_more}
use Rattle.vlog_numbers.specs.declared.fault.Fault.{Fault}
use Rattle.vlog_numbers.specs.declared.fault.Fault.TheVariants as fault
use Rattle.vlog_parse.proofs.Loops.{GoesOn, fails, goes_on, stops}
use Rattle.vlog_parse.proofs.Rules.{found_is, left_is}

-- a turn that gives a fault is what the whole reads
pub stuck_into : {S : Type 0} (goes : List Tok → Bool) (step : S → Parser S) (whole : Outcome S) (state after last : S) (left new : List Tok) (e : Fault) → GoesOn goes step whole state left → goes left ≡ true → ReadsInto (step state left) (Err e) after new
    → (result : Result (Unit {0}) Fault) → IsErr result × IsErrAnd result (λ f. f ≡ e) → ReadsInto whole result last new
stuck_into goes step whole state after last left new fault.Token on h s (Ok a) gives = cc gives.0
stuck_into goes step whole state after last left new fault.Token on h s (Err fault.Token) gives = fails goes step whole state left new on h s
stuck_into goes step whole state after last left new fault.Token on h s (Err fault.Memory) gives = tt
stuck_into goes step whole state after last left new fault.Memory on h s (Ok a) gives = cc gives.0
stuck_into goes step whole state after last left new fault.Memory on h s (Err fault.Token) gives = cc gives.1
stuck_into goes step whole state after last left new fault.Memory on h s (Err fault.Memory) gives = tt

module _ {A : Type 0} (item : Parser A) where
  -- what an attempt that found something tells
  some_by : (outcome : Outcome A) (ts : List Tok) (a : A) (rest : List Tok) → attempt_by outcome ts ≡ Ok (Some a, rest) → outcome ≡ Ok (a, rest)
  some_by (Ok (b, us)) ts a rest e =
      let same : Some a ≡ Some b = found_is e in
      let also : rest ≡ us = left_is e in
      let here : b ≡ a = cc in
      ap (λ (x : A). Ok (x, us)) here ∙ ap (λ (xs : List Tok). Ok (a, xs)) (sym also)
  some_by (Err stuck) ts a rest e = (let apart : Some a ≡ None = found_is e in cc)

  none_by : (outcome : Outcome A) (ts rest : List Tok) → attempt_by outcome ts ≡ Ok (None, rest) → (is_read outcome ≡ false) × (ts ≡ rest)
  none_by (Ok (b, us)) ts rest e = (let apart : None ≡ Some b = found_is e in absurd (differ b apart))
    where
      differ : (b : A) → None ≡ Some b → ⊥
      differ b apart = cc
  none_by (Err stuck) ts rest e = (refl, sym (left_is e))

  pub one_more_is : (found : List A) (ts : List Tok) (a : A) (rest : List Tok) → item ts ≡ Ok (a, rest) → one_more item found ts ≡ Ok (found ++ a ∷ [], rest)
  unfolding one_more
  one_more_is found ts a rest e = ap (λ (o : Outcome A). and_then o (λ x us. Ok (found ++ x ∷ [], us))) e

  module _ (goes : List Tok → Bool) (tells : (ts : List Tok) → goes ts ≡ is_read (item ts)) (whole : Outcome (List A)) (found : List A) (left : List Tok) (on : GoesOn goes (one_more item) whole found left) where
    pub attempt_goes : (a : A) (rest : List Tok) (next : List A) → attempt item left ≡ Ok (Some a, rest) → next ≡ found ++ a ∷ [] → length rest < length left → GoesOn goes (one_more item) whole next rest
    attempt_goes a rest next e same shorter =
        let read : item left ≡ Ok (a, rest) = some_by (item left) left a rest e in
        goes_on goes (one_more item) whole found next left rest on (tells left ∙ ap is_read read) (one_more_is found left a rest read ∙ ap (λ (xs : List A). Ok (xs, rest)) (sym same)) shorter

    pub attempt_stops : (rest : List Tok) → attempt item left ≡ Ok (None, rest) → whole ≡ Ok (found, rest)
    attempt_stops rest e =
        let (stop, same) = none_by (item left) left rest e in
        stops goes (one_more item) whole found left on (tells left ∙ stop) ∙ ap (λ (us : List Tok). Ok (found, us)) same
