-- A loop of the code beside `loop`: some number of turns above the count of tokens is left.
use Rattle.std.proofs.Common.{◌≡◌, ◌<◌, ℕ, zero, suc, Bool, true, false, not, List, [], codes, length, Ok, Err, Result, IsErr, IsErrAnd, ap, sym, ◌∙◌, refl, arith}
use Rattle.vlog_tokens.specs.Toks.{Tok}
use Rattle.vlog_parse.specs.Reads.{Outcome, Parser, Reads, ReadsInto, and_then, loop, loop_from, one_more, one_more_after_comma, repeated_until, sees, separated}
use Rattle.vlog_numbers.specs.declared.fault.Fault.{Fault}
use Rattle.vlog_numbers.specs.declared.fault.Fault.TheVariants as fault

module _ {S : Type 0} (goes : List Tok → Bool) (step : S → Parser S) where
  -- What the loop reads from here on is what the whole reads.
  abbrev pub GoesOn : Outcome S → S → List Tok → Type 0
  GoesOn whole state left = (turns : ℕ) × (length left < turns) × (whole ≡ loop_from goes step turns state left)

  pub begins : (state : S) (ts : List Tok) → GoesOn (loop goes step state ts) state ts
  unfolding loop
  begins state ts = (suc (length ts), omega arith, refl)

  pub same_whole : (whole other : Outcome S) (state : S) (left : List Tok) → other ≡ whole → GoesOn whole state left → GoesOn other state left
  same_whole whole other state left same (turns, enough, e) = (turns, enough, same ∙ e)

  turn_to : (whole : Outcome S) (turns : ℕ) (state next : S) (left rest : List Tok) → length left < turns → whole ≡ loop_from goes step turns state left
      → goes left ≡ true → step state left ≡ Ok (next, rest) → length rest < length left → GoesOn whole next rest
  unfolding loop_from
  turn_to whole zero state next left rest enough e h s shorter = absurd (omega arith)
  turn_to whole (suc turns) state next left rest enough e h s shorter = (turns, omega arith, rw (h, s) at e)

  pub goes_on : (whole : Outcome S) (state next : S) (left rest : List Tok) → GoesOn whole state left → goes left ≡ true → step state left ≡ Ok (next, rest) → length rest < length left → GoesOn whole next rest
  goes_on whole state next left rest (turns, enough, e) h s shorter = turn_to whole turns state next left rest enough e h s shorter

  stop_at : (whole : Outcome S) (turns : ℕ) (state : S) (left : List Tok) → length left < turns → whole ≡ loop_from goes step turns state left → goes left ≡ false → whole ≡ Ok (state, left)
  unfolding loop_from
  stop_at whole zero state left enough e h = absurd (omega arith)
  stop_at whole (suc turns) state left enough e h = rw h at e

  pub stops : (whole : Outcome S) (state : S) (left : List Tok) → GoesOn whole state left → goes left ≡ false → whole ≡ Ok (state, left)
  stops whole state left (turns, enough, e) h = stop_at whole turns state left enough e h

  fail_at : (whole : Outcome S) (turns : ℕ) (state : S) (left stuck : List Tok) → length left < turns → whole ≡ loop_from goes step turns state left → goes left ≡ true → step state left ≡ Err stuck → whole ≡ Err stuck
  unfolding loop_from
  fail_at whole zero state left stuck enough e h s = absurd (omega arith)
  fail_at whole (suc turns) state left stuck enough e h s = rw (h, s) at e

  pub fails : (whole : Outcome S) (state : S) (left stuck : List Tok) → GoesOn whole state left → goes left ≡ true → step state left ≡ Err stuck → whole ≡ Err stuck
  fails whole state left stuck (turns, enough, e) h s = fail_at whole turns state left stuck enough e h s

  -- a turn that gives a fault is what the whole reads
  pub stuck_at : (whole : Outcome S) (state after : S) (left new : List Tok) (e : Fault) → GoesOn whole state left → goes left ≡ true → ReadsInto (step state left) (Err e) after new
      → (result : Result S Fault) → IsErr result × IsErrAnd result (λ f. f ≡ e) → Reads whole result new
  stuck_at whole state after left new fault.Token on h s (Ok a) gives = cc gives.0
  stuck_at whole state after left new fault.Token on h s (Err fault.Token) gives = fails whole state left new on h s
  stuck_at whole state after left new fault.Token on h s (Err fault.Memory) gives = tt
  stuck_at whole state after left new fault.Memory on h s (Ok a) gives = cc gives.0
  stuck_at whole state after left new fault.Memory on h s (Err fault.Token) gives = cc gives.1
  stuck_at whole state after left new fault.Memory on h s (Err fault.Memory) gives = tt

module _ {A : Type 0} (item : Parser A) (ts : List Tok) (none : List A) (is_none : none ≡ []) where
  abbrev Rest : Outcome (List A) → Outcome (List A)
  Rest outcome = and_then outcome (loop (sees (codes ",")) (one_more_after_comma item))

  separated_is : (outcome : Outcome (List A)) → one_more item none ts ≡ outcome → separated item ts ≡ Rest outcome
  unfolding separated
  separated_is outcome e = ap Rest (ap (λ (xs : List A). one_more item xs ts) (sym is_none) ∙ e)

  pub separated_goes_on : (first : List A) (left : List Tok) → one_more item none ts ≡ Ok (first, left) → separated item ts ≡ loop (sees (codes ",")) (one_more_after_comma item) first left
  separated_goes_on first left e = separated_is (Ok (first, left)) e

  pub separated_stuck : (first : List A) (new : List Tok) (e : Fault) → ReadsInto (one_more item none ts) (Err e) first new
      → (result : Result (List A) Fault) → IsErr result × IsErrAnd result (λ f. f ≡ e) → Reads (separated item ts) result new
  separated_stuck first new fault.Token s (Ok a) gives = cc gives.0
  separated_stuck first new fault.Token s (Err fault.Token) gives = separated_is (Err new) s
  separated_stuck first new fault.Token s (Err fault.Memory) gives = tt
  separated_stuck first new fault.Memory s (Ok a) gives = cc gives.0
  separated_stuck first new fault.Memory s (Err fault.Token) gives = cc gives.1
  separated_stuck first new fault.Memory s (Err fault.Memory) gives = tt

pub repeated_is : {A : Type 0} (item : Parser A) (stop : List ℕ) (ts : List Tok) (none : List A) → none ≡ [] → repeated_until stop item ts ≡ loop (λ us. not (sees stop us)) (one_more item) none ts
unfolding repeated_until
repeated_is {A} item stop ts none is_none = ap (λ (xs : List A). loop (λ us. not (sees stop us)) (one_more item) xs ts) (sym is_none)
