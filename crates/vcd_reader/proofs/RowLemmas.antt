-- Rows that are pushed.
use Rattle.std.proofs.Common.{◌≡◌, ℕ, ◌+◌, List, [], ◌∷◌, ◌++◌, Bool, length, None, arith, refl, sym, ap, ◌∙◌}
use Rattle.trace_rows.specs.Rows.{Rows, with_row}
use Rattle.vcd_reader.specs.Sampling.{HoldsRows, rows_of}
use Rattle.vcd_reader.specs.Waveform.{limit_passed}
use Rattle.vcd_reader.specs.declared.bounded.BoundedRows.{BoundedRows}
use Rattle.vcd_reader.proofs.LimitLemmas.{shorter_passes_none}

length_more : {X : Type 0} (xs : List X) (x : X) → length (xs ++ x ∷ []) ≡ length xs + 1
length_more [] x = refl
length_more (y ∷ xs) x = grind (arith, length_more xs x)

-- Rows that pass no limit pass none without the last one.
pub limits_grow : (registers width : ℕ) (rows : List (List Bool)) (row : List Bool) → limit_passed registers (rows_of width (rows ++ row ∷ [])) ≡ None → limit_passed registers (rows_of width rows) ≡ None
limits_grow registers width rows row none =
    shorter_passes_none registers (rows_of width (rows ++ row ∷ [])) (rows_of width rows) refl (omega (arith, length_more rows row)) none

-- one row more
pub row_pushed : (registers width : ℕ) (rows : List (List Bool)) (row : List Bool) (old new : BoundedRows)
    → HoldsRows registers width rows old → new.trace ≡ with_row old.trace row → new.registers ≡ old.registers → new.count ≡ old.count + 1
    → HoldsRows registers width (rows ++ row ∷ []) new
row_pushed registers width rows row old new holds trace same more = record {
  registers_is = same ∙ holds.registers_is;
  width_is = ap (λ (trace : Rows). trace.width) trace ∙ holds.width_is;
  count_is = more ∙ ap (λ n. n + 1) holds.count_is ∙ sym (length_more rows row);
  kept = λ none. ap (λ (trace : Rows). trace.rows) trace ∙ ap (λ rows. rows ++ row ∷ []) (holds.kept (limits_grow registers width rows row none));
}
