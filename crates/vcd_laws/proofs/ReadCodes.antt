-- The codes of different numbers differ.
use Rattle.std.proofs.Common.{◌≡◌, ◌≢◌, ℕ, ◌+◌, ◌-◌, ◌*◌, ◌/◌, ◌%◌, ◌<◌, ◌≤◌, zero, suc, List, [], ◌∷◌, true, false, nat_lt, inl, inr, refl, sym, ap, ◌∙◌, arith}
use Rattle.std.specs.Str.{bytes_eq}
use Rattle.std.proofs.lemmas.Bool.{cases_Bool, ltb-false, ltb-true}
use Rattle.std.proofs.lemmas.Slice.Eq.{bytes_eq-Decides}
use Rattle.vcd_writer.specs.Code.{code_of, digit_byte}
use Rattle.vcd_writer.proofs.CodeSteps.{code_of_last, code_of_step}

-- the number that has this code
abbrev number_of : List ℕ → ℕ
number_of [] = 0
number_of (byte ∷ bytes) = (byte - 33) + 94 * number_of bytes

number_of_small : (number : ℕ) → number < 94 → number_of (code_of number) ≡ number
number_of_small number small = ap number_of (code_of_last number small) ∙ omega arith

number_of_large : (number : ℕ) → 94 ≤ number → number_of (code_of (number / 94)) ≡ number / 94 → number_of (code_of number) ≡ number
number_of_large number large rest =
    ap number_of (code_of_step number large)
    ∙ ap (λ n. (digit_byte (number % 94) - 33) + 94 * n) rest
    ∙ omega arith

smaller : (fuel number : ℕ) → number ≤ suc fuel → 94 ≤ number → number / 94 ≤ fuel
smaller fuel number le large = omega arith

number_of_code : (fuel number : ℕ) → number ≤ fuel → number_of (code_of number) ≡ number
number_of_code zero number le = number_of_small number (omega arith)
number_of_code (suc fuel) number le = elim (cases_Bool (nat_lt number 94)) [
  | inl small ↦ number_of_small number (ltb-true number 94 small)
  | inr large ↦ number_of_large number (ltb-false number 94 large) (number_of_code fuel (number / 94) (smaller fuel number le (ltb-false number 94 large)))
]

code_is : (left right : ℕ) → code_of left ≡ code_of right → left ≡ right
code_is left right same = sym (number_of_code left left (omega arith)) ∙ ap number_of same ∙ number_of_code right right (omega arith)

-- whether two codes are the same text
pub codes_same : (number : ℕ) → bytes_eq (code_of number) (code_of number) ≡ true
codes_same number = (bytes_eq-Decides (code_of number) (code_of number)).1 refl

pub codes_differ : (left right : ℕ) → left ≢ right → bytes_eq (code_of left) (code_of right) ≡ false
codes_differ left right differ = elim (cases_Bool (bytes_eq (code_of left) (code_of right))) [
  | inl same ↦ absurd (differ (code_is left right ((bytes_eq-Decides (code_of left) (code_of right)).0 same)))
  | inr other ↦ other
]
