-- The code of a number, by its least digit.
use Rattle.std.proofs.Common.{◌≡◌, ℕ, ◌/◌, ◌%◌, ◌<◌, ◌≤◌, [], ◌∷◌, map, reverse, ap, ◌∙◌, arith}
use Rattle.std.specs.Int.Digits.{digits_of}
use Rattle.std.proofs.lemmas.Int.Digits.{digits_of_step}
use Rattle.std.proofs.lemmas.List.{reverse-append}
use Rattle.vcd_writer.specs.Code.{code_of, digit_byte}

turned : (number : ℕ) → 0 < number → map digit_byte (reverse (digits_of 94 number)) ≡ digit_byte (number % 94) ∷ map digit_byte (reverse (digits_of 94 (number / 94)))
turned number some =
    ap (λ digits. map digit_byte (reverse digits)) (digits_of_step 94 number (omega arith) some)
    ∙ ap (map digit_byte) (reverse-append (digits_of 94 (number / 94)) (number % 94 ∷ []))

pub code_of_last : (number : ℕ) → number < 94 → code_of number ≡ digit_byte number ∷ []
unfolding code_of
code_of_last number small =
    let rest : number / 94 ≡ 0 = omega arith in
    let digit : number % 94 ≡ number = omega arith in
    ap (λ n. digit_byte n ∷ map digit_byte (reverse (digits_of 94 (number / 94)))) digit
    ∙ ap (λ n. digit_byte number ∷ map digit_byte (reverse (digits_of 94 n))) rest

pub code_of_step : (number : ℕ) → 94 ≤ number → code_of number ≡ digit_byte (number % 94) ∷ code_of (number / 94)
unfolding code_of
code_of_step number large = ap (λ rest. digit_byte (number % 94) ∷ rest) (turned (number / 94) (omega arith))
