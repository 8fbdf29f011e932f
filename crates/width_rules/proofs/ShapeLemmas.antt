-- What is kept of a shape, and what is noted of it.
use Rattle.std.specs.Prelude.{◌≡◌, refl, ℕ, zero, suc, ◌*◌, ◌==◌, ◌≤◌, List, [], ◌∷◌, Bool, Option, None, Some, cond, fold, max, nat_lt}
use Rattle.std.specs.Option.{option_or}
use Rattle.std.proofs.Common.{ap, arith, sym, ◌∙◌}
use Rattle.std.proofs.Math.Nat.{mul-le-mul_right}
use Rattle.std.proofs.lemmas.List.Concat.{flat_map-cons}
use Rattle.std.proofs.lemmas.List.Sums.{fold-append}
use Rattle.hierarchy.specs.Failures.{Failure, earlier}
use Rattle.vlog_tree.specs.declared.design.Module.{Module}
use Rattle.vlog_tree.specs.declared.expr.BinOp.{BinOp}
use Rattle.vlog_tree.specs.declared.expr.BinOp.TheVariants as binary
use Rattle.vlog_tree.specs.declared.expr.UnOp.{UnOp}
use Rattle.vlog_tree.specs.declared.expr.UnOp.TheVariants as unary
use Rattle.vlog_tree.specs.Meaning.Widths.{binary_width, greatest, unary_width}
use Rattle.width_rules.specs.Capped.{Capped, beside, cap, capped, repeated, row_of, terminal_failures, width_failures, with_width}
use Rattle.width_rules.specs.Widths.{Shape, bad_terminal, failures_of, judged, together, whole_failure, widths_of}

abbrev pub Found : Type 0
Found = Option Failure

-- ---- widths

pub cap_max : (left right : ℕ) → cap (max left right) ≡ max (cap left) (cap right)
cap_max left right = grind arith

pub cap_unary : (op : UnOp) (width : ℕ) → cap (unary_width op width) ≡ unary_width op (cap width)
cap_unary unary.Inv width = refl
cap_unary unary.Not width = refl
cap_unary unary.RedAnd width = refl
cap_unary unary.RedNand width = refl
cap_unary unary.RedOr width = refl
cap_unary unary.RedNor width = refl
cap_unary unary.RedXor width = refl
cap_unary unary.RedXnor width = refl

pub cap_binary : (op : BinOp) (left right : ℕ) → cap (binary_width op left right) ≡ binary_width op (cap left) (cap right)
cap_binary binary.And left right = cap_max left right
cap_binary binary.Or left right = cap_max left right
cap_binary binary.Xor left right = cap_max left right
cap_binary binary.Xnor left right = cap_max left right
cap_binary binary.LogAnd left right = refl
cap_binary binary.LogOr left right = refl
cap_binary binary.Eq left right = refl
cap_binary binary.Ne left right = refl

pub cap_times : (count width : ℕ) → cap (count * cap width) ≡ cap (count * width)
cap_times zero width = grind arith
cap_times (suc n) width =
    let some : 1 ≤ suc n = omega arith in
    let kept : 1 * cap width ≤ suc n * cap width = mul-le-mul_right (cap width) some in
    let all : 1 * width ≤ suc n * width = mul-le-mul_right width some in
    grind (arith, kept, all)

is_wide : (width : ℕ) → nat_lt greatest width ≡ nat_lt greatest (cap width)
is_wide width = grind arith

is_one : (width : ℕ) → (cap width == 1) ≡ (width == 1)
is_one width = grind arith

-- ---- what is noted

module _ (m : Module) where
  -- what is inside, and then the whole
  pub judged_noted : (whole : Shape) (kept : Capped) (before middle after : Found) → kept ≡ capped whole
      → middle ≡ fold earlier before whole.failures → after ≡ fold earlier middle (width_failures m kept)
      → after ≡ fold earlier before (judged m whole).failures
  judged_noted whole kept before middle after is inside here =
      let noted : Bool → Found = λ wide. fold earlier (fold earlier before whole.failures) (cond wide (whole_failure m whole ∷ []) []) in
      here
      ∙ (ap (λ kept. fold earlier middle (width_failures m kept)) is
      ∙ (ap (λ middle. fold earlier middle (width_failures m (capped whole))) inside
      ∙ (ap noted (sym (is_wide whole.width))
      ∙ sym (fold-append earlier before whole.failures (cond (nat_lt greatest whole.width) (whole_failure m whole ∷ []) [])))))

  -- a terminal, by what is kept of it
  pub terminal_kept : (whole : Shape) → terminal_failures m (capped whole) ≡ bad_terminal m whole
  terminal_kept whole = ap (λ one. cond one [] (whole_failure m whole ∷ [])) (is_one whole.width)

-- the same of a shape under another name
pub noted_as : (shape form : Shape) (before after : Found) → shape ≡ form
    → after ≡ fold earlier before form.failures → after ≡ fold earlier before shape.failures
noted_as shape form before after is noted = noted ∙ ap (λ (shape : Shape). fold earlier before shape.failures) (sym is)

pub failures_after : (before : Found) (part : Shape) (parts : List Shape) →
    fold earlier before (failures_of (part ∷ parts)) ≡ fold earlier (fold earlier before part.failures) (failures_of parts)
failures_after before part parts =
    ap (fold earlier before) (flat_map-cons (λ (part : Shape). part.failures) part parts)
    ∙ fold-append earlier before part.failures (failures_of parts)

pub two_noted : (left right : Shape) (before middle after : Found)
    → middle ≡ fold earlier before left.failures → after ≡ fold earlier middle right.failures
    → after ≡ fold earlier before (failures_of (left ∷ right ∷ []))
two_noted left right before middle after first second =
    second
    ∙ (ap (λ found. fold earlier found right.failures) first
    ∙ sym (failures_after before left (right ∷ []) ∙ failures_after (fold earlier before left.failures) right []))

pub three_noted : (condition first second : Shape) (before one two after : Found)
    → one ≡ fold earlier before condition.failures → two ≡ fold earlier one first.failures
    → after ≡ fold earlier two second.failures
    → after ≡ fold earlier before (failures_of (condition ∷ first ∷ second ∷ []))
three_noted condition first second before one two after h k l =
    two_noted first second one two after k l
    ∙ (ap (λ found. fold earlier found (failures_of (first ∷ second ∷ []))) h
    ∙ sym (failures_after before condition (first ∷ second ∷ [])))

-- ---- parts

pub or_none : {T : Type 0} (found : Option T) → option_or found None ≡ found
or_none None = refl
or_none (Some x) = refl

pub two_kept : (left right : Shape) (width : ℕ) →
    with_width (beside (capped left) (capped right)) (cap width) ≡ capped (together (left ∷ right ∷ []) width)
two_kept left right width =
    ap (λ name. record { at = left.at; name = option_or left.name name; width = cap width }) (sym (or_none right.name))

pub three_kept : (condition first second : Shape) (width : ℕ) →
    with_width (beside (capped condition) (beside (capped first) (capped second))) (cap width)
    ≡ capped (together (condition ∷ first ∷ second ∷ []) width)
three_kept condition first second width =
    ap (λ name. record { at = condition.at; name = option_or condition.name (option_or first.name name); width = cap width })
    (sym (or_none second.name))

-- ---- the forms that have parts

pub two_whole : (op : BinOp) (left right : Shape) (first second row whole : Capped) (width : ℕ)
    → first ≡ capped left → second ≡ capped right → row ≡ beside first second → width ≡ binary_width op first.width second.width
    → whole ≡ with_width row width → whole ≡ capped (together (left ∷ right ∷ []) (binary_width op left.width right.width))
two_whole op left right first second row whole width h k l n o =
    let widths : width ≡ cap (binary_width op left.width right.width) =
    n ∙ (ap (λ (first : Capped). binary_width op first.width second.width) h
    ∙ (ap (λ (second : Capped). binary_width op (cap left.width) second.width) k
    ∙ sym (cap_binary op left.width right.width))) in
    o ∙ (ap (with_width row) widths
    ∙ (ap (λ row. with_width row (cap (binary_width op left.width right.width)))
    (l ∙ (ap (λ first. beside first second) h ∙ ap (beside (capped left)) k))
    ∙ two_kept left right (binary_width op left.width right.width)))

pub three_whole : (condition left right : Shape) (test first second between row whole : Capped) (width : ℕ)
    → test ≡ capped condition → first ≡ capped left → second ≡ capped right → between ≡ beside first second
    → row ≡ beside test between → width ≡ max first.width second.width → whole ≡ with_width row width
    → whole ≡ capped (together (condition ∷ left ∷ right ∷ []) (max left.width right.width))
three_whole condition left right test first second between row whole width g h k i l n o =
    let widths : width ≡ cap (max left.width right.width) =
    n ∙ (ap (λ (first : Capped). max first.width second.width) h
    ∙ (ap (λ (second : Capped). max (cap left.width) second.width) k
    ∙ sym (cap_max left.width right.width))) in
    o ∙ (ap (with_width row) widths
    ∙ (ap (λ row. with_width row (cap (max left.width right.width)))
    (l ∙ (ap (λ test. beside test between) g
    ∙ ap (beside (capped condition)) (i ∙ (ap (λ first. beside first second) h ∙ ap (beside (capped left)) k))))
    ∙ three_kept condition left right (max left.width right.width)))

pub times_whole : (count : ℕ) (parts : List Shape) (row whole : Capped)
    → row ≡ capped (row_of parts) → whole ≡ repeated count row
    → whole ≡ capped (together parts (count * widths_of parts))
times_whole count parts row whole h k =
    k ∙ (ap (repeated count) h
    ∙ ap (with_width (capped (row_of parts))) (cap_times count (widths_of parts)))
