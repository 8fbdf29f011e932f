-- What the rules of names, numbers, selects and delays make of the tokens up to one of them.
use Rattle.std.proofs.Common.{◌≡◌, ◌<◌, ◌+◌, ℕ, Bool, true, false, List, [], ◌∷◌, ◌++◌, length, codes, Option, Some, None, Err, if◌then◌else◌, refl, sym, ap, ◌∙◌, arith}
use Rattle.vlog_tokens.specs.Toks.{Tok}
use Rattle.vlog_parse.specs.Delays.{any_delay, delay, parted, several, single, values}
use Rattle.vlog_numbers.specs.Values.{is_based_kind, sees_based, sized_of, unsized_of}
use Rattle.vlog_parse.specs.Numbers.{decimal_number, number, sized_digits, sized_number, unsized_number}
use Rattle.vlog_parse.specs.Looks.{sees_size}
use Rattle.vlog_parse.specs.Reads.{Parser, and_then, refuse, sees, take_if, taken_by}
use Rattle.vlog_parse.specs.Selects.{bit_after, bracketed, part_after, range, range_after, select, select_after}
use Rattle.vlog_numbers.specs.Terminals.{decimal_of, is_size, name_of}
use Rattle.vlog_parse.specs.Terminals.{decimal, name}
use Rattle.vlog_parse.proofs.LocalLoops.{Takes, separated_local, take_takes}
use Rattle.vlog_parse.proofs.Locals.{Keeps, Local, ending, expect_local, if_local, never_longer, pure_local, refuse_local, same_found, take_local, then_local}

module _ {n m : ℕ} where
  pub decimal_local : Local n m decimal decimal
  unfolding decimal
  decimal_local = take_local decimal_of

  pub name_local : Local n m name name
  unfolding name
  name_local = take_local name_of

pub name_takes : Takes name
unfolding name
name_takes = take_takes name_of

-- ---- what begins with a decimal

pub starts_decimal : {B : Type 0} (f : ℕ → Parser B) → ((value : ℕ) → Keeps (f value)) → (tok : Tok) (rest : List Tok) (found : Option B) → and_then (decimal (tok ∷ rest)) f ≡ ending found (tok ∷ rest)
    → (decimal_of tok ≡ None) × (found ≡ None)
unfolding decimal take_if
starts_decimal {B} f keeps tok rest found e = by (decimal_of tok) refl e
  where
    by : (o : Option ℕ) → decimal_of tok ≡ o → and_then (taken_by o tok rest) f ≡ ending found (tok ∷ rest) → (decimal_of tok ≡ None) × (found ≡ None)
    by (Some value) h e = let (front, same) = keeps value rest found (tok ∷ rest) e in absurd (never_longer front tok rest same)
    by None h e = (h, sym (same_found None found (tok ∷ rest) (tok ∷ rest) e))

pub no_decimal : {B : Type 0} (f : ℕ → Parser B) (tok : Tok) (rest : List Tok) → decimal_of tok ≡ None → and_then (decimal (tok ∷ rest)) f ≡ Err (tok ∷ rest)
unfolding decimal take_if
no_decimal f tok rest h = ap (λ (o : Option ℕ). and_then (taken_by o tok rest) f) h

-- ---- numbers

-- the rule of a number, by whether the next token is based and whether the one after it is
abbrev alternative : Bool → Bool → Parser (List Bool)
alternative based size = if based then unsized_number else (if size then sized_number else decimal_number)

not_decimal : (size : Bool) (tok : Tok) (more : List Tok) (found : Option (List Bool)) → (decimal_of tok ≡ None) × (found ≡ None) → alternative false size (tok ∷ more) ≡ ending found (tok ∷ more)
unfolding sized_number decimal_number
not_decimal true tok more found (h, none) = no_decimal sized_digits tok more h ∙ ap (λ o. ending o (tok ∷ more)) (sym none)
not_decimal false tok more found (h, none) = no_decimal _ tok more h ∙ ap (λ o. ending o (tok ∷ more)) (sym none)

looks : (front : List Tok) (tok : Tok) (rest more : List Tok) → sees_based (front ++ tok ∷ more) ≡ sees_based (front ++ tok ∷ rest)
looks [] tok rest more = refl
looks (first ∷ front) tok rest more = refl

module _ {n m : ℕ} where
  unsized_local : Local n m unsized_number unsized_number
  unfolding unsized_number
  unsized_local = take_local unsized_of

  pub digits_local : (width : ℕ) → Local n m (sized_digits width) (sized_digits width)
  unfolding sized_digits
  digits_local width = by (is_size width)
    where
      by : (b : Bool) → Local n m (if b then take_if (sized_of width) else refuse) (if b then take_if (sized_of width) else refuse)
      by true = take_local (sized_of width)
      by false = refuse_local

  sized_local : Local n m sized_number sized_number
  unfolding sized_number
  sized_local = then_local decimal_local digits_local

  decimal_number_local : Local n m decimal_number decimal_number
  unfolding decimal_number
  decimal_number_local = then_local decimal_local (λ value. pure_local _)

  alternative_local : (based size : Bool) → Local n m (alternative based size) (alternative based size)
  alternative_local true size = unsized_local
  alternative_local false true = sized_local
  alternative_local false false = decimal_number_local

  first_moves : (based size size2 : Bool) (tok : Tok) (rest more : List Tok) (found : Option (List Bool)) → length rest < n → length more < m → alternative based size (tok ∷ rest) ≡ ending found (tok ∷ rest)
      → alternative based size2 (tok ∷ more) ≡ ending found (tok ∷ more)
  unfolding sized_number decimal_number
  first_moves true size size2 tok rest more found fits fits2 e = unsized_local.moves [] tok rest more found (omega arith) (omega arith) e
  first_moves false true size2 tok rest more found fits fits2 e = not_decimal size2 tok more found (starts_decimal sized_digits (λ width. (digits_local width).keeps) tok rest found e)
  first_moves false false size2 tok rest more found fits fits2 e = not_decimal size2 tok more found (starts_decimal _ (λ value. (let stays : Local n m _ _ = pure_local _ in stays.keeps)) tok rest found e)

  number_moves : (front : List Tok) (tok : Tok) (rest more : List Tok) (found : Option (List Bool)) → length front + length rest < n → length front + length more < m
      → number (front ++ tok ∷ rest) ≡ ending found (tok ∷ rest) → number (front ++ tok ∷ more) ≡ ending found (tok ∷ more)
  unfolding number
  number_moves [] tok rest more found fits fits2 e = first_moves (is_based_kind tok.kind) (sees_based rest) (sees_based more) tok rest more found (omega arith) (omega arith) e
  number_moves (first ∷ front) tok rest more found fits fits2 e =
      ap (λ (b : Bool). alternative (is_based_kind first.kind) b (first ∷ (front ++ tok ∷ more))) (looks front tok rest more)
      ∙ (alternative_local (is_based_kind first.kind) (sees_based (front ++ tok ∷ rest))).moves (first ∷ front) tok rest more found fits fits2 e

  pub number_local : Local n m number number
  unfolding number
  number_local = record {
    keeps = λ ts found left e. (alternative_local (sees_based ts) (sees_size ts)).keeps ts found left e;
    moves = number_moves;
  }

-- ---- selects

module _ {n m : ℕ} where
  range_after_local : (left : ℕ) → Local n m (range_after left) (range_after left)
  unfolding range_after
  range_after_local left = then_local (expect_local (codes ":")) (λ _. then_local decimal_local (λ right. then_local (expect_local (codes "]")) (λ _. pure_local _)))

  pub range_local : Local n m range range
  unfolding range
  range_local = then_local (expect_local (codes "[")) (λ _. then_local decimal_local range_after_local)

  part_after_local : (left : ℕ) → Local n m (part_after left) (part_after left)
  unfolding part_after
  part_after_local left = then_local (range_after_local left) (λ found. pure_local _)

  bit_after_local : (index : ℕ) → Local n m (bit_after index) (bit_after index)
  unfolding bit_after
  bit_after_local index = then_local (expect_local (codes "]")) (λ _. pure_local _)

  select_after_local : (first : ℕ) → Local n m (select_after first) (select_after first)
  unfolding select_after
  select_after_local first = if_local (sees (codes ":")) (λ tok rest more. refl) (part_after_local first) (bit_after_local first)

  bracketed_local : Local n m bracketed bracketed
  unfolding bracketed
  bracketed_local = then_local (expect_local (codes "[")) (λ _. then_local decimal_local select_after_local)

  pub select_local : Local n m select select
  unfolding select
  select_local = if_local (sees (codes "[")) (λ tok rest more. refl) bracketed_local (pure_local _)

-- ---- delays

module _ {n m : ℕ} where
  parted_local : Local n m parted parted
  unfolding parted
  parted_local = if_local sees_based (λ tok rest more. refl) refuse_local (pure_local tt)

  single_local : Local n m single single
  unfolding single
  single_local = then_local decimal_local (λ _. parted_local)

  several_local : Local n m several several
  unfolding several
  several_local = then_local (expect_local (codes "(")) (λ _. then_local (separated_local decimal_local) (λ _. then_local (expect_local (codes ")")) (λ _. pure_local tt)))

  values_local : Local n m values values
  unfolding values
  values_local = if_local (sees (codes "(")) (λ tok rest more. refl) several_local single_local

  delay_local : Local n m delay delay
  unfolding delay
  delay_local = then_local (expect_local (codes "#")) (λ _. values_local)

  pub any_delay_local : Local n m any_delay any_delay
  unfolding any_delay
  any_delay_local = if_local (sees (codes "#")) (λ tok rest more. refl) delay_local (pure_local tt)
