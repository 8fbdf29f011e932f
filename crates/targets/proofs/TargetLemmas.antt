-- The bits of expressions that can be assigned, at each form.
use Rattle.std.proofs.Common.{◌≡◌, ◌<◌, ◌+◌, ℕ, zero, suc, Bool, true, false, ◌&&◌, List, [], ◌∷◌, Option, None, Some, ap, arith, drop, get_or, is_some, length, map, refl, sym, unwrap_or, ◌∙◌}
use Rattle.std.specs.Option.{option_map}
use Rattle.std.proofs.lemmas.Bool.{false≢true}
use Rattle.std.proofs.lemmas.List.{at_drop_more}
use Rattle.bm_base.specs.declared.range.Range.{Range}
use Rattle.vlog_tree.specs.declared.design.Module.{Module}
use Rattle.vlog_tree.specs.declared.expr.Expr.{Expr}
use Rattle.vlog_tree.specs.declared.expr.Expr.TheFolds.{fold-roll-Expr}
use Rattle.vlog_tree.specs.declared.expr.Expr.TheOpen.{Expr-F}
use Rattle.vlog_tree.specs.declared.expr.Expr.TheVariants as expr
use Rattle.vlog_tree.specs.Meaning.Lefts.{Bit, beside, some_bits, target_bits, target_bits_at}
use Rattle.vlog_tree.specs.Meaning.Ranges.{bit_with, part_bits, whole_bits}
use Rattle.vlog_tree.specs.Meaning.Uses.{Text}
use Rattle.vlog_tree.specs.Meaning.Widths.{all_of}
use Rattle.targets.specs.Numbers.{assigned_bits}

module _ (m : Module) (e : Expr) where
  pub target_whole : (at : ℕ) (name : Text) → e ≡ expr.Whole at name → target_bits m e ≡ Some (some_bits (whole_bits m name))
  target_whole at name is =
      ap (target_bits m) (is ∙ sym (expr.rolls-Whole at name))
      ∙ fold-roll-Expr (Option (List Bit)) (target_bits_at m) (Expr-F.Whole at name)

  pub target_bit : (at : ℕ) (name : Text) (index : ℕ) → e ≡ expr.Bit at name index → target_bits m e ≡ Some (some_bits (bit_with m name index))
  target_bit at name index is =
      ap (target_bits m) (is ∙ sym (expr.rolls-Bit at name index))
      ∙ fold-roll-Expr (Option (List Bit)) (target_bits_at m) (Expr-F.Bit at name index)

  pub target_part : (at : ℕ) (name : Text) (range : Range) → e ≡ expr.Part at name range
      → target_bits m e ≡ Some (some_bits (part_bits m name range))
  target_part at name range is =
      ap (target_bits m) (is ∙ sym (expr.rolls-Part at name range))
      ∙ fold-roll-Expr (Option (List Bit)) (target_bits_at m) (Expr-F.Part at name range)

  pub target_join : (parts : List Expr) → e ≡ expr.Join parts → target_bits m e ≡ option_map beside (all_of (map (target_bits m) parts))
  target_join parts is =
      ap (target_bits m) (is ∙ sym (expr.rolls-Join parts))
      ∙ fold-roll-Expr (Option (List Bit)) (target_bits_at m) (Expr-F.Join parts)

-- ---- parts

mapped_some : {X Y : Type 0} (f : X → Y) (o : Option X) → is_some (option_map f o) ≡ is_some o
mapped_some f None = refl
mapped_some f (Some x) = refl

all_cons : {X : Type 0} (o : Option X) (os : List (Option X)) → is_some (all_of (o ∷ os)) ≡ (is_some o && is_some (all_of os))
all_cons None os = refl
all_cons (Some x) os = mapped_some (λ others. x ∷ others) (all_of os)

all_values : {X : Type 0} (none : X) (os : List (Option X)) → is_some (all_of os) ≡ true → all_of os ≡ Some (map (λ o. unwrap_or o none) os)
all_values none [] all = refl
all_values none (None ∷ os) all = absurd cc
all_values {X = X} none (Some x ∷ os) all =
    ap (option_map (λ others. x ∷ others)) (all_values none os (sym (mapped_some (λ others. x ∷ others) (all_of os)) ∙ all))

mapped_twice : {X Y Z : Type 0} (g : Y → Z) (f : X → Y) (xs : List X) → map g (map f xs) ≡ map (λ x. g (f x)) xs
mapped_twice g f [] = refl
mapped_twice g f (x ∷ xs) = ap (λ rest. g (f x) ∷ rest) (mapped_twice g f xs)

pub not_target : (m : Module) (e : Expr) → is_some (target_bits m e) ≡ false → assigned_bits m e ≡ []
not_target m e none = by (target_bits m e) none
  where
    by : (bits : Option (List Bit)) → is_some bits ≡ false → unwrap_or bits [] ≡ []
    by None none = refl
    by (Some bits) none = absurd cc

pub join_is : (m : Module) (e : Expr) → is_some (target_bits m e) ≡ true → (parts : List Expr) → e ≡ expr.Join parts
    → assigned_bits m e ≡ beside (map (assigned_bits m) parts)
join_is m e some parts is =
    let all : is_some (all_of (map (target_bits m) parts)) ≡ true =
    sym (ap is_some (target_join m e parts is) ∙ mapped_some beside (all_of (map (target_bits m) parts))) ∙ some in
    ap (λ bits. unwrap_or bits []) (target_join m e parts is ∙ ap (option_map beside) (all_values [] (map (target_bits m) parts) all))
    ∙ ap beside (mapped_twice (λ o. unwrap_or o []) (target_bits m) parts)

pub join_all : (m : Module) (e : Expr) → is_some (target_bits m e) ≡ true → (parts : List Expr) → e ≡ expr.Join parts
    → is_some (all_of (map (target_bits m) parts)) ≡ true
join_all m e some parts is =
    sym (ap is_some (target_join m e parts is) ∙ mapped_some beside (all_of (map (target_bits m) parts))) ∙ some

pub join_some : (m : Module) (e : Expr) (parts : List Expr) → e ≡ expr.Join parts
    → is_some (all_of (map (target_bits m) parts)) ≡ is_some (target_bits m e)
join_some m e parts is = sym (ap is_some (target_join m e parts is) ∙ mapped_some beside (all_of (map (target_bits m) parts)))

pub part_some : (m : Module) (parts : List Expr) (i : ℕ) (d : Expr) → i < length parts
    → is_some (all_of (map (target_bits m) parts)) ≡ true → is_some (target_bits m (get_or parts i d)) ≡ true
part_some m [] i d few all = absurd (omega (arith, few))
part_some m (part ∷ parts) i d few all = by i few (is_some (target_bits m part)) refl
    (sym (all_cons (target_bits m part) (map (target_bits m) parts)) ∙ all) (part_some m parts)
  where
    by : (i : ℕ) → i < suc (length parts) → (b : Bool) → is_some (target_bits m part) ≡ b
        → (is_some (target_bits m part) && is_some (all_of (map (target_bits m) parts))) ≡ true
        → ((i : ℕ) (d : Expr) → i < length parts → is_some (all_of (map (target_bits m) parts)) ≡ true
        → is_some (target_bits m (get_or parts i d)) ≡ true)
        → is_some (target_bits m (get_or (part ∷ parts) i d)) ≡ true
    by i few false is both rest = absurd (false≢true (ap (λ b. b && is_some (all_of (map (target_bits m) parts))) (sym is) ∙ both))
    by zero few true is both rest = is
    by (suc i) few true is both rest =
        rest i d (omega (arith, few)) (ap (λ b. b && is_some (all_of (map (target_bits m) parts))) (sym is) ∙ both)

-- ---- one part more

module _ (m : Module) (parts : List Expr) (i : ℕ) (d : Expr) (within : i < length parts) (whole : Bool) where
  abbrev left : ℕ → Bool
  left i = is_some (all_of (map (target_bits m) (drop i parts)))

  one_more : left i ≡ (is_some (target_bits m (get_or parts i d)) && left (i + 1))
  one_more =
      at_drop_more (λ parts. is_some (all_of (map (target_bits m) parts))) parts i d within
      ∙ all_cons (target_bits m (get_or parts i d)) (map (target_bits m) (drop (i + 1) parts))

  pub part_passes : true ≡ is_some (target_bits m (get_or parts i d)) → left i ≡ whole → left (i + 1) ≡ whole
  part_passes is so_far = sym (one_more ∙ ap (λ b. b && left (i + 1)) (sym is)) ∙ so_far

  pub part_fails : false ≡ is_some (target_bits m (get_or parts i d)) → left i ≡ whole → false ≡ whole
  part_fails is so_far = sym (one_more ∙ ap (λ b. b && left (i + 1)) (sym is)) ∙ so_far
