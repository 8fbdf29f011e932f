-- Results that may be missing, below others, through the words that combine them.
use Rattle.std.specs.Prelude.{◌≡◌, List, [], ◌∷◌, Bool, true, false, Option, None, Some, cond, map, option_and_then, option_map, refl}
use Rattle.std.specs.Option.{option_or}
use Rattle.std.proofs.Common.{ap, ◌∙◌}
use Rattle.std.proofs.lemmas.Option.{none-some}
use Rattle.vlog_tree.specs.Meaning.Expressions.{chosen}
use Rattle.vlog_tree.specs.Meaning.Widths.{all_of, together}

-- where the first is there, the second is the same one
abbrev pub Below : {X : Type 0} (first second : Option X) → Type 0
Below {X = X} first second = (x : X) → first ≡ Some x → second ≡ Some x

pub below_self : {X : Type 0} (a : Option X) → Below a a
below_self a x is = is

module _ {X Y : Type 0} where
  pub map_below : (f : X → Y) (a b : Option X) → Below a b → Below (option_map f a) (option_map f b)
  map_below f None b h y is = absurd (none-some y is)
  map_below f (Some x) b h y is = ap (option_map f) (h x refl) ∙ is

  pub then_below : (f : X → Option Y) (a b : Option X) → Below a b → Below (option_and_then f a) (option_and_then f b)
  then_below f None b h y is = absurd (none-some y is)
  then_below f (Some x) b h y is = ap (option_and_then f) (h x refl) ∙ is

  pub then_each : (f g : X → Option Y) → ((x : X) → Below (f x) (g x)) → (a : Option X)
      → Below (option_and_then f a) (option_and_then g a)
  then_each f g h None y is = is
  then_each f g h (Some x) y is = h x y is

pub together_below : {X Y Z : Type 0} (f : X → Y → Z) (a b : Option X) (c d : Option Y) → Below a b → Below c d
    → Below (together f a c) (together f b d)
together_below f None b c d h k z is = absurd (none-some z is)
together_below f (Some x) b None d h k z is = absurd (none-some z is)
together_below f (Some x) b (Some y) d h k z is =
    ap (λ first. together f first d) (h x refl) ∙ (ap (together f (Some x)) (k y refl) ∙ is)

pub chosen_below : (a b c d e f : Option Bool) → Below a b → Below c d → Below e f → Below (chosen a c e) (chosen b d f)
chosen_below None b c d e f h k l z is = absurd (none-some z is)
chosen_below (Some choice) b c d e f h k l z is =
    ap (λ first. chosen first d f) (h choice refl) ∙ together_below (cond choice) c d e f k l z is

module _ {X : Type 0} where
  pub cond_below : (choice : Bool) (a b c d : Option X) → Below a b → Below c d → Below (cond choice a c) (cond choice b d)
  cond_below true a b c d h k = h
  cond_below false a b c d h k = k

  pub or_below : (a b c : Option X) → Below b c → Below (option_or a b) (option_or a c)
  or_below None b c h = h
  or_below (Some x) b c h = below_self (Some x)

  pub first_below : (a b : Option X) (rest others : List (Option X)) → Below a b → Below (all_of rest) (all_of others)
      → Below (all_of (a ∷ rest)) (all_of (b ∷ others))
  first_below None b rest others h k all is = absurd (none-some all is)
  first_below (Some x) b rest others h k all is =
      ap (λ first. all_of (first ∷ others)) (h x refl) ∙ map_below (λ xs. x ∷ xs) (all_of rest) (all_of others) k all is

pub all_below : {I X : Type 0} (f g : I → Option X) → ((i : I) → Below (f i) (g i)) → (list : List I)
    → Below (all_of (map f list)) (all_of (map g list))
all_below f g h [] = below_self (Some [])
all_below f g h (i ∷ list) = first_below (f i) (g i) (map f list) (map g list) (h i) (all_below f g h list)
