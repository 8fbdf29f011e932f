-- Relations of values under which circuits keep their meaning.
use Rattle.std.specs.Prelude.{⊤, Bool, Option, None, Some, option_map, refl}
use Rattle.std.proofs.Common.{ap, ◌∙◌}
use Rattle.vlog_tree.specs.Meaning.Widths.{together}
use Rattle.lowering.specs.Meaning.{IsAbove, IsBelow, Relation}

-- what is needed of a relation: it holds of equal values, is transitive, and is kept by functions of one and of two values
pub record IsKept (rel : Relation) : Type 0 where
  pub same : (a : Option Bool) → rel a a
  pub through : (a b c : Option Bool) → rel a b → rel b c → rel a c
  pub mapped : (f : Bool → Bool) (a b : Option Bool) → rel a b → rel (option_map f a) (option_map f b)
  pub both : (f : Bool → Bool → Bool) (a b c d : Option Bool) → rel a b → rel c d → rel (together f a c) (together f b d)

below-mapped : (f : Bool → Bool) (a b : Option Bool) → IsBelow a b → IsBelow (option_map f a) (option_map f b)
below-mapped f None b h value is = cc
below-mapped f (Some x) b h value is = ap (option_map f) (h x refl) ∙ is

below-both : (f : Bool → Bool → Bool) (a b c d : Option Bool) → IsBelow a b → IsBelow c d → IsBelow (together f a c) (together f b d)
below-both f None b c d h k value is = cc
below-both f (Some x) b None d h k value is = cc
below-both f (Some x) b (Some y) d h k value is =
    ap (λ first. together f first d) (h x refl) ∙ (ap (together f (Some x)) (k y refl) ∙ is)

pub below_kept : IsKept IsBelow
below_kept = record {
  same = λ a value is. is;
  through = λ a b c h k value is. k value (h value is);
  mapped = below-mapped;
  both = below-both;
}

pub above_kept : IsKept IsAbove
above_kept = record {
  same = λ a value is. is;
  through = λ a b c h k value is. h value (k value is);
  mapped = λ f a b h. below-mapped f b a h;
  both = λ f a b c d h k. below-both f b a d c h k;
}

-- any two values are so related
abbrev pub IsAny : Relation
IsAny a b = ⊤

pub any_kept : IsKept IsAny
any_kept = record {
  same = λ a. tt;
  through = λ a b c h k. tt;
  mapped = λ f a b h. tt;
  both = λ f a b c d h k. tt;
}
