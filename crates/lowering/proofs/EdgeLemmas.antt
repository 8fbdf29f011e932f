-- Edges that carry values.
use Rattle.std.specs.Prelude.{◌≡◌, ℕ, zero, suc, ◌+◌, ◌<◌, List, [], ◌∷◌, ◌++◌, Bool, true, false, not, Option, None, Some, length, map, option_map, refl, replicate}
use Rattle.std.proofs.Math.Bool.{xor}
use Rattle.std.specs.List.{range_with_len, repeat}
use Rattle.std.proofs.Common.{ap, arith, sym, subst}
use Rattle.flat_net.specs.declared.edge.Edge.{Edge}
use Rattle.flat_net.specs.Edges.{constant, negated, plain, zero_edge}
use Rattle.flat_net.specs.Values.{Reading, edge_value}
use Rattle.lowering.specs.Meaning.{Carries, HasZero, Relation, edge_at}
use Rattle.lowering.proofs.RelationLemmas.{IsKept}

-- ---- values of edges

not_xor : (neg : Bool) (value : Option Bool) → option_map not (option_map (xor neg) value) ≡ option_map (xor (not neg)) value
unfolding xor
not_xor neg None = refl
not_xor true (Some true) = refl
not_xor true (Some false) = refl
not_xor false (Some true) = refl
not_xor false (Some false) = refl

pub negated_value : (read : Reading) (edge : Edge) → option_map not (edge_value read edge) ≡ edge_value read (negated edge)
negated_value read edge = not_xor edge.neg (read edge.node)

xor_none : (value : Option Bool) → value ≡ option_map (xor false) value
unfolding xor
xor_none None = refl
xor_none (Some true) = refl
xor_none (Some false) = refl

pub plain_value : (read : Reading) (node : ℕ) → read node ≡ edge_value read (plain node)
plain_value read node = xor_none (read node)

constant_is : (value : Bool) → Some value ≡ option_map (xor value) (Some false)
unfolding xor
constant_is true = refl
constant_is false = refl

module _ (rel : Relation) (kept : IsKept rel) where
  pub as_left : (a b c : Option Bool) → a ≡ b → rel b c → rel a c
  as_left a b c is h = subst (λ a. rel a c) (sym is) h

  pub as_right : (a b c : Option Bool) → b ≡ c → rel a b → rel a c
  as_right a b c is h = subst (rel a) is h

  module _ (read : Reading) where
    pub negated_carries : (value : Option Bool) (edge : Edge) → rel value (edge_value read edge)
        → rel (option_map not value) (edge_value read (negated edge))
    negated_carries value edge h =
        as_right (option_map not value) (option_map not (edge_value read edge)) (edge_value read (negated edge)) (negated_value read edge)
        (kept.mapped not value (edge_value read edge) h)

    pub constant_carries : HasZero rel read → (value : Bool) → rel (Some value) (edge_value read (constant value))
    constant_carries none value =
        as_left (Some value) (option_map (xor value) (Some false)) (edge_value read (constant value)) (constant_is value)
        (kept.mapped (xor value) (Some false) (read 0) none)

    pub zero_carries : HasZero rel read → rel (Some false) (edge_value read zero_edge)
    zero_carries none = constant_carries none false

    -- ---- lists of edges

    pub each_negated : (values : List (Option Bool)) (edges : List Edge) → Carries rel read values edges
        → Carries rel read (map (option_map not) values) (map negated edges)
    each_negated [] [] h = tt
    each_negated [] (edge ∷ edges) h = h
    each_negated (value ∷ values) [] h = h
    each_negated (value ∷ values) (edge ∷ edges) h = (negated_carries value edge h.0, each_negated values edges h.1)

    pub each_constant : HasZero rel read → (values : List Bool) → Carries rel read (map Some values) (map constant values)
    each_constant none [] = tt
    each_constant none (value ∷ values) = (constant_carries none value, each_constant none values)

    pub zeros : HasZero rel read → (count : ℕ) → Carries rel read (replicate count (Some false)) (replicate count zero_edge)
    zeros none zero = tt
    zeros none (suc count) = (zero_carries none, zeros none count)

    pub append_carries : (values others : List (Option Bool)) (edges more : List Edge) → Carries rel read values edges
        → Carries rel read others more → Carries rel read (values ++ others) (edges ++ more)
    append_carries [] others [] more h k = k
    append_carries [] others (edge ∷ edges) more h k = absurd h
    append_carries (value ∷ values) others [] more h k = absurd h
    append_carries (value ∷ values) others (edge ∷ edges) more h k = (h.0, append_carries values others edges more h.1 k)

    pub repeat_carries : (count : ℕ) (values : List (Option Bool)) (edges : List Edge) → Carries rel read values edges
        → Carries rel read (repeat count values) (repeat count edges)
    repeat_carries zero values edges h = tt
    repeat_carries (suc count) values edges h =
        append_carries values (repeat count values) edges (repeat count edges) h (repeat_carries count values edges h)

    pub length_carries : (values : List (Option Bool)) (edges : List Edge) → Carries rel read values edges → length values ≡ length edges
    length_carries [] [] h = refl
    length_carries [] (edge ∷ edges) h = absurd h
    length_carries (value ∷ values) [] h = absurd h
    length_carries (value ∷ values) (edge ∷ edges) h = ap suc (length_carries values edges h.1)

    -- the edge at a place
    pub carried_at : (f : ℕ → Option Bool) (first width : ℕ) (edges : List Edge)
        → Carries rel read (map f (range_with_len first width)) edges
        → (place : ℕ) → place < width → rel (f (first + place)) (edge_at read edges place)
    carried_at f first zero edges h place within = absurd (omega arith)
    carried_at f first (suc width) [] h place within = absurd h
    carried_at f first (suc width) (edge ∷ edges) h zero within =
        subst (λ place. rel (f place) (edge_value read edge)) (omega arith) h.0
    carried_at f first (suc width) (edge ∷ edges) h (suc place) within =
        subst (λ one. rel (f one) (edge_at read edges place)) (omega arith)
        (carried_at f (first + 1) width edges h.1 place (omega arith))
