-- Operators on bits, each of which may have no value, as chains of one operation of two.
use Rattle.std.specs.Prelude.{◌≡◌, ℕ, List, [], ◌∷◌, Bool, true, false, not, ◌&&◌, ◌||◌, Option, None, Some, fold, length, map, option_map, refl}
use Rattle.std.specs.Bool.{beq}
use Rattle.std.specs.Cmp.Lexicographic.{pointwise}
use Rattle.std.specs.List.{list_all, list_any}
use Rattle.std.proofs.Common.{ap, arith, sym, ◌∙◌}
use Rattle.std.proofs.Math.Bool.{xor}
use Rattle.flat_net.specs.Values.{of_both}
use Rattle.vlog_tree.specs.Meaning.Expressions.{chosen, parity}
use Rattle.vlog_tree.specs.Meaning.Widths.{all_of, together}
use Rattle.lowering.proofs.LoweredLemmas.{Values}

abbrev pub Operation : Type 0
Operation = Bool → Bool → Bool

-- ---- chains

-- so far, and then each value
abbrev pub chain_from : Operation → Option Bool → Values → Option Bool
chain_from f so_far [] = so_far
chain_from f so_far (value ∷ values) = chain_from f (together f so_far value) values

-- one value is itself
abbrev pub chain : Operation → Bool → Values → Option Bool
chain f of_none [] = Some of_none
chain f of_none (value ∷ values) = chain_from f value values

together_none : {X Y Z : Type 0} (f : X → Y → Z) (a : Option X) → together f a None ≡ None
together_none f None = refl
together_none f (Some x) = refl

all_more : (f : Operation) (x y : Bool) (rest : Option (List Bool)) →
    together (fold f) (Some (f x y)) rest ≡ together (fold f) (Some x) (option_map (λ others. y ∷ others) rest)
all_more f x y None = refl
all_more f x y (Some others) = refl

one_more : (f : Operation) (so_far value : Option Bool) (values : Values) →
    together (fold f) (together f so_far value) (all_of values) ≡ together (fold f) so_far (all_of (value ∷ values))
one_more f None value values = refl
one_more f (Some x) None values = refl
one_more f (Some x) (Some y) values = all_more f x y (all_of values)

fold_none : (f : Operation) (so_far : Option Bool) → so_far ≡ together (fold f) so_far (Some [])
fold_none f None = refl
fold_none f (Some x) = refl

chain_is : (f : Operation) (so_far : Option Bool) (values : Values) → chain_from f so_far values ≡ together (fold f) so_far (all_of values)
chain_is f so_far [] = fold_none f so_far
chain_is f so_far (value ∷ values) = chain_is f (together f so_far value) values ∙ one_more f so_far value values

-- ---- reductions

and_none : (x : Bool) → x ≡ (x && true)
and_none true = refl
and_none false = refl

and_more : (x y rest : Bool) → ((x && y) && rest) ≡ (x && (y && rest))
and_more true y rest = refl
and_more false y rest = refl

fold_and : (x : Bool) (bits : List Bool) → fold ◌&&◌ x bits ≡ (x && list_all (λ bit. bit) bits)
fold_and x [] = and_none x
fold_and x (bit ∷ bits) = fold_and (x && bit) bits ∙ and_more x bit (list_all (λ bit. bit) bits)

all_first : (x : Bool) (rest : Option (List Bool)) →
    option_map (list_all (λ bit. bit)) (option_map (λ others. x ∷ others) rest) ≡ together (fold ◌&&◌) (Some x) rest
all_first x None = refl
all_first x (Some bits) = ap Some (sym (fold_and x bits))

pub all_is : (values : Values) → option_map (list_all (λ bit. bit)) (all_of values) ≡ chain ◌&&◌ true values
all_is [] = refl
all_is (None ∷ values) = sym (chain_is ◌&&◌ None values)
all_is (Some x ∷ values) = all_first x (all_of values) ∙ sym (chain_is ◌&&◌ (Some x) values)

all_negated : (values : Values) → all_of (map (option_map not) values) ≡ option_map (map not) (all_of values)
all_negated [] = refl
all_negated (None ∷ values) = refl
all_negated (Some x ∷ values) =
    let step : (rest : Option (List Bool)) → option_map (λ others. not x ∷ others) (option_map (map not) rest)
    ≡ option_map (map not) (option_map (λ others. x ∷ others) rest) = elim [ None ↦ refl | Some others ↦ refl ] in
    ap (option_map (λ others. not x ∷ others)) (all_negated values) ∙ step (all_of values)

or_first : (x rest : Bool) → (x || not rest) ≡ not (not x && rest)
or_first true rest = refl
or_first false rest = refl

any_not_all : (bits : List Bool) → list_any (λ bit. bit) bits ≡ not (list_all (λ bit. bit) (map not bits))
any_not_all [] = refl
any_not_all (bit ∷ bits) =
    ap (λ rest. bit || rest) (any_not_all bits) ∙ or_first bit (list_all (λ bit. bit) (map not bits))

any_negated : (rest : Option (List Bool)) → option_map (list_any (λ bit. bit)) rest
    ≡ option_map not (option_map (list_all (λ bit. bit)) (option_map (map not) rest))
any_negated None = refl
any_negated (Some bits) = ap Some (any_not_all bits)

pub any_is : (values : Values) → option_map (list_any (λ bit. bit)) (all_of values)
    ≡ option_map not (chain ◌&&◌ true (map (option_map not) values))
any_is values =
    any_negated (all_of values)
    ∙ (ap (λ bits. option_map not (option_map (list_all (λ bit. bit)) bits)) (sym (all_negated values))
    ∙ ap (option_map not) (all_is (map (option_map not) values)))

xor_first : (x : Bool) → xor false x ≡ x
unfolding xor
xor_first true = refl
xor_first false = refl

parity_first : (x : Bool) (rest : Option (List Bool)) →
    option_map parity (option_map (λ others. x ∷ others) rest) ≡ together (fold xor) (Some x) rest
parity_first x None = refl
parity_first x (Some bits) = ap (λ first. Some (fold xor first bits)) (xor_first x)

pub parity_is : (values : Values) → option_map parity (all_of values) ≡ chain xor false values
parity_is [] = refl
parity_is (None ∷ values) = sym (chain_is xor None values)
parity_is (Some x ∷ values) = parity_first x (all_of values) ∙ sym (chain_is xor (Some x) values)

-- ---- two lists

abbrev pub each_pair : (Option Bool → Option Bool → Option Bool) → Values → Values → Values
each_pair f [] others = []
each_pair f (value ∷ values) [] = []
each_pair f (value ∷ values) (other ∷ others) = f value other ∷ each_pair f values others

module _ (f : Option Bool → Option Bool → Option Bool) where
  pub pair_map : (left right : ℕ → Option Bool) (places : List ℕ) →
      each_pair f (map left places) (map right places) ≡ map (λ place. f (left place) (right place)) places
  pair_map left right [] = refl
  pair_map left right (place ∷ places) = ap (λ values. f (left place) (right place) ∷ values) (pair_map left right places)

  pub pair_changed : (change : Option Bool → Option Bool) (values others : Values) →
      map change (each_pair f values others) ≡ each_pair (λ a b. change (f a b)) values others
  pair_changed change [] others = refl
  pair_changed change (value ∷ values) [] = refl
  pair_changed change (value ∷ values) (other ∷ others) = ap (λ rest. change (f value other) ∷ rest) (pair_changed change values others)

  pub pair_inner : (change : Option Bool → Option Bool) (values others : Values) →
      each_pair f (map change values) (map change others) ≡ each_pair (λ a b. f (change a) (change b)) values others
  pair_inner change [] others = refl
  pair_inner change (value ∷ values) [] = refl
  pair_inner change (value ∷ values) (other ∷ others) =
      ap (λ rest. f (change value) (change other) ∷ rest) (pair_inner change values others)

  pub pair_as : (g : Option Bool → Option Bool → Option Bool) → ((a b : Option Bool) → f a b ≡ g a b) → (values others : Values) →
      each_pair f values others ≡ each_pair g values others
  pair_as g is [] others = refl
  pair_as g is (value ∷ values) [] = refl
  pair_as g is (value ∷ values) (other ∷ others) =
      ap (λ rest. f value other ∷ rest) (pair_as g is values others) ∙ ap (λ first. first ∷ each_pair g values others) (is value other)

or_circuit : (a b : Option Bool) → option_map not (together ◌&&◌ (option_map not a) (option_map not b)) ≡ together ◌||◌ a b
or_circuit None b = refl
or_circuit (Some x) None = refl
or_circuit (Some true) (Some y) = refl
or_circuit (Some false) (Some true) = refl
or_circuit (Some false) (Some false) = refl

pub pair_or : (values others : Values) →
    map (option_map not) (each_pair (together ◌&&◌) (map (option_map not) values) (map (option_map not) others))
    ≡ each_pair (together ◌||◌) values others
pair_or values others =
    ap (map (option_map not)) (pair_inner (together ◌&&◌) (option_map not) values others)
    ∙ (pair_changed (λ a b. together ◌&&◌ (option_map not a) (option_map not b)) (option_map not) values others
    ∙ pair_as (λ a b. option_map not (together ◌&&◌ (option_map not a) (option_map not b))) (together ◌||◌) or_circuit values others)

xnor_circuit : (a b : Option Bool) → option_map not (together xor a b) ≡ together beq a b
unfolding xor
xnor_circuit None b = refl
xnor_circuit (Some x) None = refl
xnor_circuit (Some true) (Some true) = refl
xnor_circuit (Some true) (Some false) = refl
xnor_circuit (Some false) (Some true) = refl
xnor_circuit (Some false) (Some false) = refl

pub pair_xnor : (values others : Values) → map (option_map not) (each_pair (together xor) values others) ≡ each_pair (together beq) values others
pair_xnor values others =
    pair_changed (together xor) (option_map not) values others
    ∙ pair_as (λ a b. option_map not (together xor a b)) (together beq) xnor_circuit values others

-- whether two lists are the same
same_first : (x y : Bool) (both : Option (List Bool)) (first second : Option (List Bool))
    → option_map (list_all (λ bit. bit)) both ≡ together (pointwise beq) first second
    → option_map (list_all (λ bit. bit)) (option_map (λ others. beq x y ∷ others) both)
    ≡ together (pointwise beq) (option_map (λ others. x ∷ others) first) (option_map (λ others. y ∷ others) second)
same_first x y both first second is =
    let left : (both : Option (List Bool)) → option_map (list_all (λ bit. bit)) (option_map (λ others. beq x y ∷ others) both)
    ≡ option_map (λ rest. beq x y && rest) (option_map (list_all (λ bit. bit)) both) = elim [ None ↦ refl | Some bits ↦ refl ] in
    let right : (first second : Option (List Bool)) → option_map (λ rest. beq x y && rest) (together (pointwise beq) first second)
    ≡ together (pointwise beq) (option_map (λ others. x ∷ others) first) (option_map (λ others. y ∷ others) second) =
    elim [ None ↦ λ second. refl | Some bits ↦ elim [ None ↦ refl | Some others ↦ refl ] ] in
    left both ∙ (ap (option_map (λ rest. beq x y && rest)) is ∙ right first second)

same_pairs : (values others : Values) → length values ≡ length others →
    option_map (list_all (λ bit. bit)) (all_of (each_pair (together beq) values others)) ≡ together (pointwise beq) (all_of values) (all_of others)
same_pairs [] [] same = refl
same_pairs [] (other ∷ others) same = absurd (omega arith)
same_pairs (value ∷ values) [] same = absurd (omega arith)
same_pairs (None ∷ values) (other ∷ others) same = refl
same_pairs (Some x ∷ values) (None ∷ others) same = sym (together_none (pointwise beq) (all_of (Some x ∷ values)))
same_pairs (Some x ∷ values) (Some y ∷ others) same =
    same_first x y (all_of (each_pair (together beq) values others)) (all_of values) (all_of others)
    (same_pairs values others (omega arith))

pub same_is : (values others : Values) → length values ≡ length others → together (pointwise beq) (all_of values) (all_of others)
    ≡ chain ◌&&◌ true (map (option_map not) (each_pair (together xor) values others))
same_is values others same =
    sym (same_pairs values others same)
    ∙ (all_is (each_pair (together beq) values others)
    ∙ ap (chain ◌&&◌ true) (sym (pair_xnor values others)))

-- ---- choices

pub chosen_circuit : (a b c : Option Bool) → chosen a b c
    ≡ option_map not (together ◌&&◌ (option_map not (together ◌&&◌ a b)) (option_map not (together ◌&&◌ (option_map not a) c)))
chosen_circuit None b c = refl
chosen_circuit (Some x) None c = refl
chosen_circuit (Some true) (Some y) None = sym (ap (option_map not) (together_none ◌&&◌ (option_map not (Some (true && y)))))
chosen_circuit (Some false) (Some y) None = refl
chosen_circuit (Some true) (Some true) (Some z) = refl
chosen_circuit (Some true) (Some false) (Some z) = refl
chosen_circuit (Some false) (Some y) (Some true) = refl
chosen_circuit (Some false) (Some y) (Some false) = refl

-- ---- two words for one

pub both_is : (f : Operation) (a b : Option Bool) → of_both f a b ≡ together f a b
both_is f None b = refl
both_is f (Some x) None = refl
both_is f (Some x) (Some y) = refl
