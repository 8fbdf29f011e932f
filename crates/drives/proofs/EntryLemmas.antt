-- Edges that are given one after another.
use Rattle.std.proofs.Common.{◌≡◌, ◌⊎◌, inl, inr, min, ◌≤◌, ◌<◌, ◌+◌, ◌-◌, ℕ, List, [], ◌∷◌, Option, ap, arith, sym, refl, ◌∙◌, drop, get_or, length, map, reverse, set}
use Rattle.std.specs.List.{zip}
use Rattle.std.proofs.Math.ListN.{drop_of_length-le}
use Rattle.std.proofs.lemmas.Bool.{cases_lt}
use Rattle.std.proofs.lemmas.List.{at_drop_more, get_or-reverse, set_past}
use Rattle.flat_net.specs.declared.edge.Edge.{Edge}
use Rattle.drives.specs.Given.{given_all, given_one}

pub outside : (edges : List (Option Edge)) (number : ℕ) (entry : Option Edge) → length edges ≤ number → set edges number entry ≡ edges
outside edges number entry le = set_past edges number entry le

abbrev Entries : Type 0
Entries = List (Option Edge)

abbrev none : List Edge
none = []

no_pairs : (xs : List (Option ℕ)) → zip xs none ≡ []
no_pairs [] = refl
no_pairs (x ∷ xs) = refl

-- ---- one for each

-- what is left to give, of numbers and edges
abbrev pub left : List (Option ℕ) → List Edge → ℕ → Entries → Entries
left numbers edges i so_far = given_all so_far (zip (drop i numbers) (drop i edges))

pub left_more : (numbers : List (Option ℕ)) (edges : List Edge) (i : ℕ) (number d : Option ℕ) (edge e : Edge) (so_far more whole : Entries)
    → i < length numbers → i < length edges → number ≡ get_or numbers i d → edge ≡ get_or edges i e
    → more ≡ given_one so_far number edge → left numbers edges i so_far ≡ whole → left numbers edges (i + 1) more ≡ whole
left_more numbers edges i number d edge e so_far more whole few fewer number_is edge_is more_is rest =
    ap (left numbers edges (i + 1)) (more_is ∙ (λ j. given_one so_far (number_is j) (edge_is j)))
    ∙ sym (at_drop_more (λ xs. given_all so_far (zip xs (get_or edges i e ∷ drop (i + 1) edges))) numbers i d few)
    ∙ sym (at_drop_more (λ ys. given_all so_far (zip (drop i numbers) ys)) edges i e fewer)
    ∙ rest

pub left_none : (numbers : List (Option ℕ)) (edges : List Edge) (i : ℕ) (so_far whole : Entries)
    → (length numbers ≤ i) ⊎ (length edges ≤ i) → left numbers edges i so_far ≡ whole → so_far ≡ whole
left_none numbers edges i so_far whole (inl le) rest =
    sym (ap (λ xs. given_all so_far (zip xs (drop i edges))) (drop_of_length-le numbers le)) ∙ rest
left_none numbers edges i so_far whole (inr le) rest =
    sym (ap (λ ys. given_all so_far (zip (drop i numbers) ys)) (drop_of_length-le edges le)
    ∙ ap (given_all so_far) (no_pairs (drop i numbers)))
    ∙ rest

pub one_past : (a b i : ℕ) → min a b ≤ i → (a ≤ i) ⊎ (b ≤ i)
one_past a b i le = elim (cases_lt i a) [
  | inr past ↦ inl past
  | inl few ↦ inr (omega (arith, le, few))
]

-- ---- the last number first

pub down_is : (numbers : List (Option ℕ)) (i : ℕ) (number d : Option ℕ) → i < length numbers
    → number ≡ get_or numbers (length numbers - (i + 1)) d → number ≡ get_or (reverse numbers) i d
down_is numbers i number d few is =
    is
    ∙ ap (λ n. get_or numbers n d) {x = length numbers - (i + 1)} {y = length numbers - 1 - i} (omega arith)
    ∙ sym (get_or-reverse numbers i d few)

-- ---- one edge for all

abbrev pub same_left : List (Option ℕ) → Edge → ℕ → Entries → Entries
same_left numbers edge i so_far = given_all so_far (map (λ number. (number, edge)) (drop i numbers))

pub same_more : (numbers : List (Option ℕ)) (edge : Edge) (i : ℕ) (number d : Option ℕ) (so_far more whole : Entries)
    → i < length numbers → number ≡ get_or numbers i d
    → more ≡ given_one so_far number edge → same_left numbers edge i so_far ≡ whole → same_left numbers edge (i + 1) more ≡ whole
same_more numbers edge i number d so_far more whole few number_is more_is rest =
    ap (same_left numbers edge (i + 1)) (more_is ∙ ap (λ n. given_one so_far n edge) number_is)
    ∙ sym (at_drop_more (λ xs. given_all so_far (map (λ number. (number, edge)) xs)) numbers i d few)
    ∙ rest

pub same_none : (numbers : List (Option ℕ)) (edge : Edge) (i : ℕ) (so_far whole : Entries)
    → length numbers ≤ i → same_left numbers edge i so_far ≡ whole → so_far ≡ whole
same_none numbers edge i so_far whole le rest =
    sym (ap (λ xs. given_all so_far (map (λ number. (number, edge)) xs)) (drop_of_length-le numbers le)) ∙ rest
