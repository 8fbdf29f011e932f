-- What the tables keep, name by name.
use Rattle.std.proofs.Common.{◌≡◌, ℕ, List, [], ◌∷◌, Bool, true, false, ◌||◌, ◌&&◌, cond, Option, Some, None, refl, sym, ap, subst, ◌∙◌, filter}
use Rattle.std.proofs.Math.Bool.{or_assoc}
use Rattle.std.specs.List.{list_any, find}
use Rattle.std.specs.Map.{update}
use Rattle.std.specs.Option.{option_map, option_or}
use Rattle.std.specs.Str.{bytes_eq}
use Rattle.std.proofs.lemmas.Slice.Eq.{bytes_eq-Decides}
use Rattle.bm_base.specs.declared.range.Range.{Range}
use Rattle.vlog_tree.specs.declared.item.Dir.{Dir}
use Rattle.vlog_tree.specs.declared.item.Item.TheVariants.{Decl}
use Rattle.vlog_tree.specs.declared.item.NetKind.{NetKind}
use Rattle.vlog_tree.specs.Meaning.Names.{is_named}
use Rattle.vlog_tree.specs.Meaning.Uses.{Text, Use}
use Rattle.nets.specs.Declaring.{after_declaration, after_item}
use Rattle.nets.specs.Nets.{Net}
use Rattle.nets.specs.Used.{first_place}

pub same_bytes : (xs ys : Text) → bytes_eq xs ys ≡ true → xs ≡ ys
same_bytes xs ys is = (bytes_eq-Decides xs ys).0 is

pub option_or_none : {X : Type 0} (known : Option X) → option_or known None ≡ known
option_or_none None = refl
option_or_none (Some x) = refl

-- a place for a name that has none
pub place_added : (old new : Text → Option ℕ) (one : Use) → old one.name ≡ None
    → ((name : Text) → new name ≡ update bytes_eq old one.name (Some one.at) name)
    → (name : Text) → new name ≡ option_or (old name) (first_place name (one ∷ []))
place_added old new one none updated name = by (bytes_eq one.name name) refl (updated name)
  where
    by : (b : Bool) → bytes_eq one.name name ≡ b → new name ≡ cond b (Some one.at) (old name)
        → new name ≡ option_or (old name) (option_map (λ (one : Use). one.at) (cond b (Some one) None))
    by true is now =
        let none_here : old name ≡ None = subst (λ text. old text ≡ None) (same_bytes one.name name is) none in
        now ∙ sym (ap (λ known. option_or known (Some one.at)) none_here)
    by false is now = now ∙ sym (option_or_none (old name))

-- the first of one use and of those behind it
pub first_more : (name : Text) (one : Use) (rest : List Use) (known : Option ℕ)
    → option_or (option_or known (first_place name (one ∷ []))) (first_place name rest) ≡ option_or known (first_place name (one ∷ rest))
first_more name one rest (Some at) = refl
first_more name one rest None = by (bytes_eq one.name name)
  where
    by : (b : Bool) → option_or (option_map (λ (one : Use). one.at) (cond b (Some one) None)) (first_place name rest)
        ≡ option_map (λ (one : Use). one.at) (cond b (Some one) (find (is_named name) rest))
    by true = refl
    by false = refl

pub or_false : (b : Bool) → b ≡ (b || false)
or_false true = refl
or_false false = refl

-- one name more
pub or_other : (b c : Bool) → cond b true c ≡ (c || b)
or_other true true = refl
or_other true false = refl
or_other false true = refl
or_other false false = refl

-- one use more, if it is whole
pub whole_more : (name : Text) (one : Use) (rest : List Use) (known : Bool)
    → ((known || (one.is_whole && bytes_eq one.name name)) || list_any (is_named name) (filter (λ (one : Use). one.is_whole) rest))
    ≡ (known || list_any (is_named name) (filter (λ (one : Use). one.is_whole) (one ∷ rest)))
whole_more name one rest known =
    or_assoc known (one.is_whole && bytes_eq one.name name) (list_any (is_named name) (filter (λ (one : Use). one.is_whole) rest))
    ∙ ap (λ more. known || more) (by one.is_whole)
  where
    by : (b : Bool) → ((b && bytes_eq one.name name) || list_any (is_named name) (filter (λ (one : Use). one.is_whole) rest))
        ≡ list_any (is_named name) (cond b (one ∷ filter (λ (one : Use). one.is_whole) rest) (filter (λ (one : Use). one.is_whole) rest))
    by true = refl
    by false = refl

-- what is known of each name after a declaration
pub item_noted : (old new : Text → Option Net) (at : ℕ) (dir : Option Dir) (kind : NetKind) (range : Option Range) (other : Text) (net : Net)
    → net ≡ after_declaration (old other) at dir kind range
    → ((name : Text) → new name ≡ update bytes_eq old other (Some net) name)
    → (name : Text) → new name ≡ after_item name (old name) (Decl at dir kind range other)
item_noted old new at dir kind range other net is updated name = by (bytes_eq other name) refl (updated name)
  where
    by : (b : Bool) → bytes_eq other name ≡ b → new name ≡ cond b (Some net) (old name)
        → new name ≡ cond b (Some (after_declaration (old name) at dir kind range)) (old name)
    by true same now =
        now ∙ ap (λ net. Some net) (is ∙ ap (λ text. after_declaration (old text) at dir kind range) (same_bytes other name same))
    by false same now = now
