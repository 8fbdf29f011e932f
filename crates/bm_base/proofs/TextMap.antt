-- Lemmas on a map with text keys, seen as a finite map.
use Rattle.std.proofs.Common.{◌≡◌, ℕ, Bool, true, false, cond, List, [], ◌∷◌, map, IsSome, Some, None, Option, refl, sym, ap, ◌∙◌, string_bytes}
use Rattle.std.specs.declared.string.String.{String}
use Rattle.std.specs.BTreeMap.{BTreeMap, IsEmpty, IsUnchanged, UpdatesBy, WritesThrough, get_by_text, is_at}
use Rattle.std.specs.Map.{lookup}
use Rattle.std.specs.Option.{option_map}
use Rattle.std.specs.Ordering.{nat_cmp, eq_by_cmp}
use Rattle.std.specs.Str.{bytes_eq}
use Rattle.std.specs.String.{string_cmp}
use Rattle.std.specs.Cmp.{eq_by_cmp_equiv}
use Rattle.std.specs.Cmp.Lexicographic.{slice_cmp, nat_list_cmp_total}
use Rattle.std.specs.FinMap.{FinMap, find, get, insert, empty, same_map, get-from_entries, get-insert, nat_cmp-IsAntisymmetric, slice_cmp-IsAntisymmetric}
use Rattle.std.proofs.lemmas.Map.Text.{btree_map_updates_text, is_eq-slice_cmp}
use Rattle.bm_base.specs.TextMap.{text_map}

shown : {X Y : Type 0} (value : X → Y) (b : Bool) (x : X) (o : Option X) → cond b (Some (value x)) (option_map value o) ≡ option_map value (cond b (Some x) o)
shown value true x o = refl
shown value false x o = refl

module _ {A X Y : Type 0} (value : X → Y) where
  find-map : (q : List ℕ) (es : List (String A × X)) → find (slice_cmp nat_cmp) q (map (λ e. (string_bytes e.0, value e.1)) es) ≡ option_map value (lookup (is_at (λ k. slice_cmp nat_cmp q (string_bytes k))) es)
  find-map q [] = refl
  find-map q (e ∷ es) = ap (cond (eq_by_cmp (slice_cmp nat_cmp) q (string_bytes e.0)) (Some (value e.1))) (find-map q es) ∙ shown value _ e.1 _

  pub get-text_map : (m : BTreeMap (String A) X) (q : List ℕ) → get (text_map value m) q ≡ option_map value (get_by_text m q)
  unfolding text_map
  get-text_map m q = get-from_entries nat_list_cmp_total _ q ∙ find-map q m.entries

  pub text_map-empty : (m : BTreeMap (String A) X) → IsEmpty m → text_map value m ≡ empty
  unfolding text_map
  text_map-empty m e = rw e refl

  pub text_map-unchanged : (m n : BTreeMap (String A) X) → IsUnchanged m n → text_map value n ≡ text_map value m
  unfolding text_map
  text_map-unchanged m n e = rw e refl

  pub text_map-updates : (bs : List ℕ) (m n : BTreeMap (String A) X) (v : X) → UpdatesBy string_cmp (λ k. slice_cmp nat_cmp bs (string_bytes k)) m n (Some v) → text_map value n ≡ insert (text_map value m) bs (value v)
  text_map-updates bs m n v h =
      same_map nat_list_cmp_total (slice_cmp-IsAntisymmetric nat_cmp-IsAntisymmetric) _ _
      (λ q. get-text_map n q
      ∙ ap (option_map value) (btree_map_updates_text bs m n (Some v) h q)
      ∙ sym (shown value (bytes_eq bs q) v (get_by_text m q))
      ∙ ap (λ b. cond b (Some (value v)) (option_map value (get_by_text m q))) (sym (is_eq-slice_cmp bs q) ∙ (eq_by_cmp_equiv nat_list_cmp_total).symm bs q)
      ∙ ap (cond (eq_by_cmp (slice_cmp nat_cmp) q bs) (Some (value v))) (sym (get-text_map m q))
      ∙ sym (get-insert nat_list_cmp_total (text_map value m) bs (value v) q))

  pub text_map-writes : (bs : List ℕ) (m n : BTreeMap (String A) X) (v : X) (y : Y) → WritesThrough string_cmp (λ k. slice_cmp nat_cmp bs (string_bytes k)) m v n → IsSome (get_by_text m bs) → value v ≡ y → text_map value n ≡ insert (text_map value m) bs y
  text_map-writes bs m n v y h had is = text_map-updates bs m n v (h.3 had) ∙ ap (insert (text_map value m) bs) is

  pub get-seen : (m : BTreeMap (String A) X) (seen : FinMap (slice_cmp nat_cmp) Y) (q : List ℕ) → text_map value m ≡ seen → get seen q ≡ option_map value (get_by_text m q)
  get-seen m seen q e = ap (λ n. get n q) (sym e) ∙ get-text_map m q

same : {X : Type 0} (o : Option X) → option_map (λ x. x) o ≡ o
same None = refl
same (Some x) = refl

pub get-seen_same : {A X : Type 0} (m : BTreeMap (String A) X) (seen : FinMap (slice_cmp nat_cmp) X) (q : List ℕ) → text_map (λ x. x) m ≡ seen → get seen q ≡ get_by_text m q
get-seen_same m seen q e = get-seen (λ x. x) m seen q e ∙ same (get_by_text m q)
