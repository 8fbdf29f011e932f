-- The bit of a number, name after name.
use Rattle.std.proofs.Common.{◌≡◌, ℕ, ◌+◌, ◌-◌, ◌<◌, ◌≤◌, Bool, true, false, cond, List, ◌∷◌, None, Some, sym, ◌∙◌, ap, arith, add-one, drop, filter, length, slice_get}
use Rattle.std.specs.Option.{option_map}
use Rattle.std.proofs.lemmas.List.{length-map}
use Rattle.std.proofs.lemmas.List.FromFn.{length-map-range_with_len}
use Rattle.std.proofs.lemmas.Option.{slice_get-map}
use Rattle.nets.specs.Nets.{Net, net_of, nets}
use Rattle.numbering.specs.Bits.{bits_of, name_bits}
use Rattle.numbering.specs.Placed.{known}
use Rattle.numbering.proofs.KnownLemmas.{known_bits, said_width}
use Rattle.vlog_tree.specs.declared.design.Module.{Module}
use Rattle.vlog_tree.specs.Meaning.Keys.{bit_count}
use Rattle.vlog_tree.specs.Meaning.Lefts.{bit_of}
use Rattle.vlog_tree.specs.Meaning.Names.{names}
use Rattle.vlog_tree.specs.Meaning.Ranges.{span}
use Rattle.vlog_tree.specs.Meaning.Uses.{Text}
use Rattle.keys.proofs.PlaceLemmas.{drop_past, drop_there, get_left, get_right, range_there}

-- The bit of a number is the one of a lower number among the names that are left.
pub record Walked (m : Module) (kept : Text → Bool) (number i left : ℕ) : Type 0 where
  pub same : slice_get (bits_of m (filter kept (names m))) number ≡ slice_get (bits_of m (filter kept (drop i (known m)))) left
  pub lower : left ≤ number

pub none_walked : (m : Module) (kept : Text → Bool) (number : ℕ) → Walked m kept number 0 number
none_walked m kept number = record { same = ap (λ bits. slice_get bits number) (known_bits m kept); lower = omega arith }

module _ (m : Module) (kept : Text → Bool) (number i left : ℕ) (so_far : Walked m kept number i left) where
  module _ (name : Text) (net : Net) (at : slice_get (nets m) i ≡ Some (name, net)) (said : net_of m name ≡ Some net) (width : ℕ)
      (counted : width ≡ cond (kept name) (span net.range) 0) where
    named : slice_get (known m) i ≡ Some name
    named = slice_get-map (λ (entry : Text × Net). entry.0) (nets m) i ∙ ap (option_map (λ (entry : Text × Net). entry.0)) at

    rest_is : drop i (known m) ≡ name ∷ drop (i + 1) (known m)
    rest_is = drop_there (known m) i name named ∙ ap (λ n. name ∷ drop n (known m)) (sym (add-one i))

    here : slice_get (bits_of m (filter kept (names m))) number
        ≡ slice_get (bits_of m (cond (kept name) (name ∷ filter kept (drop (i + 1) (known m))) (filter kept (drop (i + 1) (known m))))) left
    here = so_far.same ∙ ap (λ others. slice_get (bits_of m (filter kept others)) left) rest_is

    wide : width ≡ cond (kept name) (bit_count m name) 0
    wide = counted ∙ ap (λ n. cond (kept name) n 0) (sym (said_width m name net said))

    count : length (name_bits m name) ≡ bit_count m name
    count = length-map-range_with_len (bit_of name) 0 (bit_count m name)

    in_name : (b : Bool) (others : List Text) → width ≡ cond b (bit_count m name) 0 → left < width
        → slice_get (bits_of m (cond b (name ∷ others) others)) left ≡ Some (bit_of name left)
    in_name false others is within = absurd (omega (arith, is, within))
    in_name true others is within =
        get_left (name_bits m name) (bits_of m others) left (omega (arith, is, within, count))
        ∙ range_there (bit_of name) 0 (bit_count m name) left (omega (arith, is, within))
        ∙ ap (λ n. Some (bit_of name n)) {x = 0 + left} {y = left} (omega arith)

    behind_name : (b : Bool) (others : List Text) → width ≡ cond b (bit_count m name) 0 → width ≤ left
        → slice_get (bits_of m (cond b (name ∷ others) others)) left ≡ slice_get (bits_of m others) (left - width)
    behind_name false others is past =
        let zero : width ≡ 0 = is in ap (slice_get (bits_of m others)) {x = left} {y = left - width} (omega (arith, zero))
    behind_name true others is past =
        get_right (name_bits m name) (bits_of m others) left (left - width) (omega (arith, is, past, count))

    pub found_here : left < width → Some (bit_of name left) ≡ slice_get (bits_of m (filter kept (names m))) number
    found_here within = sym (here ∙ in_name (kept name) (filter kept (drop (i + 1) (known m))) wide within)

    pub more_walked : width ≤ left → (after : ℕ) → after ≡ left - width → Walked m kept number (i + 1) after
    more_walked past after is = record {
      same = here ∙ behind_name (kept name) (filter kept (drop (i + 1) (known m))) wide past
          ∙ ap (slice_get (bits_of m (filter kept (drop (i + 1) (known m))))) (sym is);
      lower = omega (arith, is, so_far.lower);
    }

  pub found_nowhere : length (nets m) ≤ i → None ≡ slice_get (bits_of m (filter kept (names m))) number
  found_nowhere past =
      let all = length-map (nets m) (λ (entry : Text × Net). entry.0) in
      sym (so_far.same
      ∙ ap (λ others. slice_get (bits_of m (filter kept others)) left) (drop_past (known m) i (omega (arith, all, past))))
