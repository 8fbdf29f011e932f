-- The edges of an expression have the values of its bits, form by form.
use Rattle.std.specs.Prelude.{◌≡◌, ℕ, ◌+◌, ◌*◌, ◌≤◌, List, [], ◌∷◌, ◌++◌, Bool, true, false, not, ◌&&◌, ◌||◌, Option, None, Some, flat_map, is_some, length, map, max, option_and_then, option_map, refl, reverse, slice_index_or, sum, unwrap_or}
use Rattle.std.specs.Bool.{beq}
use Rattle.std.specs.List.{range_with_len, repeat}
use Rattle.std.proofs.Common.{ap, arith, sym, subst, ◌∙◌}
use Rattle.std.proofs.Math.Bool.{xor}
use Rattle.flat_net.specs.declared.edge.Edge.{Edge}
use Rattle.flat_net.specs.Edges.{constant}
use Rattle.flat_net.specs.Values.{Reading, edge_value}
use Rattle.vlog_tree.specs.declared.design.Module.{Module}
use Rattle.vlog_tree.specs.declared.expr.BinOp.{BinOp}
use Rattle.vlog_tree.specs.declared.expr.BinOp.TheVariants as binary
use Rattle.vlog_tree.specs.declared.expr.Expr.{Expr, map-Expr, roll-Expr}
use Rattle.vlog_tree.specs.declared.expr.Expr.TheFolds.{ind-Expr, para-Expr, para-roll-Expr}
use Rattle.vlog_tree.specs.declared.expr.Expr.TheOpen.{Expr-F}
use Rattle.vlog_tree.specs.declared.expr.UnOp.{UnOp}
use Rattle.vlog_tree.specs.declared.expr.UnOp.TheVariants as unary
use Rattle.vlog_tree.specs.Meaning.Expressions.{Names, Value, bit_at, named_bit, one_bit, part_bit, selected_bit}
use Rattle.vlog_tree.specs.Meaning.Expressions as meaning
use Rattle.vlog_tree.specs.Meaning.Ranges.{Bits, bit_with, part_bits, whole_bits}
use Rattle.vlog_tree.specs.Meaning.Widths.{binary_width, together, unary_width, width, within}
use Rattle.lowering.specs.Expressions.{AtWidth, Wires, compared, expression, joined, lowered_at, only, own, repeated, selected, truth, width_of, wired}
use Rattle.lowering.specs.Expressions as lowering
use Rattle.lowering.specs.Gates.{and_bits, any_bit, both_true, chosen_bits, or_bits, reduced, same_bits, some_true, xnor_bits, xor_bits}
use Rattle.lowering.specs.Lowered.{Lowered, Lowering, and_then, and_then_both, given, in_turn, inverted, nodes_of, widened}
use Rattle.lowering.specs.Meaning.{Carries, HasNames, HasZero, Holds, Relation, has_selects, is_sound}
use Rattle.lowering.proofs.BitLemmas.{each_pair, pair_map}
use Rattle.lowering.proofs.EdgeLemmas.{append_carries, each_constant, repeat_carries}
use Rattle.lowering.proofs.GateLemmas.{gives_pairs}
use Rattle.lowering.proofs.LoweredLemmas.{Gives, Values, extended_values, gives_both, gives_given, gives_inverted, gives_then, gives_widened, holds-append}
use Rattle.lowering.proofs.OperatorLemmas.{Combines, Reduces, combines_and, combines_or, combines_xnor, combines_xor, gives_any, gives_as, gives_both_true, gives_same, gives_some_true, only_carries, reduces_and, reduces_nand, reduces_nor, reduces_not, reduces_or, reduces_xnor, reduces_xor}
use Rattle.lowering.proofs.PartLemmas.{flat-repeat, flat-reverse, own_values, parts_are, parts_end, total, total-repeat, total-reverse}
use Rattle.lowering.proofs.PlaceLemmas.{bits, extended_bits, extended_one, length-bits, name_end, name_inside, number_bits, number_end, run_carries}
use Rattle.lowering.proofs.RelationLemmas.{IsKept}
use Rattle.lowering.proofs.SelectLemmas.{FitsIn, and_both, bit_fits, part_fits, whole_fits, width_within}
use Rattle.lowering.proofs.SoundLemmas.{AllSound, both_and, both_there, choice_there, counts, counts_total, level_narrow, level_selected, level_selects, level_there, level_width, mapped_there, parts_sound, row_there}

map_again : {X Y Z : Type 0} (g : Y → Z) (f : X → Y) (xs : List X) → map g (map f xs) ≡ map (λ x. g (f x)) xs
map_again g f [] = refl
map_again g f (x ∷ xs) = ap (λ rest. g (f x) ∷ rest) (map_again g f xs)

module _ (rel : Relation) (read : Reading) (state row : List Bool) (kept : IsKept rel) (none : HasZero rel read)
    (m : Module) (names : Names) (wires : Wires) (named : HasNames rel read m names wires) where
  abbrev Yields : Lowering → Values → Type 0
  Yields lowering values = Gives rel read state row lowering values

  abbrev pub value : Expr → Value
  value = para-Expr Value (bit_at m names)

  abbrev pub valued : Expr → meaning.Operand
  valued e = (e, value e)

  abbrev pub edged : Expr → lowering.Operand
  edged e = (e, expression m wires e)

  -- An expression that is sound gives the values of its bits.
  abbrev pub Means : Expr → Type 0
  Means e = is_sound m e ≡ true → (count : ℕ) → width_of m e ≤ count
      → Gives rel read state row (expression m wires e count) (bits (value e count) count)

  -- ---- one level

  abbrev LevelGives : Expr-F Expr → ℕ → Type 0
  LevelGives x count =
      Gives rel read state row (lowered_at m wires (map-Expr Expr lowering.Operand edged x) count)
      (bits (bit_at m names (map-Expr Expr meaning.Operand valued x) count) count)

  level : (x : Expr-F Expr) → (is_some (level_width m x) ≡ true → level_selects m x ≡ true → (count : ℕ)
      → unwrap_or (level_width m x) 0 ≤ count → LevelGives x count) → Means (roll-Expr x)
  unfolding expression
  level x h sound count narrow =
      let here : LevelGives x count = h (level_there m x sound) (level_selected m x sound) count (level_narrow m x count narrow) in
      let edges : Gives rel read state row (expression m wires (roll-Expr x) count)
      (bits (bit_at m names (map-Expr Expr meaning.Operand valued x) count) count) =
      subst (λ (at : AtWidth). Gives rel read state row (at count) (bits (bit_at m names (map-Expr Expr meaning.Operand valued x) count) count))
      (sym (para-roll-Expr AtWidth (lowered_at m wires) x)) here in
      subst (λ (v : Value). Gives rel read state row (expression m wires (roll-Expr x) count) (bits (v count) count))
      (sym (para-roll-Expr Value (bit_at m names) x)) edges

  -- ---- one bit, and zeros above

  one_form : (lowering : Lowering) (bit : Option Bool) (count : ℕ) → 1 ≤ count → Yields lowering (bit ∷ [])
      → Yields (widened count lowering) (bits (one_bit bit) count)
  one_form lowering bit count within h =
      gives_as rel read state row (widened count lowering) (extended_values count (bit ∷ [])) (bits (one_bit bit) count)
      (extended_one bit count within) (gives_widened rel read state row kept none count lowering (bit ∷ []) h)

  -- ---- numbers and names

  number_form : (digits : List Bool) (count : ℕ) → length digits ≤ count
      → Yields (widened count (given (map constant digits))) (bits (λ place. Some (slice_index_or digits place false)) count)
  number_form digits count within =
      gives_as rel read state row (widened count (given (map constant digits))) (extended_values count (map Some digits))
      (bits (λ place. Some (slice_index_or digits place false)) count)
      (ap (extended_values count) (number_bits digits)
      ∙ extended_bits (λ place. Some (slice_index_or digits place false)) (length digits) count within (number_end digits))
      (gives_widened rel read state row kept none count (given (map constant digits)) (map Some digits)
      (gives_given rel read state row (map Some digits) (map constant digits) (each_constant rel kept read none digits)))

  name_form : (one : Option Bits) (count : ℕ) → FitsIn m count one
      → Yields (widened count (selected wires one)) (bits (selected_bit names one) count)
  name_form None count fits = absurd fits
  name_form (Some one) count fits =
      gives_as rel read state row (widened count (given (wired wires one))) (extended_values count (bits (named_bit names one) one.width))
      (bits (named_bit names one) count)
      (extended_bits (named_bit names one) one.width count fits.1 (name_end names one))
      (gives_widened rel read state row kept none count (given (wired wires one)) (bits (named_bit names one) one.width)
      (gives_given rel read state row (bits (named_bit names one) one.width) (wired wires one)
      (run_carries rel read (named_bit names one) (wires one.name) 0 one.low one.width (λ i inside.
      subst (λ value. rel value (edge_value read (wires one.name (one.low + i))))
      (name_inside names one i inside ∙ ap (named_bit names one) (let same : i ≡ 0 + i = omega arith in same))
      (named one.name (one.low + i) (omega (arith, fits.0)))))))

  -- ---- operators

  abbrev own_width : Expr → ℕ
  own_width e = width_of m e

  own_gives : (e : Expr) → is_sound m e ≡ true → Means e → Yields (own m (edged e)) (bits (value e (own_width e)) (own_width e))
  own_gives e sound means = means sound (own_width e) (omega arith)

  not_form : (e : Expr) (count : ℕ) → Yields (expression m wires e count) (bits (value e count) count)
      → Yields (inverted (expression m wires e count)) (bits (λ place. option_map not (value e count place)) count)
  not_form e count h =
      gives_as rel read state row (inverted (expression m wires e count)) (map (option_map not) (bits (value e count) count))
      (bits (λ place. option_map not (value e count place)) count)
      (map_again (option_map not) (value e count) (range_with_len 0 count))
      (gives_inverted rel read state row kept (expression m wires e count) (bits (value e count) count) h)

  reduced_form : (op : UnOp) → Reduces rel read state row kept none op → (e : Expr) → is_sound m e ≡ true → Means e → (count : ℕ) → 1 ≤ count
      → Yields (widened count (and_then (own m (edged e)) (reduced op)))
      (bits (one_bit (option_and_then (meaning.reduced op) (meaning.own_bits m (valued e)))) count)
  reduced_form op reduces e sound means count within =
      let bit : Option Bool = option_and_then (meaning.reduced op) (meaning.own_bits m (valued e)) in
      one_form (and_then (own m (edged e)) (reduced op)) bit count within
      (gives_then rel read state row (own m (edged e)) (reduced op) (bits (value e (own_width e)) (own_width e)) (bit ∷ [])
      (own_gives e sound means) (reduces (bits (value e (own_width e)) (own_width e))))

  bitwise_form : (combined : List Edge → List Edge → Lowering) (f : Option Bool → Option Bool → Option Bool)
      → Combines rel read state row kept combined f → (left right : Expr) (count : ℕ)
      → Yields (expression m wires left count) (bits (value left count) count)
      → Yields (expression m wires right count) (bits (value right count) count)
      → Yields (and_then_both (expression m wires left count) (expression m wires right count) combined)
      (bits (λ place. f (value left count place) (value right count place)) count)
  bitwise_form combined f combines left right count h k =
      gives_as rel read state row (and_then_both (expression m wires left count) (expression m wires right count) combined)
      (each_pair f (bits (value left count) count) (bits (value right count) count))
      (bits (λ place. f (value left count place) (value right count place)) count)
      (pair_map f (value left count) (value right count) (range_with_len 0 count))
      (gives_both rel read state row (expression m wires left count) (expression m wires right count) combined
      (bits (value left count) count) (bits (value right count) count)
      (each_pair f (bits (value left count) count) (bits (value right count) count)) h k
      (combines (bits (value left count) count) (bits (value right count) count)))

  both_form : (left right : Expr) → is_sound m left ≡ true → is_sound m right ≡ true → Means left → Means right
      → Yields (and_then_both (own m (edged left)) (own m (edged right)) both_true)
      (together ◌&&◌ (meaning.truth m (valued left)) (meaning.truth m (valued right)) ∷ [])
  both_form left right sound_left sound_right h k =
      let one : Values = bits (value left (own_width left)) (own_width left) in
      let other : Values = bits (value right (own_width right)) (own_width right) in
      gives_both rel read state row (own m (edged left)) (own m (edged right)) both_true one other
      (together ◌&&◌ (meaning.truth m (valued left)) (meaning.truth m (valued right)) ∷ [])
      (own_gives left sound_left h) (own_gives right sound_right k)
      (gives_both_true rel read state row kept none one other)

  some_form : (left right : Expr) → is_sound m left ≡ true → is_sound m right ≡ true → Means left → Means right
      → Yields (and_then_both (own m (edged left)) (own m (edged right)) some_true)
      (together ◌||◌ (meaning.truth m (valued left)) (meaning.truth m (valued right)) ∷ [])
  some_form left right sound_left sound_right h k =
      let one : Values = bits (value left (own_width left)) (own_width left) in
      let other : Values = bits (value right (own_width right)) (own_width right) in
      gives_both rel read state row (own m (edged left)) (own m (edged right)) some_true one other
      (together ◌||◌ (meaning.truth m (valued left)) (meaning.truth m (valued right)) ∷ [])
      (own_gives left sound_left h) (own_gives right sound_right k)
      (gives_some_true rel read state row kept none one other)

  same_form : (left right : Expr) → is_sound m left ≡ true → is_sound m right ≡ true → Means left → Means right
      → Yields (compared m (edged left) (edged right)) (meaning.are_same m (valued left) (valued right) ∷ [])
  same_form left right sound_left sound_right h k =
      let count : ℕ = max (own_width left) (own_width right) in
      gives_both rel read state row (expression m wires left count) (expression m wires right count) same_bits
      (bits (value left count) count) (bits (value right count) count) (meaning.are_same m (valued left) (valued right) ∷ [])
      (h sound_left count (omega arith)) (k sound_right count (omega arith))
      (gives_same rel read state row kept none (bits (value left count) count) (bits (value right count) count)
      (length-bits (value left count) count ∙ sym (length-bits (value right count) count)))

  pub truth_form : (e : Expr) → is_sound m e ≡ true → Means e → Yields (truth m (edged e)) (meaning.truth m (valued e) ∷ [])
  truth_form e sound means =
      gives_then rel read state row (own m (edged e)) any_bit (bits (value e (own_width e)) (own_width e)) (meaning.truth m (valued e) ∷ [])
      (own_gives e sound means) (gives_any rel read state row kept none (bits (value e (own_width e)) (own_width e)))

  choice_form : (condition first second : Expr) → is_sound m condition ≡ true → Means condition → (count : ℕ)
      → Yields (expression m wires first count) (bits (value first count) count)
      → Yields (expression m wires second count) (bits (value second count) count)
      → Yields (lowering.conditional m (edged condition) (edged first) (edged second) count)
      (bits (λ place. meaning.chosen (meaning.truth m (valued condition)) (value first count place) (value second count place)) count)
  choice_form condition first second sound means count h k =
      let choice : Option Bool = meaning.truth m (valued condition) in
      let one : Values = bits (value first count) count in
      let other : Values = bits (value second count) count in
      gives_as rel read state row (lowering.conditional m (edged condition) (edged first) (edged second) count)
      (each_pair (meaning.chosen choice) one other)
      (bits (λ place. meaning.chosen choice (value first count place) (value second count place)) count)
      (pair_map (meaning.chosen choice) (value first count) (value second count) (range_with_len 0 count))
      (gives_then rel read state row (truth m (edged condition))
      (λ edges. and_then_both (expression m wires first count) (expression m wires second count) (chosen_bits (only edges)))
      (choice ∷ []) (each_pair (meaning.chosen choice) one other) (truth_form condition sound means)
      (λ edges on. gives_both rel read state row (expression m wires first count) (expression m wires second count) (chosen_bits (only edges))
      one other (each_pair (meaning.chosen choice) one other) h k
      (gives_pairs rel read state row kept choice (only edges) (only_carries rel read state row choice edges on) one other)))

  -- ---- parts

  abbrev Proved : Type 0
  Proved = (e : Expr) × Means e

  abbrev bare : List Proved → List Expr
  bare parts = map (λ part. part.0) parts

  abbrev turns : List Proved → ℕ → List Lowered
  turns parts next = in_turn (map (own m) (map edged (bare parts))) next

  abbrev backwards : List Proved → List meaning.Operand
  backwards parts = reverse (map valued (bare parts))

  turns_carry : (parts : List Proved) → AllSound m (bare parts) → (next : ℕ) → Holds rel read state row next (nodes_of (turns parts next))
      → Carries rel read (flat_map (own_values m) (backwards parts)) (flat_map (λ (part : Lowered). part.edges) (reverse (turns parts next)))
  turns_carry [] sound next holds = tt
  turns_carry (part ∷ parts) sound next holds =
      let first : Lowered = own m (edged part.0) next in
      let rest : ℕ = next + length first.nodes in
      let both = holds-append rel read state row next first.nodes (nodes_of (turns parts rest)) holds in
      let here : Carries rel read (own_values m (valued part.0)) first.edges = own_gives part.0 sound.0 part.1 next both.0 in
      let others : Carries rel read (flat_map (own_values m) (backwards parts)) (flat_map (λ (part : Lowered). part.edges) (reverse (turns parts rest))) =
      turns_carry parts sound.1 rest both.1 in
      let joint : Carries rel read (flat_map (own_values m) (backwards parts) ++ own_values m (valued part.0))
      (flat_map (λ (part : Lowered). part.edges) (reverse (turns parts rest)) ++ first.edges) =
      append_carries rel kept read (flat_map (own_values m) (backwards parts)) (own_values m (valued part.0))
      (flat_map (λ (part : Lowered). part.edges) (reverse (turns parts rest))) first.edges others here in
      subst (λ values. Carries rel read values (flat_map (λ (part : Lowered). part.edges) (reverse (turns (part ∷ parts) next))))
      (sym (flat-reverse (own_values m) (valued part.0) (map valued (bare parts))))
      (subst (Carries rel read (flat_map (own_values m) (backwards parts) ++ own_values m (valued part.0)))
      (sym (flat-reverse (λ (part : Lowered). part.edges) first (turns parts rest))) joint)

  joined_gives : (parts : List Proved) → AllSound m (bare parts)
      → Yields (joined m (map edged (bare parts))) (flat_map (own_values m) (backwards parts))
  joined_gives parts sound next holds = turns_carry parts sound next holds

  -- the bits of a row of parts, and zeros above
  row_form : (lowering : Lowering) (parts : List meaning.Operand) (count : ℕ) → total m parts ≤ count
      → Yields lowering (flat_map (own_values m) parts) → Yields (widened count lowering) (bits (part_bit m parts) count)
  row_form lowering parts count within h =
      gives_as rel read state row (widened count lowering) (extended_values count (flat_map (own_values m) parts)) (bits (part_bit m parts) count)
      (ap (extended_values count) (sym (parts_are m parts))
      ∙ extended_bits (part_bit m parts) (total m parts) count within (parts_end m parts))
      (gives_widened rel read state row kept none count lowering (flat_map (own_values m) parts) h)

  repeated_gives : (times : ℕ) (lowering : Lowering) (parts : List meaning.Operand) → Yields lowering (flat_map (own_values m) parts)
      → Yields (λ next. repeated times (lowering next)) (flat_map (own_values m) (repeat times parts))
  repeated_gives times lowering parts h next holds =
      subst (λ values. Carries rel read values (repeat times (lowering next).edges)) (sym (flat-repeat (own_values m) times parts))
      (repeat_carries rel kept read times (flat_map (own_values m) parts) (lowering next).edges (h next holds))

  total_is : (parts : List Expr) → total m (reverse (map valued parts)) ≡ sum (counts (map (width m) parts))
  total_is parts = total-reverse m (map valued parts) ∙ sym (counts_total m valued (λ e. refl) parts)

  -- ---- the forms

  abbrev FormMeans : Expr-F Expr → Type 0
  FormMeans x = Means (roll-Expr x)

  sound_of : (e : Expr) → is_some (width m e) ≡ true → has_selects m e ≡ true → is_sound m e ≡ true
  sound_of e h k = both_and (is_some (width m e)) (has_selects m e) h k

  means_reduction : (op : UnOp) → Reduces rel read state row kept none op → ((count : ℕ) → unary_width op count ≡ 1) → (e : Expr) → Means e
      → is_some (level_width m (Expr-F.Unary op e)) ≡ true → level_selects m (Expr-F.Unary op e) ≡ true → (count : ℕ)
      → unwrap_or (level_width m (Expr-F.Unary op e)) 0 ≤ count
      → Yields (widened count (and_then (own m (edged e)) (reduced op)))
      (bits (one_bit (option_and_then (meaning.reduced op) (meaning.own_bits m (valued e)))) count)
  means_reduction op reduces one e means there selects count narrow =
      let inside = mapped_there (unary_width op) (width m e) there in
      let is_one : unary_width op (unwrap_or (width m e) 0) ≡ 1 = one (unwrap_or (width m e) 0) in
      reduced_form op reduces e (sound_of e inside.0 selects) means count (omega (arith, inside.1, is_one, narrow))

  means_unary : (op : UnOp) (e : Expr) → Means e → FormMeans (Expr-F.Unary op e)
  means_unary unary.Inv e means =
      level (Expr-F.Unary unary.Inv e) (λ there selects count narrow.
      let inside = mapped_there (unary_width unary.Inv) (width m e) there in
      not_form e count (means (sound_of e inside.0 selects) count (omega (arith, inside.1, narrow))))
  means_unary unary.Not e means =
      level (Expr-F.Unary unary.Not e) (means_reduction unary.Not (reduces_not rel read state row kept none) (λ count. refl) e means)
  means_unary unary.RedAnd e means =
      level (Expr-F.Unary unary.RedAnd e) (means_reduction unary.RedAnd (reduces_and rel read state row kept none) (λ count. refl) e means)
  means_unary unary.RedNand e means =
      level (Expr-F.Unary unary.RedNand e) (means_reduction unary.RedNand (reduces_nand rel read state row kept none) (λ count. refl) e means)
  means_unary unary.RedOr e means =
      level (Expr-F.Unary unary.RedOr e) (means_reduction unary.RedOr (reduces_or rel read state row kept none) (λ count. refl) e means)
  means_unary unary.RedNor e means =
      level (Expr-F.Unary unary.RedNor e) (means_reduction unary.RedNor (reduces_nor rel read state row kept none) (λ count. refl) e means)
  means_unary unary.RedXor e means =
      level (Expr-F.Unary unary.RedXor e) (means_reduction unary.RedXor (reduces_xor rel read state row kept none) (λ count. refl) e means)
  means_unary unary.RedXnor e means =
      level (Expr-F.Unary unary.RedXnor e) (means_reduction unary.RedXnor (reduces_xnor rel read state row kept none) (λ count. refl) e means)

  -- what is known of two operands, whose widths make the whole
  pub record BothAt (op : BinOp) (left right : Expr) (count : ℕ) : Type 0 where
    pub sound_left : is_sound m left ≡ true
    pub sound_right : is_sound m right ≡ true
    pub within : binary_width op (width_of m left) (width_of m right) ≤ count

  both_at : (op : BinOp) (left right : Expr) → is_some (level_width m (Expr-F.Binary op left right)) ≡ true
      → level_selects m (Expr-F.Binary op left right) ≡ true → (count : ℕ)
      → unwrap_or (level_width m (Expr-F.Binary op left right)) 0 ≤ count → BothAt op left right count
  both_at op left right there selects count narrow =
      let inside = both_there (binary_width op) (width m left) (width m right) there in
      let selected = and_both (has_selects m left) (has_selects m right) selects in
      record {
        sound_left = sound_of left inside.0 selected.0;
        sound_right = sound_of right inside.1 selected.1;
        within = subst (λ width. width ≤ count) inside.2 narrow;
      }

  -- a bitwise operator, which has the greater width
  means_bitwise : (op : BinOp) → ((a b : ℕ) → binary_width op a b ≡ max a b) → (combined : List Edge → List Edge → Lowering)
      → (f : Option Bool → Option Bool → Option Bool) → Combines rel read state row kept combined f → (left right : Expr) → Means left → Means right
      → (count : ℕ) → BothAt op left right count
      → Yields (and_then_both (expression m wires left count) (expression m wires right count) combined)
      (bits (λ place. f (value left count place) (value right count place)) count)
  means_bitwise op greater combined f combines left right h k count known =
      let within : max (width_of m left) (width_of m right) ≤ count =
      subst (λ width. width ≤ count) (greater (width_of m left) (width_of m right)) known.within in
      bitwise_form combined f combines left right count
      (h known.sound_left count (omega arith)) (k known.sound_right count (omega arith))

  means_binary : (op : BinOp) (left right : Expr) → Means left → Means right → FormMeans (Expr-F.Binary op left right)
  means_binary binary.And left right h k =
      level (Expr-F.Binary binary.And left right) (λ there selects count narrow.
      means_bitwise binary.And (λ a b. refl) and_bits (together ◌&&◌) (combines_and rel read state row kept) left right h k count
      (both_at binary.And left right there selects count narrow))
  means_binary binary.Or left right h k =
      level (Expr-F.Binary binary.Or left right) (λ there selects count narrow.
      means_bitwise binary.Or (λ a b. refl) or_bits (together ◌||◌) (combines_or rel read state row kept) left right h k count
      (both_at binary.Or left right there selects count narrow))
  means_binary binary.Xor left right h k =
      level (Expr-F.Binary binary.Xor left right) (λ there selects count narrow.
      means_bitwise binary.Xor (λ a b. refl) xor_bits (together xor) (combines_xor rel read state row kept) left right h k count
      (both_at binary.Xor left right there selects count narrow))
  means_binary binary.Xnor left right h k =
      level (Expr-F.Binary binary.Xnor left right) (λ there selects count narrow.
      means_bitwise binary.Xnor (λ a b. refl) xnor_bits (together beq) (combines_xnor rel read state row kept) left right h k count
      (both_at binary.Xnor left right there selects count narrow))
  means_binary binary.LogAnd left right h k =
      level (Expr-F.Binary binary.LogAnd left right) (λ there selects count narrow.
      let known : BothAt binary.LogAnd left right count = both_at binary.LogAnd left right there selects count narrow in
      one_form (and_then_both (own m (edged left)) (own m (edged right)) both_true)
      (together ◌&&◌ (meaning.truth m (valued left)) (meaning.truth m (valued right))) count known.within
      (both_form left right known.sound_left known.sound_right h k))
  means_binary binary.LogOr left right h k =
      level (Expr-F.Binary binary.LogOr left right) (λ there selects count narrow.
      let known : BothAt binary.LogOr left right count = both_at binary.LogOr left right there selects count narrow in
      one_form (and_then_both (own m (edged left)) (own m (edged right)) some_true)
      (together ◌||◌ (meaning.truth m (valued left)) (meaning.truth m (valued right))) count known.within
      (some_form left right known.sound_left known.sound_right h k))
  means_binary binary.Eq left right h k =
      level (Expr-F.Binary binary.Eq left right) (λ there selects count narrow.
      let known : BothAt binary.Eq left right count = both_at binary.Eq left right there selects count narrow in
      one_form (compared m (edged left) (edged right)) (meaning.are_same m (valued left) (valued right)) count known.within
      (same_form left right known.sound_left known.sound_right h k))
  means_binary binary.Ne left right h k =
      level (Expr-F.Binary binary.Ne left right) (λ there selects count narrow.
      let known : BothAt binary.Ne left right count = both_at binary.Ne left right there selects count narrow in
      one_form (inverted (compared m (edged left) (edged right))) (option_map not (meaning.are_same m (valued left) (valued right))) count known.within
      (gives_inverted rel read state row kept (compared m (edged left) (edged right)) (meaning.are_same m (valued left) (valued right) ∷ [])
      (same_form left right known.sound_left known.sound_right h k)))

  means_choice : (condition first second : Expr) → Means condition → Means first → Means second → FormMeans (Expr-F.Cond condition first second)
  means_choice condition first second g h k =
      level (Expr-F.Cond condition first second) (λ there selects count narrow.
      let inside = choice_there (width m condition) (width m first) (width m second) there in
      let selected = and_both (has_selects m condition) (has_selects m first && has_selects m second) selects in
      let branches = and_both (has_selects m first) (has_selects m second) selected.1 in
      let within : max (width_of m first) (width_of m second) ≤ count = subst (λ width. width ≤ count) inside.3 narrow in
      choice_form condition first second (sound_of condition inside.0 selected.0) g count
      (h (sound_of first inside.1 branches.0) count (omega arith)) (k (sound_of second inside.2 branches.1) count (omega arith)))

  means_join : (parts : List Proved) → FormMeans (Expr-F.Join (bare parts))
  means_join parts =
      level (Expr-F.Join (bare parts)) (λ there selects count narrow.
      let inside = row_there sum (map (width m) (bare parts)) there in
      let sound : AllSound m (bare parts) = parts_sound m (bare parts) inside.0 selects in
      let all : total m (backwards parts) ≡ sum (counts (map (width m) (bare parts))) = total_is (bare parts) in
      row_form (joined m (map edged (bare parts))) (backwards parts) count
      (subst (λ width. width ≤ count) (inside.1 ∙ sym all) narrow) (joined_gives parts sound))

  means_repeat : (times : ℕ) (parts : List Proved) → FormMeans (Expr-F.Repeat times (bare parts))
  means_repeat times parts =
      level (Expr-F.Repeat times (bare parts)) (λ there selects count narrow.
      let inside = row_there (λ widths. times * sum widths) (map (width m) (bare parts)) there in
      let sound : AllSound m (bare parts) = parts_sound m (bare parts) inside.0 selects in
      let all : total m (repeat times (backwards parts)) ≡ times * sum (counts (map (width m) (bare parts))) =
      total-repeat m times (backwards parts) ∙ ap (λ width. times * width) (total_is (bare parts)) in
      row_form (λ next. repeated times (joined m (map edged (bare parts)) next)) (repeat times (backwards parts)) count
      (subst (λ width. width ≤ count) (inside.1 ∙ sym all) narrow)
      (repeated_gives times (joined m (map edged (bare parts))) (backwards parts) (joined_gives parts sound)))

  form : (y : Expr-F Proved) → FormMeans (map-Expr Proved Expr (λ e. e.0) y)
  form (Expr-F.Number at digits) =
      level (Expr-F.Number at digits) (λ there selects count narrow.
      number_form digits count (subst (λ width. width ≤ count) (width_within (length digits) there) narrow))
  form (Expr-F.Whole at name) =
      level (Expr-F.Whole at name) (λ there selects count narrow. name_form (whole_bits m name) count (whole_fits m name count there narrow))
  form (Expr-F.Bit at name index) =
      level (Expr-F.Bit at name index) (λ there selects count narrow.
      name_form (bit_with m name index) count (bit_fits m name index count selects narrow))
  form (Expr-F.Part at name part) =
      level (Expr-F.Part at name part) (λ there selects count narrow.
      name_form (part_bits m name part) count (part_fits m name part count selects there narrow))
  form (Expr-F.Unary op arg) = means_unary op arg.0 arg.1
  form (Expr-F.Binary op left right) = means_binary op left.0 right.0 left.1 right.1
  form (Expr-F.Cond condition first second) = means_choice condition.0 first.0 second.0 condition.1 first.1 second.1
  form (Expr-F.Join parts) = means_join parts
  form (Expr-F.Repeat times parts) = means_repeat times parts

  pub means : (e : Expr) → Means e
  means = ind-Expr Means (λ x y is. subst FormMeans is (form y))
