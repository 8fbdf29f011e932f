-- The first size that passes its limit.
use Rattle.std.proofs.Common.{◌≡◌, inl, inr, ℕ, ◌+◌, ◌<◌, ◌≤◌, List, ◌∷◌, Some, ap, arith, cond, length, subst, sym, ◌∙◌, Result, Ok, Err, IfErr, IsErrAnd}
use Rattle.std.proofs.lemmas.Bool.{le-ltb, lt-ltb}
use Rattle.bm_base.specs.Size.{limit_of}
use Rattle.bm_base.specs.declared.size.Size.{Size}
use Rattle.bm_base.specs.declared.size.Size.TheVariants as size
use Rattle.flat_design.specs.Flat.{flat, whole_of}
use Rattle.flat_design.specs.Sizes.{first_too_large, too_large}
use Rattle.flat_net.specs.declared.fault.FlatFault.{FlatFault}
use Rattle.flat_net.specs.declared.fault.FlatFault.TheVariants as fault
use Rattle.frames.specs.Numbered.{Numbered, setting_with}
use Rattle.frames.specs.Numbered as numbered
use Rattle.lowering.specs.Limits.{Excuses}
use Rattle.numbering.specs.Numbering.{first_of_expressions}
use Rattle.vlog_tree.specs.Meaning.Instances.{instances}
use Rattle.vlog_tree.specs.Meaning.Keys.{input_keys, register_keys}
use Rattle.vlog_tree.specs.Meaning.Setting.{Setting}
use Rattle.vlog_tree.specs.Meaning.Uses.{Text}
use Rattle.flatten.specs.Planned.{Refuses}
use Rattle.flatten.specs.Ready.{setting_by}
use Rattle.flatten.specs.Tested.{last_sizes}
use Rattle.flatten.proofs.NodeLemmas.{node_count}

-- ---- one size

passing : (what : Size) (count : ℕ) (others : List (Size × ℕ)) → limit_of what < count
    → first_too_large ((what, count) ∷ others) ≡ Some what
passing what count others large =
    ap (λ b. cond b (Some what) (first_too_large others)) (lt-ltb (limit_of what) count large)

within : (what : Size) (count : ℕ) (others : List (Size × ℕ)) → count ≤ limit_of what
    → first_too_large ((what, count) ∷ others) ≡ first_too_large others
within what count others few =
    ap (λ b. cond b (Some what) (first_too_large others)) (le-ltb (limit_of what) count few)

-- ---- the sizes of a flat netlist

module _ (setting : Setting) where
  abbrev counts : List (Size × ℕ)
  counts = last_sizes (length (register_keys setting)) (length (input_keys setting))

  abbrev nodes_and : List (Size × ℕ)
  nodes_and = (size.Nodes, length (flat setting).nodes) ∷ counts

  instances_refuse : limit_of size.Instances < length (instances setting) → too_large setting ≡ Some size.Instances
  instances_refuse large = passing size.Instances (length (instances setting)) nodes_and large

  nodes_refuse : length (instances setting) ≤ limit_of size.Instances → limit_of size.Nodes < length (flat setting).nodes
      → too_large setting ≡ Some size.Nodes
  nodes_refuse few large =
      within size.Instances (length (instances setting)) nodes_and few
      ∙ passing size.Nodes (length (flat setting).nodes) counts large

-- ---- faults of a design whose bits are numbered

pub frames_refused : (it : Numbered) (check : Text) (why : FlatFault) → numbered.Refuses (setting_with it) why
    → Refuses (setting_by it check) why
frames_refused it check fault.Memory refused = tt
frames_refused it check (fault.TooLarge what) (inl instances) =
    instances_refuse (setting_by it check) instances.1 ∙ ap Some (sym instances.0)
frames_refused it check (fault.TooLarge what) (inr nodes) =
    let count : length (flat (setting_by it check)).nodes
    ≡ first_of_expressions (setting_by it check) + length (whole_of (setting_by it check)).nodes =
    node_count (setting_by it check) in
    let large : limit_of size.Nodes < first_of_expressions (setting_by it check) = nodes.2 in
    nodes_refuse (setting_by it check) nodes.1 (omega (arith, count, large)) ∙ ap Some (sym nodes.0)

-- ---- faults that are passed on

pub passed_on : {X : Type 0} (P : FlatFault → Type 0) (result : Result X FlatFault) (why : FlatFault)
    → IsErrAnd result (λ other. other ≡ why) → P why → IfErr result P
passed_on P (Ok x) why is holds = tt
passed_on P (Err other) why is holds = subst P (sym is) holds

pub excused_more : (fewer more : ℕ) (why : FlatFault) → fewer ≤ more → Excuses fewer why → Excuses more why
excused_more fewer more fault.Memory few excused = tt
excused_more fewer more (fault.TooLarge what) few excused = let large : limit_of size.Nodes < fewer = excused.1 in (excused.0, omega arith)
