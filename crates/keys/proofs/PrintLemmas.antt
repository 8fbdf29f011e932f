-- What is printed of a bit by the plan of its design is its printed name by each setting of the plan.
use Rattle.std.proofs.Common.{◌≡◌, ℕ, List, Option, None, Some, ap, refl, sym, ◌∙◌}
use Rattle.std.specs.Option.{option_map}
use Rattle.elab.specs.declared.plan.Plan.{Plan}
use Rattle.flatten.specs.Planned.{IsPlanned}
use Rattle.keys.specs.Printed.{key_text}
use Rattle.keys.specs.Under.{text_under}
use Rattle.numbering.specs.Numbering.{key_at}
use Rattle.trace_rows.specs.declared.labels.Labels.{Labels}
use Rattle.vlog_tree.specs.declared.design.Design.{Design}
use Rattle.vlog_tree.specs.declared.key.Key.{Key}
use Rattle.vlog_tree.specs.Meaning.Setting.{Setting}
use Rattle.vlog_tree.specs.Meaning.Uses.{Text}

module _ (design : Design) (plan : Plan) where
  text_is : (setting : Setting) → IsPlanned setting design plan → (key : Key)
      → text_under design plan.labels.top key ≡ key_text setting key
  text_is setting planned key =
      ap (λ design. text_under design plan.labels.top key) (sym planned.design)
      ∙ ap (λ (labels : Labels). text_under setting.design labels.top key) planned.plan.labels

  texts_are : (setting : Setting) → IsPlanned setting design plan → (key : Option Key)
      → option_map (text_under design plan.labels.top) key ≡ option_map (key_text setting) key
  texts_are setting planned None = refl
  texts_are setting planned (Some key) = ap Some (text_is setting planned key)

  pub text_by_plan : (node : ℕ) (key : Option Key) → ((setting : Setting) → IsPlanned setting design plan → key ≡ key_at setting node)
      → (top : Text) → top ≡ plan.labels.top → (text : Option (List ℕ)) → text ≡ option_map (text_under design top) key
      → (setting : Setting) → IsPlanned setting design plan → text ≡ option_map (key_text setting) (key_at setting node)
  text_by_plan node key is top top_is text printed setting planned =
      printed
      ∙ ap (λ top. option_map (text_under design top) key) top_is
      ∙ texts_are setting planned key
      ∙ ap (option_map (key_text setting)) (is setting planned)
