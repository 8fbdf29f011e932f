-- No two of the clock, the checker and the other inputs of a module whose names are right have one name.
use Rattle.std.proofs.Common.{◌≡◌, ◌≢◌, List, [], ◌∷◌, ◌++◌, All, true, not, sym, subst, arith, filter}
use Rattle.std.specs.List.{AllPairs, filter_map}
use Rattle.std.specs.Str.{bytes_eq}
use Rattle.std.proofs.lemmas.Bool.{not-true}
use Rattle.std.proofs.lemmas.Bool.Decides.{not_from_Decides}
use Rattle.std.proofs.lemmas.List.Elements.{All-cons, All-filter, All-weaker, filter_passes}
use Rattle.std.proofs.lemmas.List.Kept.{AllPairs-cons, AllPairs-filter}
use Rattle.std.proofs.lemmas.Slice.Eq.{bytes_eq-Decides}
use Rattle.design_laws.proofs.Members.{any_member}
use Rattle.name_rules.specs.Declarations.{bad_names}
use Rattle.vlog_tree.specs.declared.design.Module.{Module}
use Rattle.vlog_tree.specs.Meaning.Keys.{input_names}
use Rattle.vlog_tree.specs.Meaning.Names.{declared_name, declares_input, declares_output, firsts, implicit_names, inputs, is_input, is_output, names}
use Rattle.vlog_tree.specs.Meaning.Setting.{Setting}
use Rattle.vlog_tree.specs.Meaning.Uses.{Text}
use Rattle.label_laws.proofs.DeclarationLemmas.{input_no_output}

abbrev pub Differs : Text → Text → Type 0
Differs name other = name ≢ other

differs_by_test : (name other : Text) → not (bytes_eq other name) ≡ true → Differs name other
differs_by_test name other h same =
    not_from_Decides (bytes_eq other name) (bytes_eq-Decides other name) (not-true (bytes_eq other name) h) (sym same)

-- what is left without a name is none of it
without_differ : (name : Text) (names : List Text) → All (Differs name) (filter (λ other. not (bytes_eq other name)) names)
without_differ name names =
    All-weaker (λ other. not (bytes_eq other name) ≡ true) (Differs name) (differs_by_test name)
    (filter (λ other. not (bytes_eq other name)) names) (filter_passes (λ other. not (bytes_eq other name)) names)

firsts_differ : (names : List Text) → AllPairs Differs (firsts names)
firsts_differ [] = λ i j d before within. absurd (omega arith)
firsts_differ (name ∷ names) =
    AllPairs-cons Differs name (filter (λ other. not (bytes_eq other name)) (firsts names)) (without_differ name (firsts names))
    (AllPairs-filter Differs (λ other. not (bytes_eq other name)) (firsts names) (firsts_differ names))

module _ (setting : Setting) (m : Module) where
  ports_differ : AllPairs Differs (input_names setting m)
  ports_differ =
      AllPairs-filter Differs (λ name. not (bytes_eq name setting.clock)) (inputs m)
      (AllPairs-filter Differs (is_input m) (names m)
      (firsts_differ (m.ports ++ filter_map declared_name m.items ++ implicit_names m)))

  pub ports_are_inputs : All (λ name. is_input m name ≡ true) (input_names setting m)
  ports_are_inputs =
      All-filter (λ name. not (bytes_eq name setting.clock)) (λ name. is_input m name ≡ true) (inputs m)
      (filter_passes (is_input m) (names m))

  module _ (right : bad_names m ≡ []) where
    input_is_no_output : (name other : Text) → is_input m name ≡ true → is_output m other ≡ true → Differs name other
    input_is_no_output name other is other_is same =
        let input = any_member (declares_input name) m.items is in
        let output = any_member (declares_output name) m.items
        (subst (λ text. is_output m text ≡ true) (sym same) other_is) in
        input_no_output m right name input.0 output.0 input.1 output.1 input.2 output.2

    pub signals_differ : is_input m setting.clock ≡ true → is_output m setting.check ≡ true
        → AllPairs Differs (setting.clock ∷ setting.check ∷ input_names setting m)
    signals_differ clock check =
        AllPairs-cons Differs setting.clock (setting.check ∷ input_names setting m)
        (All-cons (Differs setting.clock) setting.check (input_names setting m)
        (input_is_no_output setting.clock setting.check clock check) (without_differ setting.clock (inputs m)))
        (AllPairs-cons Differs setting.check (input_names setting m)
        (All-weaker (λ name. is_input m name ≡ true) (Differs setting.check)
        (λ name is same. input_is_no_output name setting.check is check (sym same)) (input_names setting m) ports_are_inputs)
        ports_differ)
