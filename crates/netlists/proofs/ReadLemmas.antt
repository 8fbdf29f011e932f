-- A netlist that was read or refused, from what the steps of the reading say.
use Rattle.std.proofs.Common.{◌≡◌, ◌⊎◌, inl, inr, ◌<◌, ◌≤◌, ℕ, List, [], ◌∷◌, None, Some, Result, Ok, Err, ap, arith, length, nat_lt, subst, sym, ◌∙◌, refl}
use Rattle.std.specs.Result.{IfErr, IsErrAnd}
use Rattle.std.proofs.lemmas.Bool.{cases_Bool, cond-false, cond-true, ltb-false}
use Rattle.std.proofs.lemmas.List.{length-map}
use Rattle.bm_base.specs.declared.size.Size.{Size}
use Rattle.bm_base.specs.declared.size.Size.TheVariants as size
use Rattle.bm_base.specs.Size.{limit_of}
use Rattle.design_laws.specs.Grammar.{GrammarGives}
use Rattle.elab.specs.Plans.{IsPlan}
use Rattle.elab.specs.Refusals.{KeepsRules, Refuses, rules}
use Rattle.elab.specs.Settings.{setting_of}
use Rattle.elab.specs.declared.fault.ElabFault.{ElabFault}
use Rattle.elab.specs.declared.fault.ElabFault.TheVariants as elab
use Rattle.elab.specs.declared.names.Names.{Names}
use Rattle.elab.specs.declared.plan.Plan.{Plan}
use Rattle.flat_design.specs.Flat.{flat}
use Rattle.flat_design.specs.Sizes.{first_too_large, too_large}
use Rattle.flatten.specs.Planned.{IsPlanned}
use Rattle.label_laws.specs.Spelled.{SpellsInProfile}
use Rattle.label_laws.specs.Writable.{LabelsAreWritable, RowsAreInputs}
use Rattle.levelise.specs.Machine.{Level}
use Rattle.loop_laws.specs.Loops.{IsClockedDesign, LoopsAreOfNodes}
use Rattle.levelise.specs.Machine as net
use Rattle.machine_laws.specs.Machines.{AreSame, MachinesAgree, level_of}
use Rattle.trace_rows.specs.declared.labels.Labels.{Labels}
use Rattle.trace_rows.specs.Writable.{AreWritable}
use Rattle.vcd_writer.specs.Value.{row_width}
use Rattle.vlog_tree.specs.Meaning.Step as step
use Rattle.rule_laws.specs.Ready.{RulesGiveReady}
use Rattle.rule_laws.specs.Reset.{RulesGiveReset}
use Rattle.vlog_lexer.specs.Faults.{FailsAt}
use Rattle.vlog_lexer.specs.declared.fault.LexFault.{LexFault}
use Rattle.vlog_lexer.specs.declared.fault.LexFault.TheVariants as lex
use Rattle.vlog_parse.specs.Refusals.{IsCause, IsInProfile}
use Rattle.vlog_parse.specs.declared.parse_fault.ParseFault.{ParseFault}
use Rattle.vlog_parse.specs.declared.parse_fault.ParseFault.TheVariants as parse
use Rattle.vlog_tokens.specs.Tokens.{AreTokens}
use Rattle.vlog_tokens.specs.Toks.{Lexed, Tok}
use Rattle.vlog_tree.specs.declared.design.Design.{Design}
use Rattle.vlog_tree.specs.Meaning.Instances.{instances}
use Rattle.vlog_tree.specs.Meaning.Keys.{input_keys, register_keys}
use Rattle.vlog_tree.specs.Meaning.Setting.{Setting}
use Rattle.vlog_tree.specs.Meaning.Value.{IsLoopFree}
use Rattle.vlog_tree.specs.Spelling.Modules.{IsDesign}
use Rattle.netlists.specs.Faults.{IsFault}
use Rattle.netlists.specs.Netlists.{IsKept}
use Rattle.netlists.specs.Reading.{IsMachineOf, IsRead}
use Rattle.netlists.specs.Stops.{IsMade, StopsMaking, fault_of_lex, fault_of_parse, fault_of_rule}
use Rattle.netlists.specs.declared.fault.NetlistFault.{NetlistFault}
use Rattle.netlists.specs.declared.fault.NetlistFault.TheVariants as fault
use Rattle.netlists.specs.declared.planned.Netlist.{Netlist}

-- ---- the first steps

pub lex_stopped : (names : Names) (bytes : List ℕ) (why : LexFault) → FailsAt bytes why ⊎ (why ≡ lex.Memory) → IsFault names bytes (fault_of_lex why)
lex_stopped names bytes (lex.BadByte at) (inl fails) = fails
lex_stopped names bytes (lex.OpenComment at) (inl fails) = fails
lex_stopped names bytes (lex.OpenString at) (inl fails) = fails
lex_stopped names bytes (lex.Directive at) (inl fails) = fails
lex_stopped names bytes lex.Memory (inl fails) = tt
lex_stopped names bytes (lex.BadByte at) (inr is) = absurd cc
lex_stopped names bytes (lex.OpenComment at) (inr is) = absurd cc
lex_stopped names bytes (lex.OpenString at) (inr is) = absurd cc
lex_stopped names bytes (lex.Directive at) (inr is) = absurd cc
lex_stopped names bytes lex.Memory (inr is) = tt

pub parse_stopped : (names : Names) (bytes : List ℕ) (lexed : Lexed) (why : ParseFault) → AreTokens bytes lexed.list
    → lexed.source_len ≡ length bytes → IsCause lexed why → IsFault names bytes (fault_of_parse why)
parse_stopped names bytes lexed (parse.Outside at) are len cause = (lexed, are, len, cause)
parse_stopped names bytes lexed (parse.Number at) are len cause = (lexed, are, len, cause)
parse_stopped names bytes lexed (parse.TooDeep at) are len cause = (lexed, are, len, cause)
parse_stopped names bytes lexed (parse.Syntax at) are len cause = (lexed, are, len, cause)
parse_stopped names bytes lexed parse.Memory are len cause = tt

pub rule_stopped : (names : Names) (bytes : List ℕ) (design : Design) (why : ElabFault) → SpellsInProfile bytes design
    → Refuses (rules (setting_of design names)) why → IsFault names bytes (fault_of_rule why)
rule_stopped names bytes design (elab.Rule rule module_name name) text (inl memory) = absurd cc
rule_stopped names bytes design elab.Memory text refused = tt
rule_stopped names bytes design (elab.Rule rule module_name name) text (inr refused) = (design, text, refused)

-- A design that the tokens spell, the bytes spell.
pub spelled_by : (bytes : List ℕ) (ts : List Tok) (design : Design) → AreTokens bytes ts → IsDesign ts design × IsInProfile ts
    → SpellsInProfile bytes design
spelled_by bytes ts design are spelled =
    record { spelled = record { tokens = ts; are = are; spell = spelled.0 }; profile = spelled.1 }

-- ---- sizes

size_within : (what : Size) (count : ℕ) (others : List (Size × ℕ)) → first_too_large ((what, count) ∷ others) ≡ None
    → (count ≤ limit_of what) × (first_too_large others ≡ None)
size_within what count others none = elim (cases_Bool (nat_lt (limit_of what) count)) [
  | inl many ↦
      let some : Some what ≡ None = sym (cond-true (nat_lt (limit_of what) count) (Some what) (first_too_large others) many) ∙ none in
      absurd cc
  | inr few ↦ (
    omega (arith, ltb-false (limit_of what) count few),
    sym (cond-false (nat_lt (limit_of what) count) (Some what) (first_too_large others) few) ∙ none,
  )
]

module _ (setting : Setting) (sizes : too_large setting ≡ None) where
  -- the sizes that are tested after the others
  abbrev input_size : List (Size × ℕ)
  input_size = (size.Inputs, length (input_keys setting)) ∷ []

  abbrev register_size : List (Size × ℕ)
  register_size = (size.Registers, length (register_keys setting)) ∷ input_size

  abbrev node_size : List (Size × ℕ)
  node_size = (size.Nodes, length (flat setting).nodes) ∷ register_size

  few_instances : first_too_large node_size ≡ None
  few_instances = (size_within size.Instances (length (instances setting)) node_size sizes).1

  few_nodes : length (flat setting).nodes ≤ 1048576
  few_nodes = (size_within size.Nodes (length (flat setting).nodes) register_size few_instances).0

  few_inputs : length (input_keys setting) ≤ 4096
  few_inputs =
      (size_within size.Inputs (length (input_keys setting)) []
      (size_within size.Registers (length (register_keys setting)) input_size
      (size_within size.Nodes (length (flat setting).nodes) register_size few_instances).1).1).0

-- ---- all that the laws say of the machine

pub record Laws : Type 0 where
  pub grammar : GrammarGives
  pub ready : RulesGiveReady
  pub reset : RulesGiveReset
  pub writable : LabelsAreWritable
  pub wide : RowsAreInputs
  pub loops : LoopsAreOfNodes
  pub machines : MachinesAgree

module _ (laws : Laws) (names : Names) (bytes : List ℕ) (design : Design) (text : SpellsInProfile bytes design) (kept : KeepsRules (setting_of design names)) where
  abbrev setting : Setting
  setting = setting_of design names

  pub is_planned : (plan : Plan) → IsPlan setting plan → IsPlanned setting design plan
  is_planned plan is = record { design = refl; kept = kept; plan = is }

  pub is_kept : IsKept names bytes design
  is_kept = record { text = text; rules = kept }

  clocked : IsClockedDesign setting
  clocked =
      let ready = laws.ready setting kept in
      record {
        sound = ready.sound;
        grammar = laws.grammar bytes design text.spelled;
        top = ready.top;
        is_top = ready.is_top;
        apart = ready.apart;
        clock = ready.clock;
      }

  module _ (sizes : too_large setting ≡ None) where
    few : length (flat setting).nodes < 4294967296
    few = omega (arith, few_nodes setting sizes)

    -- so many registers and inputs
    counted : (level : Level) → level ≡ level_of setting → IsMachineOf setting (level_of setting) → IsMachineOf setting level
    counted level is same = subst (IsMachineOf setting) (sym is) same

    agree : IsLoopFree setting → IsMachineOf setting (level_of setting)
    agree free =
        let ready = laws.ready setting kept in
        subst (λ n. AreSame n (length (input_keys setting)) (net.machine (level_of setting)) (step.machine setting))
        (sym (length-map (register_keys setting) (step.power_up_bit setting)))
        (laws.machines setting ready.top clocked ready.is_top (laws.reset setting ready.top kept ready.is_top) few free)

    read_sized : (netlist : Netlist) → IsMade setting netlist → IsRead names bytes netlist.level netlist.labels
    read_sized netlist made =
        let free : IsLoopFree setting = laws.loops.loops setting clocked few made.free in
        record {
          design = design;
          is = record { sized = record { kept = is_kept; sizes = sizes }; loop_free = free };
          level_is = made.level;
          labels_are = made.labels;
          same = counted netlist.level made.level (agree free);
          writable =
              subst AreWritable (sym made.labels)
              (laws.writable setting bytes text kept (let few = few_inputs setting sizes in omega (arith, few)));
          wide =
              ap (λ (labels : Labels). row_width labels.ports) made.labels ∙ laws.wide setting
              ∙ ap (λ (level : Level). level.net.inputs) (sym made.level);
        }

  pub read_as : (netlist : Netlist) → IsMade setting netlist → IsRead names bytes netlist.level netlist.labels
  read_as netlist made = read_sized made.sizes netlist made

  pub stopped : (why : NetlistFault) → StopsMaking setting why → IsFault names bytes why
  stopped (fault.TooLarge what) passed = (design, is_kept, passed)
  stopped (fault.Loop key) (sizes, named) = (
    design,
    record { kept = is_kept; sizes = sizes },
    record { loops = λ free. laws.loops.free setting clocked free named.0 named.1.loop; named = named },
  )
  stopped fault.Memory stops = tt
  stopped (fault.Lex why) stops = absurd stops
  stopped (fault.Parse why) stops = absurd stops
  stopped (fault.Rule why) stops = absurd stops

-- ---- passing on

-- The fault that a step gave is passed on.
pub if_passed_on : {X E : Type 0} (P : E → Type 0) (result : Result X E) (stop : E) → IsErrAnd result (λ e. e ≡ stop) → P stop → IfErr result P
if_passed_on P (Ok x) stop is holds = tt
if_passed_on P (Err other) stop is holds = subst P (sym is) holds
