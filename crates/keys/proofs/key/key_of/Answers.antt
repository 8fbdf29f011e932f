use Rattle.std.proofs.Common.{◌≡◌, ◌<◌, ◌-◌, arith, slice_get, subst, sym, ◌∙◌}
use Rattle.std.proofs.lemmas.Result.{IfOk-weaker}
use Rattle.frames.specs.Numbered.{setting_with}
use Rattle.numbering.specs.Numbering.{keys_with_nodes}
use Rattle.numbering.proofs.NumberEdgeLemmas.{numbers_bits}
use Rattle.vlog_tree.specs.Meaning.Instances.{instances}
use Rattle.keys.proofs.KeyLemmas.{among_driven, among_inputs, among_none, among_registers, first_within, input_held, some_there}
use Rattle.keys.proofs.key.key_of.Goals as goal

pub returns-then-number-inputs : goal.returns-then-number-inputs
returns-then-number-inputs c =
    let setting = setting_with c.args.frames.now in
    let first = some_there (instances setting) 0 (first_within setting c.requires.sound) in
    IfOk-weaker c.key_in.result _ (λ key. key ≡ slice_get (keys_with_nodes setting) c.args.number)
    (λ key holds.
    holds first.0 first.1
    ∙ sym (input_held setting c.requires.sound first.0 first.1 c.args.number)
    ∙ among_inputs setting c.args.number (subst (λ n. c.args.number < n) c.inputs-inputs.ensures c.if-number-inputs.true))
    c.key_in.ensures

pub key_among-requires-clause-within : goal.key_among-requires-clause-within
key_among-requires-clause-within c =
    subst (λ n. c.args.number - c.inputs-inputs.result < n)
    (c.registers-registers.ensures ∙ numbers_bits.register_count (setting_with c.args.frames.now)) c.if-register-registers.true

pub returns-then-register-registers : goal.returns-then-register-registers
returns-then-register-registers c =
    let setting = setting_with c.args.frames.now in
    let inputs = c.inputs-inputs.ensures in
    let past = c.if-number-inputs.false in
    IfOk-weaker c.key_among.result _ (λ key. key ≡ slice_get (keys_with_nodes setting) c.args.number)
    (λ key holds.
    holds
    ∙ among_registers setting c.args.number (c.args.number - c.inputs-inputs.result) (omega (arith, inputs, past))
    (subst (λ n. c.args.number - c.inputs-inputs.result < n) c.registers-registers.ensures c.if-register-registers.true))
    c.key_among.ensures

pub key_among-requires-then-driven-clause-within : goal.key_among-requires-then-driven-clause-within
key_among-requires-then-driven-clause-within c =
    subst (λ n. c.args.number - c.inputs-inputs.result - c.registers-registers.result < n)
    (c.driven.ensures ∙ numbers_bits.driven_count (setting_with c.args.frames.now)) c.if-driven.true

pub returns-then-driven : goal.returns-then-driven
returns-then-driven c =
    let setting = setting_with c.args.frames.now in
    let inputs = c.inputs-inputs.ensures in
    let past = c.if-number-inputs.false in
    let registers = c.registers-registers.ensures in
    let behind = c.if-register-registers.false in
    IfOk-weaker c.key_among-then-driven.result _ (λ key. key ≡ slice_get (keys_with_nodes setting) c.args.number)
    (λ key holds.
    holds
    ∙ among_driven setting c.args.number (c.args.number - c.inputs-inputs.result) (omega (arith, inputs, past))
    (c.args.number - c.inputs-inputs.result - c.registers-registers.result) (omega (arith, registers, behind)))
    c.key_among-then-driven.ensures

pub returns : goal.returns
returns c =
    let inputs = c.inputs-inputs.ensures in
    let past = c.if-number-inputs.false in
    let registers = c.registers-registers.ensures in
    let behind = c.if-register-registers.false in
    let none = c.if-driven.false in
    let driven = c.driven.ensures in
    among_none (setting_with c.args.frames.now) c.args.number (c.args.number - c.inputs-inputs.result) (omega (arith, inputs, past))
    (c.args.number - c.inputs-inputs.result - c.registers-registers.result) (omega (arith, registers, behind)) (omega (arith, none, driven))
