use Rattle.std.proofs.Common.{inl, map, ap, sym, ◌∙◌, is_some}
use Rattle.std.specs.Global.{Vec}
use Rattle.vcd_header.specs.declared.token.Token.{Token}
use Rattle.vcd_header.specs.Declares.{declared_with}
use Rattle.vcd_header.specs.Header.{form_fault}
use Rattle.vcd_header.specs.Sections.{inner}
use Rattle.vcd_header.specs.Tokens.{tok_of}
use Rattle.vcd_header.proofs.HeaderLemmas.{declared_inside, fault_of_form, form_of_other, told, within_form, within_open}
use Rattle.vcd_header.proofs.header.take_group.Goals as goal

pub returns-in-Ok-clause-faultless : goal.returns-in-Ok-clause-faultless
returns-in-Ok-clause-faultless c =
    let first = tok_of c.args.first in
    let variables = c.args.declarations.now.variables in
    let path = c.args.declarations.now.path in
    let inside = ap (map tok_of) c.deref.ensures.value ∙ told (λ (inside : Vec Token). map tok_of inside.items) c.in_ok-inside.field-0 c.in-Some.inside (inner c.args.tokens.now) c.in-Some.is c.in_ok-inside.ensures.inside in
    within_form variables path first c.args.tokens.now (sym c.is_end.ensures ∙ c.if-is_end.false) (sym c.begins_section.ensures ∙ c.if-not-begins_section.false) (sym c.in_ok-inside.ensures.closed ∙ ap is_some c.in-Some.is)
    ∙ ap (form_fault variables path first) (sym inside)
    ∙ c.in-Ok.ensures.faultless

pub returns-in-Ok-clause-declared : goal.returns-in-Ok-clause-declared
returns-in-Ok-clause-declared c =
    let first = tok_of c.args.first in
    let inside = ap (map tok_of) c.deref.ensures.value ∙ told (λ (inside : Vec Token). map tok_of inside.items) c.in_ok-inside.field-0 c.in-Some.inside (inner c.args.tokens.now) c.in-Some.is c.in_ok-inside.ensures.inside in
    c.in-Ok.ensures.declared
    ∙ ap (declared_with c.args.declarations.now first) inside
    ∙ sym (declared_inside c.args.declarations.now first c.args.tokens.now)

pub returns-in-Some-clause-fault : goal.returns-in-Some-clause-fault
returns-in-Some-clause-fault c =
    let inside = ap (map tok_of) c.deref.ensures.value ∙ told (λ (inside : Vec Token). map tok_of inside.items) c.in_ok-inside.field-0 c.in-Some.inside (inner c.args.tokens.now) c.in-Some.is c.in_ok-inside.ensures.inside in
    fault_of_form c.args.declarations.now.variables c.args.declarations.now.path (tok_of c.args.first) c.args.tokens.now _ c.in-Err.fault
    (sym c.is_end.ensures ∙ c.if-is_end.false) (sym c.begins_section.ensures ∙ c.if-not-begins_section.false) (sym c.in_ok-inside.ensures.closed ∙ ap is_some c.in-Some.is) inside c.in-Err.ensures.fault

pub returns-then-is_command-clause-fault : goal.returns-then-is_command-clause-fault
returns-then-is_command-clause-fault c =
    inl (within_open c.args.declarations.now.variables c.args.declarations.now.path (tok_of c.args.first) c.args.tokens.now
    (sym c.is_end.ensures ∙ c.if-is_end.false) (sym c.begins_section.ensures ∙ c.if-not-begins_section.false) (sym c.in_ok-inside.ensures.closed ∙ ap is_some c.in-None.is))

pub returns-then-skip_section-clause-faultless : goal.returns-then-skip_section-clause-faultless
returns-then-skip_section-clause-faultless c =
    let first = tok_of c.args.first in
    within_form c.args.declarations.now.variables c.args.declarations.now.path first c.args.tokens.now
    (sym c.is_end.ensures ∙ c.if-is_end.false) (sym c.begins_section.ensures ∙ c.if-not-begins_section.false) (sym c.skip_section.ensures.closed ∙ c.if-skip_section.true)
    ∙ form_of_other c.args.declarations.now.variables c.args.declarations.now.path first (inner c.args.tokens.now) (sym c.is_command.ensures ∙ c.if-is_command.false)

pub returns-clause-fault : goal.returns-clause-fault
returns-clause-fault c =
    inl (within_open c.args.declarations.now.variables c.args.declarations.now.path (tok_of c.args.first) c.args.tokens.now
    (sym c.is_end.ensures ∙ c.if-is_end.false) (sym c.begins_section.ensures ∙ c.if-not-begins_section.false) (sym c.skip_section.ensures.closed ∙ c.if-skip_section.false))
