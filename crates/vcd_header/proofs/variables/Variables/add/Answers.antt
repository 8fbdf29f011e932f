use Rattle.std.proofs.Common.{◌≡◌, None, ap, sym, ◌∙◌}
use Rattle.vcd_header.specs.Declares.{size_among}
use Rattle.vcd_header.proofs.SizeLemmas.{size_added, size_stays}
use Rattle.vcd_header.proofs.variables.Variables.add.Goals as goal

pub invariant_of-self-in-Some : goal.invariant_of-self-in-Some
invariant_of-self-in-Some c = λ code.
    let declaration = c.args.declaration in
    size_stays c.self.inside.list.items declaration code _ c.in-Some.field-0 (c.self.invariant code) (sym (c.self.invariant declaration.code.now) ∙ sym c.get-known.ensures ∙ c.in-Some.is)
    ∙ ap (λ declarations. size_among declarations code) (sym c.in_ok-push.ensures.items)

pub invariant_of-self-in-Ok : goal.invariant_of-self-in-Ok
invariant_of-self-in-Ok c = λ code.
    let declaration = c.args.declaration in
    let fresh : size_among c.self.inside.list.items declaration.code.now ≡ None = sym (c.self.invariant declaration.code.now) ∙ sym c.get-known.ensures ∙ c.in-None.is in
    size_added c.self.inside.list.items declaration code _ _ (c.self.invariant code) fresh (c.in-Ok.ensures.ok code)
    ∙ ap (λ declarations. size_among declarations code) (sym c.in_ok-push.ensures.items)
