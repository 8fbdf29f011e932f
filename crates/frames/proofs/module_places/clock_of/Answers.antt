use Rattle.std.proofs.Common.{ap, sym, ◌∙◌, cond, Some, None}
use Rattle.frames.specs.Numbered.{numbered}
use Rattle.frames.proofs.FoundLemmas.{clock_is}
use Rattle.frames.proofs.module_places.clock_of.Goals as goal

pub returns-then-eq : goal.returns-then-eq
returns-then-eq c =
    ap (λ b. cond b (Some c.args.clock.now) None) (sym c.if-eq.true)
    ∙ clock_is (numbered c.args.design.now c.args.clock.now) c.args.name.now c.top.result.now c.bytes.result.now c.eq.result c.top.ensures
    (c.bytes.ensures ∙ ap (λ m. m.name) c.module.ensures) c.eq.ensures

pub returns-else-eq : goal.returns-else-eq
returns-else-eq c =
    ap (λ b. cond b (Some c.args.clock.now) None) (sym c.if-eq.false)
    ∙ clock_is (numbered c.args.design.now c.args.clock.now) c.args.name.now c.top.result.now c.bytes.result.now c.eq.result c.top.ensures
    (c.bytes.ensures ∙ ap (λ m. m.name) c.module.ensures) c.eq.ensures
