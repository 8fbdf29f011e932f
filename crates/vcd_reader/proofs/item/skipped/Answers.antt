use Rattle.std.proofs.Common.{◌≤◌, [], ◌∷◌, length, if◌then◌else◌, subst, ap, sym, ◌∙◌}
use Rattle.std.specs.List.{after_first}
use Rattle.vcd_reader.specs.Body.{items}
use Rattle.vcd_reader.specs.Body.Item.{unfinished}
use Rattle.vcd_header.specs.Sections.{is_end}
use Rattle.vcd_header.specs.Tokens.{tok_of}
use Rattle.vcd_reader.proofs.BodyLemmas.{behind_section}
use Rattle.vcd_header.proofs.ListLemmas.{after_none, after_shorter}
use Rattle.vcd_reader.proofs.item.skipped.Goals as goal

pub returns-then-skip_section-clause-said : goal.returns-then-skip_section-clause-said
returns-then-skip_section-clause-said c =
    behind_section (tok_of c.args.section) c.args.tokens.now
    ∙ ap (λ closed. if closed then items (after_first is_end c.args.tokens.now) else unfinished c.args.section.at ∷ []) (sym c.skip_section.ensures.closed ∙ c.if-skip_section.true)
    ∙ ap items (sym c.skip_section.ensures.rest)

pub returns-then-skip_section-clause-shorter : goal.returns-then-skip_section-clause-shorter
returns-then-skip_section-clause-shorter c =
    subst (λ n. n ≤ length c.args.tokens.now) (ap length (sym c.skip_section.ensures.rest)) (after_shorter is_end c.args.tokens.now)

pub returns-else-skip_section-clause-said : goal.returns-else-skip_section-clause-said
returns-else-skip_section-clause-said c =
    let none = sym c.skip_section.ensures.closed ∙ c.if-skip_section.false in
    behind_section (tok_of c.args.section) c.args.tokens.now
    ∙ ap (λ closed. if closed then items (after_first is_end c.args.tokens.now) else unfinished c.args.section.at ∷ []) none
    ∙ ap (λ left. unfinished c.args.section.at ∷ items left) (sym (c.skip_section.ensures.rest ∙ after_none is_end c.args.tokens.now none))

pub returns-else-skip_section-clause-shorter : goal.returns-else-skip_section-clause-shorter
returns-else-skip_section-clause-shorter c =
    subst (λ n. n ≤ length c.args.tokens.now) (ap length (sym c.skip_section.ensures.rest)) (after_shorter is_end c.args.tokens.now)
