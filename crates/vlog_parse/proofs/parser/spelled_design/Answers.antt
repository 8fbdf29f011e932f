use Rattle.std.proofs.Common.{ap, inl, length, Ok, ◌∙◌}
use Rattle.vlog_parse.proofs.Designs.{as_many, is_not_refused, is_read, is_spelled, stuck_place}
use Rattle.vlog_parse.proofs.parser.spelled_design.Goals as goal

pub returns-in-Ok-clause-spelled : goal.returns-in-Ok-clause-spelled
returns-in-Ok-clause-spelled c = is_spelled c.args.tokens.now.list c.new-cursor.result (length c.list-list.result.now) c.in-Ok.design (c.new-cursor.ensures ∙ c.list-list.ensures) c.design.new.cursor c.in-Ok.ensures.reads

pub returns-in-Ok-clause-whole : goal.returns-in-Ok-clause-whole
returns-in-Ok-clause-whole c = λ other spelled.
    inl (ap Ok (is_read c.args.tokens.now.list c.new-cursor.result (length c.list-list.result.now) c.in-Ok.design other (c.new-cursor.ensures ∙ c.list-list.ensures) (as_many c.list-list.result.now c.args.tokens.now.list c.list-list.ensures) c.design.new.cursor
    c.in-Ok.ensures.reads spelled))

pub returns-in-Err-Token-clause-whole : goal.returns-in-Err-Token-clause-whole
returns-in-Err-Token-clause-whole c = λ other spelled.
    absurd (is_not_refused c.args.tokens.now.list c.new-cursor.result (length c.list-list.result.now) other (c.new-cursor.ensures ∙ c.list-list.ensures) (as_many c.list-list.result.now c.args.tokens.now.list c.list-list.ensures) c.design.new.cursor
    (rw c.in-Err-Token.field-0-is at c.in-Err-Token.ensures.reads) spelled)

pub returns-in-Err-Token-clause-refused : goal.returns-in-Err-Token-clause-refused
returns-in-Err-Token-clause-refused c = (
  λ other spelled. is_not_refused c.args.tokens.now.list c.new-cursor.result (length c.list-list.result.now) other (c.new-cursor.ensures ∙ c.list-list.ensures) (as_many c.list-list.result.now c.args.tokens.now.list c.list-list.ensures) c.design.new.cursor
      (rw c.in-Err-Token.field-0-is at c.in-Err-Token.ensures.reads) spelled,
  stuck_place c.args.tokens.now c.new-cursor.result c.design.new.cursor (length c.list-list.result.now) c.place.result (c.new-cursor.ensures ∙ c.list-list.ensures) (as_many c.list-list.result.now c.args.tokens.now.list c.list-list.ensures)
      (rw c.in-Err-Token.field-0-is at c.in-Err-Token.ensures.reads) c.place.ensures,
)
