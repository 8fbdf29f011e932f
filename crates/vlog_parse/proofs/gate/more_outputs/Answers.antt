use Rattle.std.proofs.Common.{Option, Ok, arith, refl, ap, ◌∙◌}
use Rattle.vlog_tree.specs.declared.left.Left.{Left}
use Rattle.vlog_parse.specs.Gates.{is_output, output}
use Rattle.vlog_parse.specs.Reads.{one_more}
use Rattle.vlog_parse.proofs.Loops.{begins}
use Rattle.vlog_parse.proofs.Turns.{attempt_goes, attempt_stops}
use Rattle.vlog_parse.proofs.gate.more_outputs.Goals as goal

pub loop-next-init : goal.loop-next-init
loop-next-init c = (omega arith, begins (is_output c.args.depth) (one_more (output c.args.depth)) c.args.found.now c.args.cursor.now)

pub loop-next-preserved : goal.loop-next-preserved
unfolding is_output
loop-next-preserved c =
    let shorter = rw c.in-Some.is at c.in_ok-next.ensures.consumes in
    let read = c.in_ok-next.ensures.reads ∙ ap (λ (next : Option Left). Ok (next, c.next_output.new.cursor)) c.in-Some.is in (
      omega arith,
      attempt_goes (output c.args.depth) (is_output c.args.depth) (λ _. refl) _ c.loop-next.found c.loop-next.cursor c.loop-next.invariant.1 c.in-Some.next c.next_output.new.cursor c.push.new.self
          read c.in_ok-push.ensures.ok shorter,
    )

pub returns-clause-reads : goal.returns-clause-reads
unfolding is_output
returns-clause-reads c =
    let read = c.in_ok-next.ensures.reads ∙ ap (λ (next : Option Left). Ok (next, c.next_output.new.cursor)) c.in_default.is in
    attempt_stops (output c.args.depth) (is_output c.args.depth) (λ _. refl) _ c.loop-next.found c.loop-next.cursor c.loop-next.invariant.1 c.next_output.new.cursor read
