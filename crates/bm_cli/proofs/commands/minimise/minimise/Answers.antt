use Rattle.std.proofs.Common.{◌≡◌, inl, Err, ap, subst}
use Rattle.std.specs.Option.{IfSome, option_map}
use Rattle.bm_base.specs.Held.{holding}
use Rattle.bm_words.specs.Asked.{request_of}
use Rattle.bm_words.specs.Words.{Request, minimise}
use Rattle.bm_inputs.specs.Reading.{reading_of}
use Rattle.netlists.proofs.ReadLemmas.{if_passed_on}
use Rattle.bm_cli.specs.Stops.{stop_of_inputs}
use Rattle.bm_cli.specs.Ends.{CallCounts, Stops}
use Rattle.bm_files.specs.Files.{HoldsPrefix}
use Rattle.bm_cli.specs.Verdict.{HasMinimised}
use Rattle.bm_cli.proofs.ToldLemmas.{made_told, minimise_stopped, partly_written, reducing_stopped, rose_later, written}
use Rattle.bm_cli.proofs.commands.minimise.minimise.Goals as goal

pub returns-in_err-input-clause-stops : goal.returns-in_err-input-clause-stops
returns-in_err-input-clause-stops g c =
    let request : Request = request_of c.args.asked.now in
    let counts : CallCounts = record { reads = g.F.Shelf.reads c.args.shelf.now; reads_now = g.F.Shelf.reads c.read_inputs.new.shelf; writes = g.F.Shelf.writes c.args.shelf.now; writes_now = g.F.Shelf.writes c.read_inputs.new.shelf } in
    if_passed_on (Stops (minimise request) (g.F.Shelf.held c.args.shelf.now) (g.F.Shelf.held c.read_inputs.new.shelf) counts)
    c.from_residual.result (stop_of_inputs c.in_err-input.field-0.0) c.from_residual.ensures.1
    (minimise_stopped request (g.F.Shelf.held c.args.shelf.now) (g.F.Shelf.held c.read_inputs.new.shelf) counts c.in_err-input.field-0.0 c.read_inputs.ensures.held c.in_err-input.ensures.stops)

pub returns-in_err-text-clause-stops : goal.returns-in_err-text-clause-stops
returns-in_err-text-clause-stops g c =
    let request : Request = request_of c.args.asked.now in
    let counts : CallCounts = record { reads = g.F.Shelf.reads c.args.shelf.now; reads_now = g.F.Shelf.reads c.read_inputs.new.shelf; writes = g.F.Shelf.writes c.args.shelf.now; writes_now = g.F.Shelf.writes c.read_inputs.new.shelf } in
    if_passed_on (Stops (minimise request) (g.F.Shelf.held c.args.shelf.now) (g.F.Shelf.held c.read_inputs.new.shelf) counts)
    c.from_residual-in_err-text.result c.in_err-text.field-0.0 c.from_residual-in_err-text.ensures.1
    (reducing_stopped c.runs.ensures request (g.F.Shelf.held c.args.shelf.now) (g.F.Shelf.held c.read_inputs.new.shelf) c.in_ok-input.input.level c.in_ok-input.input.labels
    (reading_of c.in_ok-input.input) c.in_ok-input.ensures.read counts c.in_err-text.field-0.0 c.read_inputs.ensures.held c.in_err-text.ensures.stops)

pub returns-in-Ok-clause-answers : goal.returns-in-Ok-clause-answers
returns-in-Ok-clause-answers g c =
    let request : Request = request_of c.args.asked.now in
    let made : IfSome (g.F.Shelf.held c.args.shelf.now) (λ held. HasMinimised request.inputs held c.in_ok-text.text.items c.in_ok-text.summary) =
    made_told c.runs.ensures request.inputs (g.F.Shelf.held c.args.shelf.now) c.in_ok-input.input.level c.in_ok-input.input.labels (reading_of c.in_ok-input.input)
    c.in_ok-input.ensures.read c.in_ok-text.text.items c.in_ok-text.summary c.in_ok-text.ensures.reduced in
    written request (g.F.Shelf.held c.args.shelf.now) (g.F.Shelf.held c.read_inputs.new.shelf) (g.F.Shelf.held c.write_file.new.shelf) c.in_ok-text.text.items c.in_ok-text.summary
    made c.read_inputs.ensures.held
    (subst (λ t. g.F.Shelf.held c.write_file.new.shelf ≡ option_map (holding c.args.asked.now.out.now t) (g.F.Shelf.held c.read_inputs.new.shelf)) c.deref.ensures.value c.in-Ok.ensures.ok)

pub returns-in-Err-Failed-clause-stops : goal.returns-in-Err-Failed-clause-stops
returns-in-Err-Failed-clause-stops g c =
    let request : Request = request_of c.args.asked.now in
    let made : IfSome (g.F.Shelf.held c.args.shelf.now) (λ held. HasMinimised request.inputs held c.in_ok-text.text.items c.in_ok-text.summary) =
    made_told c.runs.ensures request.inputs (g.F.Shelf.held c.args.shelf.now) c.in_ok-input.input.level c.in_ok-input.input.labels (reading_of c.in_ok-input.input)
    c.in_ok-input.ensures.read c.in_ok-text.text.items c.in_ok-text.summary c.in_ok-text.ensures.reduced in (
      inl (rose_later c.args.asked.now.out.now (g.F.Shelf.writes c.args.shelf.now) (g.F.Shelf.writes c.read_inputs.new.shelf) (g.F.Shelf.writes c.write_file.new.shelf)
          c.read_inputs.ensures.writes (c.in-Err-Failed.ensures.cause (ap Err c.in-Err-Failed.field-0-is))),
      partly_written request (g.F.Shelf.held c.args.shelf.now) (g.F.Shelf.held c.read_inputs.new.shelf) (g.F.Shelf.held c.write_file.new.shelf) c.in_ok-text.text.items c.in_ok-text.summary
          made c.read_inputs.ensures.held
          (subst (λ t. HoldsPrefix c.args.asked.now.out.now t (g.F.Shelf.held c.read_inputs.new.shelf) (g.F.Shelf.held c.write_file.new.shelf)) c.deref.ensures.value c.in-Err-Failed.ensures.err),
    )

pub returns-clause-stops : goal.returns-clause-stops
returns-clause-stops g c =
    let request : Request = request_of c.args.asked.now in
    let made : IfSome (g.F.Shelf.held c.args.shelf.now) (λ held. HasMinimised request.inputs held c.in_ok-text.text.items c.in_ok-text.summary) =
    made_told c.runs.ensures request.inputs (g.F.Shelf.held c.args.shelf.now) c.in_ok-input.input.level c.in_ok-input.input.labels (reading_of c.in_ok-input.input)
    c.in_ok-input.ensures.read c.in_ok-text.text.items c.in_ok-text.summary c.in_ok-text.ensures.reduced in
    partly_written request (g.F.Shelf.held c.args.shelf.now) (g.F.Shelf.held c.read_inputs.new.shelf) (g.F.Shelf.held c.write_file.new.shelf) c.in_ok-text.text.items c.in_ok-text.summary
    made c.read_inputs.ensures.held
    (subst (λ t. HoldsPrefix c.args.asked.now.out.now t (g.F.Shelf.held c.read_inputs.new.shelf) (g.F.Shelf.held c.write_file.new.shelf)) c.deref.ensures.value c.in-Err-Memory.ensures.err)
