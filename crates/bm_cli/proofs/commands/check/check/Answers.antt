use Rattle.bm_inputs.specs.Reading.{reading_of}
use Rattle.netlists.proofs.ReadLemmas.{if_passed_on}
use Rattle.bm_words.specs.Asked.{given_inputs}
use Rattle.bm_words.specs.Words.{Inputs, check}
use Rattle.bm_cli.specs.Ends.{CallCounts, Stops}
use Rattle.bm_cli.specs.Stops.{stop_of_inputs}
use Rattle.bm_cli.proofs.ToldLemmas.{check_stopped, judged_ill, judged_well}
use Rattle.bm_cli.proofs.commands.check.check.Goals as goal

pub returns-in_err-input-clause-stops : goal.returns-in_err-input-clause-stops
returns-in_err-input-clause-stops g c =
    let inputs : Inputs = given_inputs c.args.asked.now in
    let counts : CallCounts = record { reads = g.F.Shelf.reads c.args.shelf.now; reads_now = g.F.Shelf.reads c.read_inputs.new.shelf; writes = g.F.Shelf.writes c.args.shelf.now; writes_now = g.F.Shelf.writes c.read_inputs.new.shelf } in
    if_passed_on (Stops (check inputs) (g.F.Shelf.held c.args.shelf.now) (g.F.Shelf.held c.read_inputs.new.shelf) counts)
    c.from_residual.result (stop_of_inputs c.in_err-input.field-0.0) c.from_residual.ensures.1
    (check_stopped inputs (g.F.Shelf.held c.args.shelf.now) (g.F.Shelf.held c.read_inputs.new.shelf) counts c.in_err-input.field-0.0 c.read_inputs.ensures.held c.in_err-input.ensures.stops)

pub returns-clause-answers : goal.returns-clause-answers
returns-clause-answers g c =
    judged_well c.runs.ensures (given_inputs c.args.asked.now) (g.F.Shelf.held c.args.shelf.now) c.in_ok-input.input.level c.in_ok-input.input.labels (reading_of c.in_ok-input.input) c.in_ok-input.ensures.read
    (g.F.Shelf.held c.read_inputs.new.shelf) c.judge.result c.read_inputs.ensures.held c.judge.ensures

pub returns-clause-stops : goal.returns-clause-stops
returns-clause-stops g c =
    let counts : CallCounts = record { reads = g.F.Shelf.reads c.args.shelf.now; reads_now = g.F.Shelf.reads c.read_inputs.new.shelf; writes = g.F.Shelf.writes c.args.shelf.now; writes_now = g.F.Shelf.writes c.read_inputs.new.shelf } in
    judged_ill c.runs.ensures (given_inputs c.args.asked.now) (g.F.Shelf.held c.args.shelf.now) c.in_ok-input.input.level c.in_ok-input.input.labels (reading_of c.in_ok-input.input) c.in_ok-input.ensures.read
    (g.F.Shelf.held c.read_inputs.new.shelf) counts c.judge.result c.read_inputs.ensures.held c.judge.ensures
