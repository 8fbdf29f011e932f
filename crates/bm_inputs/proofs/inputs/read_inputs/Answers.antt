use Rattle.std.proofs.Common.{subst}
use Rattle.bm_words.specs.Asked.{given_inputs}
use Rattle.bm_inputs.specs.Reading.{ReadsWaveform, StopsAtFiles, StopsAtWaveform}
use Rattle.netlists.proofs.ReadLemmas.{if_passed_on}
use Rattle.bm_inputs.proofs.ReadingLemmas.{both_read, waveform_stopped}
use Rattle.bm_inputs.proofs.inputs.read_inputs.Goals as goal

pub returns-in_err-trace-clause-stops : goal.returns-in_err-trace-clause-stops
returns-in_err-trace-clause-stops g c =
    let inputs = given_inputs c.args.asked.now in
    if_passed_on (StopsAtFiles inputs (g.F.Shelf.held c.args.shelf.now) (g.F.Shelf.reads c.args.shelf.now) (g.F.Shelf.reads c.read_waveform.new.shelf))
    c.from_residual-in_err-trace.result c.in_err-trace.field-0.0 c.from_residual-in_err-trace.ensures.1
    (waveform_stopped inputs c.in_ok-netlist.netlist.level c.in_ok-netlist.netlist.labels
    (g.F.Shelf.held c.args.shelf.now) (g.F.Shelf.held c.read_netlist.new.shelf)
    (g.F.Shelf.reads c.args.shelf.now) (g.F.Shelf.reads c.read_netlist.new.shelf) (g.F.Shelf.reads c.read_waveform.new.shelf)
    c.in_err-trace.field-0.0 c.in_ok-netlist.ensures.read c.read_netlist.ensures.only_reads.held_stays c.read_netlist.ensures.only_reads.reads_rise
    (subst (λ n. StopsAtWaveform c.in_ok-netlist.netlist.labels inputs.scope n (g.F.Shelf.held c.read_netlist.new.shelf) inputs.waveform
    (g.F.Shelf.reads c.read_netlist.new.shelf) (g.F.Shelf.reads c.read_waveform.new.shelf) c.in_err-trace.field-0.0)
    c.register_count-registers.ensures c.in_err-trace.ensures.stops))

pub returns-clause-read : goal.returns-clause-read
returns-clause-read g c =
    let inputs = given_inputs c.args.asked.now in
    both_read inputs c.in_ok-netlist.netlist.level c.in_ok-netlist.netlist.labels
    (g.F.Shelf.held c.args.shelf.now) (g.F.Shelf.held c.read_netlist.new.shelf)
    (record { trace = c.in_ok-trace.trace; unknown = c.in_ok-trace.unknown })
    c.in_ok-netlist.ensures.read c.read_netlist.ensures.only_reads.held_stays
    (subst (λ n. ReadsWaveform c.in_ok-netlist.netlist.labels inputs.scope n (g.F.Shelf.held c.read_netlist.new.shelf) inputs.waveform
    (record { trace = c.in_ok-trace.trace; unknown = c.in_ok-trace.unknown })) c.register_count-registers.ensures c.in_ok-trace.ensures.read)
    c.in_ok-trace.ensures.fits c.in_ok-trace.ensures.cycles
