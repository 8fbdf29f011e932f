use Rattle.std.proofs.Common.{subst}
use Rattle.std.specs.Option.{IfSome}
use Rattle.bm_base.specs.Held.{bytes_under}
use Rattle.bm_files.specs.Files.{IsWithin}
use Rattle.bm_words.specs.Asked.{given_inputs}
use Rattle.netlists.specs.Faults.{IsFault}
use Rattle.netlists.specs.Reading.{IsRead}
use Rattle.netlists.proofs.ReadLemmas.{if_passed_on}
use Rattle.bm_inputs.specs.Reading.{StopsAtNetlist, stop_of_netlist}
use Rattle.bm_inputs.proofs.ReadLemmas.{fault_told, netlist_told}
use Rattle.bm_inputs.proofs.netlist.read_netlist.Goals as goal

pub returns-in_err-read_netlist-clause-stops : goal.returns-in_err-read_netlist-clause-stops
returns-in_err-read_netlist-clause-stops g c =
    let inputs = given_inputs c.args.asked.now in
    let why = c.in_err-read_netlist.field-0.0 in
    if_passed_on (StopsAtNetlist inputs (g.F.Shelf.held c.args.shelf.now) (g.F.Shelf.reads c.args.shelf.now) (g.F.Shelf.reads c.read_text.new.shelf))
    c.from_residual-in_err-read_netlist.result (stop_of_netlist why) c.from_residual-in_err-read_netlist.ensures.1
    (fault_told inputs (g.F.Shelf.held c.args.shelf.now) (g.F.Shelf.reads c.args.shelf.now) (g.F.Shelf.reads c.read_text.new.shelf)
    c.in_ok-bytes.field-0 c.in-Some.bytes why c.in-Some.is
    (subst (λ n. IfSome (g.F.Shelf.held c.args.shelf.now) (λ held. IsWithin n (bytes_under held inputs.netlist) c.in_ok-bytes.field-0))
    c.limit.ensures c.in_ok-bytes.ensures.bytes)
    (subst (λ names. IsFault names c.in-Some.bytes.items why) c.in_ok-names.ensures
    (subst (λ bytes. IsFault c.in_ok-names.names bytes why) c.deref.ensures.value c.in_err-read_netlist.ensures.fault)))

pub returns-clause-read : goal.returns-clause-read
returns-clause-read g c =
    let inputs = given_inputs c.args.asked.now in
    let level = c.in_ok-read_netlist.field-0.level in
    let labels = c.in_ok-read_netlist.field-0.labels in
    netlist_told inputs (g.F.Shelf.held c.args.shelf.now) c.in_ok-bytes.field-0 c.in-Some.bytes level labels c.in-Some.is
    (subst (λ n. IfSome (g.F.Shelf.held c.args.shelf.now) (λ held. IsWithin n (bytes_under held inputs.netlist) c.in_ok-bytes.field-0))
    c.limit.ensures c.in_ok-bytes.ensures.bytes)
    (subst (λ names. IsRead names c.in-Some.bytes.items level labels) c.in_ok-names.ensures
    (subst (λ bytes. IsRead c.in_ok-names.names bytes level labels) c.deref.ensures.value c.in_ok-read_netlist.ensures.read))
