use Rattle.std.proofs.Common.{◌≡◌, ◌++◌, Some, ap, map, subst, sym, ◌∙◌}
use Rattle.std.specs.Option.{option_map}
use Rattle.lowering.specs.Limits.{Excuses, next_of, with_more}
use Rattle.lowering.specs.Lowered.{after}
use Rattle.processes.specs.Carried.{Carried, CarriesTo, if_process, taken}
use Rattle.processes.specs.Numbers.{edges_at, ordered_numbers, written}
use Rattle.processes.specs.Statements.{block, other_process, process_of}
use Rattle.processes.proofs.CarryLemmas.{choice_carries, first_carries, if_carried, if_err, on_ok_both, other_carries, passed_on, tried, yet_carried_step, yet_step}
use Rattle.processes.proofs.ProcessLemmas.{process_if}
use Rattle.processes.proofs.statements.+statements.Goals as goal

pub carry_out-returns-in_err-firsts-in-If-clause-fault : goal.carry_out-returns-in_err-firsts-in-If-clause-fault
carry_out-returns-in_err-firsts-in-If-clause-fault g t c =
    let m = g.S.Scope.module_of c.args.scope.now in
    let wires = g.S.Scope.wires c.args.scope.now in
    let first = process_of m wires c.get-first.result.now in
    let other = other_process (option_map (process_of m wires) c.in-If.other) in
    let start = c.args.nodes.now in
    let old = c.args.current.now in
    let fault = c.in_err-firsts-in-If.field-0.0 in
    let whole : if_process m wires c.in-If.cond first other ≡ process_of m wires c.args.stmt.now =
    ap (λ one. if_process m wires c.in-If.cond (process_of m wires one) other) c.get-first.ensures
    ∙ sym (process_if m wires c.args.stmt.now c.in-If.cond c.in-If.first c.in-If.other c.in-If.is) in
    passed_on (CarriesTo m (process_of m wires c.args.stmt.now) start old) c.from_residual-in_err-firsts-in-If.result fault
    c.from_residual-in_err-firsts-in-If.ensures.1
    (subst (λ it. CarriesTo m it start old fault) whole
    (first_carries m wires c.in-If.cond first other start old c.lower_condition.new.nodes c.in_ok-choice-in-If.ensures.nodes fault
    c.in_err-firsts-in-If.ensures.fault))

pub carry_out-returns-in_err-carry_out_other-in-If-clause-fault : goal.carry_out-returns-in_err-carry_out_other-in-If-clause-fault
carry_out-returns-in_err-carry_out_other-in-If-clause-fault g t c =
    let m = g.S.Scope.module_of c.args.scope.now in
    let wires = g.S.Scope.wires c.args.scope.now in
    let first = process_of m wires c.get-first.result.now in
    let other = other_process (option_map (process_of m wires) c.in-If.other) in
    let start = c.args.nodes.now in
    let old = c.args.current.now in
    let fault = c.in_err-carry_out_other-in-If.field-0.0 in
    let whole : if_process m wires c.in-If.cond first other ≡ process_of m wires c.args.stmt.now =
    ap (λ one. if_process m wires c.in-If.cond (process_of m wires one) other) c.get-first.ensures
    ∙ sym (process_if m wires c.args.stmt.now c.in-If.cond c.in-If.first c.in-If.other c.in-If.is) in
    let numbers_are : c.as_slice-numbers.result.now ≡ ordered_numbers m (first.assigns ++ other.assigns) =
    c.as_slice-numbers.ensures.value
    ∙ c.in_ok-numbers-in-If.ensures wires
    ∙ ap (λ m. ordered_numbers m ((process_of m wires c.get-first.result.now).assigns
    ++ (other_process (option_map (process_of m wires) c.in-If.other)).assigns)) (sym c.requires) in
    passed_on (CarriesTo m (process_of m wires c.args.stmt.now) start old) c.from_residual-in_err-carry_out_other-in-If.result fault
    c.from_residual-in_err-carry_out_other-in-If.ensures.1
    (subst (λ it. CarriesTo m it start old fault) whole
    (other_carries m wires c.in-If.cond first other start old c.lower_condition.new.nodes c.in_ok-choice-in-If.ensures.nodes
    c.as_slice-numbers.result.now numbers_are c.first_edges.new.nodes c.first_edges.new.current c.in_ok-firsts-in-If.firsts
    c.in_ok-firsts-in-If.ensures.tried fault c.in_err-carry_out_other-in-If.ensures.fault))

pub carry_out-returns-in_ok-carry_out_other-in-If-clause-carried : goal.carry_out-returns-in_ok-carry_out_other-in-If-clause-carried
carry_out-returns-in_ok-carry_out_other-in-If-clause-carried g t c =
    let m = g.S.Scope.module_of c.args.scope.now in
    let wires = g.S.Scope.wires c.args.scope.now in
    let first = process_of m wires c.get-first.result.now in
    let other = other_process (option_map (process_of m wires) c.in-If.other) in
    let start = c.args.nodes.now in
    let old = c.args.current.now in
    let whole : if_process m wires c.in-If.cond first other ≡ process_of m wires c.args.stmt.now =
    ap (λ one. if_process m wires c.in-If.cond (process_of m wires one) other) c.get-first.ensures
    ∙ sym (process_if m wires c.args.stmt.now c.in-If.cond c.in-If.first c.in-If.other c.in-If.is) in
    let numbers = c.as_slice-numbers.result.now in
    let numbers_are : numbers ≡ ordered_numbers m (first.assigns ++ other.assigns) =
    c.as_slice-numbers.ensures.value
    ∙ c.in_ok-numbers-in-If.ensures wires
    ∙ ap (λ m. ordered_numbers m ((process_of m wires c.get-first.result.now).assigns
    ++ (other_process (option_map (process_of m wires) c.in-If.other)).assigns)) (sym c.requires) in
    let between = c.carry_out_other.new.nodes in
    let firsts = c.in_ok-firsts-in-If.firsts in
    let changed = c.carry_out_other.new.current in
    let choice = c.in_ok-choice-in-If.choice in
    on_ok_both _ _ (Carried m (process_of m wires c.args.stmt.now) start c.choose_at.new.nodes old c.choose_at.new.current) c.choose_at.result
    c.choose_at.ensures.nodes c.choose_at.ensures.current
    (λ nodes_are current_is.
    subst (λ it. Carried m it start c.choose_at.new.nodes old c.choose_at.new.current) whole
    (if_carried m wires c.in-If.cond first other start old c.lower_condition.new.nodes c.in_ok-choice-in-If.ensures.nodes
    numbers numbers_are c.first_edges.new.nodes c.first_edges.new.current firsts c.in_ok-firsts-in-If.ensures.tried
    between changed c.in_ok-carry_out_other-in-If.ensures.carried choice c.in_ok-choice-in-If.ensures.edges
    c.choose_at.new.nodes c.choose_at.new.current
    (nodes_are ∙ ap (λ firsts. with_more between (taken choice numbers firsts changed (next_of between))) c.as_slice-in-If.ensures)
    (current_is ∙ ap (λ firsts. written (map Some numbers) (taken choice numbers firsts changed (next_of between)).edges changed) c.as_slice-in-If.ensures)))

pub carry_out-returns-in_ok-carry_out_other-in-If-clause-fault : goal.carry_out-returns-in_ok-carry_out_other-in-If-clause-fault
carry_out-returns-in_ok-carry_out_other-in-If-clause-fault g t c =
    let m = g.S.Scope.module_of c.args.scope.now in
    let wires = g.S.Scope.wires c.args.scope.now in
    let first = process_of m wires c.get-first.result.now in
    let other = other_process (option_map (process_of m wires) c.in-If.other) in
    let start = c.args.nodes.now in
    let old = c.args.current.now in
    let whole : if_process m wires c.in-If.cond first other ≡ process_of m wires c.args.stmt.now =
    ap (λ one. if_process m wires c.in-If.cond (process_of m wires one) other) c.get-first.ensures
    ∙ sym (process_if m wires c.args.stmt.now c.in-If.cond c.in-If.first c.in-If.other c.in-If.is) in
    let numbers = c.as_slice-numbers.result.now in
    let numbers_are : numbers ≡ ordered_numbers m (first.assigns ++ other.assigns) =
    c.as_slice-numbers.ensures.value
    ∙ c.in_ok-numbers-in-If.ensures wires
    ∙ ap (λ m. ordered_numbers m ((process_of m wires c.get-first.result.now).assigns
    ++ (other_process (option_map (process_of m wires) c.in-If.other)).assigns)) (sym c.requires) in
    let between = c.carry_out_other.new.nodes in
    let firsts = c.in_ok-firsts-in-If.firsts in
    let changed = c.carry_out_other.new.current in
    let choice = c.in_ok-choice-in-If.choice in
    if_err _ (CarriesTo m (process_of m wires c.args.stmt.now) start old) c.choose_at.result c.choose_at.ensures.fault
    (λ fault excused.
    subst (λ it. CarriesTo m it start old fault) whole
    (choice_carries m wires c.in-If.cond first other start old c.lower_condition.new.nodes c.in_ok-choice-in-If.ensures.nodes
    numbers numbers_are c.first_edges.new.nodes c.first_edges.new.current firsts c.in_ok-firsts-in-If.ensures.tried
    between changed c.in_ok-carry_out_other-in-If.ensures.carried choice c.in_ok-choice-in-If.ensures.edges fault
    (subst (λ firsts. Excuses (after (next_of between) (taken choice numbers firsts changed (next_of between))) fault) c.as_slice-in-If.ensures excused)))

pub carry_out_all-returns-in_err-carry_out-clause-fault : goal.carry_out_all-returns-in_err-carry_out-clause-fault
carry_out_all-returns-in_err-carry_out-clause-fault g t c =
    let m = g.S.Scope.module_of c.args.scope.now in
    let wires = g.S.Scope.wires c.args.scope.now in
    let fault = c.in_err-carry_out.field-0.0 in
    passed_on (CarriesTo m (block (map (process_of m wires) c.args.body.now)) c.args.nodes.now c.args.current.now) c.from_residual.result fault
    c.from_residual.ensures.1
    (yet_carried_step m (process_of m wires) c.args.body.now c.loop-stmt.stmt-index c.stmt-item.result c.loop-stmt-test.true c.stmt-item.is
    (block (map (process_of m wires) c.args.body.now)) c.args.nodes.now c.loop-stmt.nodes c.args.current.now c.loop-stmt.current
    c.loop-stmt.invariant fault c.in_err-carry_out.ensures.fault)

pub carry_out_all-loop-stmt-preserved : goal.carry_out_all-loop-stmt-preserved
carry_out_all-loop-stmt-preserved g t c =
    let m = g.S.Scope.module_of c.args.scope.now in
    let wires = g.S.Scope.wires c.args.scope.now in
    yet_step m (process_of m wires) c.args.body.now c.loop-stmt.stmt-index c.stmt-item.result c.loop-stmt-test.true c.stmt-item.is
    (block (map (process_of m wires) c.args.body.now)) c.args.nodes.now c.loop-stmt.nodes c.args.current.now c.loop-stmt.current
    c.loop-stmt.invariant c.carry_out.new.nodes c.carry_out.new.current c.in_ok-carry_out.ensures.carried

pub first_edges-returns-clause-tried : goal.first_edges-returns-clause-tried
first_edges-returns-clause-tried g t c =
    let m = g.S.Scope.module_of c.args.scope.now in
    let wires = g.S.Scope.wires c.args.scope.now in
    let numbers = c.args.numbers.now in
    tried m (process_of m wires c.args.stmt.now) numbers c.args.nodes.now c.carry_out.new.nodes c.args.current.now c.carry_out.new.current
    c.write_at.new.current c.in_ok-old.old c.in_ok-edges.edges c.in_ok-carry_out.ensures.carried
    (c.in_ok-old.ensures ∙ ap (edges_at numbers) c.as_slice.ensures)
    (c.in_ok-edges.ensures ∙ ap (edges_at numbers) c.as_slice-2.ensures)
    (c.write_at.ensures ∙ ap (λ edges. written (map Some numbers) edges c.carry_out.new.current) c.as_slice-3.ensures)
