use Rattle.std.proofs.Common.{OnOk, ◌≡◌, ◌++◌, ◌+◌, ◌<◌, ◌≤◌, ℕ, subst, sym}
use Rattle.std.specs.Option.{IfSome}
use Rattle.bm_base.specs.declared.size.Size.TheVariants.{Nodes}
use Rattle.bm_base.specs.Size.{limit_of}
use Rattle.targets.specs.Numbers.{number_at}
use Rattle.vlog_tree.specs.Meaning.Keys.{bit_count}
use Rattle.vlog_tree.specs.Meaning.Lefts.{bit_of}
use Rattle.vlog_tree.specs.Meaning.Uses.{Text}
use Rattle.targets.proofs.NumberLemmas.{run_down, run_within}
use Rattle.targets.proofs.runs.add_bits.Goals as goal

pub add_down-requires : goal.add_down-requires
add_down-requires g c =
    let m = g.N.Numbers.module_of c.args.numbers.now in
    run_within c.first_of.result (bit_count m c.args.name.now) c.args.run.low c.args.run.width c.requires
    (subst (λ name. IfSome c.first_of.result (λ first. first + bit_count m name ≤ limit_of Nodes)) c.bytes.ensures c.first_of.ensures.within)

pub returns : goal.returns
returns g c =
    let m = g.N.Numbers.module_of c.args.numbers.now in
    let number = g.N.Numbers.number_of c.args.numbers.now in
    let P : Text → Type 0 = λ name. (bit : ℕ) → bit < bit_count m name → number (bit_of name bit) ≡ number_at c.first_of.result bit in
    subst (λ more. OnOk c.add_down.result (c.add_down.new.list ≡ c.args.list.now ++ more))
    (sym (run_down m number c.args.name.now c.first_of.result (subst P c.bytes.ensures c.first_of.ensures.numbers) c.args.run.low c.args.run.width c.requires))
    c.add_down.ensures
