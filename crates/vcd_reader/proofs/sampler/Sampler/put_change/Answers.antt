use Rattle.std.proofs.Common.{◌≡◌, ◌+◌, ◌<◌, All, length, cond, if◌then◌else◌, arith, refl, subst, sym, ap, ◌∙◌}
use Rattle.std.specs.List.{count_by}
use Rattle.vcd_reader.specs.declared.digit.Target.{Target}
use Rattle.vcd_reader.specs.Sampling.{change_at}
use Rattle.vcd_reader.specs.Targets.{is_unknown_at, with_digits}
use Rattle.vcd_reader.specs.Values.{digit_given, is_unknown, value_after}
use Rattle.vcd_reader.proofs.SamplingLemmas.{change_sampled}
use Rattle.vcd_reader.proofs.TargetLemmas.{length_put, targets_below}
use Rattle.vcd_reader.proofs.sampler.Sampler.put_change.Goals as goal

pub put_digits-requires : goal.put_digits-requires
put_digits-requires c =
    subst (λ targets. All (λ (target : Target). target.bit < length c.args.self.now.inputs) targets) (sym c.targets-targets.ensures)
    (λ k d h. let below = targets_below 0 c.args.code.now c.args.sources.now.inputs k d h in omega (arith, below, c.requires.inputs))

pub returns-clause-aligned : goal.returns-clause-aligned
returns-clause-aligned c = record {
  inputs = ap length c.put_digits.ensures ∙ length_put c.args.digits.now c.targets-targets.result.now c.args.self.now.inputs ∙ c.requires.inputs;
  before = c.requires.before;
  rows = c.requires.rows;
}

pub returns-clause-sampled : goal.returns-clause-sampled
returns-clause-sampled c = λ registers changes earlier now holds.
    let given : c.digit_given-given.result ≡ digit_given c.args.sources.now.clock (change_at now c.args.code.now c.args.digits.now) =
    c.digit_given-given.ensures now ∙ ap (λ clock. digit_given clock (change_at now c.args.code.now c.args.digits.now)) c.clock.ensures in
    let added : c.in-Some.unknown ≡ c.args.self.now.unknown + (c.count_unknown.result + c.unknown_digits.result) = grind arith in
    change_sampled registers c.args.sources.now changes earlier now c.args.code.now c.args.digits.now c.args.self.now
    (record { clock = c.value_after-self.result; inputs = c.put_digits.new.values; is_low = c.args.self.now.is_low; before = c.args.self.now.before; unknown = c.in-Some.unknown; rows = c.args.self.now.rows })
    holds
    (c.value_after-self.ensures ∙ ap (value_after c.args.self.now.clock) given)
    (c.put_digits.ensures ∙ ap (λ targets. with_digits c.args.digits.now targets c.args.self.now.inputs) c.targets-targets.ensures)
    refl refl
    (added
    ∙ ap (λ n. c.args.self.now.unknown + (n + c.unknown_digits.result)) (c.count_unknown.ensures ∙ ap (λ given. if is_unknown given then 1 else 0) given)
    ∙ ap (λ n. c.args.self.now.unknown + (cond (is_unknown (digit_given c.args.sources.now.clock (change_at now c.args.code.now c.args.digits.now))) 1 0 + n)) (c.unknown_digits.ensures.count ∙ ap (count_by (is_unknown_at c.args.digits.now)) c.targets-targets.ensures))
    refl
