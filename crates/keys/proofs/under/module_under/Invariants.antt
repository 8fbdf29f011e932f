use Rattle.std.proofs.Common.{◌≡◌, drop}
use Rattle.std.specs.Option.{option_map}
use Rattle.keys.specs.Under.{module_below, module_under}
use Rattle.keys.proofs.under.module_under.Given as goal

-- What is left of the path leads on from the module that is found so far.
abbrev pub invariant-loop-name : goal.invariant-loop-name
invariant-loop-name l =
    module_below l.design (option_map (λ m. m.now) l.found) (drop l.name-index l.path) ≡ module_under l.design l.top l.path
