-- The modules of a design in turn.
use Rattle.std.proofs.Common.{◌≡◌, ◌<◌, ℕ, zero, suc, List, [], ◌∷◌, get_or, length, ap, sym, ◌∙◌, arith}
use Rattle.vlog_tree.specs.declared.design.Module.{Module}
use Rattle.hierarchy.specs.Graph.{name_at}

-- The module at a place has the name at that place.
name_there : (modules : List Module) (i : ℕ) (m : Module) → i < length modules → m ≡ get_or modules i m → name_at modules i ≡ m.name
name_there [] i m within is = absurd (omega arith)
name_there (first ∷ modules) zero m within is = ap (λ module_. module_.name) (sym is)
name_there (first ∷ modules) (suc i) m within is = name_there modules i m (omega arith) is

-- The same of modules that are looked at as a list of items.
pub name_there_by : (modules items : List Module) (i : ℕ) (m : Module) → items ≡ modules → i < length items → m ≡ get_or items i m → name_at modules i ≡ m.name
name_there_by modules items i m same within is = ap (λ list. name_at list i) (sym same) ∙ name_there items i m within is
