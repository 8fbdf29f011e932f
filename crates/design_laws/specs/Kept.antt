-- A design that keeps the rules of elaboration on modules, names, connections and widths: E1 to E8.
use Rattle.std.specs.Prelude.{◌≡◌, [], flat_map}
use Rattle.hierarchy.specs.Reach.{reached}
use Rattle.hierarchy.specs.Rules.{bad_instances, missing_top, repeated_modules}
use Rattle.name_rules.specs.Declarations.{bad_names}
use Rattle.name_rules.specs.Uses.{bad_connections, unknown_names}
use Rattle.vlog_tree.specs.Meaning.Setting.{Setting}
use Rattle.width_rules.specs.Widths.{bad_terminals, bad_widths}

-- Each rule fails nowhere: those on single modules, in none that is reached from the top.
pub record Keeps (setting : Setting) : Type 0 where
  pub modules : repeated_modules setting.design ≡ []
  pub top : missing_top setting.design setting.top ≡ []
  pub instances : bad_instances setting.design setting.top ≡ []
  pub names : flat_map bad_names (reached setting.design setting.top) ≡ []
  pub uses : flat_map unknown_names (reached setting.design setting.top) ≡ []
  pub connections : flat_map (bad_connections setting.design) (reached setting.design setting.top) ≡ []
  pub widths : flat_map bad_widths (reached setting.design setting.top) ≡ []
  pub terminals : flat_map bad_terminals (reached setting.design setting.top) ≡ []
