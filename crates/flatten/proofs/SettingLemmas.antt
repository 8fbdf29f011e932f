-- The flat netlist of a design does not depend on how it is reset.
use Rattle.std.proofs.Common.{◌≡◌, refl}
use Rattle.flat_design.specs.Flat.{flat}
use Rattle.flat_design.specs.Sizes.{too_large}
use Rattle.frames.specs.Numbered.{Numbered}
use Rattle.vlog_tree.specs.Meaning.Setting.{Setting}
use Rattle.flatten.specs.Ready.{setting_by}

-- the names of a setting by which its bits are numbered
abbrev pub names_of : Setting → Numbered
names_of setting = record { design = setting.design; top = setting.top; clock = setting.clock }

module _ (setting : Setting) where
  pub flat_by : flat (setting_by (names_of setting) setting.check) ≡ flat setting
  flat_by = refl

  pub sizes_by : too_large (setting_by (names_of setting) setting.check) ≡ too_large setting
  sizes_by = refl
