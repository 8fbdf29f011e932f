-- What a body says as contracts see it.
use Rattle.std.specs.Prelude.{ℕ, List, [], ◌∷◌, nat_lt, unwrap_or, Option, None, Some}
use Rattle.vcd_reader.specs.declared.item.Said.{Said}
use Rattle.vcd_reader.specs.declared.item.Said.TheVariants.{Time, Change, Misplaced, Unfinished}
use Rattle.vcd_header.specs.declared.fault.VcdFault.{VcdFault}
use Rattle.vcd_header.specs.declared.fault.VcdFault.TheVariants.{TimeBack, Token, Truncated}
use Rattle.vcd_header.specs.Faults.{fault_if}
use Rattle.vcd_header.specs.Variables.{Variable, size_of}
use Rattle.vcd_reader.specs.Waveform.{change_fault}
use Rattle.vcd_reader.specs.Body.{Item}
use Rattle.vcd_reader.specs.Body.Item.{time, change, misplaced, unfinished}

abbrev pub item_of : Said → Item
item_of (Time at value) = time at value
item_of (Change at code digits) = change at code.now digits.now
item_of (Misplaced at) = misplaced at
item_of (Unfinished at) = unfinished at

-- the item that is said, if one is
abbrev pub said_by : Option Said → List Item
said_by None = []
said_by (Some said) = item_of said ∷ []

-- the fault of an item behind the last time, if there was one
abbrev pub fault_after : List Variable → Option ℕ → Item → Option VcdFault
fault_after declared last (time at value) = fault_if (nat_lt value (unwrap_or last 0)) (TimeBack at)
fault_after declared last (change at code digits) = change_fault at digits (size_of declared code)
fault_after declared last (misplaced at) = Some (Token at)
fault_after declared last (unfinished at) = Some (Truncated at)
