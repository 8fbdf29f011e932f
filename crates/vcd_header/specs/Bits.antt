-- Wanted bits and their sources as contracts see them.
use Rattle.vcd_header.specs.declared.source.BitSource.{BitSource}
use Rattle.vcd_header.specs.declared.wanted.WantedBit.{WantedBit}
use Rattle.vcd_header.specs.Matching.{Source, Wanted}

abbrev pub wanted_of : WantedBit → Wanted
wanted_of bit = record { name = bit.name.now; width = bit.width; index = bit.index; position = bit.position }

abbrev pub source_shown : BitSource → Source
source_shown source = record { code = source.code.now; digit = source.digit }
