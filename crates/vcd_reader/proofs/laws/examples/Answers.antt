use Rattle.std.proofs.Common.{refl}
use Rattle.vcd_reader.specs.Waveform.{waveform}
use Rattle.vcd_reader.proofs.laws.examples.Goals as goal

pub returns : goal.returns
unfolding waveform
returns c = record {
  sampled_before = refl;
  unknown_counts = refl;
  no_edge = refl;
  no_body = refl;
  early_change = refl;
  equal_times = refl;
  edge_at_first = refl;
  unknown_clock = refl;
  time_back = refl;
  open_vector = refl;
  open_real = refl;
  open_comment = refl;
  real_skipped = refl;
  undeclared = refl;
  undeclared_scalar = refl;
  too_wide = refl;
  bad_digit = refl;
  time_too_great = refl;
  greatest_time = refl;
  open_section = refl;
  lone_end = refl;
  no_section = refl;
  no_header_end = refl;
  no_scope_to_close = refl;
  another_size = refl;
  size_too_great = refl;
  no_such_scope = refl;
  no_such_signal = refl;
  inner_scope = refl;
  bus_select = refl;
  bus_joined = refl;
  bus_parted = refl;
  bus_whole = refl;
  bus_turned = refl;
  bus_unknown = refl;
  bus_bits = refl;
  bus_narrow = refl;
}
