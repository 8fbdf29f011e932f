use Rattle.vlog_tree.proofs.MeaningExamples.{chooses, compares_short, compares_long, inverts, nested_bits, no_part, choice_is_wide, part_is, second_bit}
use Rattle.vlog_tree.proofs.laws.examples.Goals as goal

pub returns : goal.returns
returns c = record {
  inverts_at_context = inverts;
  choice_width = choice_is_wide;
  chooses_at_context = chooses;
  compares_at_greater = compares_short;
  compares_to_one_bit = compares_long;
  counts_from_right_end = second_bit;
  parts_from_right_end = part_is;
  no_part_against = no_part;
  rightmost_is_lowest = nested_bits;
}
