use Rattle.proto_positions.proofs.Lines.{columns_end_with_the_character, columns_end_with_the_line, lines_end_with_the_text, positions_count_lines}
use Rattle.proto_positions.proofs.laws.positions_count_lines.Goals as goal

pub returns-clause-lines : goal.returns-clause-lines
returns-clause-lines c = positions_count_lines

pub returns-clause-characters : goal.returns-clause-characters
returns-clause-characters c = columns_end_with_the_character

pub returns-clause-columns : goal.returns-clause-columns
returns-clause-columns c = columns_end_with_the_line

pub returns-clause-end : goal.returns-clause-end
returns-clause-end c = lines_end_with_the_text
