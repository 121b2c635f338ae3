use Rattle.csv_readings.proofs.Lines.{by_lines}
use Rattle.csv_readings.proofs.laws.files_are_read_line_by_line.Goals as goal

pub returns : goal.returns
returns c = by_lines
