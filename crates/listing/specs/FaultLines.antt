-- The line that tells a fault. Assumes nothing.
use Rattle.std.specs.Prelude.{ℕ}
use Rattle.faults.specs.declared.Values.{Values}
use Rattle.listing.specs.declared.lines.FaultLine.{FaultLine}

abbrev pub line_of : ℕ → Values → FaultLine
line_of number values = record { number = number; values = values }
