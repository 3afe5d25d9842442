-- The number, the place and the values that a fault returns. Assumes nothing.
use Rattle.std.specs.Prelude.{ℕ, List, ◌++◌, codes, decimal}
use Rattle.faults.specs.declared.Values.{Values}
use Rattle.faults.specs.declared.Values.TheVariants.{One}
use Rattle.sheets.specs.declared.fault.SheetFault.{SheetFault}
use Rattle.sheets.specs.declared.fault.SheetFault.TheVariants.{TooLong, Misplaced, OutOfRange, Ended}

abbrev pub number_of : SheetFault → ℕ
number_of TooLong = 1
number_of (Misplaced p) = 2
number_of (OutOfRange p) = 3
number_of (Ended p) = 4

abbrev pub place_of : SheetFault → ℕ
place_of TooLong = 2048
place_of (Misplaced p) = p
place_of (OutOfRange p) = p
place_of (Ended p) = p

-- the value beside the number is the place
abbrev pub values_of : SheetFault → Values
values_of e = One (place_of e)

abbrev pub fault_line : SheetFault → List ℕ
fault_line e = codes "fault " ++ (decimal (number_of e) ++ (codes " at " ++ decimal (place_of e)))
