-- The number and the values that a fault returns. Assumes nothing.
use Rattle.std.specs.Prelude.{ℕ}
use Rattle.faults.specs.declared.Values.{Values}
use Rattle.faults.specs.declared.Values.TheVariants.{Nothing, One, Two}
use Rattle.bodies.specs.declared.fault.BodyFault.{BodyFault}
use Rattle.bodies.specs.declared.fault.BodyFault.TheVariants.{Label, Unbreached, State, Step, Table}
use Rattle.bodies.specs.declared.fault.WriteFault.{WriteFault}
use Rattle.bodies.specs.declared.fault.WriteFault.TheVariants.{Unfinished, Trail, Short}

abbrev pub judge_number : BodyFault → ℕ
judge_number (Label k) = 12
judge_number (Unbreached n) = 13
judge_number (State k) = 14
judge_number (Step k l) = 15
judge_number Table = 16

abbrev pub judge_values : BodyFault → Values
judge_values (Label k) = One k
judge_values (Unbreached n) = One n
judge_values (State k) = One k
judge_values (Step k l) = Two k l
judge_values Table = Nothing

abbrev pub write_number : WriteFault → ℕ
write_number Unfinished = 9
write_number Trail = 8
write_number (Short n) = 10

abbrev pub write_values : WriteFault → Values
write_values Unfinished = Nothing
write_values Trail = Nothing
write_values (Short n) = One n
