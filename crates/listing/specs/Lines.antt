-- The bytes of each line of a listing. Assumes nothing.
use Rattle.std.specs.Prelude.{ℕ, List, [], ◌++◌, codes, decimal}
use Rattle.std.proofs.Math.Utf8.{encode}
use Rattle.faults.specs.declared.Values.{Values}
use Rattle.faults.specs.declared.Values.TheVariants.{Nothing, One, Two}
use Rattle.listing.specs.declared.lines.Ending.{Ending}
use Rattle.listing.specs.declared.lines.Ending.TheVariants.{Breach, Closed, Exhausted}

-- how an examination ended: with so many steps, with so many states, or without a place left
abbrev pub ending_text : Ending → List ℕ
ending_text (Breach steps) = codes "breach " ++ decimal steps
ending_text (Closed states) = codes "closed " ++ decimal states
ending_text Exhausted = codes "exhausted"

abbrev pub head_text : ℕ → Ending → List ℕ
head_text number ending = codes "docket " ++ (decimal number ++ (codes " " ++ ending_text ending))

-- a step's number and label, and then a character and what stands behind it
abbrev pub step_text : ℕ → ℕ → ℕ → List ℕ → List ℕ
step_text step label character rest = decimal step ++ (codes " " ++ (decimal label ++ (codes " " ++ (encode character ++ rest))))

abbrev pub instruction_text : ℕ → ℕ → ℕ → List ℕ → List ℕ
instruction_text step label sign name = step_text step label sign name

abbrev pub rule_text : ℕ → ℕ → ℕ → ℕ → List ℕ
rule_text step label letter known = step_text step label letter (codes " " ++ decimal known)

abbrev pub tail_text : ℕ → ℕ → List ℕ
tail_text taken stored = codes "taken " ++ (decimal taken ++ (codes " stored " ++ decimal stored))

abbrev pub values_text : Values → List ℕ
values_text Nothing = []
values_text (One value) = codes " at " ++ decimal value
values_text (Two first second) = codes " at " ++ (decimal first ++ (codes " " ++ decimal second))

abbrev pub fault_text : ℕ → Values → List ℕ
fault_text number values = codes "fault " ++ (decimal number ++ values_text values)
