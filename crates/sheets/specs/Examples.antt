-- Sheets and what they read as. Assumes nothing.
use Rattle.std.specs.Prelude.{◌≡◌, ℕ, List, [], ◌∷◌, ◌++◌, length, Ok, Err, codes}
use Rattle.sheets.specs.declared.fault.SheetFault.TheVariants.{OutOfRange}
use Rattle.sheets.specs.declared.line.Act.{Act}
use Rattle.sheets.specs.Programs.{Program}
use Rattle.sheets.specs.Reads.{tokens, read_of}

abbrev act : ℕ → ℕ → Act
act s t = record { sign = s; token = t }

-- agents `+a -b` and `-a +c`, and the breach c
abbrev pub seventh : List ℕ
seventh =
    codes "docket 7" ++ (10 ∷ (codes "tokens" ++ (10 ∷ (codes "agent +a -b" ++ (10 ∷ (codes "agent -a +c" ++ (10 ∷ (codes "breach c" ++ (10 ∷ [])))))))))

-- + is 43 and - is 45; a, b and c are tokens 0, 1 and 2
abbrev pub seventh_program : Program
seventh_program = record { lines = (act 43 0 ∷ act 45 1 ∷ []) ∷ (act 45 0 ∷ act 43 2 ∷ []) ∷ []; breach = 2 }

pub record Examples : Type 0 where
  pub zero : read_of (codes "docket 0") ≡ Err (OutOfRange 7)
  pub long : length seventh ≡ 49
  pub read : read_of seventh ≡ Ok (record { number = 7; plan = tokens seventh_program })
