-- What the whole task on a sheet leaves in the register. Assumes nothing.
use Rattle.std.specs.Prelude.{◌≡◌, ℕ, false, List, [], ◌∷◌, ◌++◌, Ok, Err, Result}
use Rattle.sheets.specs.Reads.{Sheet}
use Rattle.register.specs.Views.{EntryView, is_open, stamped}
use Rattle.register.specs.Calls.{marked, opened}
use Rattle.register.specs.declared.entry.Status.{Status}
use Rattle.register.specs.declared.fault.IssueFault.{IssueFault}

-- the entry of a number is open no more, and nothing else is changed
abbrev pub Ended : ℕ → List EntryView → List EntryView → Type 0
Ended n es fs = (st : Status) × (is_open st ≡ false) × (fs ≡ marked n st es)

-- the docket of an admitted sheet stands behind the others, filed or withdrawn; a sheet that is not admitted changes nothing
abbrev pub EndsItsDocket : List EntryView → Result Sheet IssueFault → List EntryView → Type 0
EndsItsDocket es (Err f) fs = fs ≡ es
EndsItsDocket es (Ok s) fs = (st : Status) × (is_open st ≡ false) × (fs ≡ es ++ (stamped (opened s) st ∷ []))
