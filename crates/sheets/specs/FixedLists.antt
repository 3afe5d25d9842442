-- What a list of fixed size holds. Assumes nothing.
use Rattle.std.specs.Prelude.{ℕ, List, take}
use Rattle.sheets.specs.declared.fixed_list.FixedList.{FixedList}

abbrev pub held : {T : Type 0} {N : ℕ} → FixedList T N → List T
held l = take l.count l.items
