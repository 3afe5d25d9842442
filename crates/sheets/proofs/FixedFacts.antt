use Rattle.std.proofs.Common.{◌≡◌, ℕ, ◌≤◌, length, arith}
use Rattle.std.proofs.lemmas.List.{length-take-le}
use Rattle.sheets.specs.declared.fixed_list.FixedList.{FixedList}
use Rattle.sheets.specs.FixedLists.{held}

pub length-held : {T : Type 0} {N : ℕ} (l : FixedList T N) → length (held l) ≡ l.count
length-held l =
    let f = l.few in
    let g = l.long in
    length-take-le l.count l.items (omega arith)

pub held-few : {T : Type 0} {N : ℕ} (l : FixedList T N) → length (held l) ≤ N
held-few l =
    let f = l.few in
    omega (arith, length-held l)
