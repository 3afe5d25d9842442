-- Any row of calls, from what a register holds, and what is true after it. Assumes nothing.
use Rattle.std.specs.Prelude.{◌≡◌, ℕ, ◌+◌, ◌<◌, ◌≤◌, Bool, cond, List, [], ◌∷◌, ◌++◌, map, length, Some, None, Ok, Err, Option, Result, ◌==◌}
use Rattle.std.specs.List.{slice_get}
use Rattle.sheets.specs.declared.fault.SheetFault.{SheetFault}
use Rattle.sheets.specs.declared.arrangement.Docket.{Docket}
use Rattle.sheets.specs.Reads.{Sheet, read_of, plan_of, sheet_of}
use Rattle.bodies.specs.declared.kind.Kind.TheVariants.{Breach, Closed}
use Rattle.findings.specs.declared.verdict.Verdict.{Verdict}
use Rattle.findings.specs.Truths.{BreachRunOf}
use Rattle.register.specs.Views.{EntryView, is_open, is_filed, is_withdrawn}
use Rattle.register.specs.Calls.{lookup, issue_answer, issued, file_answer, filed, withdraw_answer, withdrawn}
use Rattle.register.specs.declared.entry.Status.{Status}
use Rattle.register.specs.declared.entry.Status.TheVariants.{Open, Filed, Withdrawn}
use Rattle.register.specs.declared.slip.Slip.{Slip}
use Rattle.register.specs.declared.fault.IssueFault.{IssueFault}
use Rattle.register.specs.declared.fault.WithdrawFault.{WithdrawFault}
use Rattle.register.specs.declared.fault.Refused.{Refused}

-- a call, of any sheet, slip and verdict; a refused one is a call too
pub data Call : Type 0 where
  issuing : List ℕ → Call
  filing : Slip → Verdict → Call
  withdrawing : Slip → Call

-- what the register holds after it
abbrev pub after : List EntryView → Call → List EntryView
after es (issuing t) = issued es t
after es (filing s v) = filed es s v
after es (withdrawing s) = withdrawn es s

abbrev pub row : List EntryView → List Call → List EntryView
row es [] = es
row es (c ∷ cs) = row (after es c) cs

-- the sheets of the issues that were accepted, in their order
abbrev pub opening : List ℕ → Result Slip IssueFault → List (List ℕ)
opening t (Ok s) = t ∷ []
opening t (Err f) = []

abbrev pub opens : List EntryView → Call → List (List ℕ)
opens es (issuing t) = opening t (issue_answer es t)
opens es (filing s v) = []
opens es (withdrawing s) = []

abbrev pub sheets : List EntryView → List Call → List (List ℕ)
sheets es [] = []
sheets es (c ∷ cs) = opens es c ++ sheets (after es c) cs

-- how a docket was ended, by a call that was accepted: its number, and the kind filed or that it was withdrawn
pub record Ending : Type 0 where
  pub number : ℕ
  pub status : Status

abbrev pub ending : ℕ → Status → Ending
ending n s = record { number = n; status = s }

abbrev pub filing_ends : Slip → Verdict → Result (Unit {0}) Refused → List Ending
filing_ends s v (Ok x) = ending s.number (Filed v.kind) ∷ []
filing_ends s v (Err r) = []

abbrev pub withdrawal_ends : Slip → Result (Unit {0}) WithdrawFault → List Ending
withdrawal_ends s (Ok x) = ending s.number Withdrawn ∷ []
withdrawal_ends s (Err f) = []

abbrev pub ends : List EntryView → Call → List Ending
ends es (issuing t) = []
ends es (filing s v) = filing_ends s v (file_answer es s v)
ends es (withdrawing s) = withdrawal_ends s (withdraw_answer es s)

abbrev pub endings : List EntryView → List Call → List Ending
endings es [] = []
endings es (c ∷ cs) = ends es c ++ endings (after es c) cs

-- how the docket of a number stands by its endings
abbrev pub status_by : ℕ → List Ending → Status
status_by n [] = Open
status_by n (x ∷ xs) = cond (x.number == n) x.status (status_by n xs)

abbrev pub status_in : Option EntryView → Option Status
status_in None = None
status_in (Some e) = Some e.status

-- what a sheet reads as, if it is an entry's
abbrev pub read_as_entry : EntryView → Result Sheet SheetFault
read_as_entry e = Ok (record { number = e.number; plan = e.plan })

abbrev pub tally : (Status → Bool) → List EntryView → ℕ
tally p [] = 0
tally p (e ∷ es) = cond (p e.status) 1 0 + tally p es

-- which calls are accepted after a row that leaves the entries es
pub record AcceptsWhatItShould (es : List EntryView) : Type 0 where
  pub issues : (t : List ℕ) (s : Sheet) → read_of t ≡ Ok s → lookup s.number es ≡ None → length es < 64 → issue_answer es t ≡ Ok (record { number = s.number })
  pub files : (k : ℕ) (e : EntryView) (s : Slip) (v : Verdict) → slice_get es k ≡ Some e → e.status ≡ Open → e.number ≡ s.number → v.number ≡ s.number → plan_of v.model ≡ e.plan → file_answer es s v ≡ Ok tt
  pub withdraws : (k : ℕ) (e : EntryView) (s : Slip) → slice_get es k ≡ Some e → e.status ≡ Open → e.number ≡ s.number → withdraw_answer es s ≡ Ok tt

-- After the row, on a new register:
pub record HoldsAfterRow (cs : List Call) : Type 0 where
  -- the k-th entry is that of the k-th accepted issue: its number and plan are what that sheet reads as
  pub given : map read_as_entry (row [] cs) ≡ map read_of (sheets [] cs)
  -- where it is filed as closed, no run of what the sheet describes reaches a breach
  pub closed : (k : ℕ) (e : EntryView) (t : List ℕ) (d : Docket) → slice_get (row [] cs) k ≡ Some e → slice_get (sheets [] cs) k ≡ Some t → read_of t ≡ Ok (sheet_of d) → e.status ≡ Filed Closed → BreachRunOf d.arrangement → ⊥
  -- where it is filed as breached, some run does
  pub breach : (k : ℕ) (e : EntryView) (t : List ℕ) (d : Docket) → slice_get (row [] cs) k ≡ Some e → slice_get (sheets [] cs) k ≡ Some t → read_of t ≡ Ok (sheet_of d) → e.status ≡ Filed Breach → ∥ BreachRunOf d.arrangement ∥₁
  -- each entry shows how it was ended, or is open
  pub shown : (k : ℕ) (e : EntryView) → slice_get (row [] cs) k ≡ Some e → e.status ≡ status_by e.number (endings [] cs)
  -- and each accepted file or withdraw is shown by its entry
  pub ended : (i : ℕ) (x : Ending) → slice_get (endings [] cs) i ≡ Some x → status_in (lookup x.number (row [] cs)) ≡ Some x.status
  -- each accepted issue is open, filed or withdrawn
  pub tallied : length (sheets [] cs) ≡ tally is_open (row [] cs) + tally is_filed (row [] cs) + tally is_withdrawn (row [] cs)
  -- no number is there twice
  pub apart : (i j : ℕ) (e f : EntryView) → slice_get (row [] cs) i ≡ Some e → slice_get (row [] cs) j ≡ Some f → e.number ≡ f.number → i ≡ j
  pub room : length (row [] cs) ≤ 64
  pub accepting : AcceptsWhatItShould (row [] cs)

abbrev pub FiledDocketsAreTrue : Type 0
FiledDocketsAreTrue = (cs : List Call) → HoldsAfterRow cs
