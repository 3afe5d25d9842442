-- What each call of the register answers, and what the register then holds. Assumes nothing.
use Rattle.std.specs.Prelude.{◌≡◌, ℕ, suc, cond, ◌&&◌, List, [], ◌∷◌, ◌++◌, length, is_some, Some, None, Ok, Err, Option, Result, ◌==◌, nat_lt}
use Rattle.sheets.specs.declared.fault.SheetFault.{SheetFault}
use Rattle.sheets.specs.FixedLists.{held}
use Rattle.sheets.specs.Reads.{Sheet, read_of, plan_of}
use Rattle.bodies.specs.declared.kind.Kind.{Kind}
use Rattle.findings.specs.declared.verdict.Verdict.{Verdict}
use Rattle.findings.specs.Truths.{IsTrueOf}
use Rattle.register.specs.Plans.{same_plan}
use Rattle.register.specs.Views.{EntryView, view_of, views_of, is_open, stamped}
use Rattle.register.specs.declared.entry.Status.{Status}
use Rattle.register.specs.declared.entry.Status.TheVariants.{Open, Filed, Withdrawn}
use Rattle.register.specs.declared.entry.Entry.{Entry}
use Rattle.register.specs.declared.register.Register.{Register}
use Rattle.register.specs.declared.slip.Slip.{Slip}
use Rattle.register.specs.declared.fault.IssueFault.{IssueFault}
use Rattle.register.specs.declared.fault.IssueFault.TheVariants.{Sheet as Unread, Taken, Full}
use Rattle.register.specs.declared.fault.FileFault.{FileFault}
use Rattle.register.specs.declared.fault.FileFault.TheVariants.{NotOpen, OtherDocket}
use Rattle.register.specs.declared.fault.WithdrawFault.{WithdrawFault}
use Rattle.register.specs.declared.fault.WithdrawFault.TheVariants.{NotOpen as Ended}
use Rattle.register.specs.declared.fault.Refused.{Refused}

-- the entries of a register, in the order of issue
abbrev pub contents : Register → List EntryView
contents r = views_of (held r.entries)

-- the entry of a number
abbrev pub lookup : ℕ → List EntryView → Option EntryView
lookup n [] = None
lookup n (e ∷ es) = cond (e.number == n) (Some e) (lookup n es)

-- where it stands
abbrev pub next : Option ℕ → Option ℕ
next None = None
next (Some k) = Some (suc k)

abbrev pub place_of : ℕ → List EntryView → Option ℕ
place_of n [] = None
place_of n (e ∷ es) = cond (e.number == n) (Some 0) (next (place_of n es))

-- the entry of a number, where it is open
abbrev pub where_open : Option EntryView → Option EntryView
where_open None = None
where_open (Some e) = cond (is_open e.status) (Some e) None

abbrev pub open_of : ℕ → List EntryView → Option EntryView
open_of n es = where_open (lookup n es)

-- the entries, where that of a number has another status
abbrev pub marked : ℕ → Status → List EntryView → List EntryView
marked n s [] = []
marked n s (e ∷ es) = cond (e.number == n) (stamped e s ∷ es) (e ∷ marked n s es)

-- what the accessor shows
abbrev pub viewed : Option Entry → Option EntryView
viewed None = None
viewed (Some e) = Some (view_of e)

abbrev pub ShownKindIsTrue : Option Entry → Type 0
ShownKindIsTrue None = Unit {0}
ShownKindIsTrue (Some e) = (k : Kind) → e.status ≡ Filed k → IsTrueOf e.model k

-- issue: the sheet's fault, then a number that is there, then no place; else the sheet
abbrev pub admitted : List EntryView → Result Sheet SheetFault → Result Sheet IssueFault
admitted es (Err f) = Err (Unread f)
admitted es (Ok s) = cond (is_some (lookup s.number es)) (Err Taken) (cond (nat_lt (length es) 64) (Ok s) (Err Full))

abbrev pub admits : List EntryView → List ℕ → Result Sheet IssueFault
admits es t = admitted es (read_of t)

abbrev pub slip_for : Result Sheet IssueFault → Result Slip IssueFault
slip_for (Ok s) = Ok (record { number = s.number })
slip_for (Err f) = Err f

abbrev pub opened : Sheet → EntryView
opened s = record { number = s.number; plan = s.plan; status = Open }

abbrev pub with_sheet : List EntryView → Result Sheet IssueFault → List EntryView
with_sheet es (Ok s) = es ++ (opened s ∷ [])
with_sheet es (Err f) = es

abbrev pub issue_answer : List EntryView → List ℕ → Result Slip IssueFault
issue_answer es t = slip_for (admits es t)

abbrev pub issued : List EntryView → List ℕ → List EntryView
issued es t = with_sheet es (admits es t)

-- file: no open entry of the slip's number, then a verdict of another number or model
abbrev pub checked_at : Option EntryView → Slip → Verdict → Result (Unit {0}) FileFault
checked_at None s v = Err NotOpen
checked_at (Some e) s v = cond (v.number == s.number && same_plan (plan_of v.model) e.plan) (Ok tt) (Err OtherDocket)

abbrev pub file_check : List EntryView → Slip → Verdict → Result (Unit {0}) FileFault
file_check es s v = checked_at (open_of s.number es) s v

abbrev pub hand_back : Slip → Verdict → Result (Unit {0}) FileFault → Result (Unit {0}) Refused
hand_back s v (Ok u) = Ok tt
hand_back s v (Err f) = Err (record { fault = f; slip = s; verdict = v })

abbrev pub file_answer : List EntryView → Slip → Verdict → Result (Unit {0}) Refused
file_answer es s v = hand_back s v (file_check es s v)

abbrev pub after_file : List EntryView → Slip → Verdict → Result (Unit {0}) FileFault → List EntryView
after_file es s v (Ok u) = marked s.number (Filed v.kind) es
after_file es s v (Err f) = es

abbrev pub filed : List EntryView → Slip → Verdict → List EntryView
filed es s v = after_file es s v (file_check es s v)

-- withdraw: no open entry of the slip's number
abbrev pub ended_at : Option EntryView → Result (Unit {0}) WithdrawFault
ended_at None = Err Ended
ended_at (Some e) = Ok tt

abbrev pub withdraw_answer : List EntryView → Slip → Result (Unit {0}) WithdrawFault
withdraw_answer es s = ended_at (open_of s.number es)

abbrev pub after_withdraw : List EntryView → Slip → Option EntryView → List EntryView
after_withdraw es s None = es
after_withdraw es s (Some e) = marked s.number Withdrawn es

abbrev pub withdrawn : List EntryView → Slip → List EntryView
withdrawn es s = after_withdraw es s (open_of s.number es)
