-- What one call does to the entries: nothing, one more entry, or an open entry ended.
use Rattle.std.proofs.Common.{◌≡◌, ℕ, ◌<◌, Bool, true, false, cond, ltb, List, [], ◌∷◌, ◌++◌, length, is_some, Some, None, Ok, Err, Option, Result, refl}
use Rattle.std.proofs.lemmas.Bool.{ltb-true, both_ways}
use Rattle.sheets.specs.declared.fault.SheetFault.{SheetFault}
use Rattle.sheets.specs.Reads.{Sheet, read_of}
use Rattle.findings.specs.declared.verdict.Verdict.{Verdict}
use Rattle.register.specs.Views.{EntryView, is_open, stamped, FiledKindIsTrue}
use Rattle.register.specs.Calls.{lookup, open_of, marked, admitted, slip_for, opened, with_sheet, file_check, hand_back, after_file, ended_at, after_withdraw}
use Rattle.register.specs.Rows.{Call, issuing, filing, withdrawing, after, opening, opens, Ending, ending, filing_ends, withdrawal_ends, ends}
use Rattle.register.proofs.Held.{open_is, file-is, file-sound, sound-withdrawn}
use Rattle.register.specs.declared.entry.Status.{Status}
use Rattle.register.specs.declared.entry.Status.TheVariants.{Filed, Withdrawn}
use Rattle.register.specs.declared.slip.Slip.{Slip}
use Rattle.register.specs.declared.fault.IssueFault.{IssueFault}
use Rattle.register.specs.declared.fault.IssueFault.TheVariants.{Taken, Full}
use Rattle.register.specs.declared.fault.FileFault.{FileFault}

-- from the entries es: the entries then, the sheet of an issue that was accepted, and the ending of a docket
pub data Turn (es : List EntryView) : List EntryView → List (List ℕ) → List Ending → Type 0 where
  same : Turn es es [] []
  more : (t : List ℕ) (s : Sheet) → read_of t ≡ Ok s → lookup s.number es ≡ None → length es < 64 → Turn es (es ++ (opened s ∷ [])) (t ∷ []) []
  over : (n : ℕ) (s : Status) (e : EntryView) → lookup n es ≡ Some e → is_open e.status ≡ true → is_open s ≡ false → FiledKindIsTrue (stamped e s) → Turn es (marked n s es) [] (ending n s ∷ [])

absent : (o : Option EntryView) → is_some o ≡ false → o ≡ None
absent None e = refl
absent (Some x) e = absurd (both_ways true e refl)

-- the two tests of a sheet that reads
abbrev tests : Bool → Bool → Sheet → Result Sheet IssueFault
tests there room s = cond there (Err Taken) (cond room (Ok s) (Err Full))

issue-tests : (es : List EntryView) (t : List ℕ) (s : Sheet) → read_of t ≡ Ok s → (there room : Bool) → is_some (lookup s.number es) ≡ there → ltb (length es) 64 ≡ room →
    Turn es (with_sheet es (tests there room s)) (opening t (slip_for (tests there room s))) []
issue-tests es t s e true room p q = same
issue-tests es t s e false true p q = more t s e (absent (lookup s.number es) p) (ltb-true (length es) 64 q)
issue-tests es t s e false false p q = same

issue-turn : (es : List EntryView) (t : List ℕ) (r : Result Sheet SheetFault) → read_of t ≡ r → Turn es (with_sheet es (admitted es r)) (opening t (slip_for (admitted es r))) []
issue-turn es t (Err f) e = same
issue-turn es t (Ok s) e = issue-tests es t s e (is_some (lookup s.number es)) (ltb (length es) 64) refl refl

file-turn : (es : List EntryView) (s : Slip) (v : Verdict) (o : Result (Unit {0}) FileFault) → file_check es s v ≡ o → Turn es (after_file es s v o) [] (filing_ends s v (hand_back s v o))
file-turn es s v (Err f) e = same
file-turn es s v (Ok tt) e =
    let f = file-is (open_of s.number es) s v e in
    let o = open_is (lookup s.number es) f.0 f.1 in
    over s.number (Filed v.kind) f.0 o.0 o.1 refl (file-sound es s v e f.0 o.0)

withdraw-turn : (es : List EntryView) (s : Slip) (o : Option EntryView) → open_of s.number es ≡ o → Turn es (after_withdraw es s o) [] (withdrawal_ends s (ended_at o))
withdraw-turn es s None e = same
withdraw-turn es s (Some x) e =
    let o = open_is (lookup s.number es) x e in
    over s.number Withdrawn x o.0 o.1 refl (sound-withdrawn x)

pub turn : (es : List EntryView) (c : Call) → Turn es (after es c) (opens es c) (ends es c)
turn es (issuing t) = issue-turn es t (read_of t) refl
turn es (filing s v) = file-turn es s v (file_check es s v) refl
turn es (withdrawing s) = withdraw-turn es s (open_of s.number es) refl
