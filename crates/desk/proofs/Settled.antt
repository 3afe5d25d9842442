-- A slip of an open docket is spent, and the docket is then open no more.
use Rattle.std.proofs.Common.{◌≡◌, ℕ, Bool, true, false, cond, eqb, ltb, List, [], ◌∷◌, ◌++◌, length, is_some, Some, None, Ok, Err, Result, sym, refl, ap, ◌∙◌, subst, eq-eqb}
use Rattle.sheets.specs.declared.fault.SheetFault.{SheetFault}
use Rattle.sheets.specs.Reads.{Sheet, read_of}
use Rattle.findings.specs.declared.verdict.Verdict.{Verdict}
use Rattle.register.specs.Views.{EntryView, stamped}
use Rattle.register.specs.Calls.{lookup, where_open, open_of, marked, opened, admitted, admits, slip_for, with_sheet, issued, issue_answer, hand_back, file_check, file_answer, after_file, filed, after_withdraw, withdrawn}
use Rattle.register.specs.declared.entry.Status.{Status}
use Rattle.register.specs.declared.entry.Status.TheVariants.{Withdrawn}
use Rattle.register.specs.declared.slip.Slip.{Slip}
use Rattle.register.specs.declared.fault.IssueFault.{IssueFault}
use Rattle.register.specs.declared.fault.IssueFault.TheVariants.{Taken, Full}
use Rattle.register.specs.declared.fault.FileFault.{FileFault}
use Rattle.register.specs.declared.fault.Refused.{Refused}
use Rattle.desk.specs.Handled.{Ended, EndsItsDocket}

-- withdrawing ends it

by-withdraw : (es : List EntryView) (s : Slip) (e : EntryView) → open_of s.number es ≡ Some e → Ended s.number es (withdrawn es s)
by-withdraw es s e o = (Withdrawn, refl, ap (after_withdraw es s) o)

-- a refused filing leaves all as it was and hands the slip back

refused-keeps : (es : List EntryView) (s : Slip) (v : Verdict) (r : Refused) (o : Result (Unit {0}) FileFault) → Err r ≡ hand_back s v o → (after_file es s v o ≡ es) × (r.slip ≡ s)
refused-keeps es s v r (Ok u) e = absurd (cc)
refused-keeps es s v r (Err f) e = (refl, cc)

pub by-refusal : (es : List EntryView) (s : Slip) (v : Verdict) (r : Refused) (e : EntryView)
    → Err r ≡ file_answer es s v → open_of s.number es ≡ Some e → Ended s.number es (withdrawn (filed es s v) r.slip)
by-refusal es s v r e a o =
    let k = refused-keeps es s v r (file_check es s v) a in
    let here : withdrawn (filed es s v) r.slip ≡ withdrawn es s = ap (λ (xs : List EntryView). withdrawn xs r.slip) k.0 ∙ ap (λ (t : Slip). withdrawn es t) k.1 in
    subst (λ (fs : List EntryView). Ended s.number es fs) (sym here) (by-withdraw es s e o)

-- an entry behind the others, of a number that they lack

eqb_same : (n : ℕ) → eqb n n ≡ true
eqb_same n = eq-eqb n n refl

found-last : (n : ℕ) (es : List EntryView) (e : EntryView) → e.number ≡ n → is_some (lookup n es) ≡ false → lookup n (es ++ (e ∷ [])) ≡ Some e
found-last n [] e h l = ap (λ (b : Bool). cond b (Some e) None) (ap (λ (k : ℕ). eqb k n) h ∙ eqb_same n)
found-last n (x ∷ es) e h l =
    elim (eqb x.number n) as (λ b. is_some (cond b (Some x) (lookup n es)) ≡ false → cond b (Some x) (lookup n (es ++ (e ∷ []))) ≡ Some e)
    [ true ↦ λ m. (absurd (cc)) | false ↦ λ m. found-last n es e h m ] l

marked-last : (n : ℕ) (st : Status) (es : List EntryView) (e : EntryView) → e.number ≡ n → is_some (lookup n es) ≡ false → marked n st (es ++ (e ∷ [])) ≡ es ++ (stamped e st ∷ [])
marked-last n st [] e h l = ap (λ (b : Bool). cond b (stamped e st ∷ []) (e ∷ [])) (ap (λ (k : ℕ). eqb k n) h ∙ eqb_same n)
marked-last n st (x ∷ es) e h l =
    elim (eqb x.number n) as (λ b. is_some (cond b (Some x) (lookup n es)) ≡ false → cond b (stamped x st ∷ (es ++ (e ∷ []))) (x ∷ marked n st (es ++ (e ∷ []))) ≡ x ∷ (es ++ (stamped e st ∷ [])))
    [ true ↦ λ m. (absurd (cc)) | false ↦ λ m. ap (λ (ys : List EntryView). x ∷ ys) (marked-last n st es e h m) ] l

-- what an accepted issue leaves

record Admitted (es : List EntryView) (s : Slip) (a : Result Sheet IssueFault) : Type 0 where
  pub sheet : Sheet
  pub is : a ≡ Ok sheet
  pub number : s.number ≡ sheet.number
  pub new : is_some (lookup sheet.number es) ≡ false

admitted-so : (es : List EntryView) (s : Slip) (r : Result Sheet SheetFault) → Ok s ≡ slip_for (admitted es r) → Admitted es s (admitted es r)
admitted-so es s (Err f) e = absurd (cc)
admitted-so es s (Ok t) e =
    go (is_some (lookup t.number es)) (ltb (length es) 64) refl e
  where
    go : (a b : Bool) → is_some (lookup t.number es) ≡ a → Ok s ≡ slip_for (cond a (Err Taken) (cond b (Ok t) (Err Full))) → Admitted es s (cond a (Err Taken) (cond b (Ok t) (Err Full)))
    go true b p q = absurd (cc)
    go false false p q = absurd (cc)
    go false true p q = record { sheet = t; is = refl; number = cc; new = p }

-- the slip's docket is open

pub issued-open : (es : List EntryView) (t : List ℕ) (s : Slip) (xs : List EntryView) → Ok s ≡ issue_answer es t → xs ≡ issued es t → (e : EntryView) × (open_of s.number xs ≡ Some e)
issued-open es t s xs a held =
    let h = admitted-so es s (read_of t) a in
    let list : xs ≡ es ++ (opened h.sheet ∷ []) = held ∙ ap (with_sheet es) h.is in
    let found : lookup h.sheet.number (es ++ (opened h.sheet ∷ [])) ≡ Some (opened h.sheet) = found-last h.sheet.number es (opened h.sheet) refl h.new in (
      opened h.sheet,
      ap (λ (ys : List EntryView). open_of s.number ys) list ∙ ap (λ (n : ℕ). open_of n (es ++ (opened h.sheet ∷ []))) h.number ∙ ap where_open found,
    )

-- and once it is ended, the sheet is handled

pub handled : (es : List EntryView) (t : List ℕ) (s : Slip) (xs fs : List EntryView) → Ok s ≡ issue_answer es t → xs ≡ issued es t → Ended s.number xs fs → EndsItsDocket es (admits es t) fs
handled es t s xs fs a held d =
    let h = admitted-so es s (read_of t) a in
    let list : xs ≡ es ++ (opened h.sheet ∷ []) = held ∙ ap (with_sheet es) h.is in
    let last : fs ≡ es ++ (stamped (opened h.sheet) d.0 ∷ []) =
    d.2 ∙ ap (λ (ys : List EntryView). marked s.number d.0 ys) list ∙ ap (λ (n : ℕ). marked n d.0 (es ++ (opened h.sheet ∷ []))) h.number
    ∙ marked-last h.sheet.number d.0 es (opened h.sheet) refl h.new in
    subst (λ (r : Result Sheet IssueFault). EndsItsDocket es r fs) (sym h.is) (d.0, d.1, last)
