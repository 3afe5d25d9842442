-- Findings that are written are accepted. Assumes nothing.
use Rattle.std.proofs.Common.{◌≡◌, ℕ, ◌*◌, ◌<◌, ◌≤◌, Bool, true, false, cond, List, [], length, Some, Ok, Err, Result, sym, refl, ap, ◌∙◌, subst, mul-le-mul, arith}
use mathlib.Core.HLevel.{is_prop→PathP}
use native.Mathlib.Bridge.{le_prop}
use Rattle.std.proofs.lemmas.Bool.{cond-false, le-ltb, le-leb, eq-eqb, and_from}
use Rattle.sheets.specs.declared.arrangement.Arrangement.{Arrangement}
use Rattle.sheets.specs.declared.arrangement.Arrangement.TheVariants.{Handshake, Tokens}
use Rattle.sheets.specs.declared.arrangement.Handshake as shake
use Rattle.sheets.specs.declared.arrangement.Tokens as program
use Rattle.sheets.specs.declared.arrangement.Docket.{Docket}
use Rattle.sheets.specs.declared.fault.SheetFault.{SheetFault}
use Rattle.sheets.specs.Reads.{Shake, shake_of, Sheet, Plan, plan_of, sheet_of, read_of, sheet_read}
use Rattle.meaning.specs.Codes.{IsCode}
use Rattle.meaning.specs.Meaning.{Meaning, IsModel, Reads}
use Rattle.handshake.specs.States.{state_code}
use Rattle.handshake.specs.Reads.{handshake_meaning}
use Rattle.tokens.specs.States.{code_of}
use Rattle.tokens.specs.Models.{token_meaning}
use Rattle.sheets.specs.Reads.{program_of}
use Rattle.examination.specs.declared.trail.Link.{Link}
use Rattle.examination.specs.declared.fault.OpenFault.TheVariants.{Unfit}
use Rattle.examination.specs.Search.{Search, opened, row}
use Rattle.examination.specs.Theorems.{CountsAgree}
use Rattle.examination.specs.Calls.{fresh, matching}
use Rattle.examination.specs.CallRows.{called, accepted}
use Rattle.examination.proofs.Results.{search-stands}
use Rattle.examination.proofs.CallRows.{fresh-is, called_is}
use Rattle.bodies.specs.declared.kind.Kind.{Kind}
use Rattle.bodies.specs.declared.kind.Kind.TheVariants.{Breach, Closed}
use Rattle.bodies.specs.Bodies.{Body, body_of}
use Rattle.bodies.specs.Judge.{Judged, judged}
use Rattle.bodies.specs.Trips.{kind_of, body_wide, given, BodyIsAccepted}
use Rattle.bodies.proofs.Trips.{bodies-stand}
use Rattle.findings.specs.declared.frame.Frame as frame
use Rattle.findings.specs.Frames.{finding, frame_of, sheet_in, body_in}
use Rattle.findings.specs.Writes.{of_kind, finding_of}
use Rattle.findings.specs.Judges.{plain_verdict, passing, LentTables, Judging, by_model, by_sheet, by_frame, ReadIn, IsJudged}
use Rattle.findings.specs.Stands.{frame_as, IsFindingOf, EndedSearchesHaveFindings, JudgedAsWritten, JudgeAcceptsWhatIsWritten}
use Rattle.findings.proofs.Framed.{frame-done, sheet-done, body-done}
use Rattle.findings.proofs.Written.{found-by}
use Rattle.findings.proofs.Trailed.{row-long, opened-long}

open-parts : {S : Type 0} (b : Bool) (o x : Search S) → cond b (Ok o) (Err Unfit) ≡ Ok x → (b ≡ true) × (o ≡ x)
open-parts true o x e = (refl, let q : o ≡ x = cc in q)
open-parts false o x e = absurd (cc)

wide-small : (k : Kind) (width : ℕ) → width ≤ 65535 → body_wide width k ≤ 65535
wide-small Breach width h = omega arith
wide-small Closed width h = h

module _ {S : Type 0} (m : Meaning S) (code : S → List ℕ) (width : ℕ) (laws : IsModel m) (codes : IsCode code width) (reads : Reads m code) where
  abbrev Given : ℕ → Search S → List ℕ → Kind → Type 0
  Given places y sheet k = (w : List ℕ) × (finding_of code width places y.list y.trail y.exam sheet ≡ Ok w) × IsFindingOf m code width y sheet w k

  module _ (places : ℕ) (ts : List Link) (small : places ≤ 65535) (some : 1 ≤ places) (wide : places ≤ length ts) (bs : List ℕ) (k : Kind) (sheet : List ℕ) (short : length sheet ≤ 2048)
      (ends : kind_of (row m code places bs (opened m code places ts)).exam.outcome ≡ Some k) where
    abbrev z : Search S
    z = row m code places bs (opened m code places ts)

    trip : BodyIsAccepted m code width (row m code places bs (opened m code places ts)) k
    trip = (bodies-stand m code width laws codes reads).accepted places ts bs k some wide ends

    abbrev b : Body
    b = given m code (row m code places bs (opened m code places ts))

    numbers : CountsAgree m places (row m code places bs (opened m code places ts))
    numbers = (search-stands m laws code codes.injective places ts bs some wide).numbers

    trail : places ≤ length (row m code places bs (opened m code places ts)).trail
    trail = omega (arith, row-long m code places bs (opened m code places ts), opened-long m code places ts)

    found : finding_of code width places z.list z.trail z.exam sheet ≡ Ok (finding k width b.number sheet b.bytes)
    found =
        found-by code width places z.list z.trail z.exam sheet k b short ends (and_from _ _ (eq-eqb _ _ (sym numbers.stored)) (le-leb _ _ trail)) ((bodies-stand m code width laws codes reads).told places ts bs k some wide ends)

    few : b.number ≤ 65535
    few = let f = trip.few in let r = numbers.room in omega (arith, f, r)

    narrow : width < 65536
    narrow = let n = codes.narrow in omega arith

    bytes-few : length b.bytes < 4294967296
    bytes-few = let l = trip.long in let h : b.number * body_wide width k ≤ 65535 * 65535 = mul-le-mul few (wide-small k width codes.narrow) in omega (arith, l, h)

    row-given : Given places (row m code places bs (opened m code places ts)) sheet k
    row-given = (
      finding k width b.number sheet b.bytes,
      found,
      record {
        count = b.number;
        framed = frame-done k width b.number sheet b.bytes narrow few short trip.long bytes-few;
        told = sheet-done k width b.number sheet b.bytes narrow few short trip.long bytes-few;
        few = trip.few;
        accepted = λ room h. ap (λ l. judged m code width k b.number l [] room) (body-done k width b.number sheet b.bytes narrow few short trip.long bytes-few) ∙ trip.judges room h;
        shortest = trip.least;
      },
    )

  pub findings-stand : EndedSearchesHaveFindings m code width
  findings-stand = record {
    given = λ places xs ts x small e bs k h sheet short.
        let o = open-parts (fresh places xs ts) (opened m code places ts) x e in
        let f = fresh-is places xs ts o.0 in
        let Q : Search S → Type 0 = λ v. kind_of (called m code places bs v).exam.outcome ≡ Some k → Given places (called m code places bs v) sheet k in
        subst Q o.1 (λ g.
        let is = called_is m code places bs (opened m code places ts) in
        subst (λ y. Given places y sheet k) (sym is)
        (row-given places ts small f.some f.wide (accepted m code places bs (opened m code places ts)) k sheet short (subst (λ (y : Search S). kind_of y.exam.outcome ≡ Some k) is g))) h;
    none = λ places x sheet h short.
        cond-false _ _ _ (le-ltb 2048 (length sheet) short)
        ∙ ap (λ o. of_kind o (matching places x) width sheet (body_of code x.list x.trail x.exam.outcome)) h;
  }

-- ---- the judge
-- equal plans of handshakes are equal handshakes: their invariants are propositions
pub same-shake : (h g : shake.Handshake) → shake_of h ≡ shake_of g → h ≡ g
same-shake h g e =
    let a : h.initiators ≡ g.initiators = ap (λ (x : Shake). x.initiators) e in
    let b : h.responders ≡ g.responders = ap (λ (x : Shake). x.responders) e in
    let c : h.capacity ≡ g.capacity = ap (λ (x : Shake). x.capacity) e in
    let l : h.lowe ≡ g.lowe = ap (λ (x : Shake). x.lowe) e in
    λ i. record {
      initiators = a i;
      responders = b i;
      capacity = c i;
      lowe = l i;
      some = is_prop→PathP (λ j. 1 ≤ a j) (λ j. le_prop) h.some g.some i;
      few = is_prop→PathP (λ j. a j ≤ 3) (λ j. le_prop) h.few g.few i;
      answering = is_prop→PathP (λ j. 1 ≤ b j) (λ j. le_prop) h.answering g.answering i;
      few_answering = is_prop→PathP (λ j. b j ≤ 3) (λ j. le_prop) h.few_answering g.few_answering i;
      room = is_prop→PathP (λ j. 1 ≤ c j) (λ j. le_prop) h.room g.room i;
      small = is_prop→PathP (λ j. c j ≤ 4) (λ j. le_prop) h.small g.small i;
    }

-- the docket that the sheet in a finding reads as
module _ (f : frame.Frame) (w sheet : List ℕ) (n : ℕ) (p : Plan) (framed : frame_of w ≡ Ok f) (told : sheet_in f w ≡ sheet) (read : read_of sheet ≡ Ok (record { number = n; plan = p })) (t : LentTables) where
  pub record Docketed (j : Judging) : Type 0 where
    pub docket : Docket
    pub number : docket.number ≡ n
    pub plan : plan_of docket.arrangement ≡ p
    pub judging : j ≡ by_model f w docket.number docket.arrangement t

  docketed-by : (d : Result Docket SheetFault) (j : Judging) → sheet_read d ≡ read_of (sheet_in f w) → j ≡ by_sheet f w d t → Docketed j
  docketed-by (Err e) j r q = absurd (let s : ◌≡◌ {A = Result Sheet SheetFault} (Err e) (Ok (record { number = n; plan = p })) = r ∙ ap read_of told ∙ read in cc)
  docketed-by (Ok d) j r q =
      let s : ◌≡◌ {A = Result Sheet SheetFault} (Ok (sheet_of d)) (Ok (record { number = n; plan = p })) = r ∙ ap read_of told ∙ read in
      let u : sheet_of d ≡ record { number = n; plan = p } = cc in
      record { docket = d; number = ap (λ (x : Sheet). x.number) u; plan = ap (λ (x : Sheet). x.plan) u; judging = q }

  pub docketed : (j : Judging) → IsJudged w t j → Docketed j
  docketed j (d, r, q) = docketed-by d j (subst (λ x. ReadIn x w d) framed r) (q ∙ ap (λ x. by_frame x w d t) framed)

-- the judge of what was written behind a sheet of the arrangement a, which is judged as a model by a table of these states and places
module _ {S : Type 0} (m : Meaning S) (code : S → List ℕ) (width : ℕ) (a : Arrangement) (list : LentTables → List S) (room : LentTables → ℕ) where
  abbrev Judges : Type 0
  Judges =
      (k : Kind) (count : ℕ) (sheet w : List ℕ) (n : ℕ) (b : Arrangement) (t : LentTables) → plan_of b ≡ plan_of a
      → (by_model (frame_as k width count sheet) w n b t).answer ≡ passing (plain_verdict n (plan_of a) k) (judged m code width k count (body_in (frame_as k width count sheet) w) (list t) (room t)).answer

  right : Judges → JudgedAsWritten m code width a (λ t n. (list t ≡ []) × (n ≤ room t))
  right judges x sheet w k sh n read t em j js =
      let d = docketed (frame_as k width sh.count sheet) w sheet n (plan_of a) sh.framed sh.told read t j js in
      let few = sh.few in
      ap (λ (y : Judging). y.answer) d.judging
      ∙ judges k sh.count sheet w d.docket.number d.docket.arrangement t d.plan
      ∙ (λ v. passing (plain_verdict (d.number v) (plan_of a) k) (judged m code width k sh.count (body_in (frame_as k width sh.count sheet) w) (em.0 v) (room t)).answer)
      ∙ ap (λ (y : Judged S). passing (plain_verdict n (plan_of a) k) y.answer) (sh.accepted (room t) (omega (arith, few, em.1)))

by-scenes : (h : shake.Handshake) → Judges (handshake_meaning h) state_code 46 (Handshake h) (λ t. t.scenes) (λ t. t.scene_room)
by-scenes h k count sheet w n (Tokens p) t e = absurd (cc)
by-scenes h k count sheet w n (Handshake g) t e =
    let s : shake_of g ≡ shake_of h = cc in
    let same = same-shake g h s in
    λ v. passing (plain_verdict n (plan_of (Handshake (same v))) k) (judged (handshake_meaning (same v)) state_code 46 k count (body_in (frame_as k 46 count sheet) w) t.scenes t.scene_room).answer

by-stores : (p : program.Tokens) → Judges (token_meaning (program_of p)) code_of 20 (Tokens p) (λ t. t.stores) (λ t. t.store_room)
by-stores p k count sheet w n (Handshake g) t e = absurd (cc)
by-stores p k count sheet w n (Tokens q) t e =
    let s : program_of q ≡ program_of p = cc in
    λ v. passing (plain_verdict n (e v) k) (judged (token_meaning (s v)) code_of 20 k count (body_in (frame_as k 20 count sheet) w) t.stores t.store_room).answer

pub judge-accepts : JudgeAcceptsWhatIsWritten
judge-accepts = record {
  handshakes = λ h. right (handshake_meaning h) state_code 46 (Handshake h) (λ t. t.scenes) (λ t. t.scene_room) (by-scenes h);
  stores = λ p. right (token_meaning (program_of p)) code_of 20 (Tokens p) (λ t. t.stores) (λ t. t.store_room) (by-stores p);
}
