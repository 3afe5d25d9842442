-- What the judge answers to any bytes, and what it leaves in the tables that it is lent. Assumes nothing.
use Rattle.std.specs.Prelude.{◌≡◌, ℕ, cond, List, Ok, Err, Result, ◌==◌}
use Rattle.sheets.specs.declared.arrangement.Arrangement.{Arrangement}
use Rattle.sheets.specs.declared.arrangement.Arrangement.TheVariants.{Handshake, Tokens}
use Rattle.sheets.specs.declared.arrangement.Docket.{Docket}
use Rattle.sheets.specs.declared.fault.SheetFault.{SheetFault}
use Rattle.sheets.specs.Reads.{Plan, plan_of, read_of, sheet_read}
use Rattle.handshake.specs.declared.state.State as scene
use Rattle.handshake.specs.States.{state_code}
use Rattle.handshake.specs.Reads.{handshake_meaning}
use Rattle.tokens.specs.declared.state.State as store
use Rattle.tokens.specs.States.{code_of}
use Rattle.tokens.specs.Models.{token_meaning}
use Rattle.sheets.specs.Reads.{program_of}
use Rattle.bodies.specs.declared.kind.Kind.{Kind}
use Rattle.meaning.specs.Meaning.{Meaning}
use Rattle.bodies.specs.Judge.{Answer, Judged, judged}
use Rattle.findings.specs.declared.fault.FindingFault.{FindingFault}
use Rattle.findings.specs.declared.fault.FindingFault.TheVariants.{Frame, Sheet, Body}
use Rattle.findings.specs.declared.frame.Frame as frame
use Rattle.findings.specs.declared.frame.FrameFault.{FrameFault}
use Rattle.findings.specs.declared.verdict.Verdict.{Verdict}
use Rattle.findings.specs.Frames.{frame_of, sheet_in, body_in}

-- a verdict without its truth
pub record PlainVerdict : Type 0 where
  pub number : ℕ
  pub plan : Plan
  pub kind : Kind

abbrev pub plain_verdict : ℕ → Plan → Kind → PlainVerdict
plain_verdict n p k = record { number = n; plan = p; kind = k }

abbrev pub plain_answer : Result Verdict FindingFault → Result PlainVerdict FindingFault
plain_answer (Ok v) = Ok (plain_verdict v.number (plan_of v.model) v.kind)
plain_answer (Err f) = Err f

-- a body behind a frame, judged as one of a model: the answer, and the table's list after it
pub record JudgedAs (S : Type 0) : Type 0 where
  pub answer : Result (Unit {0}) FindingFault
  pub list : List S

abbrev pub in_body : Answer → Result (Unit {0}) FindingFault
in_body (Ok u) = Ok u
in_body (Err e) = Err (Body e)

abbrev pub by_body : {S : Type 0} → Judged S → JudgedAs S
by_body j = record { answer = in_body j.answer; list = j.list }

-- the width first, and then the body
abbrev pub judged_as_model : {S : Type 0} → Meaning S → (S → List ℕ) → ℕ → frame.Frame → List ℕ → List S → ℕ → JudgedAs S
judged_as_model m code width f body xs room =
    cond (f.width == width) (by_body (judged m code width f.kind f.count body xs room)) (record { answer = Err (Frame 2); list = xs })

-- the states that the two tables hold, and how many places each has
pub record LentTables : Type 0 where
  pub scenes : List scene.State
  pub scene_room : ℕ
  pub stores : List store.State
  pub store_room : ℕ

pub record Judging : Type 0 where
  pub answer : Result PlainVerdict FindingFault
  pub scenes : List scene.State
  pub stores : List store.State

abbrev pub refusing : FindingFault → LentTables → Judging
refusing f t = record { answer = Err f; scenes = t.scenes; stores = t.stores }

abbrev pub ruled : PlainVerdict → Result (Unit {0}) FindingFault → Result PlainVerdict FindingFault
ruled r (Ok u) = Ok r
ruled r (Err e) = Err e

abbrev pub passing : PlainVerdict → Answer → Result PlainVerdict FindingFault
passing r a = ruled r (in_body a)

-- what judging by one table or the other comes to
abbrev pub by_scenes : PlainVerdict → LentTables → JudgedAs scene.State → Judging
by_scenes r t j = record { answer = ruled r j.answer; scenes = j.list; stores = t.stores }

abbrev pub by_stores : PlainVerdict → LentTables → JudgedAs store.State → Judging
by_stores r t j = record { answer = ruled r j.answer; scenes = t.scenes; stores = j.list }

-- by the table that fits the model
abbrev pub by_model : frame.Frame → List ℕ → ℕ → Arrangement → LentTables → Judging
by_model f b n (Handshake h) t =
    by_scenes (plain_verdict n (plan_of (Handshake h)) f.kind) t (judged_as_model (handshake_meaning h) state_code 46 f (body_in f b) t.scenes t.scene_room)
by_model f b n (Tokens p) t =
    by_stores (plain_verdict n (plan_of (Tokens p)) f.kind) t (judged_as_model (token_meaning (program_of p)) code_of 20 f (body_in f b) t.stores t.store_room)

abbrev pub by_sheet : frame.Frame → List ℕ → Result Docket SheetFault → LentTables → Judging
by_sheet f b (Err e) t = refusing (Sheet e) t
by_sheet f b (Ok d) t = by_model f b d.number d.arrangement t

abbrev pub by_frame : Result frame.Frame FrameFault → List ℕ → Result Docket SheetFault → LentTables → Judging
by_frame (Err o) b d t = refusing (Frame o.0) t
by_frame (Ok f) b d t = by_sheet f b d t

-- d is what the finding's sheet reads as, where the frame has one
abbrev pub ReadIn : Result frame.Frame FrameFault → List ℕ → Result Docket SheetFault → Type 0
ReadIn (Err o) b d = Unit {0}
ReadIn (Ok f) b d = sheet_read d ≡ read_of (sheet_in f b)

-- the judge's answer and the tables' lists after it
abbrev pub IsJudged : List ℕ → LentTables → Judging → Type 0
IsJudged b t j = (d : Result Docket SheetFault) × ReadIn (frame_of b) b d × (j ≡ by_frame (frame_of b) b d t)
