-- What holds of every finding that is written: it is accepted, and it is true. Assumes nothing.
use Rattle.std.specs.Prelude.{◌≡◌, ℕ, ◌≤◌, List, [], length, Some, None, Ok, Err}
use Rattle.sheets.specs.declared.arrangement.Arrangement.{Arrangement}
use Rattle.sheets.specs.declared.arrangement.Arrangement.TheVariants.{Handshake, Tokens}
use Rattle.sheets.specs.declared.arrangement.Handshake as shake
use Rattle.sheets.specs.declared.arrangement.Tokens as program
use Rattle.sheets.specs.Reads.{plan_of, read_of}
use Rattle.meaning.specs.Meaning.{Meaning}
use Rattle.meaning.specs.Runs.{BadRun}
use Rattle.handshake.specs.States.{state_code}
use Rattle.handshake.specs.Reads.{handshake_meaning}
use Rattle.tokens.specs.States.{code_of}
use Rattle.tokens.specs.Models.{token_meaning}
use Rattle.sheets.specs.Reads.{program_of}
use Rattle.examination.specs.declared.trail.Link.{Link}
use Rattle.examination.specs.Search.{Search}
use Rattle.examination.specs.Calls.{opening}
use Rattle.examination.specs.CallRows.{called}
use Rattle.bodies.specs.declared.kind.Kind.{Kind}
use Rattle.bodies.specs.declared.kind.Kind.TheVariants.{Breach}
use Rattle.bodies.specs.Judge.{judged, judged_as}
use Rattle.bodies.specs.Trips.{kind_of, body_held}
use Rattle.findings.specs.declared.frame.Frame.{Frame}
use Rattle.findings.specs.declared.fault.WriteFault.TheVariants.{Unfinished}
use Rattle.findings.specs.Frames.{frame_of, sheet_in, body_in}
use Rattle.findings.specs.Writes.{finding_of}
use Rattle.findings.specs.Judges.{plain_verdict, LentTables, Judging, IsJudged}

abbrev pub frame_as : Kind → ℕ → ℕ → List ℕ → Frame
frame_as k width n sheet = record { kind = k; width = width; count = n; sheet = length sheet }

module _ {S : Type 0} (m : Meaning S) (code : S → List ℕ) (width : ℕ) where
  -- w is the finding of a search x, of kind k, behind a sheet: the frame and the sheet are found in it, the judge of the body accepts
  -- its body by any empty table with a place for each state, and a breach's run is as short as every run to a breach
  pub record IsFindingOf (x : Search S) (sheet w : List ℕ) (k : Kind) : Type 0 where
    pub count : ℕ
    pub framed : frame_of w ≡ Ok (frame_as k width count sheet)
    pub told : sheet_in (frame_as k width count sheet) w ≡ sheet
    pub few : count ≤ length x.list
    pub accepted : (room : ℕ) → count ≤ room → judged m code width k count (body_in (frame_as k width count sheet) w) [] room ≡ judged_as (body_held x.list k) (Ok tt)
    pub shortest : k ≡ Breach → (bad : BadRun m) → count ≤ length bad.labels

  -- of any row of advance calls after an accepted open; a write alters none of what the calls are given, so it may stand anywhere among them
  pub record EndedSearchesHaveFindings : Type 0 where
    -- a search that ended in a breach or closed gives a finding behind every sheet that is not too long
    pub given : (places : ℕ) (xs : List S) (ts : List Link) (x : Search S) → places ≤ 65535 → opening m code places xs ts ≡ Ok x → (bs : List ℕ) (k : Kind) → kind_of (called m code places bs x).exam.outcome ≡ Some k
        → (sheet : List ℕ) → length sheet ≤ 2048
        → (w : List ℕ) × (finding_of code width places (called m code places bs x).list (called m code places bs x).trail (called m code places bs x).exam sheet ≡ Ok w) × IsFindingOf (called m code places bs x) sheet w k
    -- one that runs or is exhausted gives none
    pub none : (places : ℕ) (x : Search S) (sheet : List ℕ) → kind_of x.exam.outcome ≡ None → length sheet ≤ 2048 → finding_of code width places x.list x.trail x.exam sheet ≡ Err Unfinished

-- the judge accepts what was written behind a sheet that describes the model: with the sheet's number, the model, and the kind in which the search stands
module _ {S : Type 0} (m : Meaning S) (code : S → List ℕ) (width : ℕ) (a : Arrangement) (empty : LentTables → ℕ → Type 0) where
  abbrev pub JudgedAsWritten : Type 0
  JudgedAsWritten =
      (x : Search S) (sheet w : List ℕ) (k : Kind) → IsFindingOf m code width x sheet w k → (n : ℕ) → read_of sheet ≡ Ok (record { number = n; plan = plan_of a })
      → (t : LentTables) → empty t (length x.list) → (j : Judging) → IsJudged w t j → j.answer ≡ Ok (plain_verdict n (plan_of a) k)

-- an empty table, of the kind of state that fits, with a place for each state
abbrev pub EmptyScenes : LentTables → ℕ → Type 0
EmptyScenes t n = (t.scenes ≡ []) × (n ≤ t.scene_room)

abbrev pub EmptyStores : LentTables → ℕ → Type 0
EmptyStores t n = (t.stores ≡ []) × (n ≤ t.store_room)

pub record JudgeAcceptsWhatIsWritten : Type 0 where
  pub handshakes : (h : shake.Handshake) → JudgedAsWritten (handshake_meaning h) state_code 46 (Handshake h) EmptyScenes
  pub stores : (p : program.Tokens) → JudgedAsWritten (token_meaning (program_of p)) code_of 20 (Tokens p) EmptyStores
