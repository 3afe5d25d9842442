-- Two token programs and the attack, as sheets, searches, bodies and findings. Assumes nothing.
use Rattle.std.specs.Prelude.{◌≡◌, ℕ, true, false, List, [], ◌∷◌, ◌++◌, length, take, replicate, Some, Ok, Err, codes, Result}
use Rattle.sheets.specs.declared.arrangement.Handshake.{Handshake}
use Rattle.sheets.specs.Programs.{Program}
use Rattle.sheets.specs.Reads.{shake_of, shake, tokens, read_of}
use Rattle.sheets.specs.Examples.{seventh, seventh_program}
use Rattle.tokens.specs.declared.state.State as store
use Rattle.tokens.specs.States.{code_of}
use Rattle.tokens.specs.Models.{token_meaning}
use Rattle.tokens.specs.Example.{act}
use Rattle.handshake.specs.declared.state.State as scene
use Rattle.handshake.specs.States.{state_code}
use Rattle.handshake.specs.Reads.{handshake_meaning}
use Rattle.handshake.specs.Attack.{one_each, attack_labels}
use Rattle.examination.specs.declared.outcome.Outcome.TheVariants.{Breach, Closed, Exhausted}
use Rattle.examination.specs.declared.fault.AdvanceFault.{AdvanceFault}
use Rattle.examination.specs.Search.{Exam, Search, exam, link, opened}
use Rattle.examination.specs.Calls.{Taking, opening, advancing, advance_answer, after}
use Rattle.bodies.specs.declared.kind.Kind.TheVariants.{Breach as ByRun, Closed as ByStates}
use Rattle.faults.specs.declared.Values.TheVariants.{One, Two}
use Rattle.bodies.specs.declared.fault.BodyFault.TheVariants.{Label, Step}
use Rattle.bodies.specs.declared.fault.WriteFault as bodies
use Rattle.bodies.specs.Faults.{judge_number, judge_values}
use Rattle.bodies.specs.Bodies.{Body, body, label_bytes, body_of}
use Rattle.bodies.specs.Judge.{Answer, body_judged}
use Rattle.findings.specs.declared.fault.WriteFault.{WriteFault}
use Rattle.findings.specs.declared.fault.FindingFault.TheVariants.{Body as InBody}
use Rattle.findings.specs.Frames.{finding}
use Rattle.findings.specs.Judges.{LentTables, Judging, IsJudged}
use Rattle.findings.specs.Writes.{finding_of}

-- agents `+a -a` and `-b +c`, and the breach c
abbrev pub tenth : List ℕ
tenth =
    codes "docket 10" ++ (10 ∷ (codes "tokens" ++ (10 ∷ (codes "agent +a -a" ++ (10 ∷ (codes "agent -b +c" ++ (10 ∷ (codes "breach c" ++ (10 ∷ [])))))))))

-- + is 43 and - is 45; a, b and c are tokens 0, 1 and 2
abbrev pub tenth_program : Program
tenth_program = record { lines = (act 43 0 ∷ act 45 0 ∷ []) ∷ (act 45 1 ∷ act 43 2 ∷ []) ∷ []; breach = 2 }

-- a program's search in an empty table of so many places, once opened
abbrev pub begun : Program → ℕ → Search store.State
begun p places = opened (token_meaning p) code_of places (replicate places (link 0 0))

-- one advance with a budget, and the search after it
abbrev pub advance : Program → ℕ → ℕ → Result (Taking store.State) AdvanceFault
advance p places budget = advancing (token_meaning p) code_of places budget (begun p places)

abbrev pub searched : Program → ℕ → ℕ → Search store.State
searched p places budget = after (begun p places) (advance p places budget)

-- open is accepted, the advance takes so many states, and leaves this examination
pub record Goes (p : Program) (places budget count : ℕ) (e : Exam) : Type 0 where
  pub opens : opening (token_meaning p) code_of places [] (replicate places (link 0 0)) ≡ Ok (begun p places)
  pub advances : advance_answer (advance p places budget) ≡ Ok count
  pub leaves : (searched p places budget).exam ≡ e

-- the codes of the tenth's states: the start; agent 0 has put a; agent 0 has taken it
abbrev pub three_states : List ℕ
three_states = replicate 20 0 ++ ((1 ∷ 0 ∷ 0 ∷ 0 ∷ 1 ∷ replicate 15 0) ++ (2 ∷ replicate 19 0))

abbrev pub two_states : List ℕ
two_states = take 40 three_states

-- a search's body, and its finding for a sheet
abbrev pub body_after : Search store.State → Result Body bodies.WriteFault
body_after x = body_of code_of x.list x.trail x.exam.outcome

abbrev pub finding_after : Search store.State → ℕ → List ℕ → Result (List ℕ) WriteFault
finding_after x places sheet = finding_of code_of 20 places x.list x.trail x.exam sheet

-- one initiator, one responder and room for one message, without Lowe's test and with it
abbrev pub eighth : List ℕ
eighth = codes "docket 8" ++ (10 ∷ (codes "handshake 1 1 1 original" ++ (10 ∷ [])))

abbrev pub ninth : List ℕ
ninth = codes "docket 9" ++ (10 ∷ (codes "handshake 1 1 1 lowe" ++ (10 ∷ [])))

-- what the judge answers to the attack's labels in any table, which it does not look at
abbrev pub attack_judged : Handshake → List scene.State → ℕ → Answer
attack_judged h xs places = body_judged (handshake_meaning h) state_code 46 ByRun 10 (label_bytes attack_labels) xs places

abbrev seventh_labels : List ℕ
seventh_labels = 0 ∷ 1 ∷ 1 ∷ []

pub record WorkedExamplesHold : Type 0 where
  -- agent 1 waits for a token that nobody puts: three states, and no breach
  pub read : read_of tenth ≡ Ok (record { number = 10; plan = tokens tenth_program })
  pub closes : Goes tenth_program 3 3 3 (exam 3 3 Closed)
  -- two places are too few, which shows as the second state is taken
  pub exhausts : Goes tenth_program 2 3 2 (exam 2 2 Exhausted)
  -- the body is the codes of three states, and is accepted; without the last, label 0 leads out of state 1
  pub told : body_after (searched tenth_program 3 3) ≡ Ok (body 3 three_states)
  pub whole : body_judged (token_meaning tenth_program) code_of 20 ByStates 3 three_states [] 3 ≡ Ok tt
  pub leaks : body_judged (token_meaning tenth_program) code_of 20 ByStates 2 two_states [] 2 ≡ Err (Step 1 0)
  pub leaks_number : judge_number (Step 1 0) ≡ 15
  pub leaks_values : judge_values (Step 1 0) ≡ Two 1 0
  -- the seventh sheet's finding is a breach with labels 0, 1, 1, in 79 bytes
  pub seventh_long : length seventh ≡ 49
  pub seventh_read : read_of seventh ≡ Ok (record { number = 7; plan = tokens seventh_program })
  pub breaches : Goes seventh_program 8 8 3 (exam 3 3 (Breach (Some (link 2 1))))
  pub found : finding_after (searched seventh_program 8 8) 8 seventh ≡ Ok (finding ByRun 20 3 seventh (label_bytes seventh_labels))
  pub found_long : length (finding ByRun 20 3 seventh (label_bytes seventh_labels)) ≡ 79
  -- the attack's labels are accepted without Lowe's test, and refused with it, at step 7
  pub eighth_read : read_of eighth ≡ Ok (record { number = 8; plan = shake (shake_of (one_each false)) })
  pub ninth_read : read_of ninth ≡ Ok (record { number = 9; plan = shake (shake_of (one_each true)) })
  pub attacked : (xs : List scene.State) (places : ℕ) → attack_judged (one_each false) xs places ≡ Ok tt
  pub mended : (xs : List scene.State) (places : ℕ) → attack_judged (one_each true) xs places ≡ Err (Label 7)
  pub mended_number : judge_number (Label 7) ≡ 12
  pub mended_values : judge_values (Label 7) ≡ One 7
  -- so answers the judge to these two findings, whatever other table it is lent
  pub judge_mends : (t : LentTables) (j : Judging) → IsJudged (finding ByRun 46 10 ninth (label_bytes attack_labels)) t j → j.answer ≡ Err (InBody (Label 7))
  pub judge_leaks : (t : LentTables) (j : Judging) → t.stores ≡ [] → t.store_room ≡ 2 → IsJudged (finding ByStates 20 2 tenth two_states) t j → j.answer ≡ Err (InBody (Step 1 0))
