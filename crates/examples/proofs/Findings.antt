-- What the judge answers to two findings, from what their parts come to. Assumes nothing.
use Rattle.std.proofs.Common.{◌≡◌, ℕ, true, List, [], Ok, Err, ap, ◌∙◌}
use Rattle.sheets.specs.declared.arrangement.Arrangement.{Arrangement}
use Rattle.sheets.specs.declared.arrangement.Arrangement.TheVariants.{Handshake, Tokens}
use Rattle.sheets.specs.Reads.{shake_of, shake, tokens, plan_of, program_of, read_of}
use Rattle.tokens.specs.States.{code_of}
use Rattle.tokens.specs.Models.{token_meaning}
use Rattle.handshake.specs.declared.state.State as scene
use Rattle.handshake.specs.Attack.{one_each, attack_labels}
use Rattle.bodies.specs.declared.kind.Kind.TheVariants.{Breach, Closed}
use Rattle.bodies.specs.declared.fault.BodyFault.TheVariants.{Label, Step}
use Rattle.bodies.specs.Bodies.{label_bytes}
use Rattle.bodies.specs.Judge.{body_judged}
use Rattle.findings.specs.declared.fault.FindingFault.TheVariants.{Body}
use Rattle.findings.specs.Frames.{finding, frame_of, sheet_in}
use Rattle.findings.specs.Judges.{plain_verdict, passing, LentTables, Judging, by_model, IsJudged}
use Rattle.findings.specs.Stands.{frame_as}
use Rattle.findings.proofs.Standing.{same-shake, docketed}
use Rattle.examples.specs.Examples.{tenth, tenth_program, two_states, ninth, attack_judged}

abbrev mended_finding : List ℕ
mended_finding = finding Breach 46 10 ninth (label_bytes attack_labels)

pub judge-mends : frame_of mended_finding ≡ Ok (frame_as Breach 46 10 ninth) → sheet_in (frame_as Breach 46 10 ninth) mended_finding ≡ ninth → read_of ninth ≡ Ok (record { number = 9; plan = shake (shake_of (one_each true)) })
    → ((xs : List scene.State) (n : ℕ) → attack_judged (one_each true) xs n ≡ Err (Label 7)) → (t : LentTables) (j : Judging) → IsJudged mended_finding t j → j.answer ≡ Err (Body (Label 7))
judge-mends framed told read mended t j js =
    let d = docketed (frame_as Breach 46 10 ninth) mended_finding ninth 9 (shake (shake_of (one_each true))) framed told read t j js in
    ap (λ (y : Judging). y.answer) d.judging ∙ go d.docket.number d.docket.arrangement d.plan
  where
    go : (i : ℕ) (a : Arrangement) → plan_of a ≡ shake (shake_of (one_each true)) → (by_model (frame_as Breach 46 10 ninth) mended_finding i a t).answer ≡ Err (Body (Label 7))
    go i (Tokens p) e = absurd (cc)
    go i (Handshake g) e =
        let s : shake_of g ≡ shake_of (one_each true) = cc in
        let same = same-shake g (one_each true) s in
        (λ v. passing (plain_verdict i (plan_of (Handshake (same v))) Breach) (attack_judged (same v) t.scenes t.scene_room))
        ∙ ap (passing (plain_verdict i (plan_of (Handshake (one_each true))) Breach)) (mended t.scenes t.scene_room)

abbrev cut_finding : List ℕ
cut_finding = finding Closed 20 2 tenth two_states

pub judge-leaks : frame_of cut_finding ≡ Ok (frame_as Closed 20 2 tenth) → sheet_in (frame_as Closed 20 2 tenth) cut_finding ≡ tenth → read_of tenth ≡ Ok (record { number = 10; plan = tokens tenth_program })
    → body_judged (token_meaning tenth_program) code_of 20 Closed 2 two_states [] 2 ≡ Err (Step 1 0) → (t : LentTables) (j : Judging) → t.stores ≡ [] → t.store_room ≡ 2 → IsJudged cut_finding t j → j.answer ≡ Err (Body (Step 1 0))
judge-leaks framed told read leaks t j empty room js =
    let d = docketed (frame_as Closed 20 2 tenth) cut_finding tenth 10 (tokens tenth_program) framed told read t j js in
    ap (λ (y : Judging). y.answer) d.judging ∙ go d.docket.number d.docket.arrangement d.plan
  where
    go : (i : ℕ) (a : Arrangement) → plan_of a ≡ tokens tenth_program → (by_model (frame_as Closed 20 2 tenth) cut_finding i a t).answer ≡ Err (Body (Step 1 0))
    go i (Handshake g) e = absurd (cc)
    go i (Tokens q) e =
        let s : program_of q ≡ tenth_program = cc in
        (λ v. passing (plain_verdict i (e v) Closed) (body_judged (token_meaning (s v)) code_of 20 Closed 2 two_states (empty v) (room v)))
        ∙ ap (passing (plain_verdict i (tokens tenth_program) Closed)) leaks
