-- The judge's answer, way by way. Assumes nothing.
use Rattle.std.proofs.Common.{◌≡◌, ℕ, ◌+◌, ◌-◌, List, length, take, drop, Ok, Err, Result, refl, sym, ap, ◌∙◌, subst, arith}
use Rattle.std.proofs.lemmas.List.{take_rest}
use Rattle.sheets.specs.declared.arrangement.Arrangement.{Arrangement}
use Rattle.sheets.specs.declared.arrangement.Arrangement.TheVariants.{Handshake, Tokens}
use Rattle.sheets.specs.declared.arrangement.Handshake as shake
use Rattle.sheets.specs.declared.arrangement.Tokens as program
use Rattle.sheets.specs.declared.arrangement.Docket.{Docket}
use Rattle.sheets.specs.declared.fault.SheetFault.TheVariants.{TooLong}
use Rattle.sheets.specs.Reads.{plan_of, read_of, sheet_read}
use Rattle.handshake.specs.declared.state.State as scene
use Rattle.handshake.specs.States.{state_code}
use Rattle.handshake.specs.Reads.{handshake_meaning}
use Rattle.tokens.specs.declared.state.State as store
use Rattle.tokens.specs.States.{code_of}
use Rattle.tokens.specs.Models.{token_meaning}
use Rattle.sheets.specs.Reads.{program_of}
use Rattle.meaning.specs.Meaning.{Meaning}
use Rattle.findings.specs.declared.frame.Frame as frame
use Rattle.findings.specs.declared.frame.FrameFault.{FrameFault}
use Rattle.findings.specs.declared.fault.FindingFault.{FindingFault}
use Rattle.findings.specs.declared.fault.FindingFault.TheVariants.{Frame}
use Rattle.findings.specs.Frames.{frame_of, sheet_in, body_in}
use Rattle.findings.specs.Judges.{PlainVerdict, plain_verdict, LentTables, Judging, refusing, JudgedAs, judged_as_model, ruled, by_model, by_frame, ReadIn, IsJudged}

pub judge-frame : (b : List ℕ) (t : LentTables) (o : FrameFault) → Err o ≡ frame_of b → IsJudged b t (refusing (Frame o.0) t)
judge-frame b t o e = (Err TooLong, subst (λ r. ReadIn r b (Err TooLong)) e tt, ap (λ r. by_frame r b (Err TooLong) t) e)

-- a docket was read behind a frame: what its arrangement's judging gives
module _ (b : List ℕ) (t : LentTables) (f : frame.Frame) (d : Docket) (e : Ok f ≡ frame_of b) (raw : sheet_read (Ok d) ≡ read_of (take (24 + f.sheet - 24) (drop 24 b))) where
  r : sheet_read (Ok d) ≡ read_of (sheet_in f b)
  r = raw ∙ (let n : 24 + f.sheet - 24 ≡ f.sheet = omega arith in ap (λ k. read_of (take k (drop 24 b))) n)

  abbrev rest : List ℕ
  rest = take (length b - (24 + f.sheet)) (drop (24 + f.sheet) b)

  abbrev verdict : Arrangement → PlainVerdict
  verdict x = plain_verdict d.number (plan_of x) f.kind

  judge-docket : (j : Judging) → j ≡ by_model f b d.number d.arrangement t → IsJudged b t j
  judge-docket j h = (Ok d, subst (λ x. ReadIn x b (Ok d)) e r, h ∙ ap (λ x. by_frame x b (Ok d) t) e)

  -- by is told what is answered, and what the model's table holds then
  judge-as : {S : Type 0} (m : Meaning S) (code : S → List ℕ) (width room : ℕ) (xs : List S) (by : Result PlainVerdict FindingFault → List S → Judging) (x : Arrangement) → d.arrangement ≡ x
      → (let j : JudgedAs S = judged_as_model m code width f (body_in f b) xs room in by (ruled (verdict x) j.answer) j.list) ≡ by_model f b d.number x t
      → (a : Result (Unit {0}) FindingFault) (ys : List S) → a ≡ (judged_as_model m code width f rest xs room).answer → ys ≡ (judged_as_model m code width f rest xs room).list
      → IsJudged b t (by (ruled (verdict d.arrangement) a) ys)
  judge-as {S = S} m code width room xs by x is whole a ys u v =
      let p : rest ≡ body_in f b = take_rest b (24 + f.sheet) in
      let J : List ℕ → JudgedAs S = λ l. judged_as_model m code width f l xs room in
      judge-docket _
      ((λ i. by (ruled (verdict (is i)) ((u ∙ ap (λ l. (J l).answer) p) i)) ((v ∙ ap (λ l. (J l).list) p) i))
      ∙ whole
      ∙ ap (λ y. by_model f b d.number y t) (sym is))

  pub judge-scenes : (h : shake.Handshake) → d.arrangement ≡ Handshake h → (a : Result (Unit {0}) FindingFault) (xs : List scene.State)
      → a ≡ (judged_as_model (handshake_meaning h) state_code 46 f rest t.scenes t.scene_room).answer
      → xs ≡ (judged_as_model (handshake_meaning h) state_code 46 f rest t.scenes t.scene_room).list
      → IsJudged b t (record { answer = ruled (plain_verdict d.number (plan_of d.arrangement) f.kind) a; scenes = xs; stores = t.stores })
  judge-scenes h is =
      judge-as (handshake_meaning h) state_code 46 t.scene_room t.scenes (λ a xs. record { answer = a; scenes = xs; stores = t.stores }) (Handshake h) is refl

  pub judge-stores : (m : program.Tokens) → d.arrangement ≡ Tokens m → (a : Result (Unit {0}) FindingFault) (ys : List store.State)
      → a ≡ (judged_as_model (token_meaning (program_of m)) code_of 20 f rest t.stores t.store_room).answer
      → ys ≡ (judged_as_model (token_meaning (program_of m)) code_of 20 f rest t.stores t.store_room).list
      → IsJudged b t (record { answer = ruled (plain_verdict d.number (plan_of d.arrangement) f.kind) a; scenes = t.scenes; stores = ys })
  judge-stores m is =
      judge-as (token_meaning (program_of m)) code_of 20 t.store_room t.stores (λ a ys. record { answer = a; scenes = t.scenes; stores = ys }) (Tokens m) is refl
