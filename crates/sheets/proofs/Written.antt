-- A sheet is read exactly if it is written so. Assumes nothing.
use Rattle.std.proofs.Common.{◌≡◌, ℕ, ◌+◌, ◌≤◌, Bool, true, false, cond, ltb, List, [], ◌∷◌, ◌++◌, length, drop, Some, None, Ok, Err, codes, decimal, Option, Result, sym, refl, ap, ◌∙◌, subst, arith, length-drop}
use Rattle.std.specs.Str.{bytes_eq}
use Rattle.std.proofs.lemmas.List.{drop_all}
use Rattle.std.proofs.lemmas.Slice.Eq.{bytes_eq-Decides}
use Rattle.std.proofs.lemmas.Bool.{le-ltb, ltb-false, cond-false}
use Rattle.sheets.specs.declared.fault.SheetFault.{SheetFault}
use Rattle.sheets.specs.declared.fault.SheetFault.TheVariants.{TooLong, Misplaced}
use Rattle.sheets.specs.Words.{run_at, text_at, Kind, keyword, number, instruction, name}
use Rattle.sheets.specs.Reads.{Got, and_then, only, unnamed, word_at, separator_at, keyword_at, number_at, spaced_at, either_in, either_at, docket_at, Shake, shake_at, program_at, Plan, shake, tokens, Sheet, plan_in, plan_at, end_at, sheet_at, named_of}
use Rattle.sheets.specs.Rendered.{Between, spaced, render_shake, render_program, render_plan, render, NamesFor, HandshakeIsWithinLimits, PlanIsWithinLimits, IsWithinLimits, AcceptedIffWritten, TextsTellDocketsApart}
use Rattle.sheets.proofs.TokenParts.{program-parts}
use Rattle.sheets.proofs.TokenDone.{program-done}
use Rattle.sheets.proofs.Lengths.{text-short}
use Rattle.sheets.proofs.Parts.{inj, no, Blank, word_split, Fits, kind_fits, Done, done-then, parts_then, sep-done, sep-parts, word-done, keyword-done, keyword-parts, number-done, number-parts}

abbrev lowe_word : Bool → List ℕ
lowe_word l = cond l (codes "lowe") (codes "original")

either-done : (l : Bool) (b : List ℕ) (at : ℕ) (rest : List ℕ) → Blank rest → drop at b ≡ lowe_word l ++ rest → Done (either_at (codes "original") (codes "lowe") b at) l b rest
either-done true b at rest k e = let t = word-done b at (codes "lowe") rest refl k e in (at + run_at b at, ap (either_in (codes "original") (codes "lowe") b at) t.0, t.1)
either-done false b at rest k e = let t = word-done b at (codes "original") rest refl k e in (at + run_at b at, ap (either_in (codes "original") (codes "lowe") b at) t.0, t.1)

either-parts : (b : List ℕ) (at : ℕ) (z : Bool × ℕ) → either_at (codes "original") (codes "lowe") b at ≡ Ok z → drop at b ≡ lowe_word z.0 ++ drop z.1 b
either-parts b at z e = go (word_at b at) (kind_fits (text_at b at)) e
  where
    found : (u w : List ℕ) (l : Bool) → bytes_eq u w ≡ true → w ≡ lowe_word l → u ≡ text_at b at → ◌≡◌ {A = Got Bool} (Ok (l, at + run_at b at)) (Ok z) → drop at b ≡ lowe_word z.0 ++ drop z.1 b
    found u w l s is f h =
        let same = (bytes_eq-Decides u w).0 s in
        let value : l ≡ z.0 = ap (λ v. v.0) (inj h) in
        let next : at + run_at b at ≡ z.1 = ap (λ v. v.1) (inj h) in
        word_split b at ∙ (λ i. (sym f ∙ same ∙ is ∙ ap lowe_word value) i ++ drop (next i) b)

    hit : (u : List ℕ) (s t : Bool) → bytes_eq u (codes "original") ≡ s → bytes_eq u (codes "lowe") ≡ t → u ≡ text_at b at → cond s (Ok (false, at + run_at b at)) (cond t (Ok (true, at + run_at b at)) (Err (Misplaced at))) ≡ Ok z → drop at b ≡ lowe_word z.0 ++ drop z.1 b
    hit u true t e1 e2 f h = found u (codes "original") false e1 refl f h
    hit u false true e1 e2 f h = found u (codes "lowe") true e2 refl f h
    hit u false false e1 e2 f h = no h

    go : (k : Option Kind) → Fits k (text_at b at) → either_in (codes "original") (codes "lowe") b at k ≡ Ok z → drop at b ≡ lowe_word z.0 ++ drop z.1 b
    go None f h = no h
    go (Some (keyword u)) f h = hit u (bytes_eq u (codes "original")) (bytes_eq u (codes "lowe")) refl refl f h
    go (Some (number u)) f h = no h
    go (Some (instruction u)) f h = no h
    go (Some (name u)) f h = no h

spaced-done : (low high n : ℕ) (b : List ℕ) (at : ℕ) (rest : List ℕ) → 1 ≤ low → high ≤ 9999 → Between low high n → Blank rest → drop at b ≡ spaced (decimal n) rest → Done (spaced_at low high b at) n b rest
spaced-done low high n b at rest h1 h2 h k e = done-then _ (λ _ p. number_at low high b p) tt n b _ rest (sep-done 32 b at _ e) (λ p f. number-done low high n b p rest h1 h2 h k f)

spaced-parts : (low high : ℕ) (b : List ℕ) (at : ℕ) (z : ℕ × ℕ) → high ≤ 9999 → spaced_at low high b at ≡ Ok z → Between low high z.0 × (drop at b ≡ spaced (decimal z.0) (drop z.1 b))
spaced-parts low high b at z few e =
    let s = parts_then (separator_at 32 b at) (λ _ p. number_at low high b p) z e in
    let n = number-parts low high b s.0.1 z few s.2 in
    (n.0, sep-parts 32 b at s.0 s.1 ∙ ap (λ l. 32 ∷ l) n.1)

docket-done : (n : ℕ) (b : List ℕ) (at : ℕ) (rest : List ℕ) → Between 1 9999 n → drop at b ≡ codes "docket" ++ spaced (decimal n) (10 ∷ rest) → Done (docket_at b at) n b rest
docket-done n b at rest h e =
    done-then _ _ tt n b _ rest (keyword-done (codes "docket") b at _ refl refl refl e) (λ p f.
    done-then _ _ tt n b _ rest (sep-done 32 b p _ f) (λ q g.
    done-then _ _ n n b _ rest (number-done 1 9999 n b q (10 ∷ rest) (omega arith) (omega arith) h refl g) (λ r i.
    done-then _ _ tt n b _ rest (sep-done 10 b r rest i) (λ s j. (s, refl, j)))))

docket-parts : (b : List ℕ) (at : ℕ) (z : ℕ × ℕ) → docket_at b at ≡ Ok z → Between 1 9999 z.0 × (drop at b ≡ codes "docket" ++ spaced (decimal z.0) (10 ∷ drop z.1 b))
docket-parts b at z e =
    let s1 = parts_then (keyword_at (codes "docket") b at) _ z e in
    let s2 = parts_then (separator_at 32 b s1.0.1) _ z s1.2 in
    let s3 = parts_then (number_at 1 9999 b s2.0.1) _ z s2.2 in
    let s4 = parts_then (separator_at 10 b s3.0.1) _ z s3.2 in
    let n = number-parts 1 9999 b s2.0.1 s3.0 (omega arith) s3.1 in
    let value : s3.0.0 ≡ z.0 = ap (λ v. v.0) (inj s4.2) in
    let next : s4.0.1 ≡ z.1 = ap (λ v. v.1) (inj s4.2) in (
      subst (Between 1 9999) value n.0,
      keyword-parts (codes "docket") b at s1.0 s1.1
          ∙ ap (λ l. codes "docket" ++ l) (sep-parts 32 b _ s2.0 s2.1 ∙ ap (λ l. 32 ∷ l) (n.1 ∙ ap (λ l. decimal s3.0.0 ++ l) (sep-parts 10 b _ s4.0 s4.1)))
          ∙ (λ i. codes "docket" ++ spaced (decimal (value i)) (10 ∷ drop (next i) b)),
    )

shake-done : (s : Shake) (b : List ℕ) (at : ℕ) (rest : List ℕ) → HandshakeIsWithinLimits s → drop at b ≡ render_shake s rest → Done (shake_at b at) s b rest
shake-done s b at rest h e =
    done-then _ _ s.initiators s b _ rest (spaced-done 1 3 _ b at _ (omega arith) (omega arith) h.0 refl e) (λ p f.
    done-then _ _ s.responders s b _ rest (spaced-done 1 3 _ b p _ (omega arith) (omega arith) h.1 refl f) (λ q g.
    done-then _ _ s.capacity s b _ rest (spaced-done 1 4 _ b q _ (omega arith) (omega arith) h.2 refl g) (λ r i.
    done-then _ _ tt s b _ rest (sep-done 32 b r _ i) (λ t j.
    done-then _ _ s.lowe s b _ rest (either-done s.lowe b t (10 ∷ rest) refl j) (λ u k.
    done-then _ _ tt s b _ rest (sep-done 10 b u rest k) (λ v m. (v, refl, m)))))))

shake-parts : (b : List ℕ) (at : ℕ) (z : Shake × ℕ) → shake_at b at ≡ Ok z → HandshakeIsWithinLimits z.0 × (drop at b ≡ render_shake z.0 (drop z.1 b))
shake-parts b at z e =
    let s1 = parts_then (spaced_at 1 3 b at) _ z e in
    let s2 = parts_then (spaced_at 1 3 b s1.0.1) _ z s1.2 in
    let s3 = parts_then (spaced_at 1 4 b s2.0.1) _ z s2.2 in
    let s4 = parts_then (separator_at 32 b s3.0.1) _ z s3.2 in
    let s5 = parts_then (either_at (codes "original") (codes "lowe") b s4.0.1) _ z s4.2 in
    let s6 = parts_then (separator_at 10 b s5.0.1) _ z s5.2 in
    let n1 = spaced-parts 1 3 b at s1.0 (omega arith) s1.1 in
    let n2 = spaced-parts 1 3 b s1.0.1 s2.0 (omega arith) s2.1 in
    let n3 = spaced-parts 1 4 b s2.0.1 s3.0 (omega arith) s3.1 in
    let same = inj s6.2 in
    let P : Shake × ℕ → Type 0 = λ v. HandshakeIsWithinLimits v.0 × (drop at b ≡ render_shake v.0 (drop v.1 b)) in
    subst P same (
      (n1.0, n2.0, n3.0),
      n1.1 ∙ ap (spaced (decimal s1.0.0)) (n2.1 ∙ ap (spaced (decimal s2.0.0)) (n3.1 ∙ ap (spaced (decimal s3.0.0))
          (sep-parts 32 b _ s4.0 s4.1 ∙ ap (λ l. 32 ∷ l) (either-parts b _ s5.0 s5.1 ∙ ap (λ l. lowe_word s5.0.0 ++ l) (sep-parts 10 b _ s6.0 s6.1))))),
    )

-- what a plan's text says
abbrev Planned : List ℕ → ℕ → (Plan × List (List ℕ)) × ℕ → Type 0
Planned b at z = PlanIsWithinLimits z.0.0 × NamesFor z.0.0 z.0.1 × (drop at b ≡ render_plan z.0.0 z.0.1 (drop z.1 b))

plan-done : (a : Plan) (ns : List (List ℕ)) (b : List ℕ) (at : ℕ) (rest : List ℕ) → PlanIsWithinLimits a → NamesFor a ns → drop at b ≡ render_plan a ns rest → Done (plan_at b at) (a, ns) b rest
plan-done (shake s) ns b at rest h k e =
    let t = word-done b at (codes "handshake") (render_shake s rest) refl refl e in
    let d = done-then _ (λ v p. Ok ((shake v, []), p)) s (shake s, []) b rest rest (shake-done s b (at + run_at b at) rest h t.1) (λ p f. (p, refl, f)) in
    subst (λ l. Done (plan_at b at) (shake s, l) b rest) (sym k) (d.0, ap (plan_in b at) t.0 ∙ d.1, d.2)
plan-done (tokens p) ns b at rest h k e =
    let t = word-done b at (codes "tokens") (render_program ns p rest) refl refl e in
    let d = done-then _ (λ v q. Ok ((tokens v.0, v.1), q)) (p, ns) (tokens p, ns) b rest rest (program-done p ns b (at + run_at b at) rest h k t.1) (λ q f. (q, refl, f)) in
    (d.0, ap (plan_in b at) t.0 ∙ d.1, d.2)

plan-parts : (b : List ℕ) (at : ℕ) (z : (Plan × List (List ℕ)) × ℕ) → plan_at b at ≡ Ok z → Planned b at z
plan-parts b at z e = go (word_at b at) (kind_fits (text_at b at)) e
  where
    text : (u w : List ℕ) → bytes_eq u w ≡ true → u ≡ text_at b at → drop at b ≡ w ++ drop (at + run_at b at) b
    text u w s f = word_split b at ∙ ap (λ l. l ++ drop (at + run_at b at) b) (sym f ∙ (bytes_eq-Decides u w).0 s)

    hit : (u : List ℕ) (s t : Bool) → bytes_eq u (codes "handshake") ≡ s → bytes_eq u (codes "tokens") ≡ t → u ≡ text_at b at
        → cond s (and_then (shake_at b (at + run_at b at)) (λ h p. Ok ((shake h, []), p))) (cond t (and_then (program_at b (at + run_at b at)) (λ n p. Ok ((tokens n.0, n.1), p))) (Err (Misplaced at))) ≡ Ok z → Planned b at z
    hit u true t e1 e2 f h =
        let q = parts_then (shake_at b (at + run_at b at)) (λ v p. Ok ((shake v, []), p)) z h in
        let m = shake-parts b (at + run_at b at) q.0 q.1 in
        subst (Planned b at) (inj q.2) (m.0, refl, text u (codes "handshake") e1 f ∙ ap (λ l. codes "handshake" ++ l) m.1)
    hit u false true e1 e2 f h =
        let q = parts_then (program_at b (at + run_at b at)) (λ n p. Ok ((tokens n.0, n.1), p)) z h in
        let m = program-parts b (at + run_at b at) q.0 q.1 in
        subst (Planned b at) (inj q.2) (m.well, m.naming, text u (codes "tokens") e2 f ∙ ap (λ l. codes "tokens" ++ l) m.text)
    hit u false false e1 e2 f h = no h

    go : (k : Option Kind) → Fits k (text_at b at) → plan_in b at k ≡ Ok z → Planned b at z
    go None f h = no h
    go (Some (keyword u)) f h = hit u (bytes_eq u (codes "handshake")) (bytes_eq u (codes "tokens")) refl refl f h
    go (Some (number u)) f h = no h
    go (Some (instruction u)) f h = no h
    go (Some (name u)) f h = no h

end-done : (b : List ℕ) (at : ℕ) → drop at b ≡ [] → Done (end_at b at) tt b []
end-done b at e =
    let long : length b ≤ at = omega (arith, ap length e, length-drop at b) in
    (at, cond-false _ _ _ (le-ltb at (length b) long), e)

end-parts : (b : List ℕ) (at : ℕ) (z : Unit {0} × ℕ) → end_at b at ≡ Ok z → drop at b ≡ []
end-parts b at z = go (ltb at (length b)) refl
  where
    go : (t : Bool) → ltb at (length b) ≡ t → cond t (Err (Misplaced at)) (Ok (tt, at)) ≡ Ok z → drop at b ≡ []
    go true e h = no h
    go false e h = drop_all at b (ltb-false at (length b) e)

-- what a sheet's text says
abbrev Sheeted : List ℕ → Sheet × List (List ℕ) → Type 0
Sheeted b v = IsWithinLimits v.0 × NamesFor v.0.plan v.1 × (b ≡ render v.0 v.1)

sheet-done : (d : Sheet) (ns : List (List ℕ)) (b : List ℕ) → IsWithinLimits d → NamesFor d.plan ns → b ≡ render d ns → Done (sheet_at b 0) (d, ns) b []
sheet-done d ns b h k e =
    done-then _ _ d.number (d, ns) b _ [] (docket-done d.number b 0 _ h.0 e) (λ p f.
    done-then _ _ (d.plan, ns) (d, ns) b _ [] (plan-done d.plan ns b p [] h.1 k f) (λ q g.
    done-then _ _ tt (d, ns) b _ [] (end-done b q g) (λ r i. (r, refl, i))))

sheet-parts : (b : List ℕ) (z : (Sheet × List (List ℕ)) × ℕ) → sheet_at b 0 ≡ Ok z → Sheeted b z.0
sheet-parts b z e =
    let s1 = parts_then (docket_at b 0) _ z e in
    let s2 = parts_then (plan_at b s1.0.1) _ z s1.2 in
    let s3 = parts_then (end_at b s2.0.1) _ z s2.2 in
    let n = docket-parts b 0 s1.0 s1.1 in
    let m = plan-parts b s1.0.1 s2.0 s2.1 in
    let none = end-parts b s2.0.1 s3.0 s3.1 in
    subst (λ (v : (Sheet × List (List ℕ)) × ℕ). Sheeted b v.0) (inj s3.2)
    ((n.0, m.0), m.1, n.1 ∙ ap (λ l. codes "docket" ++ spaced (decimal s1.0.0) (10 ∷ l)) (m.2 ∙ ap (render_plan s2.0.0.0 s2.0.0.1) none))

only_parts : {X : Type 0} (g : Got X) (x : X) → only g ≡ Ok x → (p : X × ℕ) × (g ≡ Ok p) × (p.0 ≡ x)
only_parts (Ok p) x e = (p, refl, inj e)
only_parts (Err e') x e = no e

pub named-parts : (b : List ℕ) (v : Sheet × List (List ℕ)) → named_of b ≡ Ok v → Sheeted b v
unfolding named_of
named-parts b v e = go (ltb 2048 (length b)) e
  where
    go : (t : Bool) → cond t (Err TooLong) (only (sheet_at b 0)) ≡ Ok v → Sheeted b v
    go true h = no h
    go false h = let s = only_parts (sheet_at b 0) v h in subst (Sheeted b) s.2 (sheet-parts b s.0 s.1)

pub named-done : (d : Sheet) (ns : List (List ℕ)) (b : List ℕ) → IsWithinLimits d → NamesFor d.plan ns → b ≡ render d ns → named_of b ≡ Ok (d, ns)
unfolding named_of
named-done d ns b h k e =
    let s = sheet-done d ns b h k e in
    cond-false _ _ _ (le-ltb 2048 (length b) (subst (λ l. length l ≤ 2048) (sym e) (text-short d ns h k))) ∙ ap only s.1

unnamed-parts : (r : Result (Sheet × List (List ℕ)) SheetFault) (d : Sheet) → unnamed r ≡ Ok d → (ns : List (List ℕ)) × (r ≡ Ok (d, ns))
unnamed-parts (Ok v) d e = (v.1, ap (λ x. Ok (x, v.1)) (inj e))
unnamed-parts (Err e') d e = no e

pub read-is-written : AcceptedIffWritten
read-is-written = record {
  text = λ b d e. let u = unnamed-parts (named_of b) d e in let s = named-parts b (d, u.0) u.1 in record { well = s.0; names = u.0; fit = s.1; text = s.2 };
  read = λ b d t. ap unnamed (named-done d t.names b t.well t.fit t.text);
  names = λ b d ns e. let s = named-parts b (d, ns) e in (s.1, s.2);
}

pub texts-apart : TextsTellDocketsApart
texts-apart b d e s t = inj (sym (read-is-written.read b d s) ∙ read-is-written.read b e t)
