-- A docket's text is never too long. Assumes nothing.
use Rattle.std.proofs.Common.{◌≡◌, ℕ, ◌+◌, ◌*◌, ◌≤◌, Bool, true, false, cond, ◌&&◌, ltb, leb, List, [], ◌∷◌, ◌++◌, length, get_or, codes, decimal, refl, ap, arith, length-append}
use Rattle.std.proofs.lemmas.Fmt.{length-decimal-le}
use Rattle.std.proofs.lemmas.List.{get_or_past}
use Rattle.std.proofs.lemmas.Bool.{leb-true, ltb-true, ltb-false, and_parts}
use Rattle.sheets.specs.declared.line.Act.{Act}
use Rattle.sheets.specs.Programs.{Program, used_by, used_by_all, in_order, all_in_order, formed}
use Rattle.std.specs.List.{list_all}
use Rattle.sheets.specs.Words.{small}
use Rattle.sheets.specs.Reads.{Shake, Plan, shake, tokens, Sheet}
use Rattle.sheets.specs.Rendered.{spaced, render_shake, render_act, render_acts, render_lines, render_program, render_plan, render, Naming, NamesFor, HandshakeIsWithinLimits, PlanIsWithinLimits, IsWithinLimits}

-- ---- numbers
short-number : (high n : ℕ) → high ≤ 9999 → n ≤ high → length (decimal n) ≤ 4
short-number high n h k = length-decimal-le 4 n (omega arith) (omega arith) (omega arith)

spaced-length : (w rest : List ℕ) → length (spaced w rest) ≡ 1 + length w + length rest
spaced-length w rest = omega (arith, length-append w rest)

-- ---- names have at most eight letters
module _ (ns : List (List ℕ)) (n : ℕ) (nm : Naming ns n) where
  name-length : (k : ℕ) → length (get_or ns k []) ≤ 8
  name-length k = go (ltb k n) refl
    where
      go : (t : Bool) → ltb k n ≡ t → length (get_or ns k []) ≤ 8
      go true e =
          let p = and_parts (leb 1 (length (get_or ns k []))) (leb (length (get_or ns k [])) 8 && list_all small (get_or ns k [])) (nm.each k (ltb-true k n e)) in
          let q = and_parts (leb (length (get_or ns k [])) 8) (list_all small (get_or ns k [])) p.1 in
          leb-true _ _ q.0
      go false e =
          let l = ltb-false k n e in
          let c = nm.count in
          let z : get_or ns k [] ≡ [] = get_or_past ns k [] (omega arith) in
          omega (arith, ap length z)

  acts-length : (js : List Act) (rest : List ℕ) → length (render_acts ns js rest) ≤ 10 * length js + 1 + length rest
  acts-length [] rest = omega arith
  acts-length (a ∷ js) rest =
      omega (arith, spaced-length (render_act ns a) (render_acts ns js rest), acts-length js rest, name-length a.token)

  lines-length : (k : ℕ) (ls : List (List Act)) (rest : List ℕ) → all_in_order k ls ≡ true → length (render_lines ns ls rest) ≤ 86 * length ls + length rest
  lines-length k [] rest h = omega arith
  lines-length k (js ∷ ls) rest h =
      let o = and_parts (leb 1 (length js) && leb (length js) 8) (in_order k js && all_in_order (used_by k js) ls) h in
      let o1 = and_parts (leb 1 (length js)) (leb (length js) 8) o.0 in
      let o2 = and_parts (in_order k js) (all_in_order (used_by k js) ls) o.1 in
      let few : length js ≤ 8 = leb-true (length js) 8 o1.1 in
      omega (arith, length-append (codes "agent") (render_acts ns js (render_lines ns ls rest)), acts-length js (render_lines ns ls rest), lines-length (used_by k js) ls rest o2.1)

  program-length : (p : Program) (rest : List ℕ) → formed p ≡ true → length (render_program ns p rest) ≤ 400 + length rest
  program-length p rest h =
      let m : ℕ = used_by_all 0 p.lines in
      let tail : List ℕ = spaced (get_or ns p.breach []) (10 ∷ rest) in
      let o1 = and_parts (leb 1 (length p.lines) && leb (length p.lines) 4) (all_in_order 0 p.lines && (leb m 16 && ltb p.breach m)) h in
      let o2 = and_parts (leb 1 (length p.lines)) (leb (length p.lines) 4) o1.0 in
      let o3 = and_parts (all_in_order 0 p.lines) (leb m 16 && ltb p.breach m) o1.1 in
      let few : length p.lines ≤ 4 = leb-true (length p.lines) 4 o2.1 in
      omega (arith, lines-length 0 p.lines (codes "breach" ++ tail) o3.0, length-append (codes "breach") tail, spaced-length (get_or ns p.breach []) (10 ∷ rest), name-length p.breach)

lowe-length : (l : Bool) → length (cond l (codes "lowe") (codes "original")) ≤ 8
lowe-length true = omega arith
lowe-length false = omega arith

shake-length : (s : Shake) (rest : List ℕ) → HandshakeIsWithinLimits s → length (render_shake s rest) ≤ 40 + length rest
shake-length s rest h =
    let w1 : List ℕ = spaced (cond s.lowe (codes "lowe") (codes "original")) (10 ∷ rest) in
    let w2 : List ℕ = spaced (decimal s.capacity) w1 in
    let w3 : List ℕ = spaced (decimal s.responders) w2 in
    omega (
      arith,
      spaced-length (decimal s.initiators) w3,
      spaced-length (decimal s.responders) w2,
      spaced-length (decimal s.capacity) w1,
      spaced-length (cond s.lowe (codes "lowe") (codes "original")) (10 ∷ rest),
      lowe-length s.lowe,
      short-number 3 s.initiators (omega arith) h.0.1,
      short-number 3 s.responders (omega arith) h.1.1,
      short-number 4 s.capacity (omega arith) h.2.1,
    )

plan-length : (a : Plan) (ns : List (List ℕ)) → PlanIsWithinLimits a → NamesFor a ns → length (render_plan a ns []) ≤ 420
plan-length (shake s) ns h k = omega (arith, length-append (codes "handshake") (render_shake s []), shake-length s [] h)
plan-length (tokens p) ns h k = omega (arith, length-append (codes "tokens") (render_program ns p []), program-length ns (used_by_all 0 p.lines) k p [] h)

pub text-short : (d : Sheet) (ns : List (List ℕ)) → IsWithinLimits d → NamesFor d.plan ns → length (render d ns) ≤ 2048
text-short d ns h k =
    let rest : List ℕ = 10 ∷ render_plan d.plan ns [] in
    omega (arith, length-append (codes "docket") (spaced (decimal d.number) rest), spaced-length (decimal d.number) rest, short-number 9999 d.number (omega arith) h.0.1, plan-length d.plan ns h.1 k)
