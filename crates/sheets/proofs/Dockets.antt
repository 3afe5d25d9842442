-- Every docket has a text: its tokens can be named by single letters. Assumes nothing.
use Rattle.std.proofs.Common.{◌≡◌, ℕ, zero, suc, ◌+◌, ◌<◌, ◌≤◌, true, ◌&&◌, ltb, leb, List, [], ◌∷◌, length, get_or, sym, refl, ap, ◌∙◌, arith}
use Rattle.std.proofs.lemmas.Bool.{and_parts, and_from, le-leb, leb-true}
use Rattle.sheets.specs.declared.arrangement.Arrangement.{Arrangement}
use Rattle.sheets.specs.declared.arrangement.Arrangement.TheVariants.{Handshake, Tokens}
use Rattle.sheets.specs.Programs.{Program, all_in_order, used_by_all, formed}
use Rattle.sheets.specs.Words.{small, is_name}
use Rattle.sheets.specs.Reads.{plan_of, sheet_of, program_of}
use Rattle.sheets.specs.Rendered.{Naming, NamesFor, PlanIsWithinLimits, EveryDocketHasAText, render}

-- n names of one letter, from the letter c on
letters : ℕ → ℕ → List (List ℕ)
letters c zero = []
letters c (suc n) = (c ∷ []) ∷ letters (c + 1) n

letter-at : (c n k : ℕ) → k < n → get_or (letters c n) k [] ≡ (c + k) ∷ []
unfolding letters
letter-at c zero k h = absurd (omega arith)
letter-at c (suc n) zero h = let e : c ≡ c + 0 = omega arith in ap (λ x. x ∷ []) e
letter-at c (suc n) (suc k) h = let e : c + 1 + k ≡ c + suc k = omega arith in letter-at (c + 1) n k (omega arith) ∙ ap (λ x. x ∷ []) e

letters-length : (c n : ℕ) → length (letters c n) ≡ n
unfolding letters
letters-length c zero = refl
letters-length c (suc n) = omega (arith, letters-length (c + 1) n)

one-letter : (c : ℕ) → 97 ≤ c → c ≤ 122 → is_name (c ∷ []) ≡ true
one-letter c h k = and_from (small c) true (and_from _ _ (le-leb 97 c h) (le-leb c 122 k)) refl

lettered : (n : ℕ) → n ≤ 16 → Naming (letters 97 n) n
lettered n h = record {
  count = letters-length 97 n;
  each = λ k l. ap is_name (letter-at 97 n k l) ∙ one-letter (97 + k) (omega arith) (omega arith);
  apart = λ i j l m e.
      let a : i < n = omega arith in
      let f : ◌≡◌ {A = List ℕ} ((97 + i) ∷ []) ((97 + j) ∷ []) = sym (letter-at 97 n i a) ∙ e ∙ letter-at 97 n j m in
      let g : 97 + i ≡ 97 + j = cc in
      omega arith;
}

tokens-few : (p : Program) → formed p ≡ true → used_by_all 0 p.lines ≤ 16
tokens-few p h =
    let n : ℕ = used_by_all 0 p.lines in
    let o1 = and_parts (leb 1 (length p.lines) && leb (length p.lines) 4) (all_in_order 0 p.lines && (leb n 16 && ltb p.breach n)) h in
    let o3 = and_parts (all_in_order 0 p.lines) (leb n 16 && ltb p.breach n) o1.1 in
    let o4 = and_parts (leb n 16) (ltb p.breach n) o3.1 in
    leb-true n 16 o4.0

named : (a : Arrangement) → (ns : List (List ℕ)) × PlanIsWithinLimits (plan_of a) × NamesFor (plan_of a) ns
named (Handshake h) = ([], ((h.some, h.few), (h.answering, h.few_answering), (h.room, h.small)), refl)
named (Tokens t) =
    let few = tokens-few (program_of t) t.formed in
    (letters 97 (used_by_all 0 (program_of t).lines), t.formed, lettered (used_by_all 0 (program_of t).lines) few)

pub every-docket-written : EveryDocketHasAText
every-docket-written d =
    let n = named d.arrangement in
    (render (sheet_of d) n.0, record { well = ((d.some, d.few), n.1); names = n.0; fit = n.2; text = refl })
