-- Each part of a sheet: what is read is what stands there, and what stands there is read.
use Rattle.std.proofs.Common.{◌≡◌, ℕ, ◌+◌, ◌^◌, ◌<◌, ◌≤◌, Bool, true, false, cond, not, ◌&&◌, ◌||◌, eqb, ltb, leb, List, [], ◌∷◌, ◌++◌, length, get_or, take, drop, Some, None, Ok, Err, decimal, Option, Result, sym, refl, ap, ◌∙◌, subst, arith, length-drop, take-append-drop, rules}
use Rattle.std.specs.List.{list_all, prefix_len}
use Rattle.std.specs.Str.{bytes_eq}
use Rattle.std.proofs.lemmas.List.{drop-drop, take_at, drop_at, drop_more, length-drop}
use Rattle.std.proofs.lemmas.Slice.Eq.{bytes_eq-Decides}
use Rattle.std.proofs.lemmas.Str.Parse.{IsNumeralModel, numerals_by_fold}
use Rattle.std.proofs.lemmas.Fmt.{decimal-digits_value, digits_decimal, digits_value-decimal, decimal_nonempty, first_decimal}
use Rattle.std.proofs.lemmas.Bool.{and_parts, and_from, or_left, le-leb, leb-true, ltb-true, lt-ltb, ne_eqb, eqb-true, eq-eqb, not_from_false, cond-true}
use Rattle.std.proofs.lemmas.Bool.Decides.{nat_tests}
use Rattle.sheets.specs.declared.fault.SheetFault.{SheetFault}
use Rattle.sheets.specs.declared.fault.SheetFault.TheVariants.{Misplaced, OutOfRange}
use Rattle.sheets.specs.Words.{solid, digit, run_at, text_at, within, read_on, is_number, is_instruction, is_keyword, is_name, Kind, keyword, number, instruction, name, kind_of}
use Rattle.sheets.specs.Reads.{Got, and_then, word_at, stop, separator_at, keyword_in, keyword_at, number_in, number_at}
use Rattle.sheets.specs.Rendered.{Between}

pub inj : {X : Type 0} {x y : X} → ◌≡◌ {A = Result X SheetFault} (Ok x) (Ok y) → x ≡ y
inj e = cc

pub no : {X A : Type 0} {f : SheetFault} {y : X} → ◌≡◌ {A = Result X SheetFault} (Err f) (Ok y) → A
no h = let q : ◌≡◌ {A = ℕ} 0 1 = cc in absurd (omega arith)

pub own : IsNumeralModel (λ ds. list_all digit ds ≡ true) (read_on 0)
own = numerals_by_fold _ (search rules) read_on (search rules)

-- the text at a place and what follows it
pub word_split : (b : List ℕ) (at : ℕ) → drop at b ≡ text_at b at ++ drop (at + run_at b at) b
word_split b at = sym (take-append-drop (run_at b at) (drop at b)) ∙ ap (λ l. text_at b at ++ l) (drop-drop (run_at b at) at b)

-- no word goes on there
abbrev pub Blank : List ℕ → Type 0
Blank rest = prefix_len solid rest ≡ 0

pub run_of : (w rest : List ℕ) → list_all solid w ≡ true → Blank rest → prefix_len solid (w ++ rest) ≡ length w
run_of [] rest h k = k
run_of (c ∷ w) rest h k =
    let parts = and_parts (solid c) (list_all solid w) h in
    cond-true (solid c) _ _ parts.0 ∙ omega (arith, run_of w rest parts.1 k)

pub text-of : (b : List ℕ) (at : ℕ) (w rest : List ℕ) → list_all solid w ≡ true → Blank rest → drop at b ≡ w ++ rest → (run_at b at ≡ length w) × (text_at b at ≡ w) × (drop (at + run_at b at) b ≡ rest)
text-of b at w rest h k e =
    let run : run_at b at ≡ length w = ap (prefix_len solid) e ∙ run_of w rest h k in (
      run,
      (λ i. take (run i) (e i)) ∙ take_at w rest (length w) refl,
      sym (drop-drop (run_at b at) at b) ∙ (λ i. drop (run i) (e i)) ∙ drop_at w rest (length w) refl,
    )

-- what a kind says of the text
abbrev pub Fits : Option Kind → List ℕ → Type 0
Fits None t = Unit {0}
Fits (Some (keyword u)) t = u ≡ t
Fits (Some (number u)) t = (u ≡ t) × (is_number t ≡ true)
Fits (Some (instruction u)) t = (u ≡ t) × (is_instruction t ≡ true)
Fits (Some (name u)) t = u ≡ t

pub kind_fits : (t : List ℕ) → Fits (kind_of t) t
kind_fits t = go (is_number t) (is_instruction t) (is_keyword t) (is_name t) refl refl
  where
    go : (p q r s : Bool) → is_number t ≡ p → is_instruction t ≡ q → Fits (cond p (Some (number t)) (cond q (Some (instruction t)) (cond r (Some (keyword t)) (cond s (Some (name t)) None)))) t
    go true q r s e f = (refl, e)
    go false true r s e f = (refl, f)
    go false false true s e f = refl
    go false false false true e f = refl
    go false false false false e f = tt

-- g read x, and what follows is rest
abbrev pub Done : {X : Type 0} → Got X → X → List ℕ → List ℕ → Type 0
Done g x b rest = (next : ℕ) × (g ≡ Ok (x, next)) × (drop next b ≡ rest)

pub done-then : {X Y : Type 0} (g : Got X) (f : X → ℕ → Got Y) (x : X) (y : Y) (b r s : List ℕ) → Done g x b r → ((p : ℕ) → drop p b ≡ r → Done (f x p) y b s) → Done (and_then g f) y b s
done-then g f x y b r s d k =
    let more = k d.0 d.2 in
    (more.0, ap (λ h. and_then h f) d.1 ∙ more.1, more.2)

-- what was read first, if two parts were read
pub parts_then : {X Y : Type 0} (g : Got X) (f : X → ℕ → Got Y) (z : Y × ℕ) → and_then g f ≡ Ok z → (p : X × ℕ) × (g ≡ Ok p) × (f p.0 p.1 ≡ Ok z)
parts_then (Ok p) f z e = (p, refl, e)
parts_then (Err e') f z e = no e

pub sep-done : (s : ℕ) (b : List ℕ) (at : ℕ) (rest : List ℕ) → drop at b ≡ s ∷ rest → Done (separator_at s b at) tt b rest
sep-done s b at rest e =
    let long : at < length b = omega (arith, ap length e, length-drop at b) in
    let both : s ∷ rest ≡ get_or b at 0 ∷ drop (at + 1) b = sym e ∙ drop_more b at 0 long in
    let first : get_or b at 0 ≡ s = cc in
    let after : drop (at + 1) b ≡ rest = cc in
    (at + 1, cond-true _ _ _ (and_from _ _ (lt-ltb at (length b) long) (eq-eqb _ _ first)), after)

pub sep-parts : (s : ℕ) (b : List ℕ) (at : ℕ) (z : Unit {0} × ℕ) → separator_at s b at ≡ Ok z → drop at b ≡ s ∷ drop z.1 b
sep-parts s b at z = go (ltb at (length b) && eqb (get_or b at 0) s) refl
  where
    go : (t : Bool) → (ltb at (length b) && eqb (get_or b at 0) s) ≡ t → cond t (Ok (tt, at + 1)) (Err (stop b at)) ≡ Ok z → drop at b ≡ s ∷ drop z.1 b
    go true e h =
        let ps = and_parts (ltb at (length b)) (eqb (get_or b at 0) s) e in
        let first = eqb-true (get_or b at 0) s ps.1 in
        let next : at + 1 ≡ z.1 = ap (λ w. w.1) (inj h) in
        drop_more b at 0 (ltb-true at (length b) ps.0) ∙ (λ i. first i ∷ drop (next i) b)
    go false e h = no h

pub word-done : (b : List ℕ) (at : ℕ) (w rest : List ℕ) → list_all solid w ≡ true → Blank rest → drop at b ≡ w ++ rest → (word_at b at ≡ kind_of w) × (drop (at + run_at b at) b ≡ rest)
word-done b at w rest h k e = let t = text-of b at w rest h k e in (ap kind_of t.1, t.2)

pub keyword-done : (w : List ℕ) (b : List ℕ) (at : ℕ) (rest : List ℕ) → list_all solid w ≡ true → kind_of w ≡ Some (keyword w) → Blank rest → drop at b ≡ w ++ rest → Done (keyword_at w b at) tt b rest
keyword-done w b at rest h is k e =
    let t = word-done b at w rest h k e in
    (at + run_at b at, ap (keyword_in w b at) (t.0 ∙ is) ∙ cond-true _ _ _ ((bytes_eq-Decides w w).1 refl), t.1)

pub keyword-parts : (w : List ℕ) (b : List ℕ) (at : ℕ) (z : Unit {0} × ℕ) → keyword_at w b at ≡ Ok z → drop at b ≡ w ++ drop z.1 b
keyword-parts w b at z e = go (word_at b at) (kind_fits (text_at b at)) e
  where
    hit : (u : List ℕ) (t : Bool) → bytes_eq u w ≡ t → u ≡ text_at b at → cond t (Ok (tt, at + run_at b at)) (Err (Misplaced at)) ≡ Ok z → drop at b ≡ w ++ drop z.1 b
    hit u true s f h =
        let same = (bytes_eq-Decides u w).0 s in
        let next : at + run_at b at ≡ z.1 = ap (λ v. v.1) (inj h) in
        word_split b at ∙ (λ i. (sym f ∙ same) i ++ drop (next i) b)
    hit u false s f h = no h

    go : (k : Option Kind) → Fits k (text_at b at) → keyword_in w b at k ≡ Ok z → drop at b ≡ w ++ drop z.1 b
    go None f h = no h
    go (Some (keyword u)) f h = hit u (bytes_eq u w) refl f h
    go (Some (number u)) f h = no h
    go (Some (instruction u)) f h = no h
    go (Some (name u)) f h = no h

solid-digit : (c : ℕ) → digit c ≡ true → solid c ≡ true
solid-digit c h =
    let p = and_parts (leb 48 c) (leb c 57) h in
    let low = leb-true 48 c p.0 in
    grind (arith, nat_tests)

pub solid-digits : (t : List ℕ) → list_all digit t ≡ true → list_all solid t ≡ true
solid-digits [] h = refl
solid-digits (c ∷ t) h = let p = and_parts (digit c) (list_all digit t) h in and_from _ _ (solid-digit c p.0) (solid-digits t p.1)

pub number-decimal : (n : ℕ) → 1 ≤ n → n ≤ 9999 → is_number (decimal n) ≡ true
number-decimal n h k =
    let small : n < 2 ^ 64 = omega arith in
    let first = first_decimal n (omega arith) small in
    and_from _ _ (le-leb 1 _ (omega (arith, decimal_nonempty n small)))
    (and_from _ _ (digits_decimal own n small) (or_left _ _ (not_from_false _ (ne_eqb (get_or (decimal n) 0 0) 48 (λ e. omega arith)))))

pub number-done : (low high n : ℕ) (b : List ℕ) (at : ℕ) (rest : List ℕ) → 1 ≤ low → high ≤ 9999 → Between low high n → Blank rest → drop at b ≡ decimal n ++ rest → Done (number_at low high b at) n b rest
number-done low high n b at rest h1 h2 h k e =
    let small : n < 2 ^ 64 = omega arith in
    let t = word-done b at (decimal n) rest (solid-digits (decimal n) (digits_decimal own n small)) k e in
    let is : kind_of (decimal n) ≡ Some (number (decimal n)) = cond-true _ _ _ (number-decimal n (omega arith) (omega arith)) in
    let v : read_on 0 (decimal n) ≡ n = digits_value-decimal own n small in
    let ok : within low high (read_on 0 (decimal n)) ≡ true = ap (within low high) v ∙ and_from _ _ (le-leb low n h.0) (le-leb n high h.1) in
    (at + run_at b at, ap (number_in low high b at) (t.0 ∙ is) ∙ cond-true _ _ _ ok ∙ ap (λ m. Ok (m, at + run_at b at)) v, t.1)

decimal-number : (t : List ℕ) → is_number t ≡ true → read_on 0 t ≤ 9999 → decimal (read_on 0 t) ≡ t
decimal-number t h small =
    let p = and_parts (leb 1 (length t)) _ h in
    let q = and_parts (list_all digit t) _ p.1 in
    let some = leb-true 1 (length t) p.0 in
    decimal-digits_value own t q.0 (omega arith) (λ z. one z q.1) (omega arith)
  where
    one : get_or t 0 0 ≡ 48 → (not (eqb (get_or t 0 0) 48) || eqb (length t) 1) ≡ true → length t ≡ 1
    one z e = eqb-true (length t) 1 (let w : eqb (get_or t 0 0) 48 ≡ true = eq-eqb _ _ z in rw w at e)

pub number-parts : (low high : ℕ) (b : List ℕ) (at : ℕ) (z : ℕ × ℕ) → high ≤ 9999 → number_at low high b at ≡ Ok z → Between low high z.0 × (drop at b ≡ decimal z.0 ++ drop z.1 b)
number-parts low high b at z few e = go (word_at b at) (kind_fits (text_at b at)) e
  where
    hit : (u : List ℕ) (t : Bool) → within low high (read_on 0 u) ≡ t → (u ≡ text_at b at) × (is_number (text_at b at) ≡ true) → cond t (Ok (read_on 0 u, at + run_at b at)) (Err (OutOfRange at)) ≡ Ok z → Between low high z.0 × (drop at b ≡ decimal z.0 ++ drop z.1 b)
    hit u true s f h =
        let p = and_parts (leb low (read_on 0 u)) (leb (read_on 0 u) high) s in
        let l = leb-true low _ p.0 in
        let m = leb-true _ high p.1 in
        let value : read_on 0 u ≡ z.0 = ap (λ v. v.0) (inj h) in
        let next : at + run_at b at ≡ z.1 = ap (λ v. v.1) (inj h) in
        let text : decimal (read_on 0 u) ≡ u = decimal-number u (subst (λ t. is_number t ≡ true) (sym f.0) f.1) (omega arith) in
        (subst (Between low high) value (l, m), word_split b at ∙ (λ i. (sym f.0 ∙ sym text ∙ ap decimal value) i ++ drop (next i) b))
    hit u false s f h = no h

    go : (k : Option Kind) → Fits k (text_at b at) → number_in low high b at k ≡ Ok z → Between low high z.0 × (drop at b ≡ decimal z.0 ++ drop z.1 b)
    go None f h = no h
    go (Some (keyword u)) f h = no h
    go (Some (number u)) f h = hit u (within low high (read_on 0 u)) refl f h
    go (Some (instruction u)) f h = no h
    go (Some (name u)) f h = no h
