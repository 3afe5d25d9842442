-- The lines of a token store: what is written is read. Assumes nothing.
use Rattle.std.proofs.Common.{◌≡◌, ℕ, zero, suc, ◌+◌, ◌<◌, ◌≤◌, max, Bool, true, false, cond, ◌&&◌, ltb, leb, ◌⊎◌, List, [], ◌∷◌, ◌++◌, length, get_or, take, drop, Some, None, Ok, codes, sym, refl, ap, ◌∙◌, subst, inl, inr, ⊎_elim, append_assoc, append-nil, arith, length-append, length-drop}
use Rattle.std.specs.Str.{bytes_eq}
use Rattle.std.proofs.lemmas.Slice.Eq.{bytes_eq-Decides}
use Rattle.std.proofs.lemmas.List.{drop_more, get_or-take, take_more, take_all, length-take-le}
use Rattle.std.proofs.lemmas.Bool.{cond-true, cond-false, leb-true, ltb-true, ltb-false, lt-ltb, lt-leb, le-leb, eq-eqb, ne_eqb, and_parts, and_from, and_left, and_right}
use Rattle.std.proofs.lemmas.Bool.Decides.{nat_tests}
use Rattle.sheets.specs.declared.line.Act.{Act}
use Rattle.sheets.specs.Programs.{Program, sign, used, used_by, used_by_all, in_order, all_in_order, formed}
use Rattle.std.specs.List.{list_all}
use Rattle.sheets.specs.Words.{solid, small, digit, is_name, is_number, is_instruction, is_keyword, run_at, keyword, instruction, name, kind_of}
use Rattle.sheets.specs.Names.{index_of, with_name}
use Rattle.sheets.specs.Reads.{Got, and_then, separator_at, Sofar, sofar, with_act, act_in, act_at, acts_at, space_at, Listed, listed, head_in, head_at, agent_at, agents_at, used_in, token_in, token_at, breach_at, program_at}
use Rattle.sheets.specs.Rendered.{spaced, render_act, render_acts, render_lines, render_program, Naming}
use Rattle.sheets.proofs.Parts.{Blank, Done, done-then, sep-done, word-done}

-- ---- names are words
solid-small : (c : ℕ) → small c ≡ true → solid c ≡ true
solid-small c h =
    let p = and_parts (leb 97 c) (leb c 122) h in
    let low = leb-true 97 c p.0 in
    grind (arith, nat_tests)

solid-letters : (t : List ℕ) → list_all small t ≡ true → list_all solid t ≡ true
solid-letters [] h = refl
solid-letters (c ∷ t) h = let p = and_parts (small c) (list_all small t) h in and_from _ _ (solid-small c p.0) (solid-letters t p.1)

pub solid-name : (w : List ℕ) → is_name w ≡ true → list_all solid w ≡ true
solid-name w h =
    let p = and_parts (leb 1 (length w)) (leb (length w) 8 && list_all small w) h in
    let q = and_parts (leb (length w) 8) (list_all small w) p.1 in
    solid-letters w q.1

solid-sign : (g : ℕ) → sign g ≡ true → solid g ≡ true
solid-sign g h = grind (arith, nat_tests)

-- a sign and a name are an instruction
kind-act : (g : ℕ) (w : List ℕ) → sign g ≡ true → is_name w ≡ true → kind_of (g ∷ w) ≡ Some (instruction (g ∷ w))
kind-act g w h k = cond-false _ _ _ (not-number g w h) ∙ cond-true _ _ _ (and_from _ _ h k)
  where
    digits : (g : ℕ) (w : List ℕ) → (leb 48 g && leb g 57) ≡ false → is_number (g ∷ w) ≡ false
    digits g w e = and_right (leb 1 (length (g ∷ w))) _ (and_left (list_all digit (g ∷ w)) _ (and_left (digit g) _ e))

    not-number : (g : ℕ) (w : List ℕ) → sign g ≡ true → is_number (g ∷ w) ≡ false
    not-number g w h = digits g w (grind (arith, nat_tests))

-- a name is no number and no instruction: it is a name, or a keyword's letters
small-apart : (c : ℕ) → small c ≡ true → (digit c ≡ false) × (sign c ≡ false)
small-apart c h =
    let p = and_parts (leb 97 c) (leb c 122) h in
    let low = leb-true 97 c p.0 in
    (grind (arith, nat_tests), grind (arith, nat_tests))

pub kind-name : (w : List ℕ) → is_name w ≡ true → (kind_of w ≡ Some (keyword w)) ⊎ (kind_of w ≡ Some (name w))
kind-name [] h = absurd (let z : ◌≡◌ {A = ℕ} 0 1 = cc in omega arith)
kind-name (c ∷ w) h =
    let p = and_parts (leb 1 (length (c ∷ w))) (leb (length (c ∷ w)) 8 && list_all small (c ∷ w)) h in
    let q = and_parts (leb (length (c ∷ w)) 8) (list_all small (c ∷ w)) p.1 in
    let r = and_parts (small c) (list_all small w) q.1 in
    let a = small-apart c r.0 in
    let n : is_number (c ∷ w) ≡ false = and_right (leb 1 (length (c ∷ w))) _ (and_left (list_all digit (c ∷ w)) _ (and_left (digit c) _ a.0)) in
    let i : is_instruction (c ∷ w) ≡ false = and_left (sign c) (is_name w) a.1 in
    let k : kind_of (c ∷ w) ≡ cond (is_keyword (c ∷ w)) (Some (keyword (c ∷ w))) (cond (is_name (c ∷ w)) (Some (name (c ∷ w))) None) = cond-false _ _ _ n ∙ cond-false _ _ _ i in
    go (is_keyword (c ∷ w)) (is_name (c ∷ w)) h k
  where
    go : (s t : Bool) → t ≡ true → kind_of (c ∷ w) ≡ cond s (Some (keyword (c ∷ w))) (cond t (Some (name (c ∷ w))) None) → (kind_of (c ∷ w) ≡ Some (keyword (c ∷ w))) ⊎ (kind_of (c ∷ w) ≡ Some (name (c ∷ w)))
    go true t e k = inl k
    go false t e k = inr (k ∙ cond-true t _ _ e)

-- ---- where a name stands
not_same : (u w : List ℕ) → (u ≡ w → ⊥) → bytes_eq u w ≡ false
not_same u w h = go (bytes_eq u w) refl
  where
    go : (t : Bool) → bytes_eq u w ≡ t → t ≡ false
    go true e = absurd (h ((bytes_eq-Decides u w).0 e))
    go false e = refl

pub index-of : (ns : List (List ℕ)) (w : List ℕ) (k : ℕ) → k ≤ length ns → ((i : ℕ) → i < k → get_or ns i [] ≡ w → ⊥) → (k < length ns → get_or ns k [] ≡ w) → index_of ns w ≡ k
index-of [] w k h before here = omega arith
index-of (n ∷ ns) w zero h before here = cond-true (bytes_eq n w) _ _ ((bytes_eq-Decides n w).1 (here (omega arith)))
index-of (n ∷ ns) w (suc k) h before here =
    cond-false (bytes_eq n w) _ _ (not_same n w (before 0 (omega arith)))
    ∙ omega (arith, index-of ns w k (omega arith) (λ i l. before (suc i) (omega arith)) (λ l. here (omega arith)))

-- the names fs, of which the first n are there: token t is one of them or the next
module _ (fs : List (List ℕ)) (nm : Naming fs (length fs)) (n t : ℕ) (front : n ≤ length fs) (order : t ≤ n) (inside : t < length fs) where
  long : length (take n fs) ≡ n
  long = length-take-le n fs front

  pub token-index : index_of (take n fs) (get_or fs t []) ≡ t
  token-index = index-of (take n fs) (get_or fs t []) t (omega (arith, long))
      (λ i l e. let b : i < n = omega arith in nm.apart i t l inside (sym (get_or-take n fs i [] b) ∙ e))
      (λ l. let b : t < n = omega (arith, long) in get_or-take n fs t [] b)

  pub token-names : with_name (take n fs) (get_or fs t []) ≡ take (max n (t + 1)) fs
  token-names = go (ltb t n) refl
    where
      is : ltb (index_of (take n fs) (get_or fs t [])) (length (take n fs)) ≡ ltb t n
      is = λ i. ltb (token-index i) (long i)

      go : (s : Bool) → ltb t n ≡ s → with_name (take n fs) (get_or fs t []) ≡ take (max n (t + 1)) fs
      go true e = let l = ltb-true t n e in let m : n ≡ max n (t + 1) = omega arith in cond-true _ _ _ (is ∙ e) ∙ ap (λ k. take k fs) m
      go false e =
          let l = ltb-false t n e in
          let m : t ≡ n = omega arith in
          let k : n + 1 ≡ max n (t + 1) = omega arith in
          cond-false _ _ _ (is ∙ e) ∙ ap (λ j. take n fs ++ (get_or fs j [] ∷ [])) m ∙ sym (take_more fs n [] (omega arith)) ∙ ap (λ j. take j fs) k

-- ---- an instruction
pub act-done : (s : Sofar) (g : ℕ) (w : List ℕ) (b : List ℕ) (at : ℕ) (rest : List ℕ) → sign g ≡ true → is_name w ≡ true → length s.acts < 8 → index_of s.names w < 16 → Blank rest → drop at b ≡ (g ∷ w) ++ rest
    → Done (act_at s b at) (with_act s (g ∷ w)) b rest
act-done s g w b at rest h k few room blank e =
    let t = word-done b at (g ∷ w) rest (and_from _ _ (solid-sign g h) (solid-name w k)) blank e in
    (at + run_at b at, ap (act_in s b at) (t.0 ∙ kind-act g w h k) ∙ cond-false _ _ _ (lt-leb 8 _ few) ∙ cond-false _ _ _ (lt-leb 16 _ room), t.1)

-- more tokens never make fewer
pub used_by-ge : (n : ℕ) (js : List Act) → n ≤ used_by n js
used_by-ge n [] = omega arith
used_by-ge n (a ∷ js) = omega (arith, used_by-ge (used n a) js)

pub used_by_all-ge : (n : ℕ) (ls : List (List Act)) → n ≤ used_by_all n ls
used_by_all-ge n [] = omega arith
used_by_all-ge n (js ∷ ls) = omega (arith, used_by-ge n js, used_by_all-ge (used_by n js) ls)

space-yes : (b : List ℕ) (at : ℕ) (rest : List ℕ) → drop at b ≡ 32 ∷ rest → (space_at b at ≡ true) × (drop (at + 1) b ≡ rest)
space-yes b at rest e =
    let long : at < length b = omega (arith, ap length e, length-drop at b) in
    let both : 32 ∷ rest ≡ get_or b at 0 ∷ drop (at + 1) b = sym e ∙ drop_more b at 0 long in
    let first : get_or b at 0 ≡ 32 = cc in
    (and_from _ _ (lt-ltb at (length b) long) (eq-eqb _ _ first), let after : drop (at + 1) b ≡ rest = cc in after)

space-no : (b : List ℕ) (at : ℕ) (rest : List ℕ) → drop at b ≡ 10 ∷ rest → space_at b at ≡ false
space-no b at rest e =
    let long : at < length b = omega (arith, ap length e, length-drop at b) in
    let both : 10 ∷ rest ≡ get_or b at 0 ∷ drop (at + 1) b = sym e ∙ drop_more b at 0 long in
    let first : get_or b at 0 ≡ 10 = cc in
    and_right (ltb at (length b)) _ (ne_eqb (get_or b at 0) 32 (λ f. omega arith))

abbrev after_act : ℕ → List ℕ → Sofar → ℕ → Got Sofar
after_act m b t p = cond (space_at b p) (acts_at m t b (p + 1)) (and_then (separator_at 10 b p) (λ _ q. Ok (t, q)))

acts-open : (m : ℕ) (s x : Sofar) (b : List ℕ) (at : ℕ) (rest : List ℕ) → Done (and_then (act_at s b at) (after_act m b)) x b rest → Done (acts_at (suc m) s b at) x b rest
unfolding acts_at
acts-open m s x b at rest d = d

module _ (fs : List (List ℕ)) (nm : Naming fs (length fs)) (few : length fs ≤ 16) (b : List ℕ) where
  -- the first instruction of some, and what follows it
  module _ (n : ℕ) (a : Act) (ks js : List Act) (order : in_order n (a ∷ ks) ≡ true) (front : n ≤ length fs) (inside : used_by n (a ∷ ks) ≤ length fs) (room : length js < 8) where
    parts : (sign a.sign ≡ true) × ((leb a.token n && in_order (used n a) ks) ≡ true)
    parts = and_parts (sign a.sign) (leb a.token n && in_order (used n a) ks) order

    more : (leb a.token n ≡ true) × (in_order (used n a) ks ≡ true)
    more = and_parts (leb a.token n) (in_order (used n a) ks) parts.1

    pub rest-order : in_order (used n a) ks ≡ true
    rest-order = more.1

    pub next-front : used n a ≤ length fs
    next-front = omega (arith, used_by-ge (used n a) ks)

    token-le : a.token ≤ n
    token-le = leb-true a.token n more.0

    token-in : a.token < length fs
    token-in = omega (arith, next-front)

    token-is : index_of (take n fs) (get_or fs a.token []) ≡ a.token
    token-is = token-index fs nm n a.token front token-le token-in

    act-is : with_act (sofar (take n fs) js) (render_act fs a) ≡ sofar (take (used n a) fs) (js ++ (a ∷ []))
    act-is = λ i. sofar (token-names fs nm n a.token front token-le token-in i) (js ++ (record { sign = a.sign; token = token-is i } ∷ []))

    pub first_done : (at : ℕ) (rest : List ℕ) → Blank rest → drop at b ≡ render_act fs a ++ rest → Done (act_at (sofar (take n fs) js) b at) (sofar (take (used n a) fs) (js ++ (a ∷ []))) b rest
    first_done at rest blank e =
        let below = token-in in
        subst (λ x. Done (act_at (sofar (take n fs) js) b at) x b rest) act-is
        (act-done (sofar (take n fs) js) a.sign (get_or fs a.token []) b at rest parts.0 (nm.each a.token token-in) room (omega (arith, token-is, few)) blank e)

  pub acts-done : (left : ℕ) (ks : List Act) (n : ℕ) (a : Act) (js : List Act) (at : ℕ) (rest : List ℕ) → in_order n (a ∷ ks) ≡ true → n ≤ length fs → used_by n (a ∷ ks) ≤ length fs
      → length js + length ks < 8 → length ks < left → drop at b ≡ render_act fs a ++ render_acts fs ks rest
      → Done (acts_at left (sofar (take n fs) js) b at) (sofar (take (used_by n (a ∷ ks)) fs) (js ++ (a ∷ ks))) b rest
  acts-done zero ks n a js at rest order front inside room less e = absurd (omega arith)
  acts-done (suc left) [] n a js at rest order front inside room less e =
      let x : Sofar = sofar (take (used n a) fs) (js ++ (a ∷ [])) in
      acts-open left (sofar (take n fs) js) x b at rest
      (done-then (act_at (sofar (take n fs) js) b at) (after_act left b) x x b (10 ∷ rest) rest (first_done n a [] js order front inside (omega arith) at (10 ∷ rest) refl e)
      (λ p f. let d = done-then (separator_at 10 b p) (λ _ q. Ok (x, q)) tt x b rest rest (sep-done 10 b p rest f) (λ q g. (q, refl, g)) in
      (d.0, cond-false _ _ _ (space-no b p rest f) ∙ d.1, d.2)))
  acts-done (suc left) (k ∷ ks) n a js at rest order front inside room less e =
      let y : Sofar = sofar (take (used n a) fs) (js ++ (a ∷ [])) in
      let x : Sofar = sofar (take (used_by n (a ∷ (k ∷ ks))) fs) (js ++ (a ∷ (k ∷ ks))) in
      let long : length (js ++ (a ∷ [])) ≡ length js + 1 = length-append js (a ∷ []) in
      acts-open left (sofar (take n fs) js) x b at rest
      (done-then (act_at (sofar (take n fs) js) b at) (after_act left b) y x b (render_acts fs (k ∷ ks) rest) rest
      (first_done n a (k ∷ ks) js order front inside (omega arith) at (render_acts fs (k ∷ ks) rest) refl e)
      (λ p f.
      let s = space-yes b p (render_act fs k ++ render_acts fs ks rest) f in
      let d = acts-done left ks (used n a) k (js ++ (a ∷ [])) (p + 1) rest (rest-order n a (k ∷ ks) js order front inside (omega arith)) (next-front n a (k ∷ ks) js order front inside (omega arith)) inside (omega arith) (omega arith) s.1 in
      (d.0, cond-true _ _ _ s.0 ∙ d.1 ∙ ap (λ l. Ok (sofar (take (used_by n (a ∷ (k ∷ ks))) fs) l, d.0)) (append_assoc js (a ∷ []) (k ∷ ks)), d.2)))

  -- ---- the agents' lines
  pub agent-done : (ks : List Act) (n : ℕ) (a : Act) (ls : List (List Act)) (at : ℕ) (rest : List ℕ) → in_order n (a ∷ ks) ≡ true → n ≤ length fs → used_by n (a ∷ ks) ≤ length fs → length ks < 8
      → drop at b ≡ render_acts fs (a ∷ ks) rest → Done (agent_at (listed (take n fs) ls) b at) (listed (take (used_by n (a ∷ ks)) fs) (ls ++ ((a ∷ ks) ∷ []))) b rest
  agent-done ks n a ls at rest order front inside room e =
      let y : Sofar = sofar (take (used_by n (a ∷ ks)) fs) (a ∷ ks) in
      let x : Listed = listed (take (used_by n (a ∷ ks)) fs) (ls ++ ((a ∷ ks) ∷ [])) in
      done-then (separator_at 32 b at) (λ _ p. and_then (acts_at 9 (sofar (take n fs) []) b p) (λ t q. Ok (listed t.names (ls ++ (t.acts ∷ [])), q))) tt x b (render_act fs a ++ render_acts fs ks rest) rest
      (sep-done 32 b at (render_act fs a ++ render_acts fs ks rest) e)
      (λ p f. done-then (acts_at 9 (sofar (take n fs) []) b p) (λ t q. Ok (listed t.names (ls ++ (t.acts ∷ [])), q)) y x b rest rest
      (acts-done 9 ks n a [] p rest order front inside (omega arith) (omega arith) f) (λ q g. (q, refl, g)))

  head-agent-done : (n at : ℕ) (rest : List ℕ) → n < 4 → Blank rest → drop at b ≡ codes "agent" ++ rest → Done (head_at n b at) true b rest
  head-agent-done n at rest h k e =
      let t = word-done b at (codes "agent") rest refl k e in
      (at + run_at b at, ap (head_in n b at) t.0 ∙ cond-false _ _ _ (lt-leb 4 n h), t.1)

  head-breach-done : (n at : ℕ) (rest : List ℕ) → 1 ≤ n → Blank rest → drop at b ≡ codes "breach" ++ rest → Done (head_at n b at) false b rest
  head-breach-done n at rest h k e =
      let t = word-done b at (codes "breach") rest refl k e in
      (at + run_at b at, ap (head_in n b at) t.0 ∙ cond-true _ _ _ (le-leb 1 n h), t.1)

  abbrev after_head : ℕ → Listed → Bool → ℕ → Got Listed
  after_head m s agent p = cond agent (and_then (agent_at s b p) (λ t q. agents_at m t b q)) (Ok (s, p))

  agents-open : (m : ℕ) (s x : Listed) (at : ℕ) (rest : List ℕ) → Done (and_then (head_at (length s.lines) b at) (after_head m s)) x b rest → Done (agents_at (suc m) s b at) x b rest
  unfolding agents_at
  agents-open m s x at rest d = d

  pub agents-done : (left : ℕ) (ls : List (List Act)) (n : ℕ) (ms : List (List Act)) (at : ℕ) (rest : List ℕ) → all_in_order n ls ≡ true → n ≤ length fs → used_by_all n ls ≤ length fs
      → 1 ≤ length ms + length ls → length ms + length ls ≤ 4 → length ls < left → Blank rest → drop at b ≡ render_lines fs ls (codes "breach" ++ rest)
      → Done (agents_at left (listed (take n fs) ms) b at) (listed (take (used_by_all n ls) fs) (ms ++ ls)) b rest
  agents-done zero ls n ms at rest order front inside some room less blank e = absurd (omega arith)
  agents-done (suc left) [] n ms at rest order front inside some room less blank e =
      let s : Listed = listed (take n fs) ms in
      let d = done-then (head_at (length ms) b at) (after_head left s) false s b rest rest (head-breach-done (length ms) at rest (omega arith) blank e) (λ p f. (p, refl, f)) in
      let x : Listed = listed (take n fs) (ms ++ []) in
      agents-open left s x at rest (subst (λ l. Done (and_then (head_at (length ms) b at) (after_head left s)) (listed (take n fs) l) b rest) (sym (append-nil ms)) d)
  agents-done (suc left) ([] ∷ ls) n ms at rest order front inside some room less blank e = absurd (let z : ◌≡◌ {A = ℕ} 0 1 = cc in omega arith)
  agents-done (suc left) ((a ∷ ks) ∷ ls) n ms at rest order front inside some room less blank e =
      let s : Listed = listed (take n fs) ms in
      let y : Listed = listed (take (used_by n (a ∷ ks)) fs) (ms ++ ((a ∷ ks) ∷ [])) in
      let x : Listed = listed (take (used_by_all n ((a ∷ ks) ∷ ls)) fs) (ms ++ ((a ∷ ks) ∷ ls)) in
      let o = and_parts (leb 1 (length (a ∷ ks)) && leb (length (a ∷ ks)) 8) (in_order n (a ∷ ks) && all_in_order (used_by n (a ∷ ks)) ls) order in
      let o1 = and_parts (leb 1 (length (a ∷ ks))) (leb (length (a ∷ ks)) 8) o.0 in
      let o2 = and_parts (in_order n (a ∷ ks)) (all_in_order (used_by n (a ∷ ks)) ls) o.1 in
      let short : length (a ∷ ks) ≤ 8 = leb-true (length (a ∷ ks)) 8 o1.1 in
      let next : used_by n (a ∷ ks) ≤ length fs = omega (arith, used_by_all-ge (used_by n (a ∷ ks)) ls) in
      let long : length (ms ++ ((a ∷ ks) ∷ [])) ≡ length ms + 1 = length-append ms ((a ∷ ks) ∷ []) in
      let tail : List ℕ = render_lines fs ls (codes "breach" ++ rest) in
      agents-open left s x at rest
      (done-then (head_at (length ms) b at) (after_head left s) true x b (render_acts fs (a ∷ ks) tail) rest (head-agent-done (length ms) at (render_acts fs (a ∷ ks) tail) (omega arith) refl e)
      (λ p f. done-then (agent_at s b p) (λ t q. agents_at left t b q) y x b tail rest (agent-done ks n a ms p tail o2.0 front next (omega arith) f)
      (λ q g.
      let d = agents-done left ls (used_by n (a ∷ ks)) (ms ++ ((a ∷ ks) ∷ [])) q rest o2.1 next inside (omega arith) (omega arith) (omega arith) blank g in
      (d.0, d.1 ∙ ap (λ l. Ok (listed (take (used_by_all n ((a ∷ ks) ∷ ls)) fs) l, d.0)) (append_assoc ms ((a ∷ ks) ∷ []) ls), d.2))))

  -- ---- the breach line
  pub token-done : (k at : ℕ) (rest : List ℕ) → k < length fs → Blank rest → drop at b ≡ get_or fs k [] ++ rest → Done (token_at fs b at) k b rest
  token-done k at rest h blank e =
      let w : List ℕ = get_or fs k [] in
      let is = nm.each k h in
      let t = word-done b at w rest (solid-name w is) blank e in
      let all : take (length fs) fs ≡ fs = take_all (length fs) fs (omega arith) in
      let found : index_of fs w ≡ k = ap (λ l. index_of l w) (sym all) ∙ token-index fs nm (length fs) k (omega arith) (omega arith) h in
      let there : used_in fs w b at ≡ Ok (k, at + run_at b at) = cond-false _ _ _ (lt-leb (length fs) (index_of fs w) (omega (arith, found))) ∙ ap (λ j. Ok (j, at + run_at b at)) found in
      (at + run_at b at, ⊎_elim (λ q. ap (token_in fs b at) (t.0 ∙ q) ∙ there) (λ q. ap (token_in fs b at) (t.0 ∙ q) ∙ there) (kind-name w is), t.1)

  pub breach-done : (k at : ℕ) (rest : List ℕ) → k < length fs → drop at b ≡ spaced (get_or fs k []) (10 ∷ rest) → Done (breach_at fs b at) k b rest
  breach-done k at rest h e =
      done-then (separator_at 32 b at) (λ _ p. and_then (token_at fs b p) (λ j q. and_then (separator_at 10 b q) (λ _ r. Ok (j, r)))) tt k b (get_or fs k [] ++ (10 ∷ rest)) rest (sep-done 32 b at (get_or fs k [] ++ (10 ∷ rest)) e)
      (λ p f. done-then (token_at fs b p) (λ j q. and_then (separator_at 10 b q) (λ _ r. Ok (j, r))) k k b (10 ∷ rest) rest (token-done k p (10 ∷ rest) h refl f)
      (λ q g. done-then (separator_at 10 b q) (λ _ r. Ok (k, r)) tt k b rest rest (sep-done 10 b q rest g) (λ r i. (r, refl, i))))

-- ---- the program
pub program-done : (p : Program) (ns : List (List ℕ)) (b : List ℕ) (at : ℕ) (rest : List ℕ) → formed p ≡ true → Naming ns (used_by_all 0 p.lines) → drop at b ≡ render_program ns p rest → Done (program_at b at) (p, ns) b rest
program-done p ns b at rest well nm e =
    let n : ℕ = used_by_all 0 p.lines in
    let o1 = and_parts (leb 1 (length p.lines) && leb (length p.lines) 4) (all_in_order 0 p.lines && (leb n 16 && ltb p.breach n)) well in
    let o2 = and_parts (leb 1 (length p.lines)) (leb (length p.lines) 4) o1.0 in
    let o3 = and_parts (all_in_order 0 p.lines) (leb n 16 && ltb p.breach n) o1.1 in
    let o4 = and_parts (leb n 16) (ltb p.breach n) o3.1 in
    let some = leb-true 1 (length p.lines) o2.0 in
    let few = leb-true (length p.lines) 4 o2.1 in
    let small = leb-true n 16 o4.0 in
    let below = ltb-true p.breach n o4.1 in
    let count : length ns ≡ n = nm.count in
    let own : Naming ns (length ns) = subst (Naming ns) (sym count) nm in
    let all : take n ns ≡ ns = take_all n ns (omega arith) in
    let s : Listed = listed ns p.lines in
    let tail : List ℕ = spaced (get_or ns p.breach []) (10 ∷ rest) in
    let d = λ (q : ℕ) (f : drop q b ≡ render_lines ns p.lines (codes "breach" ++ tail)).
    agents-done ns own (omega arith) b 5 p.lines 0 [] q tail o3.0 (omega arith) (omega arith) (omega arith) (omega arith) (omega arith) refl f in
    done-then (separator_at 10 b at) (λ _ q. and_then (agents_at 5 (listed [] []) b q) (λ s r. and_then (breach_at s.names b r) (λ k t. Ok ((record { lines = s.lines; breach = k }, s.names), t)))) tt (p, ns) b
    (render_lines ns p.lines (codes "breach" ++ tail)) rest (sep-done 10 b at (render_lines ns p.lines (codes "breach" ++ tail)) e)
    (λ q f. done-then (agents_at 5 (listed [] []) b q) (λ s r. and_then (breach_at s.names b r) (λ k t. Ok ((record { lines = s.lines; breach = k }, s.names), t))) s (p, ns) b tail rest
    (subst (λ l. Done (agents_at 5 (listed [] []) b q) (listed l p.lines) b tail) all (d q f))
    (λ r g. done-then (breach_at ns b r) (λ k t. Ok ((record { lines = p.lines; breach = k }, ns), t)) p.breach (p, ns) b rest rest (breach-done ns own (omega arith) b p.breach r rest (omega arith) g)
    (λ t h. (t, refl, h))))
