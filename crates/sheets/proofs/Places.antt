-- A fault's place lies within the sheet. Assumes nothing.
use Rattle.std.proofs.Common.{◌≡◌, ℕ, zero, suc, ◌+◌, ◌<◌, ◌≤◌, Bool, true, false, cond, ◌&&◌, eqb, ltb, leb, List, [], length, get_or, take, drop, Some, None, Ok, Err, codes, Option, Result, sym, refl, ap, ◌∙◌, subst, arith, length-drop}
use Rattle.std.specs.Str.{bytes_eq}
use Rattle.std.proofs.lemmas.List.Sums.{prefix_len-le-length}
use Rattle.std.proofs.lemmas.Bool.{ltb-true, ltb-false, lt-ltb, and_parts, cond-true}
use Rattle.sheets.specs.declared.fault.SheetFault.{SheetFault}
use Rattle.sheets.specs.declared.fault.SheetFault.TheVariants.{TooLong, Misplaced, OutOfRange, Ended}
use Rattle.sheets.specs.Words.{solid, run_at, Kind, keyword, number, instruction, name, kind_of, read_on, within}
use Rattle.sheets.specs.Names.{index_of}
use Rattle.sheets.specs.Reads.{Got, and_then, only, unnamed, word_at, stop, separator_at, keyword_in, keyword_at, number_in, number_at, spaced_at, either_in, either_at, docket_at, shake_at, Sofar, sofar, with_act, act_in, act_at, acts_at, space_at, Listed, listed, head_in, head_at, agent_at, agents_at, used_in, token_in, token_at, breach_at, program_at, end_at, shake, tokens, Sheet, plan_in, plan_at, sheet_at, named_of}
use Rattle.sheets.specs.Rendered.{PlaceLiesIn, FaultPlacesLieInTheSheet}

-- a fault at a byte of n bytes, or at their end
abbrev FaultIn : ℕ → SheetFault → Type 0
FaultIn n TooLong = ⊥
FaultIn n (Misplaced p) = p < n
FaultIn n (OutOfRange p) = p < n
FaultIn n (Ended p) = p ≡ n

abbrev Inside : {X : Type 0} → ℕ → Got X → Type 0
Inside n (Ok p) = p.1 ≤ n
Inside n (Err e) = FaultIn n e

then-in : {X Y : Type 0} (n : ℕ) (g : Got X) (f : X → ℕ → Got Y) → Inside n g → ((x : X) (p : ℕ) → p ≤ n → Inside n (f x p)) → Inside n (and_then g f)
then-in n (Ok p) f h k = k p.0 p.1 h
then-in n (Err e) f h k = h

cond-in : {X : Type 0} (n : ℕ) (t : Bool) (x y : Got X) → Inside n x → Inside n y → Inside n (cond t x y)
cond-in n true x y h k = h
cond-in n false x y h k = k

module _ (b : List ℕ) where
  abbrev end : ℕ
  end = length b

  stop-in : (at : ℕ) → at ≤ length b → FaultIn (length b) (stop b at)
  stop-in at h = go (ltb at (length b)) refl
    where
      go : (t : Bool) → ltb at (length b) ≡ t → FaultIn (length b) (cond t (Misplaced at) (Ended (length b)))
      go true e = ltb-true at (length b) e
      go false e = refl

  sep-in : (s at : ℕ) → at ≤ length b → Inside (length b) (separator_at s b at)
  sep-in s at h = go (ltb at (length b)) (eqb (get_or b at 0) s) refl
    where
      go : (t u : Bool) → ltb at (length b) ≡ t → Inside {X = Unit {0}} (length b) (cond (t && u) (Ok (tt, at + 1)) (Err (stop b at)))
      go true true e = omega (arith, ltb-true at (length b) e)
      go true false e = stop-in at h
      go false u e = stop-in at h

  -- where a word stands, and after it
  run_in : (at : ℕ) → at ≤ length b → at + run_at b at ≤ length b
  run_in at h = omega (arith, prefix_len-le-length solid (drop at b), length-drop at b)

  some_in : (at : ℕ) (k : Kind) → at ≤ length b → word_at b at ≡ Some k → at < length b
  some_in at k h e = go (ltb 0 (run_at b at)) refl
    where
      go : (t : Bool) → ltb 0 (run_at b at) ≡ t → at < length b
      go true f = omega (arith, ltb-true 0 (run_at b at) f, run_in at h)
      go false f =
          let z : run_at b at ≡ 0 = omega (arith, ltb-false 0 (run_at b at) f) in
          let w : word_at b at ≡ None = ap (λ n. kind_of (take n (drop at b))) z in
          let q : ◌≡◌ {A = Option Kind} None (Some k) = sym w ∙ e in
          absurd (let y : ◌≡◌ {A = ℕ} 0 1 = cc in omega arith)

  word-in : {X : Type 0} (f : Option Kind → Got X) (at : ℕ) → at ≤ length b → Inside (length b) (f None) → ((k : Kind) → at < length b → at + run_at b at ≤ length b → Inside (length b) (f (Some k))) → Inside (length b) (f (word_at b at))
  word-in f at h none some = go (word_at b at) refl
    where
      go : (o : Option Kind) → word_at b at ≡ o → Inside (length b) (f o)
      go None e = none
      go (Some k) e = some k (some_in at k h e) (run_in at h)

  keyword-in : (w : List ℕ) (at : ℕ) → at ≤ length b → Inside (length b) (keyword_at w b at)
  keyword-in w at h = word-in (keyword_in w b at) at h (stop-in at h) some
    where
      some : (k : Kind) → at < length b → at + run_at b at ≤ length b → Inside (length b) (keyword_in w b at (Some k))
      some (keyword t) l m = cond-in (length b) (bytes_eq t w) (Ok (tt, at + run_at b at)) (Err (Misplaced at)) m l
      some (number t) l m = l
      some (instruction t) l m = l
      some (name t) l m = l

  number-in : (low high at : ℕ) → at ≤ length b → Inside (length b) (number_at low high b at)
  number-in low high at h = word-in (number_in low high b at) at h (stop-in at h) some
    where
      some : (k : Kind) → at < length b → at + run_at b at ≤ length b → Inside (length b) (number_in low high b at (Some k))
      some (keyword t) l m = l
      some (number t) l m = cond-in (length b) (within low high (read_on 0 t)) (Ok (read_on 0 t, at + run_at b at)) (Err (OutOfRange at)) m l
      some (instruction t) l m = l
      some (name t) l m = l

  either-in : (v w : List ℕ) (at : ℕ) → at ≤ length b → Inside (length b) (either_at v w b at)
  either-in v w at h = word-in (either_in v w b at) at h (stop-in at h) some
    where
      some : (k : Kind) → at < length b → at + run_at b at ≤ length b → Inside (length b) (either_in v w b at (Some k))
      some (keyword t) l m =
          cond-in (length b) (bytes_eq t v) (Ok (false, at + run_at b at)) (cond (bytes_eq t w) (Ok (true, at + run_at b at)) (Err (Misplaced at))) m
          (cond-in (length b) (bytes_eq t w) (Ok (true, at + run_at b at)) (Err (Misplaced at)) m l)
      some (number t) l m = l
      some (instruction t) l m = l
      some (name t) l m = l

  docket-in : (at : ℕ) → at ≤ length b → Inside (length b) (docket_at b at)
  docket-in at h =
      then-in (length b) (keyword_at (codes "docket") b at) _ (keyword-in (codes "docket") at h) (λ _ p h1.
      then-in (length b) (separator_at 32 b p) _ (sep-in 32 p h1) (λ _ q h2.
      then-in (length b) (number_at 1 9999 b q) _ (number-in 1 9999 q h2) (λ n r h3.
      then-in (length b) (separator_at 10 b r) (λ _ s. Ok (n, s)) (sep-in 10 r h3) (λ _ s h4. h4))))

  spaced-in : (low high at : ℕ) → at ≤ length b → Inside (length b) (spaced_at low high b at)
  spaced-in low high at h = then-in (length b) (separator_at 32 b at) (λ _ p. number_at low high b p) (sep-in 32 at h) (λ _ p k. number-in low high p k)

  shake-in : (at : ℕ) → at ≤ length b → Inside (length b) (shake_at b at)
  shake-in at h =
      then-in (length b) (spaced_at 1 3 b at) _ (spaced-in 1 3 at h) (λ i p h1.
      then-in (length b) (spaced_at 1 3 b p) _ (spaced-in 1 3 p h1) (λ j q h2.
      then-in (length b) (spaced_at 1 4 b q) _ (spaced-in 1 4 q h2) (λ m r h3.
      then-in (length b) (separator_at 32 b r) _ (sep-in 32 r h3) (λ _ s h4.
      then-in (length b) (either_at (codes "original") (codes "lowe") b s) _ (either-in (codes "original") (codes "lowe") s h4) (λ l t h5.
      then-in (length b) (separator_at 10 b t) (λ _ u. Ok (record { initiators = i; responders = j; capacity = m; lowe = l }, u)) (sep-in 10 t h5) (λ _ u h6. h6))))))

  act-in : (s : Sofar) (at : ℕ) → at ≤ length b → Inside (length b) (act_at s b at)
  act-in s at h = word-in (act_in s b at) at h (stop-in at h) some
    where
      some : (k : Kind) → at < length b → at + run_at b at ≤ length b → Inside (length b) (act_in s b at (Some k))
      some (keyword t) l m = l
      some (number t) l m = l
      some (instruction t) l m =
          cond-in (length b) (leb 8 (length s.acts)) (Err (OutOfRange at)) (cond (leb 16 (index_of s.names (drop 1 t))) (Err (OutOfRange at)) (Ok (with_act s t, at + run_at b at))) l
          (cond-in (length b) (leb 16 (index_of s.names (drop 1 t))) (Err (OutOfRange at)) (Ok (with_act s t, at + run_at b at)) l m)
      some (name t) l m = l

  space-in : (at : ℕ) → space_at b at ≡ true → at + 1 ≤ length b
  space-in at e = omega (arith, ltb-true at (length b) (and_parts (ltb at (length b)) (eqb (get_or b at 0) 32) e).0)

  acts-in : (m : ℕ) (s : Sofar) (at : ℕ) → at ≤ length b → Inside (length b) (acts_at m s b at)
  unfolding acts_at
  acts-in zero s at h = stop-in at h
  acts-in (suc m) s at h =
      then-in (length b) (act_at s b at) _ (act-in s at h) (λ t p k.
      after t p k (λ e. acts-in m t (p + 1) e) (space_at b p) refl)
    where
      after : (t : Sofar) (p : ℕ) → p ≤ length b → (p + 1 ≤ length b → Inside (length b) (acts_at m t b (p + 1))) → (c : Bool) → space_at b p ≡ c → Inside (length b) (cond c (acts_at m t b (p + 1)) (and_then (separator_at 10 b p) (λ _ q. Ok (t, q))))
      after t p k more true e = more (space-in p e)
      after t p k more false e = then-in (length b) (separator_at 10 b p) (λ _ q. Ok (t, q)) (sep-in 10 p k) (λ _ q l. l)

  head-in : (n at : ℕ) → at ≤ length b → Inside (length b) (head_at n b at)
  head-in n at h = word-in (head_in n b at) at h (stop-in at h) some
    where
      some : (k : Kind) → at < length b → at + run_at b at ≤ length b → Inside (length b) (head_in n b at (Some k))
      some (keyword t) l m = cond-in (length b) (bytes_eq t (codes "agent")) _ _ (cond-in (length b) (leb 4 n) (Err (OutOfRange at)) _ l m) (cond-in (length b) (bytes_eq t (codes "breach") && leb 1 n) _ (Err (Misplaced at)) m l)
      some (number t) l m = l
      some (instruction t) l m = l
      some (name t) l m = l

  agent-in : (s : Listed) (at : ℕ) → at ≤ length b → Inside (length b) (agent_at s b at)
  agent-in s at h =
      then-in (length b) (separator_at 32 b at) _ (sep-in 32 at h) (λ _ p k.
      then-in (length b) (acts_at 9 (sofar s.names []) b p) _ (acts-in 9 (sofar s.names []) p k) (λ t q l. l))

  agents-in : (m : ℕ) (s : Listed) (at : ℕ) → at ≤ length b → Inside (length b) (agents_at m s b at)
  unfolding agents_at
  agents-in zero s at h = stop-in at h
  agents-in (suc m) s at h =
      then-in (length b) (head_at (length s.lines) b at) _ (head-in (length s.lines) at h) (λ agent p k.
      cond-in (length b) agent (and_then (agent_at s b p) (λ t q. agents_at m t b q)) (Ok (s, p))
      (then-in (length b) (agent_at s b p) (λ t q. agents_at m t b q) (agent-in s p k) (λ t q l. agents-in m t q l)) k)

  token-in : (ns : List (List ℕ)) (at : ℕ) → at ≤ length b → Inside (length b) (token_at ns b at)
  token-in ns at h = word-in (token_in ns b at) at h (stop-in at h) some
    where
      used : (t : List ℕ) → at < length b → at + run_at b at ≤ length b → Inside (length b) (used_in ns t b at)
      used t l m = cond-in (length b) (leb (length ns) (index_of ns t)) (Err (Misplaced at)) (Ok (index_of ns t, at + run_at b at)) l m

      some : (k : Kind) → at < length b → at + run_at b at ≤ length b → Inside (length b) (token_in ns b at (Some k))
      some (keyword t) l m = used t l m
      some (number t) l m = l
      some (instruction t) l m = l
      some (name t) l m = used t l m

  breach-in : (ns : List (List ℕ)) (at : ℕ) → at ≤ length b → Inside (length b) (breach_at ns b at)
  breach-in ns at h =
      then-in (length b) (separator_at 32 b at) _ (sep-in 32 at h) (λ _ p k.
      then-in (length b) (token_at ns b p) _ (token-in ns p k) (λ j q l.
      then-in (length b) (separator_at 10 b q) (λ _ r. Ok (j, r)) (sep-in 10 q l) (λ _ r m. m)))

  program-in : (at : ℕ) → at ≤ length b → Inside (length b) (program_at b at)
  program-in at h =
      then-in (length b) (separator_at 10 b at) _ (sep-in 10 at h) (λ _ p k.
      then-in (length b) (agents_at 5 (listed [] []) b p) _ (agents-in 5 (listed [] []) p k) (λ s q l.
      then-in (length b) (breach_at s.names b q) _ (breach-in s.names q l) (λ j r m. m)))

  plan-in : (at : ℕ) → at ≤ length b → Inside (length b) (plan_at b at)
  plan-in at h = word-in (plan_in b at) at h (stop-in at h) some
    where
      some : (k : Kind) → at < length b → at + run_at b at ≤ length b → Inside (length b) (plan_in b at (Some k))
      some (keyword t) l m =
          cond-in (length b) (bytes_eq t (codes "handshake")) _ _ (then-in (length b) (shake_at b (at + run_at b at)) (λ v p. Ok ((shake v, []), p)) (shake-in (at + run_at b at) m) (λ v p k. k))
          (cond-in (length b) (bytes_eq t (codes "tokens")) _ (Err (Misplaced at)) (then-in (length b) (program_at b (at + run_at b at)) (λ n p. Ok ((tokens n.0, n.1), p)) (program-in (at + run_at b at) m) (λ v p k. k)) l)
      some (number t) l m = l
      some (instruction t) l m = l
      some (name t) l m = l

  end-in : (at : ℕ) → at ≤ length b → Inside (length b) (end_at b at)
  end-in at h = go (ltb at (length b)) refl
    where
      go : (t : Bool) → ltb at (length b) ≡ t → Inside {X = Unit {0}} (length b) (cond t (Err (Misplaced at)) (Ok (tt, at)))
      go true e = ltb-true at (length b) e
      go false e = h

  sheet-in : (at : ℕ) → at ≤ length b → Inside (length b) (sheet_at b at)
  sheet-in at h =
      then-in (length b) (docket_at b at) _ (docket-in at h) (λ n p k.
      then-in (length b) (plan_at b p) _ (plan-in p k) (λ a q l.
      then-in (length b) (end_at b q) (λ _ r. Ok ((record { number = n; plan = a.0 }, a.1), r)) (end-in q l) (λ _ r m. m)))

  placed-in : (e : SheetFault) → length b ≤ 2048 → FaultIn (length b) e → PlaceLiesIn b e
  placed-in TooLong h f = absurd f
  placed-in (Misplaced p) h f = (h, f)
  placed-in (OutOfRange p) h f = (h, f)
  placed-in (Ended p) h f = (h, f)

  unnamed-fault : (r : Result (Sheet × List (List ℕ)) SheetFault) (e : SheetFault) → unnamed r ≡ Err e → r ≡ Err e
  unnamed-fault (Ok v) e h = absurd (let q : ◌≡◌ {A = ℕ} 0 1 = cc in omega arith)
  unnamed-fault (Err f) e h = let g : f ≡ e = cc in ap (λ x. Err x) g

  only-fault : {X : Type 0} (g : Got X) (e : SheetFault) → only g ≡ Err e → Inside (length b) g → FaultIn (length b) e
  only-fault (Ok p) e h k = absurd (let q : ◌≡◌ {A = ℕ} 0 1 = cc in omega arith)
  only-fault (Err f) e h k = let g : f ≡ e = cc in subst (FaultIn (length b)) g k

  named-fault : (e : SheetFault) → named_of b ≡ Err e → PlaceLiesIn b e
  unfolding named_of
  named-fault e h = go (ltb 2048 (length b)) refl h
    where
      go : (t : Bool) → ltb 2048 (length b) ≡ t → cond t (Err TooLong) (only (sheet_at b 0)) ≡ Err e → PlaceLiesIn b e
      go true f h = let g : TooLong ≡ e = cc in subst (PlaceLiesIn b) g (ltb-true 2048 (length b) f)
      go false f h = placed-in e (ltb-false 2048 (length b) f) (only-fault (sheet_at b 0) e h (sheet-in 0 (omega arith)))

  named-long : 2048 < length b → named_of b ≡ Err TooLong
  unfolding named_of
  named-long h = cond-true _ _ _ (lt-ltb 2048 (length b) h)

pub faults-placed : FaultPlacesLieInTheSheet
faults-placed = record {
  placed = λ b e h. named-fault b e (unnamed-fault b (named_of b) e h);
  long = λ b h. ap unnamed (named-long b h);
}
