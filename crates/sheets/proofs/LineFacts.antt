use Rattle.std.proofs.Common.{◌≡◌, ℕ, suc, ◌+◌, ◌-◌, ◌≤◌, true, false, cond, List, Ok, Err, sym, ap, ◌∙◌, arith}
use Rattle.std.proofs.lemmas.Bool.{cond-true, cond-false}
use Rattle.sheets.specs.declared.fault.SheetFault.{SheetFault}
use Rattle.sheets.specs.Reads.{Sofar, Got, and_then, act_at, acts_at, space_at, separator_at}

pub then_ok : {X Y : Type 0} (g : Got X) (f : X → ℕ → Got Y) (x : X) (p : ℕ) → g ≡ Ok (x, p) → and_then g f ≡ f x p
then_ok g f x p h = ap (λ k. and_then k f) h

pub then-err : {X Y : Type 0} (g : Got X) (f : X → ℕ → Got Y) (e : SheetFault) → g ≡ Err e → and_then g f ≡ Err e
then-err g f e h = ap (λ k. and_then k f) h

abbrev after : ℕ → List ℕ → Sofar → ℕ → Got Sofar
after m b t p = cond (space_at b p) (acts_at m t b (p + 1)) (and_then (separator_at 10 b p) (λ _ q. Ok (t, q)))

module _ (m : ℕ) (s : Sofar) (b : List ℕ) (at : ℕ) where
  pub acts-fault : (e : SheetFault) → act_at s b at ≡ Err e → acts_at (suc m) s b at ≡ Err e
  unfolding acts_at
  acts-fault e h = then-err (act_at s b at) (after m b) e h

  pub acts-more : (t : Sofar) (p : ℕ) → act_at s b at ≡ Ok (t, p) → space_at b p ≡ true → acts_at (suc m) s b at ≡ acts_at m t b (p + 1)
  unfolding acts_at
  acts-more t p h k = then_ok (act_at s b at) (after m b) t p h ∙ cond-true (space_at b p) (acts_at m t b (p + 1)) (and_then (separator_at 10 b p) (λ _ q. Ok (t, q))) k

  pub acts-last : (t : Sofar) (p : ℕ) → act_at s b at ≡ Ok (t, p) → space_at b p ≡ false → acts_at (suc m) s b at ≡ and_then (separator_at 10 b p) (λ _ q. Ok (t, q))
  unfolding acts_at
  acts-last t p h k = then_ok (act_at s b at) (after m b) t p h ∙ cond-false (space_at b p) (acts_at m t b (p + 1)) (and_then (separator_at 10 b p) (λ _ q. Ok (t, q))) k

-- a turn of the loop over a line: b1, b2 and b3 are the sheet as the calls left it
module _ (b b1 b2 b3 : List ℕ) (n : ℕ) (s : Sofar) (at : ℕ) (W : Got Sofar) (e1 : b1 ≡ b) (few : n ≤ 8) (inv : acts_at (9 - n) s b at ≡ W) where
  pub line-fault : (e : SheetFault) → Err e ≡ act_at s b1 at → Err e ≡ W
  line-fault e h =
      let m : suc (8 - n) ≡ 9 - n = omega arith in
      sym (acts-fault (8 - n) s b at e (ap (λ l. act_at s l at) (sym e1) ∙ sym h)) ∙ ap (λ k. acts_at k s b at) m ∙ inv

  pub line-again : (t : Sofar) (p q n' : ℕ) → b2 ≡ b1 → Ok (t, p) ≡ act_at s b1 at → true ≡ space_at b2 p → q ≡ p + 1 → n' ≡ n + 1 → acts_at (9 - n') t b q ≡ W
  line-again t p q n' e2 h k e f =
      let m : suc (9 - n') ≡ 9 - n = omega arith in
      ap (acts_at (9 - n') t b) e
      ∙ sym (acts-more (9 - n') s b at t p (ap (λ l. act_at s l at) (sym e1) ∙ sym h) (ap (λ l. space_at l p) (sym (e2 ∙ e1)) ∙ sym k)) ∙ ap (λ k. acts_at k s b at) m ∙ inv

  pub line-end : (t : Sofar) (p q : ℕ) (g : Got (Unit {0})) → b2 ≡ b1 → b3 ≡ b2 → Ok (t, p) ≡ act_at s b1 at → false ≡ space_at b2 p → q ≡ p → g ≡ separator_at 10 b3 q → and_then g (λ _ r. Ok (t, r)) ≡ W
  line-end t p q g e2 e3 h k e f =
      let m : suc (8 - n) ≡ 9 - n = omega arith in
      ap (λ x. and_then x (λ _ r. Ok (t, r))) (f ∙ (λ i. separator_at 10 ((e3 ∙ e2 ∙ e1) i) (e i)))
      ∙ sym (acts-last (8 - n) s b at t p (ap (λ l. act_at s l at) (sym e1) ∙ sym h) (ap (λ l. space_at l p) (sym (e2 ∙ e1)) ∙ sym k)) ∙ ap (λ k. acts_at k s b at) m ∙ inv
