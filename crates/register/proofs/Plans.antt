-- The comparison of plans decides, and is `==` of arrangements; and arrangements of one plan have the same runs.
use Rattle.std.proofs.Common.{◌≡◌, ℕ, Bool, true, ◌&&◌, eqb, List, sym, refl, ap, ◌∙◌, subst}
use mathlib.Core.Logic.{∥∥₁_map}
use Rattle.std.specs.Bool.{beq}
use Rattle.std.specs.Cmp.{booleans_Decides}
use Rattle.std.specs.Cmp.Lexicographic.{pointwise, pointwise_decides}
use Rattle.std.specs.Cmp.Derive.Mapped.{pointwise-map}
use Rattle.std.proofs.Math.Bool.{and_comm}
use Rattle.std.proofs.lemmas.Bool.{eqb-true, eq-eqb, and_parts, and_from}
use Rattle.sheets.specs.contracts.arrangement.ArrangementPartialEq.TheImpl as arrangements
use Rattle.sheets.specs.FixedLists.{held}
use Rattle.sheets.specs.declared.fixed_list.FixedList.{FixedList}
use Rattle.sheets.specs.Programs.{Program}
use Rattle.sheets.specs.Reads.{Shake, Plan, shake, tokens, shake_of, program_of, plan_of}
use Rattle.sheets.specs.declared.line.Act.{Act}
use Rattle.sheets.specs.declared.arrangement.Handshake.{Handshake as Arranged}
use Rattle.sheets.specs.declared.arrangement.Arrangement.{Arrangement}
use Rattle.sheets.specs.declared.arrangement.Arrangement.TheVariants.{Handshake, Tokens}
use Rattle.bodies.specs.declared.kind.Kind.{Kind}
use Rattle.meaning.specs.Runs.{BadRun}
use Rattle.handshake.specs.Reads.{handshake_meaning}
use Rattle.tokens.specs.Models.{token_meaning}
use Rattle.findings.proofs.Standing.{same-shake}
use Rattle.findings.specs.Truths.{BreachRunOf, IsTrueOf}
use Rattle.register.specs.Plans.{same_act, same_acts, same_lines, same_shake, same_program, same_plan, PlansCompared}

itself : (n : ℕ) → eqb n n ≡ true
itself n = eq-eqb n n refl

act-equal : (a b : Act) → same_act a b ≡ true → a ≡ b
act-equal a b e =
    let p = and_parts (eqb a.sign b.sign) (eqb a.token b.token) e in
    let s = eqb-true a.sign b.sign p.0 in
    let t = eqb-true a.token b.token p.1 in
    λ i. record { sign = s i; token = t i }

act-same : (a b : Act) → a ≡ b → same_act a b ≡ true
act-same a b e = subst (λ (x : Act). same_act a x ≡ true) e (and_from (eqb a.sign a.sign) (eqb a.token a.token) (itself a.sign) (itself a.token))

lines-decide : (xs ys : List (List Act)) → (same_lines xs ys ≡ true → xs ≡ ys) × (xs ≡ ys → same_lines xs ys ≡ true)
lines-decide = pointwise_decides (pointwise_decides (λ a b. (act-equal a b, act-same a b)))

shake-equal : (x y : Shake) → same_shake x y ≡ true → x ≡ y
shake-equal x y e =
    let p = and_parts (eqb x.initiators y.initiators) (eqb x.responders y.responders && (eqb x.capacity y.capacity && beq x.lowe y.lowe)) e in
    let q = and_parts (eqb x.responders y.responders) (eqb x.capacity y.capacity && beq x.lowe y.lowe) p.1 in
    let r = and_parts (eqb x.capacity y.capacity) (beq x.lowe y.lowe) q.1 in
    let a = eqb-true x.initiators y.initiators p.0 in
    let b = eqb-true x.responders y.responders q.0 in
    let c = eqb-true x.capacity y.capacity r.0 in
    let l = (booleans_Decides x.lowe y.lowe).0 r.1 in
    λ i. record { initiators = a i; responders = b i; capacity = c i; lowe = l i }

shake-itself : (x : Shake) → same_shake x x ≡ true
shake-itself x =
    and_from (eqb x.initiators x.initiators) (eqb x.responders x.responders && (eqb x.capacity x.capacity && beq x.lowe x.lowe)) (itself x.initiators)
    (and_from (eqb x.responders x.responders) (eqb x.capacity x.capacity && beq x.lowe x.lowe) (itself x.responders)
    (and_from (eqb x.capacity x.capacity) (beq x.lowe x.lowe) (itself x.capacity) ((booleans_Decides x.lowe x.lowe).1 refl)))

program-equal : (x y : Program) → same_program x y ≡ true → x ≡ y
program-equal x y e =
    let p = and_parts (eqb x.breach y.breach) (same_lines x.lines y.lines) e in
    let b = eqb-true x.breach y.breach p.0 in
    let l = (lines-decide x.lines y.lines).0 p.1 in
    λ i. record { lines = l i; breach = b i }

program-itself : (x : Program) → same_program x x ≡ true
program-itself x = and_from (eqb x.breach x.breach) (same_lines x.lines x.lines) (itself x.breach) ((lines-decide x.lines x.lines).1 refl)

pub plan-equal : (p q : Plan) → same_plan p q ≡ true → p ≡ q
plan-equal (shake h) (shake g) e = ap shake (shake-equal h g e)
plan-equal (shake h) (tokens q) e = absurd (cc)
plan-equal (tokens p) (shake g) e = absurd (cc)
plan-equal (tokens p) (tokens q) e = ap tokens (program-equal p q e)

plan-itself : (p : Plan) → same_plan p p ≡ true
plan-itself (shake h) = shake-itself h
plan-itself (tokens p) = program-itself p

pub plan-same : (p q : Plan) → p ≡ q → same_plan p q ≡ true
plan-same p q e = subst (λ (x : Plan). same_plan p x ≡ true) e (plan-itself p)

pub plans-compared : PlansCompared
plans-compared p q = (plan-equal p q, plan-same p q)

-- `==` of arrangements

pub same_is : (a b : Arrangement) → (arrangements.ghosts).eq a b ≡ same_plan (plan_of a) (plan_of b)
same_is (Handshake h) (Handshake g) = refl
same_is (Handshake h) (Tokens u) = refl
same_is (Tokens t) (Handshake g) = refl
same_is (Tokens t) (Tokens u) =
    and_comm (pointwise (λ (a b : FixedList Act 8). same_acts (held a) (held b)) (held t.lines) (held u.lines)) (eqb t.breach u.breach)
    ∙ ap (λ (b : Bool). eqb t.breach u.breach && b) (sym (pointwise-map held same_acts (held t.lines) (held u.lines)))

-- arrangements of one plan

bad-carries : (a b : Arrangement) → plan_of a ≡ plan_of b → BreachRunOf a → BreachRunOf b
bad-carries (Handshake h) (Handshake g) e w =
    let f : shake_of h ≡ shake_of g = cc in
    subst (λ (x : Arranged). BadRun (handshake_meaning x)) (same-shake h g f) w
bad-carries (Handshake h) (Tokens t) e w = absurd (cc)
bad-carries (Tokens t) (Handshake h) e w = absurd (cc)
bad-carries (Tokens t) (Tokens u) e w =
    let f : program_of t ≡ program_of u = cc in
    subst (λ (p : Program). BadRun (token_meaning p)) f w

-- so what is true of one is true of the other
pub truth-carries : (a b : Arrangement) (k : Kind) → plan_of a ≡ plan_of b → IsTrueOf a k → IsTrueOf b k
truth-carries a b k e t = (λ p. ∥∥₁_map (t.0 p) (bad-carries a b e), λ p w. t.1 p (bad-carries b a (sym e) w))
