-- What is filed is true: of each entry that a register holds.
use Rattle.std.proofs.Common.{◌≡◌, ℕ, zero, suc, Bool, true, false, cond, ◌&&◌, eqb, List, [], ◌∷◌, ◌++◌, Some, None, Ok, Err, Option, Result, sym, refl, ap, ◌∙◌, subst}
use mathlib.Core.Logic.{∥∥₁_elim, ∥∥₁_map}
use Rattle.std.specs.List.{slice_get}
use Rattle.std.proofs.lemmas.Bool.{and_parts}
use Rattle.std.proofs.lemmas.List.{map_push}
use Rattle.sheets.specs.FixedLists.{held}
use Rattle.sheets.specs.Reads.{Sheet, plan_of}
use Rattle.bodies.specs.declared.kind.Kind.{Kind}
use Rattle.findings.specs.declared.verdict.Verdict.{Verdict}
use Rattle.findings.specs.Truths.{IsTrueOf}
use Rattle.register.specs.Plans.{same_plan}
use Rattle.register.specs.Views.{EntryView, view_of, views_of, is_open, stamped, FiledKindIsTrue, EachIsTrue}
use Rattle.register.specs.Calls.{contents, lookup, where_open, open_of, marked, viewed, ShownKindIsTrue, checked_at, file_check, opened}
use Rattle.register.proofs.Plans.{plan-equal, truth-carries}
use Rattle.register.specs.declared.entry.Status.{Status}
use Rattle.register.specs.declared.entry.Status.TheVariants.{Open, Filed, Withdrawn}
use Rattle.register.specs.declared.entry.Entry.{Entry}
use Rattle.register.specs.declared.register.Register.{Register}
use Rattle.register.specs.declared.slip.Slip.{Slip}
use Rattle.register.specs.declared.fault.FileFault.{FileFault}
use Rattle.register.specs.declared.fault.FileFault.TheVariants.{OtherDocket}

pub open-filed : {P : Type 0} (k : Kind) → Open ≡ Filed k → P
open-filed k e = absurd (cc)

withdrawn-filed : {P : Type 0} (k : Kind) → Withdrawn ≡ Filed k → P
withdrawn-filed k e = absurd (cc)

pub none-some : {X P : Type 0} (x : X) → None ≡ Some x → P
none-some x e = absurd (cc)

pub sound-open : (s : Sheet) → FiledKindIsTrue (opened s)
unfolding FiledKindIsTrue
sound-open s k a e = open-filed k e

pub sound-withdrawn : (e : EntryView) → FiledKindIsTrue (stamped e Withdrawn)
unfolding FiledKindIsTrue
sound-withdrawn x k a e = withdrawn-filed k e

inside : (j k : Kind) → Filed j ≡ Filed k → j ≡ k
inside j k e = cc

-- a verdict on an arrangement of the entry's plan
pub sound-filed : (e : EntryView) (v : Verdict) → plan_of v.model ≡ e.plan → FiledKindIsTrue (stamped e (Filed v.kind))
unfolding FiledKindIsTrue
sound-filed e v p k a f q = truth-carries v.model a k (p ∙ sym q) (subst (λ (j : Kind). IsTrueOf v.model j) (inside v.kind k f) v.holds)

bottom : (a b : ⊥) → a ≡ b
bottom a b = absurd a

sound_prop : (e : EntryView) (x y : FiledKindIsTrue e) → x ≡ y
unfolding FiledKindIsTrue
sound_prop e x y = λ i k a f q. (λ b. squash₁ ((x k a f q).0 b) ((y k a f q).0 b) i, λ c w. bottom ((x k a f q).1 c w) ((y k a f q).1 c w) i)

-- lists of entries

pub each_none : EachIsTrue []
unfolding EachIsTrue
each_none = tt

pub each-push : (es : List EntryView) (e : EntryView) → EachIsTrue es → FiledKindIsTrue e → EachIsTrue (es ++ (e ∷ []))
unfolding EachIsTrue
each-push [] e h s = (s, tt)
each-push (x ∷ es) e h s = (h.0, each-push es e h.1 s)

pub each-marked : (n : ℕ) (s : Status) (es : List EntryView) → EachIsTrue es → ((e : EntryView) → lookup n es ≡ Some e → FiledKindIsTrue (stamped e s)) → EachIsTrue (marked n s es)
unfolding EachIsTrue
each-marked n s [] h f = tt
each-marked n s (x ∷ es) h f =
    elim (eqb x.number n) as (λ b. ((e : EntryView) → cond b (Some x) (lookup n es) ≡ Some e → FiledKindIsTrue (stamped e s)) → EachIsTrue (cond b (stamped x s ∷ es) (x ∷ marked n s es)))
    [ true ↦ λ g. (g x refl, h.1) | false ↦ λ g. (h.0, each-marked n s es h.1 g) ] f

pub each-lookup : (n : ℕ) (es : List EntryView) (e : EntryView) → EachIsTrue es → lookup n es ≡ Some e → FiledKindIsTrue e
unfolding EachIsTrue
each-lookup n [] e h q = none-some e q
each-lookup n (x ∷ es) e h q =
    elim (eqb x.number n) as (λ b. cond b (Some x) (lookup n es) ≡ Some e → FiledKindIsTrue e)
    [ true ↦ λ r. let p : x ≡ e = cc in subst FiledKindIsTrue p h.0 | false ↦ λ r. each-lookup n es e h.1 r ] q

pub each-nth : (es : List EntryView) (k : ℕ) (e : EntryView) → EachIsTrue es → slice_get es k ≡ Some e → FiledKindIsTrue e
unfolding EachIsTrue
each-nth [] k e h q = none-some e q
each-nth (x ∷ es) zero e h q = let p : x ≡ e = cc in subst FiledKindIsTrue p h.0
each-nth (x ∷ es) (suc k) e h q = each-nth es k e h.1 q

-- a register

pub entry-sound : (r : Register) (n : ℕ) (e : EntryView) → lookup n (contents r) ≡ Some e → FiledKindIsTrue e
entry-sound r n e q = ∥∥₁_elim r.sound (sound_prop e) (λ h. each-lookup n (contents r) e h q)

-- the entry that is read at a place
pub filed-true : (e : Entry) → FiledKindIsTrue (view_of e) → (k : Kind) → e.status ≡ Filed k → IsTrueOf e.model k
unfolding FiledKindIsTrue
filed-true e h k f = h k e.model f refl

pub shown-true : (r : Register) (n : ℕ) (o : Option Entry) → viewed o ≡ lookup n (contents r) → ShownKindIsTrue o
shown-true r n None q = tt
shown-true r n (Some e) q = filed-true e (entry-sound r n (view_of e) (sym q))

pub held-mark : (r : Register) (es : List EntryView) (n : ℕ) (s : Status) → es ≡ marked n s (contents r) → ((e : EntryView) → lookup n (contents r) ≡ Some e → FiledKindIsTrue (stamped e s)) → ∥ EachIsTrue es ∥₁
held-mark r es n s q f = rw q (∥∥₁_map r.sound (λ h. each-marked n s (contents r) h f))

pub held-push : (r : Register) (es : List Entry) (e : Entry) (b : Bool) → es ≡ cond b (held r.entries ++ (e ∷ [])) (held r.entries) → FiledKindIsTrue (view_of e) → ∥ EachIsTrue (views_of es) ∥₁
held-push r es e true q s = rw (q, map_push view_of (held r.entries) e) (∥∥₁_map r.sound (λ h. each-push (contents r) (view_of e) h s))
held-push r es e false q s = rw q r.sound

-- an open entry of a number: it is there, and open

open-cond : (b : Bool) (x e : EntryView) → is_open x.status ≡ b → cond b (Some x) None ≡ Some e → (Some x ≡ Some e) × (is_open e.status ≡ true)
open-cond true x e p q = let r : x ≡ e = cc in (q, ap (λ (y : EntryView). is_open y.status) (sym r) ∙ p)
open-cond false x e p q = none-some e q

pub open_is : (o : Option EntryView) (e : EntryView) → where_open o ≡ Some e → (o ≡ Some e) × (is_open e.status ≡ true)
open_is None e q = none-some e q
open_is (Some x) e q = open-cond (is_open x.status) x e refl q

abbrev checked : Bool → Result (Unit {0}) FileFault
checked b = cond b (Ok tt) (Err OtherDocket)

passes : (b : Bool) → checked b ≡ Ok tt → b ≡ true
passes true e = refl
passes false e = absurd (cc)

-- the checks of a filing, on an open entry
pub checked-is : (es : List EntryView) (s : Slip) (v : Verdict) (e : Entry) → Some (view_of e) ≡ open_of s.number es → (b : Bool) → (eqb v.number s.number && same_plan (plan_of v.model) (plan_of e.model)) ≡ b → checked b ≡ file_check es s v
checked-is es s v e o b q = ap checked (sym q) ∙ ap (λ (x : Option EntryView). checked_at x s v) o

pub and-no : (a b : Bool) → b ≡ false → (a && b) ≡ false
and-no true b e = e
and-no false b e = refl

-- a filing that is not refused: an open entry, and a verdict of its number and plan
pub file-is : (o : Option EntryView) (s : Slip) (v : Verdict) → checked_at o s v ≡ Ok tt → (e : EntryView) × (o ≡ Some e) × (plan_of v.model ≡ e.plan)
file-is None s v q = absurd (cc)
file-is (Some e) s v q =
    let t = passes (eqb v.number s.number && same_plan (plan_of v.model) e.plan) q in
    (e, refl, plan-equal (plan_of v.model) e.plan (and_parts (eqb v.number s.number) (same_plan (plan_of v.model) e.plan) t).1)

pub file-sound : (es : List EntryView) (s : Slip) (v : Verdict) → file_check es s v ≡ Ok tt → (e : EntryView) → lookup s.number es ≡ Some e → FiledKindIsTrue (stamped e (Filed v.kind))
file-sound es s v q e l =
    let f = file-is (open_of s.number es) s v q in
    let o = open_is (lookup s.number es) f.0 f.1 in
    let x : f.0 ≡ e = cc (o.0, l) in
    sound-filed e v (f.2 ∙ ap (λ (y : EntryView). y.plan) x)
