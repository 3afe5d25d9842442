-- The theorem over any row of calls: each part holds of one turn, and so of a row.
use Rattle.std.proofs.Common.{◌≡◌, ℕ, zero, suc, ◌+◌, ◌<◌, ◌≤◌, Bool, true, false, cond, ◌&&◌, eqb, ltb, List, [], ◌∷◌, ◌++◌, map, length, is_some, Some, None, Ok, Err, Option, Result, sym, refl, ap, ◌∙◌, subst, ⊎_elim, arith}
use lib.ListN.{length-map}
use Rattle.std.specs.List.{slice_get}
use Rattle.std.proofs.lemmas.Bool.{eqb-true, eqb-false, eq-eqb, ne_eqb, lt-ltb, both_ways, cases_Bool, cases_eq, and_from, cond-true, cond-false}
use Rattle.std.proofs.lemmas.List.{append-nil, append_assoc, map-append, map_push, length_push}
use Rattle.sheets.specs.declared.fault.SheetFault.{SheetFault}
use Rattle.sheets.specs.declared.arrangement.Docket.{Docket}
use Rattle.sheets.specs.Reads.{Sheet, read_of, plan_of, sheet_of}
use Rattle.bodies.specs.declared.kind.Kind.{Kind}
use Rattle.bodies.specs.declared.kind.Kind.TheVariants.{Breach, Closed}
use Rattle.findings.specs.declared.verdict.Verdict.{Verdict}
use Rattle.findings.specs.Truths.{IsTrueOf}
use Rattle.register.specs.Plans.{same_plan}
use Rattle.register.specs.Views.{EntryView, is_open, is_filed, is_withdrawn, stamped, FiledKindIsTrue, EachIsTrue}
use Rattle.register.specs.Calls.{lookup, where_open, open_of, marked, opened, admitted, slip_for, issue_answer, checked_at, hand_back, file_answer, ended_at}
use Rattle.register.specs.Rows.{Call, after, row, opens, sheets, Ending, ending, endings, status_by, status_in, read_as_entry, tally, AcceptsWhatItShould, FiledDocketsAreTrue}
use Rattle.register.proofs.Plans.{plan-same}
use Rattle.register.proofs.Held.{none-some, each_none, each-push, each-marked, each-nth, sound-open}
use Rattle.register.proofs.Turns.{Turn, same, more, over, turn}
use Rattle.register.specs.declared.entry.Status.{Status}
use Rattle.register.specs.declared.entry.Status.TheVariants.{Open, Filed, Withdrawn}
use Rattle.register.specs.declared.slip.Slip.{Slip}
use Rattle.register.specs.declared.fault.IssueFault.TheVariants.{Taken, Full}
use Rattle.register.specs.declared.fault.FileFault.TheVariants.{OtherDocket}

some-inside : {X : Type 0} (x y : X) → Some x ≡ Some y → x ≡ y
some-inside x y e = cc

-- the entries are those of the accepted issues

reads-marked : (n : ℕ) (s : Status) (es : List EntryView) → map read_as_entry (marked n s es) ≡ map read_as_entry es
reads-marked n s [] = refl
reads-marked n s (e ∷ es) =
    elim (eqb e.number n) as (λ b. map read_as_entry (cond b (stamped e s ∷ es) (e ∷ marked n s es)) ≡ read_as_entry e ∷ map read_as_entry es)
    [ true ↦ refl | false ↦ ap (λ (l : List (Result Sheet SheetFault)). read_as_entry e ∷ l) (reads-marked n s es) ]

given-turn : {es fs : List EntryView} {ts : List (List ℕ)} {xs : List Ending} → Turn es fs ts xs → map read_as_entry fs ≡ map read_as_entry es ++ map read_of ts
given-turn {es} same = sym (append-nil (map read_as_entry es))
given-turn {es} (more t s e l h) = map_push read_as_entry es (opened s) ∙ ap (λ (r : Result Sheet SheetFault). map read_as_entry es ++ (r ∷ [])) (sym e)
given-turn {es} (over n s e l o c h) = reads-marked n s es ∙ sym (append-nil (map read_as_entry es))

given-row : (es : List EntryView) (cs : List Call) → map read_as_entry (row es cs) ≡ map read_as_entry es ++ map read_of (sheets es cs)
given-row es [] = sym (append-nil (map read_as_entry es))
given-row es (c ∷ cs) =
    given-row (after es c) cs
    ∙ ap (λ (l : List (Result Sheet SheetFault)). l ++ map read_of (sheets (after es c) cs)) (given-turn (turn es c))
    ∙ append_assoc (map read_as_entry es) (map read_of (opens es c)) (map read_of (sheets (after es c) cs))
    ∙ ap (λ (l : List (Result Sheet SheetFault)). map read_as_entry es ++ l) (sym (map-append read_of (opens es c) (sheets (after es c) cs)))

-- what is filed is true

each_turn : {es fs : List EntryView} {ts : List (List ℕ)} {xs : List Ending} → Turn es fs ts xs → EachIsTrue es → EachIsTrue fs
each_turn same h = h
each_turn {es} (more t s e l k) h = each-push es (opened s) h (sound-open s)
each_turn {es} (over n s e l o c k) h = each-marked n s es h (λ x q. subst (λ (y : EntryView). FiledKindIsTrue (stamped y s)) (some-inside e x (sym l ∙ q)) k)

each_row : (es : List EntryView) (cs : List Call) → EachIsTrue es → EachIsTrue (row es cs)
each_row es [] h = h
each_row es (c ∷ cs) h = each_row (after es c) cs (each_turn (turn es c) h)

-- the entry of a number, after one more entry and after a mark

lookup_push : (n : ℕ) (es : List EntryView) (x e : EntryView) → lookup n es ≡ Some e → lookup n (es ++ (x ∷ [])) ≡ Some e
lookup_push n [] x e q = none-some e q
lookup_push n (y ∷ es) x e q =
    elim (eqb y.number n) as (λ b. cond b (Some y) (lookup n es) ≡ Some e → cond b (Some y) (lookup n (es ++ (x ∷ []))) ≡ Some e)
    [ true ↦ λ r. r | false ↦ λ r. lookup_push n es x e r ] q

lookup-last : (n : ℕ) (es : List EntryView) (x : EntryView) → lookup n es ≡ None → lookup n (es ++ (x ∷ [])) ≡ cond (eqb x.number n) (Some x) None
lookup-last n [] x q = refl
lookup-last n (y ∷ es) x q =
    elim (eqb y.number n) as (λ b. cond b (Some y) (lookup n es) ≡ None → cond b (Some y) (lookup n (es ++ (x ∷ []))) ≡ cond (eqb x.number n) (Some x) None)
    [ true ↦ λ r. none-some y (sym r) | false ↦ λ r. lookup-last n es x r ] q

stamp : Status → Option EntryView → Option EntryView
stamp s None = None
stamp s (Some e) = Some (stamped e s)

lookup-marked : (n : ℕ) (s : Status) (es : List EntryView) → lookup n (marked n s es) ≡ stamp s (lookup n es)
unfolding stamp
lookup-marked n s [] = refl
lookup-marked n s (e ∷ es) = ⊎_elim (λ (p : eqb e.number n ≡ true). simp p refl) (λ (p : eqb e.number n ≡ false). simp p (lookup-marked n s es)) (cases_Bool (eqb e.number n))

lookup-other : (m n : ℕ) (s : Status) (es : List EntryView) → (m ≡ n → ⊥) → lookup m (marked n s es) ≡ lookup m es
lookup-other m n s [] f = refl
lookup-other m n s (e ∷ es) f =
    ⊎_elim (λ (p : eqb e.number n ≡ true). let q : eqb e.number m ≡ false = ne_eqb e.number m (λ x. f (sym x ∙ eqb-true e.number n p)) in simp (p, q) refl)
    (λ (p : eqb e.number n ≡ false). simp p (ap (λ (o : Option EntryView). cond (eqb e.number m) (Some e) o) (lookup-other m n s es f)))
    (cases_Bool (eqb e.number n))

-- no number is there twice

Apart : List EntryView → Type 0
Apart [] = Unit {0}
Apart (e ∷ es) = (lookup e.number es ≡ None) × Apart es

none-marked : (m n : ℕ) (s : Status) (es : List EntryView) → lookup m es ≡ None → lookup m (marked n s es) ≡ None
unfolding stamp
none-marked m n s es q =
    ⊎_elim (λ p. subst (λ (k : ℕ). lookup m (marked k s es) ≡ None) p (lookup-marked m s es ∙ ap (stamp s) q)) (λ f. lookup-other m n s es f ∙ q) (cases_eq m n)

apart-marked : (n : ℕ) (s : Status) (es : List EntryView) → Apart es → Apart (marked n s es)
unfolding Apart
apart-marked n s [] h = tt
apart-marked n s (e ∷ es) h =
    elim (eqb e.number n) as (λ b. Apart (cond b (stamped e s ∷ es) (e ∷ marked n s es)))
    [ true ↦ h | false ↦ (none-marked e.number n s es h.0, apart-marked n s es h.1) ]

push-none : (n : ℕ) (es : List EntryView) (x : EntryView) → lookup n es ≡ None → (x.number ≡ n → ⊥) → lookup n (es ++ (x ∷ [])) ≡ None
push-none n es x q f = lookup-last n es x q ∙ cond-false (eqb x.number n) (Some x) None (ne_eqb x.number n f)

here : (x : EntryView) (es : List EntryView) → lookup x.number (x ∷ es) ≡ Some x
here x es = cond-true (eqb x.number x.number) (Some x) (lookup x.number es) (eq-eqb x.number x.number refl)

other_none : (n : ℕ) (e : EntryView) (es : List EntryView) → lookup n (e ∷ es) ≡ None → lookup n es ≡ None
other_none n e es q =
    elim (eqb e.number n) as (λ b. cond b (Some e) (lookup n es) ≡ None → lookup n es ≡ None) [ true ↦ λ r. none-some e (sym r) | false ↦ λ r. r ] q

apart-push : (es : List EntryView) (x : EntryView) → Apart es → lookup x.number es ≡ None → Apart (es ++ (x ∷ []))
unfolding Apart
apart-push [] x h q = (refl, tt)
apart-push (e ∷ es) x h q =
    let ne : x.number ≡ e.number → ⊥ = λ p. none-some e (sym q ∙ ap (λ (k : ℕ). lookup k (e ∷ es)) p ∙ here e es) in
    (push-none e.number es x h.0 ne, apart-push es x h.1 (other_none x.number e es q))

apart-turn : {es fs : List EntryView} {ts : List (List ℕ)} {xs : List Ending} → Turn es fs ts xs → Apart es → Apart fs
apart-turn same h = h
apart-turn {es} (more t s e l k) h = apart-push es (opened s) h l
apart-turn {es} (over n s e l o c k) h = apart-marked n s es h

apart-row : (es : List EntryView) (cs : List Call) → Apart es → Apart (row es cs)
apart-row es [] h = h
apart-row es (c ∷ cs) h = apart-row (after es c) cs (apart-turn (turn es c) h)

apart-new : (cs : List Call) → Apart (row [] cs)
unfolding Apart
apart-new cs = apart-row [] cs tt

nth-lookup : (es : List EntryView) (k : ℕ) (e : EntryView) → Apart es → slice_get es k ≡ Some e → lookup e.number es ≡ Some e
unfolding Apart
nth-lookup [] k e h q = none-some e q
nth-lookup (x ∷ es) zero e h q = subst (λ (y : EntryView). lookup y.number (x ∷ es) ≡ Some y) (some-inside x e q) (here x es)
nth-lookup (x ∷ es) (suc k) e h q =
    let r = nth-lookup es k e h.1 q in
    cond-false (eqb x.number e.number) (Some x) (lookup e.number es)
    (ne_eqb x.number e.number (λ p. none-some e (sym h.0 ∙ ap (λ (n : ℕ). lookup n es) p ∙ r))) ∙ r

-- an entry's number does not stand further on
no_more : (x : EntryView) (es : List EntryView) (j : ℕ) (f : EntryView) → Apart (x ∷ es) → slice_get es j ≡ Some f → x.number ≡ f.number → ⊥
unfolding Apart
no_more x es j f h q p = none-some f (sym h.0 ∙ ap (λ (n : ℕ). lookup n es) p ∙ nth-lookup es j f h.1 q)

apart-nth : (es : List EntryView) (i j : ℕ) (e f : EntryView) → Apart es → slice_get es i ≡ Some e → slice_get es j ≡ Some f → e.number ≡ f.number → i ≡ j
unfolding Apart
apart-nth [] i j e f h p q n = none-some e p
apart-nth (x ∷ es) zero zero e f h p q n = refl
apart-nth (x ∷ es) zero (suc j) e f h p q n = absurd (no_more x es j f h q (ap (λ (y : EntryView). y.number) (some-inside x e p) ∙ n))
apart-nth (x ∷ es) (suc i) zero e f h p q n = absurd (no_more x es i e h p (ap (λ (y : EntryView). y.number) (some-inside x f q) ∙ sym n))
apart-nth (x ∷ es) (suc i) (suc j) e f h p q n = ap suc (apart-nth es i j e f h.1 p q n)

-- at most 64 entries

length_marked : (n : ℕ) (s : Status) (es : List EntryView) → length (marked n s es) ≡ length es
length_marked n s [] = refl
length_marked n s (e ∷ es) =
    elim (eqb e.number n) as (λ b. length (cond b (stamped e s ∷ es) (e ∷ marked n s es)) ≡ suc (length es)) [ true ↦ refl | false ↦ ap suc (length_marked n s es) ]

room-turn : {es fs : List EntryView} {ts : List (List ℕ)} {xs : List Ending} → Turn es fs ts xs → length es ≤ 64 → length fs ≤ 64
room-turn same h = h
room-turn {es} (more t s e l k) h = let p = length_push es (opened s) in omega arith
room-turn {es} (over n s e l o c k) h = let p = length_marked n s es in omega arith

room_row : (es : List EntryView) (cs : List Call) → length es ≤ 64 → length (row es cs) ≤ 64
room_row es [] h = h
room_row es (c ∷ cs) h = room_row (after es c) cs (room-turn (turn es c) h)

-- how the docket of a number stands

abbrev look : ℕ → List EntryView → Option Status
look n es = status_in (lookup n es)

there : (o : Option EntryView) (s : Status) → status_in o ≡ Some s → (e : EntryView) × (o ≡ Some e) × (e.status ≡ s)
there None s q = none-some s q
there (Some e) s q = (e, refl, some-inside e.status s q)

look-marked : (n : ℕ) (s : Status) (es : List EntryView) (e : EntryView) → lookup n es ≡ Some e → look n (marked n s es) ≡ Some s
unfolding stamp
look-marked n s es e l = ap status_in (lookup-marked n s es ∙ ap (stamp s) l)

-- what is ended stays so
stays-turn : {es fs : List EntryView} {ts : List (List ℕ)} {xs : List Ending} → Turn es fs ts xs → (n : ℕ) (s : Status) → is_open s ≡ false → look n es ≡ Some s → look n fs ≡ Some s
stays-turn same n s f q = q
stays-turn {es} (more t u e l k) n s f q =
    let x = there (lookup n es) s q in
    ap status_in (lookup_push n es (opened u) x.0 x.1) ∙ ap (λ (y : Status). Some y) x.2
stays-turn {es} (over m u e l o c k) n s f q =
    ⊎_elim
    (λ p. let r : e.status ≡ s = some-inside e.status s (sym (ap status_in l) ∙ ap (λ (i : ℕ). look i es) (sym p) ∙ q) in
    absurd (both_ways (is_open s) f (ap is_open (sym r) ∙ o)))
    (λ d. ap status_in (lookup-other n m u es d) ∙ q)
    (cases_eq n m)

stays-row : (es : List EntryView) (cs : List Call) (n : ℕ) (s : Status) → is_open s ≡ false → look n es ≡ Some s → look n (row es cs) ≡ Some s
stays-row es [] n s f q = q
stays-row es (c ∷ cs) n s f q = stays-row (after es c) cs n s f (stays-turn (turn es c) n s f q)

-- each ending is shown
Shows : List EntryView → List Ending → Type 0
Shows gs ys = (i : ℕ) (x : Ending) → slice_get ys i ≡ Some x → look x.number gs ≡ Some x.status

shows-one : (gs : List EntryView) (y : Ending) (ys : List Ending) → look y.number gs ≡ Some y.status → Shows gs ys → Shows gs (y ∷ ys)
unfolding Shows
shows-one gs y ys p h zero x q = subst (λ (z : Ending). look z.number gs ≡ Some z.status) (some-inside y x q) p
shows-one gs y ys p h (suc i) x q = h i x q

shows-turn : {es fs : List EntryView} {ts : List (List ℕ)} {xs : List Ending} → Turn es fs ts xs → (cs : List Call) (ys : List Ending) → Shows (row fs cs) ys → Shows (row fs cs) (xs ++ ys)
shows-turn same cs ys h = h
shows-turn (more t s e l k) cs ys h = h
shows-turn {es} (over n s e l o c k) cs ys h = shows-one (row (marked n s es) cs) (ending n s) ys (stays-row (marked n s es) cs n s c (look-marked n s es e l)) h

shows-row : (es : List EntryView) (cs : List Call) → Shows (row es cs) (endings es cs)
unfolding Shows
shows-row es [] = λ i x q. none-some x q
shows-row es (c ∷ cs) = shows-turn (turn es c) cs (endings (after es c) cs) (shows-row (after es c) cs)

-- and each entry shows its ending, or is open

fresh : Option Status → Bool
fresh None = true
fresh (Some s) = is_open s

open-only : (s : Status) → is_open s ≡ true → s ≡ Open
open-only Open e = refl
open-only (Filed k) e = absurd (both_ways false refl e)
open-only Withdrawn e = absurd (both_ways false refl e)

fresh-push : (n : ℕ) (es : List EntryView) (x : EntryView) → is_open x.status ≡ true → fresh (look n es) ≡ true → fresh (look n (es ++ (x ∷ []))) ≡ true
unfolding fresh
fresh-push n [] x o q = elim (eqb x.number n) as (λ b. fresh (status_in (cond b (Some x) None)) ≡ true) [ true ↦ o | false ↦ refl ]
fresh-push n (y ∷ es) x o q =
    elim (eqb y.number n) as (λ b. fresh (status_in (cond b (Some y) (lookup n es))) ≡ true → fresh (status_in (cond b (Some y) (lookup n (es ++ (x ∷ []))))) ≡ true)
    [ true ↦ λ r. r | false ↦ λ r. fresh-push n es x o r ] q

ByEndings : ℕ → List EntryView → List EntryView → List Ending → Type 0
ByEndings n es gs ys = (s : Status) → fresh (look n es) ≡ true → look n gs ≡ Some s → s ≡ status_by n ys

by_turn : {es fs : List EntryView} {ts : List (List ℕ)} {xs : List Ending} → Turn es fs ts xs → (n : ℕ) (cs : List Call) (ys : List Ending) → ByEndings n fs (row fs cs) ys → ByEndings n es (row fs cs) (xs ++ ys)
unfolding ByEndings
by_turn same n cs ys h = h
by_turn {es} (more t u e l k) n cs ys h = λ s f q. h s (fresh-push n es (opened u) refl f) q
by_turn {es} (over m u e l o c k) n cs ys h = λ s f q.
    ⊎_elim
    (λ p. let stay = stays-row (marked m u es) cs m u c (look-marked m u es e l) in
    some-inside s u (sym q ∙ ap (λ (i : ℕ). look i (row (marked m u es) cs)) (sym (eqb-true m n p)) ∙ stay) ∙ sym (cond-true (eqb m n) u (status_by n ys) p))
    (λ p. let keeps = ap status_in (lookup-other n m u es (λ r. eqb-false m n p (sym r))) in
    h s (ap fresh keeps ∙ f) q ∙ sym (cond-false (eqb m n) u (status_by n ys) p))
    (cases_Bool (eqb m n))

by_row : (n : ℕ) (es : List EntryView) (cs : List Call) → ByEndings n es (row es cs) (endings es cs)
unfolding ByEndings fresh
by_row n es [] = λ s f q. open-only s (ap fresh (sym q) ∙ f)
by_row n es (c ∷ cs) = by_turn (turn es c) n cs (endings (after es c) cs) (by_row n (after es c) cs)

shown-new : (cs : List Call) (k : ℕ) (e : EntryView) → slice_get (row [] cs) k ≡ Some e → e.status ≡ status_by e.number (endings [] cs)
unfolding ByEndings fresh
shown-new cs k e q = by_row e.number [] cs e.status refl (ap status_in (nth-lookup (row [] cs) k e (apart-new cs) q))

-- each entry is open, filed or withdrawn

one : (s : Status) → cond (is_open s) 1 0 + cond (is_filed s) 1 0 + cond (is_withdrawn s) 1 0 ≡ 1
one Open = refl
one (Filed k) = refl
one Withdrawn = refl

tally-all : (es : List EntryView) → length es ≡ tally is_open es + tally is_filed es + tally is_withdrawn es
tally-all [] = refl
tally-all (e ∷ es) =
    let h = tally-all es in
    let k = one e.status in
    omega arith

tallied-new : (cs : List Call) → length (sheets [] cs) ≡ tally is_open (row [] cs) + tally is_filed (row [] cs) + tally is_withdrawn (row [] cs)
tallied-new cs =
    sym (length-map (sheets [] cs) read_of) ∙ ap length (sym (given-row [] cs)) ∙ length-map (row [] cs) read_as_entry ∙ tally-all (row [] cs)

-- the k-th entry is of the k-th sheet

nth-map : {X Y : Type 0} (f : X → Y) (xs : List X) (k : ℕ) (x : X) → slice_get xs k ≡ Some x → slice_get (map f xs) k ≡ Some (f x)
nth-map f [] k x q = none-some x q
nth-map f (y ∷ xs) zero x q = ap (λ z. Some (f z)) (some-inside y x q)
nth-map f (y ∷ xs) (suc k) x q = nth-map f xs k x q

plan-at : (cs : List Call) (k : ℕ) (e : EntryView) (t : List ℕ) (d : Docket) → slice_get (row [] cs) k ≡ Some e → slice_get (sheets [] cs) k ≡ Some t → read_of t ≡ Ok (sheet_of d) → plan_of d.arrangement ≡ e.plan
plan-at cs k e t d p q r =
    let a : read_as_entry e ≡ read_of t = some-inside (read_as_entry e) (read_of t) (sym (nth-map read_as_entry (row [] cs) k e p) ∙ ap (λ (l : List (Result Sheet SheetFault)). slice_get l k) (given-row [] cs) ∙ nth-map read_of (sheets [] cs) k t q) in
    let b : read_as_entry e ≡ Ok (sheet_of d) = a ∙ r in
    let c : sheet_of d ≡ record { number = e.number; plan = e.plan } = cc in
    ap (λ (s : Sheet). s.plan) c

truth-at : (cs : List Call) (k : ℕ) (e : EntryView) (t : List ℕ) (d : Docket) (j : Kind) → slice_get (row [] cs) k ≡ Some e → slice_get (sheets [] cs) k ≡ Some t → read_of t ≡ Ok (sheet_of d) → e.status ≡ Filed j → IsTrueOf d.arrangement j
unfolding FiledKindIsTrue
truth-at cs k e t d j p q r f = each-nth (row [] cs) k e (each_row [] cs each_none) p j d.arrangement f (plan-at cs k e t d p q r)

-- what is accepted

issues-accepted : (es : List EntryView) (t : List ℕ) (s : Sheet) → read_of t ≡ Ok s → lookup s.number es ≡ None → length es < 64 → issue_answer es t ≡ Ok (record { number = s.number })
issues-accepted es t s e l h =
    ap (λ (r : Result Sheet SheetFault). slip_for (admitted es r)) e
    ∙ ap slip_for
    (cond-false (is_some (lookup s.number es)) (Err Taken) (cond (ltb (length es) 64) (Ok s) (Err Full)) (ap is_some l)
    ∙ cond-true (ltb (length es) 64) (Ok s) (Err Full) (lt-ltb (length es) 64 h))

open-found : (es : List EntryView) (k n : ℕ) (e : EntryView) → Apart es → slice_get es k ≡ Some e → e.status ≡ Open → e.number ≡ n → open_of n es ≡ Some e
open-found es k n e h q o p =
    ap where_open (ap (λ (m : ℕ). lookup m es) (sym p) ∙ nth-lookup es k e h q) ∙ cond-true (is_open e.status) (Some e) None (ap is_open o)

files-accepted : (es : List EntryView) (e : EntryView) (s : Slip) (v : Verdict) → open_of s.number es ≡ Some e → v.number ≡ s.number → plan_of v.model ≡ e.plan → file_answer es s v ≡ Ok tt
files-accepted es e s v o n p =
    ap (λ (x : Option EntryView). hand_back s v (checked_at x s v)) o
    ∙ ap (hand_back s v)
    (cond-true (eqb v.number s.number && same_plan (plan_of v.model) e.plan) (Ok tt) (Err OtherDocket)
    (and_from (eqb v.number s.number) (same_plan (plan_of v.model) e.plan) (eq-eqb v.number s.number n) (plan-same (plan_of v.model) e.plan p)))

accepting : (es : List EntryView) → Apart es → AcceptsWhatItShould es
accepting es h = record {
  issues = issues-accepted es;
  files = λ k e s v q o p n m. files-accepted es e s v (open-found es k s.number e h q o p) n m;
  withdraws = λ k e s q o p. ap ended_at (open-found es k s.number e h q o p);
}

pub rows-hold : FiledDocketsAreTrue
unfolding Shows
rows-hold cs = record {
  given = given-row [] cs;
  closed = λ k e t d p q r f. (truth-at cs k e t d Closed p q r f).1 refl;
  breach = λ k e t d p q r f. (truth-at cs k e t d Breach p q r f).0 refl;
  shown = shown-new cs;
  ended = shows-row [] cs;
  tallied = tallied-new cs;
  apart = λ i j e f p q n. apart-nth (row [] cs) i j e f (apart-new cs) p q n;
  room = room_row [] cs (omega arith);
  accepting = accepting (row [] cs) (apart-new cs);
}
