-- The lines of a token store: what is read stands there, numbered by first use. Assumes nothing.
use Rattle.std.proofs.Common.{◌≡◌, ℕ, zero, suc, ◌+◌, ◌<◌, ◌≤◌, Bool, true, false, cond, ◌&&◌, eqb, ltb, leb, List, [], ◌∷◌, ◌++◌, length, get_or, drop, Some, None, Ok, Err, codes, Option, sym, refl, ap, ◌∙◌, subst, append_assoc, append-nil, arith, length-append}
use Rattle.std.specs.Str.{bytes_eq}
use Rattle.std.proofs.lemmas.Slice.Eq.{bytes_eq-Decides}
use Rattle.std.proofs.lemmas.List.{drop_more}
use Rattle.std.proofs.lemmas.Bool.{leb-true, leb-false, ltb-true, lt-ltb, le-leb, eqb-true, and_parts, and_from}
use Rattle.sheets.specs.declared.fault.SheetFault.TheVariants.{Misplaced, OutOfRange}
use Rattle.sheets.specs.declared.line.Act.{Act}
use Rattle.sheets.specs.Programs.{Program, sign, used, used_by, used_by_all, in_order, all_in_order, formed}
use Rattle.sheets.specs.Words.{is_name, is_instruction, run_at, text_at, Kind, keyword, number, instruction, name}
use Rattle.sheets.specs.Names.{index_of, with_name}
use Rattle.sheets.specs.Reads.{Got, and_then, word_at, separator_at, Sofar, sofar, act_of, with_act, act_in, act_at, acts_at, space_at, Listed, listed, head_in, head_at, agent_at, agents_at, token_in, token_at, breach_at, program_at}
use Rattle.sheets.specs.Rendered.{spaced, render_act, render_acts, render_lines, render_program, Naming}
use Rattle.sheets.proofs.NameFacts.{index-le}
use Rattle.sheets.proofs.Namings.{index-found, Extends, extends-self, extends-trans, Numbered, numbered}
use Rattle.sheets.proofs.Parts.{inj, no, word_split, Fits, kind_fits, parts_then, sep-parts}

-- ---- an instruction
pub record ActRead (s : Sofar) (b : List ℕ) (at : ℕ) (z : Sofar × ℕ) : Type 0 where
  pub word : List ℕ
  pub instructs : is_instruction word ≡ true
  pub few : length s.acts < 8
  pub room : index_of s.names (drop 1 word) < 16
  pub split : drop at b ≡ word ++ drop z.1 b
  pub is : with_act s word ≡ z.0

pub act-parts : (s : Sofar) (b : List ℕ) (at : ℕ) (z : Sofar × ℕ) → act_at s b at ≡ Ok z → ActRead s b at z
act-parts s b at z e = go (word_at b at) (kind_fits (text_at b at)) e
  where
    hit : (t : List ℕ) (p q : Bool) → leb 8 (length s.acts) ≡ p → leb 16 (index_of s.names (drop 1 t)) ≡ q → (t ≡ text_at b at) × (is_instruction (text_at b at) ≡ true)
        → cond p (Err (OutOfRange at)) (cond q (Err (OutOfRange at)) (Ok (with_act s t, at + run_at b at))) ≡ Ok z → ActRead s b at z
    hit t true q e1 e2 f h = no h
    hit t false true e1 e2 f h = no h
    hit t false false e1 e2 f h =
        let next : at + run_at b at ≡ z.1 = ap (λ v. v.1) (inj h) in
        record {
          word = t;
          instructs = subst (λ u. is_instruction u ≡ true) (sym f.0) f.1;
          few = leb-false 8 _ e1;
          room = leb-false 16 _ e2;
          split = word_split b at ∙ (λ i. sym f.0 i ++ drop (next i) b);
          is = ap (λ v. v.0) (inj h);
        }

    go : (k : Option Kind) → Fits k (text_at b at) → act_in s b at k ≡ Ok z → ActRead s b at z
    go None f h = no h
    go (Some (keyword u)) f h = no h
    go (Some (number u)) f h = no h
    go (Some (instruction u)) f h = hit u (leb 8 (length s.acts)) (leb 16 (index_of s.names (drop 1 u))) refl refl f h
    go (Some (name u)) f h = no h

-- an instruction's text is its sign and its name
pub act-text : (t : List ℕ) → is_instruction t ≡ true → t ≡ get_or t 0 0 ∷ drop 1 t
act-text [] h = let z : ◌≡◌ {A = ℕ} 0 1 = cc in absurd (omega arith)
act-text (c ∷ t) h = refl

-- ---- an agent's line, from a state of names and instructions on
pub record LineRead (s : Sofar) (b : List ℕ) (at : ℕ) (z : Sofar × ℕ) : Type 0 where
  pub acts : List Act
  pub is : z.0.acts ≡ s.acts ++ acts
  pub some : 1 ≤ length acts
  pub few : length z.0.acts ≤ 8
  pub naming : Naming z.0.names (length z.0.names)
  pub small : length z.0.names ≤ 16
  pub extends : Extends s.names z.0.names
  pub count : length z.0.names ≡ used_by (length s.names) acts
  pub order : in_order (length s.names) acts ≡ true
  pub text : (fs : List (List ℕ)) → Extends z.0.names fs → 32 ∷ drop at b ≡ render_acts fs acts (drop z.1 b)

-- what one instruction adds, for whatever follows it
module _ (s : Sofar) (b : List ℕ) (at : ℕ) (y : Sofar × ℕ) (r : ActRead s b at y) (nm : Naming s.names (length s.names)) (sm : length s.names ≤ 16) where
  abbrev ns : List (List ℕ)
  ns = s.names

  abbrev w : List ℕ
  w = drop 1 r.word

  abbrev act : Act
  act = act_of s.names r.word

  two : (sign (get_or r.word 0 0) ≡ true) × (is_name (drop 1 r.word) ≡ true)
  two = and_parts (sign (get_or r.word 0 0)) (is_name (drop 1 r.word)) r.instructs

  pub step : Numbered s.names (drop 1 r.word)
  step = numbered s.names (drop 1 r.word) nm two.1

  pub names-is : with_name s.names (drop 1 r.word) ≡ y.0.names
  names-is = ap (λ (x : Sofar). x.names) r.is

  pub acts-is : s.acts ++ (act ∷ []) ≡ y.0.acts
  acts-is = ap (λ (x : Sofar). x.acts) r.is

  pub next-naming : Naming y.0.names (length y.0.names)
  next-naming = subst (λ l. Naming l (length l)) names-is step.naming

  pub next-count : length y.0.names ≡ used (length s.names) act
  next-count = ap length (sym names-is) ∙ step.count

  pub next_small : length y.0.names ≤ 16
  next_small = let m = r.room in omega (arith, next-count)

  pub next-extends : Extends s.names y.0.names
  next-extends = subst (Extends s.names) names-is step.extends

  pub act-order : (js : List Act) → in_order (used (length s.names) act) js ≡ true → in_order (length s.names) (act ∷ js) ≡ true
  act-order js h = and_from _ _ two.0 (and_from _ _ (le-leb _ _ (index-le s.names (drop 1 r.word))) h)

  pub act-written : (fs : List (List ℕ)) → Extends y.0.names fs → 32 ∷ drop at b ≡ spaced (render_act fs act) (drop y.1 b)
  act-written fs x =
      let n = next-count in
      let here : get_or fs act.token [] ≡ drop 1 r.word =
      x.same act.token (omega arith) ∙ ap (λ l. get_or l act.token []) (sym names-is) ∙ step.here in
      ap (λ l. 32 ∷ l) (r.split ∙ ap (λ l. l ++ drop y.1 b) (act-text r.word r.instructs ∙ ap (λ l. get_or r.word 0 0 ∷ l) (sym here)))

  pub acts-last : (z : Sofar × ℕ) → y.0 ≡ z.0 → drop y.1 b ≡ 10 ∷ drop z.1 b → LineRead s b at z
  acts-last z e f =
      let P : Sofar → Type 0 = λ x. (q : ℕ) → drop y.1 b ≡ 10 ∷ drop q b → LineRead s b at (x, q) in
      subst P e (λ q g. record {
        acts = act ∷ [];
        is = sym acts-is;
        some = omega arith;
        few = let m = r.few in omega (arith, ap length (sym acts-is), length-append s.acts (act ∷ []));
        naming = next-naming;
        small = next_small;
        extends = next-extends;
        count = next-count;
        order = act-order [] refl;
        text = λ fs x. act-written fs x ∙ ap (spaced (render_act fs act)) g;
      }) z.1 f

  pub acts-more : (z : Sofar × ℕ) (q : ℕ) → drop y.1 b ≡ 32 ∷ drop q b → LineRead y.0 b q z → LineRead s b at z
  acts-more z q f m = record {
    acts = act ∷ m.acts;
    is = m.is ∙ ap (λ l. l ++ m.acts) (sym acts-is) ∙ append_assoc s.acts (act ∷ []) m.acts;
    some = omega arith;
    few = m.few;
    naming = m.naming;
    small = m.small;
    extends = extends-trans _ _ _ next-extends m.extends;
    count = m.count ∙ ap (λ n. used_by n m.acts) next-count;
    order = act-order m.acts (subst (λ n. in_order n m.acts ≡ true) next-count m.order);
    text = λ fs x. act-written fs (extends-trans _ _ _ m.extends x) ∙ ap (spaced (render_act fs act)) (f ∙ m.text fs x);
  }

pub space-split : (b : List ℕ) (at : ℕ) → space_at b at ≡ true → drop at b ≡ 32 ∷ drop (at + 1) b
space-split b at e =
    let ps = and_parts (ltb at (length b)) (eqb (get_or b at 0) 32) e in
    drop_more b at 0 (ltb-true at (length b) ps.0) ∙ ap (λ c. c ∷ drop (at + 1) b) (eqb-true (get_or b at 0) 32 ps.1)

abbrev after_act : ℕ → List ℕ → Sofar → ℕ → Got Sofar
after_act m b t p = cond (space_at b p) (acts_at m t b (p + 1)) (and_then (separator_at 10 b p) (λ _ q. Ok (t, q)))

acts-then : (m : ℕ) (s : Sofar) (b : List ℕ) (at : ℕ) (z : Sofar × ℕ) → acts_at (suc m) s b at ≡ Ok z → (y : Sofar × ℕ) × (act_at s b at ≡ Ok y) × (after_act m b y.0 y.1 ≡ Ok z)
unfolding acts_at
acts-then m s b at z e = parts_then (act_at s b at) (after_act m b) z e

acts-none : (s : Sofar) (b : List ℕ) (at : ℕ) (z : Sofar × ℕ) → acts_at 0 s b at ≡ Ok z → LineRead s b at z
unfolding acts_at
acts-none s b at z e = no e

pub acts-parts : (m : ℕ) (s : Sofar) (b : List ℕ) (at : ℕ) (z : Sofar × ℕ) → Naming s.names (length s.names) → length s.names ≤ 16 → acts_at m s b at ≡ Ok z → LineRead s b at z
acts-parts zero s b at z nm sm e = acts-none s b at z e
acts-parts (suc m) s b at z nm sm e =
    let t = acts-then m s b at z e in
    let r = act-parts s b at t.0 t.1 in
    go t.0 r (acts-parts m t.0.0 b (t.0.1 + 1) z (next-naming s b at t.0 r nm sm) (next_small s b at t.0 r nm sm)) (space_at b t.0.1) refl t.2
  where
    go : (y : Sofar × ℕ) (r : ActRead s b at y) → (acts_at m y.0 b (y.1 + 1) ≡ Ok z → LineRead y.0 b (y.1 + 1) z) → (k : Bool) → space_at b y.1 ≡ k
        → cond k (acts_at m y.0 b (y.1 + 1)) (and_then (separator_at 10 b y.1) (λ _ q. Ok (y.0, q))) ≡ Ok z → LineRead s b at z
    go y r more true k h = acts-more s b at y r nm sm z (y.1 + 1) (space-split b y.1 k) (more h)
    go y r more false k h =
        let q = parts_then (separator_at 10 b y.1) (λ _ q. Ok (y.0, q)) z h in
        let same = inj q.2 in
        acts-last s b at y r nm sm z (ap (λ v. v.0) same) (sep-parts 10 b y.1 q.0 q.1 ∙ ap (λ v. 10 ∷ drop v.1 b) same)

-- ---- the agents' lines
-- the first word of a line: one more agent's, or the breach line's
abbrev pub Headed : ℕ → List ℕ → ℕ → Bool → ℕ → Type 0
Headed n b at true q = (n < 4) × (drop at b ≡ codes "agent" ++ drop q b)
Headed n b at false q = (1 ≤ n) × (drop at b ≡ codes "breach" ++ drop q b)

pub head-parts : (n : ℕ) (b : List ℕ) (at : ℕ) (z : Bool × ℕ) → head_at n b at ≡ Ok z → Headed n b at z.0 z.1
head-parts n b at z e = go (word_at b at) (kind_fits (text_at b at)) e
  where
    split : (u v : List ℕ) → bytes_eq u v ≡ true → u ≡ text_at b at → drop at b ≡ v ++ drop (at + run_at b at) b
    split u v s f = word_split b at ∙ ap (λ l. l ++ drop (at + run_at b at) b) (sym f ∙ (bytes_eq-Decides u v).0 s)

    P : Bool × ℕ → Type 0
    P v = Headed n b at v.0 v.1

    hit : (u : List ℕ) (s t p q : Bool) → bytes_eq u (codes "agent") ≡ s → bytes_eq u (codes "breach") ≡ t → leb 4 n ≡ p → leb 1 n ≡ q → u ≡ text_at b at
        → cond s (cond p (Err (OutOfRange at)) (Ok (true, at + run_at b at))) (cond (t && q) (Ok (false, at + run_at b at)) (Err (Misplaced at))) ≡ Ok z → Headed n b at z.0 z.1
    hit u true t true q e1 e2 e3 e4 f h = no h
    hit u true t false q e1 e2 e3 e4 f h = subst (λ (v : Bool × ℕ). Headed n b at v.0 v.1) (inj h) (leb-false 4 n e3, split u (codes "agent") e1 f)
    hit u false true p true e1 e2 e3 e4 f h = subst (λ (v : Bool × ℕ). Headed n b at v.0 v.1) (inj h) (leb-true 1 n e4, split u (codes "breach") e2 f)
    hit u false true p false e1 e2 e3 e4 f h = no h
    hit u false false p q e1 e2 e3 e4 f h = no h

    go : (k : Option Kind) → Fits k (text_at b at) → head_in n b at k ≡ Ok z → Headed n b at z.0 z.1
    go None f h = no h
    go (Some (keyword u)) f h = hit u (bytes_eq u (codes "agent")) (bytes_eq u (codes "breach")) (leb 4 n) (leb 1 n) refl refl refl refl f h
    go (Some (number u)) f h = no h
    go (Some (instruction u)) f h = no h
    go (Some (name u)) f h = no h

pub record AgentsRead (s : Listed) (b : List ℕ) (at : ℕ) (z : Listed × ℕ) : Type 0 where
  pub lines : List (List Act)
  pub is : z.0.lines ≡ s.lines ++ lines
  pub some : 1 ≤ length z.0.lines
  pub few : length z.0.lines ≤ 4
  pub naming : Naming z.0.names (length z.0.names)
  pub small : length z.0.names ≤ 16
  pub extends : Extends s.names z.0.names
  pub count : length z.0.names ≡ used_by_all (length s.names) lines
  pub order : all_in_order (length s.names) lines ≡ true
  pub text : (fs : List (List ℕ)) → Extends z.0.names fs → drop at b ≡ render_lines fs lines (codes "breach" ++ drop z.1 b)

-- the rest of an agent's line
pub record AgentRead (s : Listed) (b : List ℕ) (at : ℕ) (y : Listed × ℕ) : Type 0 where
  pub read : Sofar
  pub from : ℕ
  pub space : drop at b ≡ 32 ∷ drop from b
  pub line : LineRead (sofar s.names []) b from (read, y.1)
  pub is : listed read.names (s.lines ++ (read.acts ∷ [])) ≡ y.0

pub agent-parts : (s : Listed) (b : List ℕ) (at : ℕ) (y : Listed × ℕ) → Naming s.names (length s.names) → length s.names ≤ 16 → agent_at s b at ≡ Ok y → AgentRead s b at y
agent-parts s b at y nm sm e =
    let p = parts_then (separator_at 32 b at) (λ _ p. and_then (acts_at 9 (sofar s.names []) b p) (λ t q. Ok (listed t.names (s.lines ++ (t.acts ∷ [])), q))) y e in
    let q = parts_then (acts_at 9 (sofar s.names []) b p.0.1) (λ t q. Ok (listed t.names (s.lines ++ (t.acts ∷ [])), q)) y p.2 in
    let l = acts-parts 9 (sofar s.names []) b p.0.1 q.0 nm sm q.1 in
    let next : q.0.1 ≡ y.1 = ap (λ v. v.1) (inj q.2) in
    record {
      read = q.0.0;
      from = p.0.1;
      space = sep-parts 32 b at p.0 p.1;
      line = subst (λ n. LineRead (sofar s.names []) b p.0.1 (q.0.0, n)) next l;
      is = ap (λ v. v.0) (inj q.2);
    }

module _ (s : Listed) (b : List ℕ) (at q : ℕ) (y : Listed × ℕ) (room : length s.lines < 4) (word : drop at b ≡ codes "agent" ++ drop q b) (r : AgentRead s b q y) where
  abbrev js : List Act
  js = r.read.acts

  agent-names : r.read.names ≡ y.0.names
  agent-names = ap (λ (x : Listed). x.names) r.is

  agent-lines : s.lines ++ (r.read.acts ∷ []) ≡ y.0.lines
  agent-lines = ap (λ (x : Listed). x.lines) r.is

  -- an agent's line was empty before it
  acts-all : r.line.acts ≡ r.read.acts
  acts-all = sym r.line.is

  pub agent-naming : Naming y.0.names (length y.0.names)
  agent-naming = subst (λ l. Naming l (length l)) agent-names r.line.naming

  pub agent-small : length y.0.names ≤ 16
  agent-small = subst (λ l. length l ≤ 16) agent-names r.line.small

  agent-extends : Extends s.names y.0.names
  agent-extends = subst (Extends s.names) agent-names r.line.extends

  agent-count : length y.0.names ≡ used_by (length s.names) r.read.acts
  agent-count = ap length (sym agent-names) ∙ r.line.count ∙ ap (used_by (length s.names)) acts-all

  pub agent-room : length y.0.lines ≡ length s.lines + 1
  agent-room = ap length (sym agent-lines) ∙ length-append s.lines (r.read.acts ∷ [])

  agent-order : (ls : List (List Act)) → all_in_order (length y.0.names) ls ≡ true → all_in_order (length s.names) (r.read.acts ∷ ls) ≡ true
  agent-order ls h =
      let some : 1 ≤ length r.read.acts = subst (λ l. 1 ≤ length l) acts-all r.line.some in
      and_from _ _ (and_from _ _ (le-leb _ _ some) (le-leb _ _ r.line.few))
      (and_from _ _ (subst (λ l. in_order (length s.names) l ≡ true) acts-all r.line.order) (subst (λ n. all_in_order n ls ≡ true) agent-count h))

  agent-written : (fs : List (List ℕ)) → Extends y.0.names fs → drop at b ≡ codes "agent" ++ render_acts fs r.read.acts (drop y.1 b)
  agent-written fs x =
      word ∙ ap (λ l. codes "agent" ++ l) (r.space ∙ r.line.text fs (subst (λ l. Extends l fs) (sym agent-names) x) ∙ ap (λ l. render_acts fs l (drop y.1 b)) acts-all)

  pub agents-more : (z : Listed × ℕ) → AgentsRead y.0 b y.1 z → AgentsRead s b at z
  agents-more z m = record {
    lines = r.read.acts ∷ m.lines;
    is = m.is ∙ ap (λ l. l ++ m.lines) (sym agent-lines) ∙ append_assoc s.lines (r.read.acts ∷ []) m.lines;
    some = m.some;
    few = m.few;
    naming = m.naming;
    small = m.small;
    extends = extends-trans _ _ _ agent-extends m.extends;
    count = m.count ∙ ap (λ n. used_by_all n m.lines) agent-count;
    order = agent-order m.lines m.order;
    text = λ fs x. agent-written fs (extends-trans _ _ _ m.extends x) ∙ ap (λ l. codes "agent" ++ render_acts fs r.read.acts l) (m.text fs x);
  }

agents-last : (s : Listed) (b : List ℕ) (at q : ℕ) (z : Listed × ℕ) → Naming s.names (length s.names) → length s.names ≤ 16 → length s.lines ≤ 4
    → (1 ≤ length s.lines) × (drop at b ≡ codes "breach" ++ drop q b) → (s, q) ≡ z → AgentsRead s b at z
agents-last s b at q z nm sm few h e = subst (AgentsRead s b at) e (record {
  lines = [];
  is = sym (append-nil s.lines);
  some = h.0;
  few = few;
  naming = nm;
  small = sm;
  extends = extends-self s.names;
  count = refl;
  order = refl;
  text = λ fs x. h.1;
})

abbrev after_head : ℕ → Listed → List ℕ → Bool → ℕ → Got Listed
after_head m s b agent p = cond agent (and_then (agent_at s b p) (λ t q. agents_at m t b q)) (Ok (s, p))

agents-then : (m : ℕ) (s : Listed) (b : List ℕ) (at : ℕ) (z : Listed × ℕ) → agents_at (suc m) s b at ≡ Ok z → (y : Bool × ℕ) × (head_at (length s.lines) b at ≡ Ok y) × (after_head m s b y.0 y.1 ≡ Ok z)
unfolding agents_at
agents-then m s b at z e = parts_then (head_at (length s.lines) b at) (after_head m s b) z e

agents-none : (s : Listed) (b : List ℕ) (at : ℕ) (z : Listed × ℕ) → agents_at 0 s b at ≡ Ok z → AgentsRead s b at z
unfolding agents_at
agents-none s b at z e = no e

pub agents-parts : (m : ℕ) (s : Listed) (b : List ℕ) (at : ℕ) (z : Listed × ℕ) → Naming s.names (length s.names) → length s.names ≤ 16 → length s.lines ≤ 4 → agents_at m s b at ≡ Ok z → AgentsRead s b at z
agents-parts zero s b at z nm sm few e = agents-none s b at z e
agents-parts (suc m) s b at z nm sm few e =
    let t = agents-then m s b at z e in
    go (λ u p. agents-parts m u b p z) t.0.0 t.0.1 (head-parts (length s.lines) b at t.0 t.1) t.2
  where
    go : ((u : Listed) (p : ℕ) → Naming u.names (length u.names) → length u.names ≤ 16 → length u.lines ≤ 4 → agents_at m u b p ≡ Ok z → AgentsRead u b p z)
        → (k : Bool) (q : ℕ) → Headed (length s.lines) b at k q → cond k (and_then (agent_at s b q) (λ t p. agents_at m t b p)) (Ok (s, q)) ≡ Ok z → AgentsRead s b at z
    go more true q h e =
        let p = parts_then (agent_at s b q) (λ t p. agents_at m t b p) z e in
        let r = agent-parts s b q p.0 nm sm p.1 in
        let l = agent-room s b at q p.0 h.0 h.1 r in
        let room = h.0 in
        agents-more s b at q p.0 h.0 h.1 r z
        (more p.0.0 p.0.1 (agent-naming s b at q p.0 h.0 h.1 r) (agent-small s b at q p.0 h.0 h.1 r) (omega arith) p.2)
    go more false q h e = agents-last s b at q z nm sm few h (inj e)

-- ---- the breach line
pub token-parts : (ns : List (List ℕ)) (b : List ℕ) (at : ℕ) (z : ℕ × ℕ) → token_at ns b at ≡ Ok z → (z.0 < length ns) × (drop at b ≡ get_or ns z.0 [] ++ drop z.1 b)
token-parts ns b at z e = go (word_at b at) (kind_fits (text_at b at)) e
  where
    hit : (u : List ℕ) (s : Bool) → leb (length ns) (index_of ns u) ≡ s → u ≡ text_at b at → cond s (Err (Misplaced at)) (Ok (index_of ns u, at + run_at b at)) ≡ Ok z → (z.0 < length ns) × (drop at b ≡ get_or ns z.0 [] ++ drop z.1 b)
    hit u true s f h = no h
    hit u false s f h =
        let l = leb-false (length ns) (index_of ns u) s in
        subst (λ (v : ℕ × ℕ). (v.0 < length ns) × (drop at b ≡ get_or ns v.0 [] ++ drop v.1 b)) (inj h)
        (l, word_split b at ∙ ap (λ w. w ++ drop (at + run_at b at) b) (sym f ∙ sym (index-found ns u l)))

    go : (k : Option Kind) → Fits k (text_at b at) → token_in ns b at k ≡ Ok z → (z.0 < length ns) × (drop at b ≡ get_or ns z.0 [] ++ drop z.1 b)
    go None f h = no h
    go (Some (keyword u)) f h = hit u (leb (length ns) (index_of ns u)) refl f h
    go (Some (number u)) f h = no h
    go (Some (instruction u)) f h = no h
    go (Some (name u)) f h = hit u (leb (length ns) (index_of ns u)) refl f h

pub breach-parts : (ns : List (List ℕ)) (b : List ℕ) (at : ℕ) (z : ℕ × ℕ) → breach_at ns b at ≡ Ok z → (z.0 < length ns) × (drop at b ≡ spaced (get_or ns z.0 []) (10 ∷ drop z.1 b))
breach-parts ns b at z e =
    let s1 = parts_then (separator_at 32 b at) (λ _ p. and_then (token_at ns b p) (λ k q. and_then (separator_at 10 b q) (λ _ r. Ok (k, r)))) z e in
    let s2 = parts_then (token_at ns b s1.0.1) (λ k q. and_then (separator_at 10 b q) (λ _ r. Ok (k, r))) z s1.2 in
    let s3 = parts_then (separator_at 10 b s2.0.1) (λ _ r. Ok (s2.0.0, r)) z s2.2 in
    let t = token-parts ns b s1.0.1 s2.0 s2.1 in
    subst (λ (v : ℕ × ℕ). (v.0 < length ns) × (drop at b ≡ spaced (get_or ns v.0 []) (10 ∷ drop v.1 b))) (inj s3.2)
    (t.0, sep-parts 32 b at s1.0 s1.1 ∙ ap (λ l. 32 ∷ l) (t.1 ∙ ap (λ l. get_or ns s2.0.0 [] ++ l) (sep-parts 10 b s2.0.1 s3.0 s3.1)))

-- ---- the program
no_names : Naming [] 0
no_names = record { count = refl; each = λ k h. absurd (omega arith); apart = λ i j l h e. omega arith }

pub record ProgramRead (b : List ℕ) (at : ℕ) (z : (Program × List (List ℕ)) × ℕ) : Type 0 where
  pub well : formed z.0.0 ≡ true
  pub naming : Naming z.0.1 (used_by_all 0 z.0.0.lines)
  pub text : drop at b ≡ render_program z.0.1 z.0.0 (drop z.1 b)

-- agents' lines and a breach line make a program
module _ (b : List ℕ) (at : ℕ) (s : Listed × ℕ) (a : AgentsRead (listed [] []) b at s) where
  pub all_lines : s.0.lines ≡ a.lines
  all_lines = a.is

  pub names-count : length s.0.names ≡ used_by_all 0 s.0.lines
  names-count = a.count ∙ ap (used_by_all 0) (sym all_lines)

  pub well-formed : (k : ℕ) → k < length s.0.names → formed (record { lines = s.0.lines; breach = k }) ≡ true
  well-formed k below =
      let count = names-count in
      let small = a.small in
      let order : all_in_order 0 s.0.lines ≡ true = subst (λ l. all_in_order 0 l ≡ true) (sym all_lines) a.order in
      and_from _ _ (and_from _ _ (le-leb 1 (length s.0.lines) a.some) (le-leb (length s.0.lines) 4 a.few))
      (and_from _ _ order (and_from _ _ (le-leb (used_by_all 0 s.0.lines) 16 (omega arith)) (lt-ltb k (used_by_all 0 s.0.lines) (omega arith))))

pub program-formed : (ns : List (List ℕ)) → ns ≡ [] → (b : List ℕ) (at : ℕ) (s : Listed) (q : ℕ) → Ok (s, q) ≡ agents_at 5 (listed ns []) b at
    → (c : List ℕ) (p k r : ℕ) → Ok (k, r) ≡ breach_at s.names c p → formed (record { lines = s.lines; breach = k }) ≡ true
program-formed ns e b at s q h c p k r g =
    let a = agents-parts 5 (listed [] []) b at (s, q) no_names (omega arith) (omega arith) (ap (λ l. agents_at 5 (listed l []) b at) (sym e) ∙ sym h) in
    well-formed b at (s, q) a k (breach-parts s.names c p (k, r) (sym g)).0

pub program-parts : (b : List ℕ) (at : ℕ) (z : (Program × List (List ℕ)) × ℕ) → program_at b at ≡ Ok z → ProgramRead b at z
program-parts b at z e =
    let s1 = parts_then (separator_at 10 b at) (λ _ p. and_then (agents_at 5 (listed [] []) b p) (λ s q. and_then (breach_at s.names b q) (λ k r. Ok ((record { lines = s.lines; breach = k }, s.names), r)))) z e in
    let s2 = parts_then (agents_at 5 (listed [] []) b s1.0.1) (λ s q. and_then (breach_at s.names b q) (λ k r. Ok ((record { lines = s.lines; breach = k }, s.names), r))) z s1.2 in
    let s3 = parts_then (breach_at s2.0.0.names b s2.0.1) (λ k r. Ok ((record { lines = s2.0.0.lines; breach = k }, s2.0.0.names), r)) z s2.2 in
    let a = agents-parts 5 (listed [] []) b s1.0.1 s2.0 no_names (omega arith) (omega arith) s2.1 in
    let t = breach-parts s2.0.0.names b s2.0.1 s3.0 s3.1 in
    let all = all_lines b s1.0.1 s2.0 a in
    let names = s2.0.0.names in
    subst (ProgramRead b at) (inj s3.2) (record {
      well = well-formed b s1.0.1 s2.0 a s3.0.0 t.0;
      naming = subst (Naming names) (names-count b s1.0.1 s2.0 a) a.naming;
      text = sep-parts 10 b at s1.0 s1.1 ∙ ap (λ l. 10 ∷ l) (a.text names (extends-self names)
          ∙ (λ i. render_lines names (sym all i) (codes "breach" ++ t.1 i)));
    })
