-- What a sheet reads as, from a place on. Assumes nothing.
use Rattle.std.specs.Prelude.{◌≡◌, ℕ, zero, suc, ◌+◌, Bool, true, false, cond, ◌&&◌, List, [], ◌∷◌, ◌++◌, length, drop, Some, None, Ok, Err, codes, Option, Result, ◌==◌, nat_le, nat_lt, slice_index}
use Rattle.std.specs.Str.{bytes_eq}
use Rattle.sheets.specs.declared.fault.SheetFault.{SheetFault}
use Rattle.sheets.specs.declared.fault.SheetFault.TheVariants.{TooLong, Misplaced, OutOfRange, Ended}
use Rattle.sheets.specs.declared.arrangement.Handshake as handshake
use Rattle.sheets.specs.declared.arrangement.Docket.{Docket}
use Rattle.sheets.specs.declared.line.Act.{Act}
use Rattle.sheets.specs.declared.fixed_list.FixedList.{FixedList}
use Rattle.sheets.specs.declared.arrangement.Tokens as store
use Rattle.sheets.specs.Names.{index_of, with_name}
use Rattle.sheets.specs.Programs.{Program, acts_of, lines_of, program_from}
use Rattle.sheets.specs.declared.arrangement.Arrangement.{Arrangement}
use Rattle.sheets.specs.declared.arrangement.Arrangement.TheVariants.{Handshake, Tokens}
use Rattle.sheets.specs.declared.words.Word.{Word}
use Rattle.sheets.specs.declared.words.Word.TheVariants.{Keyword, Number, Instruction, Name}
use Rattle.sheets.specs.declared.words.Placed.{Placed}
use Rattle.sheets.specs.Words.{Kind, keyword, number, instruction, name, kind_of, text_at, run_at, read_on, within}

-- what the code's words say
abbrev pub kind_in : Word → Kind
kind_in (Keyword t) = keyword t.now
kind_in (Number t) = number t.now
kind_in (Instruction t) = instruction t.now
kind_in (Name t) = name t.now

abbrev pub word_in : Option Word → Option Kind
word_in None = None
word_in (Some w) = Some (kind_in w)

-- the word at a place
abbrev pub word_at : List ℕ → ℕ → Option Kind
word_at b at = kind_of (text_at b at)

-- what the reader answers at a place, and the place that it is at then
abbrev pub Sees : Option Placed → ℕ → List ℕ → ℕ → Type 0
Sees None next b at = (word_at b at ≡ None) × (next ≡ at)
Sees (Some p) next b at = (word_at b at ≡ Some (kind_in p.word)) × (p.at ≡ at) × (next ≡ at + run_at b at)

-- nothing that may stand is at the place
abbrev pub stop : List ℕ → ℕ → SheetFault
stop b at = cond (nat_lt at (length b)) (Misplaced at) (Ended (length b))

-- a value and the place after it, or a fault
abbrev pub Got : Type 0 → Type 0
Got X = Result (X × ℕ) SheetFault

abbrev pub got : {X : Type 0} → Result X SheetFault → ℕ → Got X
got (Ok x) next = Ok (x, next)
got (Err e) next = Err e

abbrev pub and_then : {X Y : Type 0} → Got X → (X → ℕ → Got Y) → Got Y
and_then (Ok p) f = f p.0 p.1
and_then (Err e) f = Err e

-- a byte is at a place
abbrev pub byte_at : ℕ → List ℕ → ℕ → Bool
byte_at s b at = nat_lt at (length b) && slice_index b at == s

abbrev pub separator_at : ℕ → List ℕ → ℕ → Got (Unit {0})
separator_at s b at = cond (byte_at s b at) (Ok (tt, at + 1)) (Err (stop b at))

-- the keyword w, where a word k stands at a place
abbrev pub keyword_in : List ℕ → List ℕ → ℕ → Option Kind → Got (Unit {0})
keyword_in w b at None = Err (stop b at)
keyword_in w b at (Some (keyword t)) = cond (bytes_eq t w) (Ok (tt, at + run_at b at)) (Err (Misplaced at))
keyword_in w b at (Some (number t)) = Err (Misplaced at)
keyword_in w b at (Some (instruction t)) = Err (Misplaced at)
keyword_in w b at (Some (name t)) = Err (Misplaced at)

abbrev pub keyword_at : List ℕ → List ℕ → ℕ → Got (Unit {0})
keyword_at w b at = keyword_in w b at (word_at b at)

abbrev pub number_in : ℕ → ℕ → List ℕ → ℕ → Option Kind → Got ℕ
number_in low high b at None = Err (stop b at)
number_in low high b at (Some (keyword t)) = Err (Misplaced at)
number_in low high b at (Some (number t)) = cond (within low high (read_on 0 t)) (Ok (read_on 0 t, at + run_at b at)) (Err (OutOfRange at))
number_in low high b at (Some (instruction t)) = Err (Misplaced at)
number_in low high b at (Some (name t)) = Err (Misplaced at)

abbrev pub number_at : ℕ → ℕ → List ℕ → ℕ → Got ℕ
number_at low high b at = number_in low high b at (word_at b at)

-- one of two keywords: is it the second?
abbrev pub either_in : List ℕ → List ℕ → List ℕ → ℕ → Option Kind → Got Bool
either_in v w b at None = Err (stop b at)
either_in v w b at (Some (keyword t)) = cond (bytes_eq t v) (Ok (false, at + run_at b at)) (cond (bytes_eq t w) (Ok (true, at + run_at b at)) (Err (Misplaced at)))
either_in v w b at (Some (number t)) = Err (Misplaced at)
either_in v w b at (Some (instruction t)) = Err (Misplaced at)
either_in v w b at (Some (name t)) = Err (Misplaced at)

abbrev pub either_at : List ℕ → List ℕ → List ℕ → ℕ → Got Bool
either_at v w b at = either_in v w b at (word_at b at)

-- line 1
abbrev pub docket_at : List ℕ → ℕ → Got ℕ
docket_at b at =
    and_then (keyword_at (codes "docket") b at) (λ _ p. and_then (separator_at 32 b p) (λ _ q. and_then (number_at 1 9999 b q) (λ n r. and_then (separator_at 10 b r) (λ _ s. Ok (n, s)))))

-- a space and a number
abbrev pub spaced_at : ℕ → ℕ → List ℕ → ℕ → Got ℕ
spaced_at low high b at = and_then (separator_at 32 b at) (λ _ p. number_at low high b p)

pub record Shake : Type 0 where
  pub initiators : ℕ
  pub responders : ℕ
  pub capacity : ℕ
  pub lowe : Bool

-- line 2 after `handshake`
abbrev pub shake_at : List ℕ → ℕ → Got Shake
shake_at b at =
    and_then (spaced_at 1 3 b at) (λ i p. and_then (spaced_at 1 3 b p) (λ j q. and_then (spaced_at 1 4 b q) (λ m r. and_then (separator_at 32 b r) (λ _ s.
    and_then (either_at (codes "original") (codes "lowe") b s) (λ l t. and_then (separator_at 10 b t) (λ _ u. Ok (record { initiators = i; responders = j; capacity = m; lowe = l }, u)))))))

abbrev pub shake_of : handshake.Handshake → Shake
shake_of h = record { initiators = h.initiators; responders = h.responders; capacity = h.capacity; lowe = h.lowe }

abbrev pub shake_read : Result handshake.Handshake SheetFault → Result Shake SheetFault
shake_read (Ok h) = Ok (shake_of h)
shake_read (Err e) = Err e

-- g's answer, with what was written beside it
abbrev pub took : {X Y : Type 0} → Result X SheetFault → Y → ℕ → Got Y
took (Ok x) y next = Ok (y, next)
took (Err e) y next = Err e

-- the names and a line's instructions so far
pub record Sofar : Type 0 where
  pub names : List (List ℕ)
  pub acts : List Act

abbrev pub sofar : List (List ℕ) → List Act → Sofar
sofar ns js = record { names = ns; acts = js }

abbrev pub line_took : Result (FixedList Act 8) SheetFault → List (List ℕ) → ℕ → Got Sofar
line_took (Ok l) ns next = Ok (sofar ns (acts_of l), next)
line_took (Err e) ns next = Err e

-- an instruction by its text, where these names are there before it
abbrev pub act_of : List (List ℕ) → List ℕ → Act
act_of ns t = record { sign = slice_index t 0; token = index_of ns (drop 1 t) }

abbrev pub with_act : Sofar → List ℕ → Sofar
with_act s t = sofar (with_name s.names (drop 1 t)) (s.acts ++ (act_of s.names t ∷ []))

abbrev pub act_in : Sofar → List ℕ → ℕ → Option Kind → Got Sofar
act_in s b at None = Err (stop b at)
act_in s b at (Some (keyword t)) = Err (Misplaced at)
act_in s b at (Some (number t)) = Err (Misplaced at)
act_in s b at (Some (instruction t)) =
    cond (nat_le 8 (length s.acts)) (Err (OutOfRange at)) (cond (nat_le 16 (index_of s.names (drop 1 t))) (Err (OutOfRange at)) (Ok (with_act s t, at + run_at b at)))
act_in s b at (Some (name t)) = Err (Misplaced at)

-- one instruction
abbrev pub act_at : Sofar → List ℕ → ℕ → Got Sofar
act_at s b at = act_in s b at (word_at b at)

abbrev pub space_at : List ℕ → ℕ → Bool
space_at = byte_at 32

-- instructions up to the line's end, of which there are at most so many
unfoldable pub acts_at : ℕ → Sofar → List ℕ → ℕ → Got Sofar
acts_at zero s b at = Err (stop b at)
acts_at (suc left) s b at = and_then (act_at s b at) (λ t p. cond (space_at b p) (acts_at left t b (p + 1)) (and_then (separator_at 10 b p) (λ _ q. Ok (t, q))))

-- the names and the lines so far
pub record Listed : Type 0 where
  pub names : List (List ℕ)
  pub lines : List (List Act)

abbrev pub listed : List (List ℕ) → List (List Act) → Listed
listed ns ls = record { names = ns; lines = ls }

abbrev pub agents_took : Result (FixedList (FixedList Act 8) 4) SheetFault → List (List ℕ) → ℕ → Got Listed
agents_took (Ok a) ns next = Ok (listed ns (lines_of a), next)
agents_took (Err e) ns next = Err e

-- the first word of a line after n agents: is it one more agent's, or the breach line's?
abbrev pub head_in : ℕ → List ℕ → ℕ → Option Kind → Got Bool
head_in n b at None = Err (stop b at)
head_in n b at (Some (keyword t)) =
    cond (bytes_eq t (codes "agent")) (cond (nat_le 4 n) (Err (OutOfRange at)) (Ok (true, at + run_at b at)))
    (cond (bytes_eq t (codes "breach") && nat_le 1 n) (Ok (false, at + run_at b at)) (Err (Misplaced at)))
head_in n b at (Some (number t)) = Err (Misplaced at)
head_in n b at (Some (instruction t)) = Err (Misplaced at)
head_in n b at (Some (name t)) = Err (Misplaced at)

abbrev pub head_at : ℕ → List ℕ → ℕ → Got Bool
head_at n b at = head_in n b at (word_at b at)

-- the rest of an agent's line
abbrev pub agent_at : Listed → List ℕ → ℕ → Got Listed
agent_at s b at =
    and_then (separator_at 32 b at) (λ _ p. and_then (acts_at 9 (sofar s.names []) b p) (λ t q. Ok (listed t.names (s.lines ++ (t.acts ∷ [])), q)))

-- agents' lines up to the word `breach`, of which there are at most so many
unfoldable pub agents_at : ℕ → Listed → List ℕ → ℕ → Got Listed
agents_at zero s b at = Err (stop b at)
agents_at (suc left) s b at =
    and_then (head_at (length s.lines) b at) (λ agent p. cond agent (and_then (agent_at s b p) (λ t q. agents_at left t b q)) (Ok (s, p)))

-- a name that an agent's line has: its number
abbrev pub used_in : List (List ℕ) → List ℕ → List ℕ → ℕ → Got ℕ
used_in ns t b at = cond (nat_le (length ns) (index_of ns t)) (Err (Misplaced at)) (Ok (index_of ns t, at + run_at b at))

abbrev pub token_in : List (List ℕ) → List ℕ → ℕ → Option Kind → Got ℕ
token_in ns b at None = Err (stop b at)
token_in ns b at (Some (keyword t)) = used_in ns t b at
token_in ns b at (Some (number t)) = Err (Misplaced at)
token_in ns b at (Some (instruction t)) = Err (Misplaced at)
token_in ns b at (Some (name t)) = used_in ns t b at

abbrev pub token_at : List (List ℕ) → List ℕ → ℕ → Got ℕ
token_at ns b at = token_in ns b at (word_at b at)

-- the breach line after its first word
abbrev pub breach_at : List (List ℕ) → List ℕ → ℕ → Got ℕ
breach_at ns b at = and_then (separator_at 32 b at) (λ _ p. and_then (token_at ns b p) (λ k q. and_then (separator_at 10 b q) (λ _ r. Ok (k, r))))

-- line 2 after `tokens`, and the lines that follow it: the program, and the names of its tokens
abbrev pub program_at : List ℕ → ℕ → Got (Program × List (List ℕ))
program_at b at =
    and_then (separator_at 10 b at) (λ _ p. and_then (agents_at 5 (listed [] []) b p) (λ s q. and_then (breach_at s.names b q) (λ k r. Ok ((record { lines = s.lines; breach = k }, s.names), r))))

abbrev pub end_at : List ℕ → ℕ → Got (Unit {0})
end_at b at = cond (nat_lt at (length b)) (Err (Misplaced at)) (Ok (tt, at))

-- what a sheet describes
pub data Plan : Type 0 where
  shake : Shake → Plan
  tokens : Program → Plan

pub record Sheet : Type 0 where
  pub number : ℕ
  pub plan : Plan

abbrev pub program_of : store.Tokens → Program
program_of t = program_from t.lines t.breach

abbrev pub plan_of : Arrangement → Plan
plan_of (Handshake h) = shake (shake_of h)
plan_of (Tokens t) = tokens (program_of t)

abbrev pub program_took : Result store.Tokens SheetFault → List (List ℕ) → ℕ → Got (Program × List (List ℕ))
program_took (Ok t) ns next = Ok ((program_of t, ns), next)
program_took (Err e) ns next = Err e

abbrev pub plan_took : Result Arrangement SheetFault → List (List ℕ) → ℕ → Got (Plan × List (List ℕ))
plan_took (Ok a) ns next = Ok ((plan_of a, ns), next)
plan_took (Err e) ns next = Err e

-- the second line's first word decides; a handshake has no names
abbrev pub plan_in : List ℕ → ℕ → Option Kind → Got (Plan × List (List ℕ))
plan_in b at None = Err (stop b at)
plan_in b at (Some (keyword t)) =
    cond (bytes_eq t (codes "handshake")) (and_then (shake_at b (at + run_at b at)) (λ h p. Ok ((shake h, []), p)))
    (cond (bytes_eq t (codes "tokens")) (and_then (program_at b (at + run_at b at)) (λ n p. Ok ((tokens n.0, n.1), p))) (Err (Misplaced at)))
plan_in b at (Some (number t)) = Err (Misplaced at)
plan_in b at (Some (instruction t)) = Err (Misplaced at)
plan_in b at (Some (name t)) = Err (Misplaced at)

abbrev pub plan_at : List ℕ → ℕ → Got (Plan × List (List ℕ))
plan_at b at = plan_in b at (word_at b at)

-- what a sheet describes, and the names of its tokens
abbrev pub sheet_at : List ℕ → ℕ → Got (Sheet × List (List ℕ))
sheet_at b at = and_then (docket_at b at) (λ n p. and_then (plan_at b p) (λ a q. and_then (end_at b q) (λ _ r. Ok ((record { number = n; plan = a.0 }, a.1), r))))

abbrev pub only : {X : Type 0} → Got X → Result X SheetFault
only (Ok p) = Ok p.0
only (Err e) = Err e

unfoldable pub named_of : List ℕ → Result (Sheet × List (List ℕ)) SheetFault
named_of b = cond (nat_lt 2048 (length b)) (Err TooLong) (only (sheet_at b 0))

abbrev pub unnamed : Result (Sheet × List (List ℕ)) SheetFault → Result Sheet SheetFault
unnamed (Ok p) = Ok p.0
unnamed (Err e) = Err e

-- what a sheet reads as
abbrev pub read_of : List ℕ → Result Sheet SheetFault
read_of b = unnamed (named_of b)

abbrev pub sheet_of : Docket → Sheet
sheet_of d = record { number = d.number; plan = plan_of d.arrangement }

abbrev pub sheet_read : Result Docket SheetFault → Result Sheet SheetFault
sheet_read (Ok d) = Ok (sheet_of d)
sheet_read (Err e) = Err e

-- the names that a caller holds after a sheet was read: those of the sheet, or as they were where it is refused
abbrev pub names_after : Result (Sheet × List (List ℕ)) SheetFault → List (List ℕ) → List (List ℕ)
names_after (Ok p) ns = p.1
names_after (Err e) ns = ns
