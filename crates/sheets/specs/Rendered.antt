-- How a sheet is written, and the laws that tie writing and reading. Assumes nothing.
use Rattle.std.specs.Prelude.{◌≡◌, ℕ, ◌<◌, ◌≤◌, true, cond, List, [], ◌∷◌, ◌++◌, length, Ok, Err, codes, decimal, ◌≢◌, slice_index_or}
use Rattle.sheets.specs.declared.arrangement.Docket.{Docket}
use Rattle.sheets.specs.declared.fault.SheetFault.{SheetFault}
use Rattle.sheets.specs.declared.fault.SheetFault.TheVariants.{TooLong, Misplaced, OutOfRange, Ended}
use Rattle.sheets.specs.declared.line.Act.{Act}
use Rattle.sheets.specs.Programs.{Program, used_by_all, formed}
use Rattle.sheets.specs.Words.{is_name}
use Rattle.sheets.specs.Reads.{Shake, Plan, shake, tokens, Sheet, named_of, read_of, sheet_of}

abbrev pub spaced : List ℕ → List ℕ → List ℕ
spaced w rest = 32 ∷ (w ++ rest)

-- a handshake's line after its first word
abbrev pub render_shake : Shake → List ℕ → List ℕ
render_shake s rest =
    spaced (decimal s.initiators) (spaced (decimal s.responders) (spaced (decimal s.capacity) (spaced (cond s.lowe (codes "lowe") (codes "original")) (10 ∷ rest))))

-- an instruction: its sign and its token's name
abbrev pub render_act : List (List ℕ) → Act → List ℕ
render_act ns a = a.sign ∷ slice_index_or ns a.token []

abbrev pub render_acts : List (List ℕ) → List Act → List ℕ → List ℕ
render_acts ns [] rest = 10 ∷ rest
render_acts ns (a ∷ js) rest = spaced (render_act ns a) (render_acts ns js rest)

abbrev pub render_lines : List (List ℕ) → List (List Act) → List ℕ → List ℕ
render_lines ns [] rest = rest
render_lines ns (js ∷ ls) rest = codes "agent" ++ render_acts ns js (render_lines ns ls rest)

-- a token store's lines after the word `tokens`
abbrev pub render_program : List (List ℕ) → Program → List ℕ → List ℕ
render_program ns p rest = 10 ∷ render_lines ns p.lines (codes "breach" ++ spaced (slice_index_or ns p.breach []) (10 ∷ rest))

abbrev pub render_plan : Plan → List (List ℕ) → List ℕ → List ℕ
render_plan (shake s) ns rest = codes "handshake" ++ render_shake s rest
render_plan (tokens p) ns rest = codes "tokens" ++ render_program ns p rest

-- a sheet in bytes, with these names for its tokens
abbrev pub render : Sheet → List (List ℕ) → List ℕ
render d ns = codes "docket" ++ spaced (decimal d.number) (10 ∷ render_plan d.plan ns [])

-- n names, each of one to eight small letters, no two alike
pub record Naming (ns : List (List ℕ)) (n : ℕ) : Type 0 where
  pub count : length ns ≡ n
  pub each : (k : ℕ) → k < n → is_name (slice_index_or ns k []) ≡ true
  pub apart : (i j : ℕ) → i < j → j < n → slice_index_or ns i [] ≢ slice_index_or ns j []

-- a handshake has no names, and a token store one for each token
abbrev pub NamesFor : Plan → List (List ℕ) → Type 0
NamesFor (shake s) ns = ns ≡ []
NamesFor (tokens p) ns = Naming ns (used_by_all 0 p.lines)

abbrev pub Between : ℕ → ℕ → ℕ → Type 0
Between low high n = (low ≤ n) × (n ≤ high)

abbrev pub HandshakeIsWithinLimits : Shake → Type 0
HandshakeIsWithinLimits s = Between 1 3 s.initiators × Between 1 3 s.responders × Between 1 4 s.capacity

abbrev pub PlanIsWithinLimits : Plan → Type 0
PlanIsWithinLimits (shake s) = HandshakeIsWithinLimits s
PlanIsWithinLimits (tokens p) = formed p ≡ true

abbrev pub IsWithinLimits : Sheet → Type 0
IsWithinLimits d = Between 1 9999 d.number × PlanIsWithinLimits d.plan

-- bytes that are the text of a sheet, with some names
pub record IsTextOf (d : Sheet) (b : List ℕ) : Type 0 where
  pub well : IsWithinLimits d
  pub names : List (List ℕ)
  pub fit : NamesFor d.plan names
  pub text : b ≡ render d names

-- a sheet is accepted exactly if it is the text of some docket, and then it reads as that docket
pub record AcceptedIffWritten : Type 0 where
  pub text : (b : List ℕ) (d : Sheet) → read_of b ≡ Ok d → IsTextOf d b
  pub read : (b : List ℕ) (d : Sheet) → IsTextOf d b → read_of b ≡ Ok d
  pub names : (b : List ℕ) (d : Sheet) (ns : List (List ℕ)) → named_of b ≡ Ok (d, ns) → NamesFor d.plan ns × (b ≡ render d ns)

-- two dockets never share a text
abbrev pub TextsTellDocketsApart : Type 0
TextsTellDocketsApart = (b : List ℕ) (d e : Sheet) → IsTextOf d b → IsTextOf e b → d ≡ e

-- every value of the code's type is described by some sheet
abbrev pub EveryDocketHasAText : Type 0
EveryDocketHasAText = (d : Docket) → (b : List ℕ) × IsTextOf (sheet_of d) b

-- where a fault's place lies: 1 exactly above 2,048 bytes; 2 and 3 at a byte of the sheet; 4 at its end
abbrev pub PlaceLiesIn : List ℕ → SheetFault → Type 0
PlaceLiesIn b TooLong = 2048 < length b
PlaceLiesIn b (Misplaced p) = (length b ≤ 2048) × (p < length b)
PlaceLiesIn b (OutOfRange p) = (length b ≤ 2048) × (p < length b)
PlaceLiesIn b (Ended p) = (length b ≤ 2048) × (p ≡ length b)

pub record FaultPlacesLieInTheSheet : Type 0 where
  pub placed : (b : List ℕ) (e : SheetFault) → read_of b ≡ Err e → PlaceLiesIn b e
  pub long : (b : List ℕ) → 2048 < length b → read_of b ≡ Err TooLong
