-- An entry as its reader sees it: the number, what its sheet describes, and how it stands. Assumes nothing.
-- This file names no `Register`, so that its ghost field can cite it.
use Rattle.std.specs.Prelude.{◌≡◌, ℕ, Bool, true, false, List, [], ◌∷◌, map}
use Rattle.sheets.specs.Reads.{Plan, plan_of}
use Rattle.sheets.specs.declared.arrangement.Arrangement.{Arrangement}
use Rattle.bodies.specs.declared.kind.Kind.{Kind}
use Rattle.findings.specs.Truths.{IsTrueOf}
use Rattle.register.specs.declared.entry.Status.{Status}
use Rattle.register.specs.declared.entry.Status.TheVariants.{Open, Filed, Withdrawn}
use Rattle.register.specs.declared.entry.Entry.{Entry}

pub record EntryView : Type 0 where
  pub number : ℕ
  pub plan : Plan
  pub status : Status

abbrev pub view_of : Entry → EntryView
view_of e = record { number = e.number; plan = plan_of e.model; status = e.status }

abbrev pub views_of : List Entry → List EntryView
views_of es = map view_of es

abbrev pub is_open : Status → Bool
is_open Open = true
is_open (Filed k) = false
is_open Withdrawn = false

abbrev pub is_filed : Status → Bool
is_filed Open = false
is_filed (Filed k) = true
is_filed Withdrawn = false

abbrev pub is_withdrawn : Status → Bool
is_withdrawn Open = false
is_withdrawn (Filed k) = false
is_withdrawn Withdrawn = true

-- the entry with another status
abbrev pub stamped : EntryView → Status → EntryView
stamped e s = record { number = e.number; plan = e.plan; status = s }

-- the kind that is filed is true of every arrangement that the sheet describes
unfoldable pub FiledKindIsTrue : EntryView → Type 0
FiledKindIsTrue e = (k : Kind) (a : Arrangement) → e.status ≡ Filed k → plan_of a ≡ e.plan → IsTrueOf a k

unfoldable pub EachIsTrue : List EntryView → Type 0
EachIsTrue [] = Unit {0}
EachIsTrue (e ∷ es) = FiledKindIsTrue e × EachIsTrue es
