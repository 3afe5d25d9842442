-- Names of tokens, numbered by first use. Assumes nothing.
use Rattle.std.specs.Prelude.{ℕ, ◌+◌, cond, List, [], ◌∷◌, ◌++◌, length, Some, None, Option, nat_lt, slice_index_or}
use Rattle.std.specs.Borrow.{Bor}
use Rattle.std.specs.Str.{bytes_eq}
use Rattle.sheets.specs.FixedLists.{held}
use Rattle.sheets.specs.declared.names.Names.{Names}

abbrev pub texts : List (Bor (List ℕ)) → List (List ℕ)
texts [] = []
texts (r ∷ rs) = r.now ∷ texts rs

abbrev pub names_of : Names → List (List ℕ)
names_of n = texts (held n.texts)

-- the place of a name among others, or their number if it is none of them
abbrev pub index_of : List (List ℕ) → List ℕ → ℕ
index_of [] w = 0
index_of (n ∷ ns) w = cond (bytes_eq n w) 0 (1 + index_of ns w)

abbrev pub with_name : List (List ℕ) → List ℕ → List (List ℕ)
with_name ns w = cond (nat_lt (index_of ns w) (length ns)) ns (ns ++ (w ∷ []))

abbrev pub text_of : List (List ℕ) → ℕ → Option (List ℕ)
text_of ns k = cond (nat_lt k (length ns)) (Some (slice_index_or ns k [])) None
