-- The words of a sheet, by place. Assumes nothing.
use Rattle.std.specs.Prelude.{ℕ, ◌+◌, ◌-◌, ◌*◌, Bool, cond, not, ◌&&◌, ◌||◌, List, [], ◌∷◌, length, take, drop, Some, None, codes, Option, ◌==◌, nat_le, slice_index, ◌^◌, min}
use Rattle.std.specs.List.{list_all, prefix_len}
use Rattle.std.specs.Str.{bytes_eq}
use Rattle.sheets.specs.Programs.{sign}

-- neither space nor line end
abbrev pub solid : ℕ → Bool
solid b = not (b == 32) && not (b == 10)

-- the length of the longest run of solid bytes at a place
abbrev pub run_at : List ℕ → ℕ → ℕ
run_at b at = prefix_len solid (drop at b)

abbrev pub text_at : List ℕ → ℕ → List ℕ
text_at b at = take (run_at b at) (drop at b)

abbrev pub within : ℕ → ℕ → ℕ → Bool
within low high c = nat_le low c && nat_le c high

abbrev pub digit : ℕ → Bool
digit = within 48 57

abbrev pub small : ℕ → Bool
small = within 97 122

abbrev pub is_name : List ℕ → Bool
is_name t = nat_le 1 (length t) && (nat_le (length t) 8 && list_all small t)

-- digits with no leading zero
abbrev pub is_number : List ℕ → Bool
is_number t = nat_le 1 (length t) && (list_all digit t && (not (slice_index t 0 == 48) || length t == 1))

abbrev pub is_instruction : List ℕ → Bool
is_instruction t = sign (slice_index t 0) && is_name (drop 1 t)

abbrev pub is_keyword : List ℕ → Bool
is_keyword t = bytes_eq t (codes "docket") || (bytes_eq t (codes "handshake") || (bytes_eq t (codes "original") || (bytes_eq t (codes "lowe")
    || (bytes_eq t (codes "tokens") || (bytes_eq t (codes "agent") || bytes_eq t (codes "breach"))))))

-- a word's kind, with its bytes
pub data Kind : Type 0 where
  keyword : List ℕ → Kind
  number : List ℕ → Kind
  instruction : List ℕ → Kind
  name : List ℕ → Kind

abbrev pub kind_of : List ℕ → Option Kind
kind_of t =
    cond (is_number t) (Some (number t)) (cond (is_instruction t) (Some (instruction t)) (cond (is_keyword t) (Some (keyword t)) (cond (is_name t) (Some (name t)) None)))

-- the number that digits write
abbrev pub read_on : ℕ → List ℕ → ℕ
read_on n [] = n
read_on n (c ∷ cs) = read_on (n * 10 + (c - 48)) cs

-- one digit more, as far as 32 bits hold it
abbrev pub digit_on : ℕ → ℕ → ℕ
digit_on n c = min (min (n * 10) (2 ^ 32 - 1) + (c - 48)) (2 ^ 32 - 1)
