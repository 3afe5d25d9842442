-- The frame of a finding. Numbers have the highest byte first. Assumes nothing.
use Rattle.std.specs.Prelude.{ℕ, ◌+◌, ◌*◌, ◌/◌, ◌%◌, cond, not, ◌||◌, List, [], ◌∷◌, ◌++◌, length, take, drop, Ok, Err, Result, ◌==◌, nat_lt, slice_index}
use Rattle.bodies.specs.declared.kind.Kind.{Kind}
use Rattle.bodies.specs.declared.kind.UnknownKind.{UnknownKind}
use Rattle.bodies.specs.Kinds.{kind_byte, kind_told}
use Rattle.bodies.specs.Trips.{body_wide}
use Rattle.findings.specs.declared.frame.Frame.{Frame}
use Rattle.findings.specs.declared.frame.FrameFault.{FrameFault}

-- the number of two or four bytes at a place
abbrev pub number2 : List ℕ → ℕ → ℕ
number2 b at = slice_index b at * 256 + slice_index b (at + 1)

abbrev pub number4 : List ℕ → ℕ → ℕ
number4 b at = ((slice_index b at * 256 + slice_index b (at + 1)) * 256 + slice_index b (at + 2)) * 256 + slice_index b (at + 3)

-- a number in two or four bytes
abbrev pub bytes2 : ℕ → List ℕ
bytes2 n = n / 256 % 256 ∷ n % 256 ∷ []

abbrev pub bytes4 : ℕ → List ℕ
bytes4 n = n / 16777216 % 256 ∷ n / 65536 % 256 ∷ n / 256 % 256 ∷ n % 256 ∷ []

-- edition 1, the kind, the width, the count, and two pairs of offset and length: the sheet at 24, and the body behind it
abbrev pub frame_bytes : Kind → ℕ → ℕ → ℕ → ℕ → List ℕ
frame_bytes k width n sheet body =
    1 ∷ kind_byte k ∷ (bytes2 width ++ (bytes4 n ++ (bytes4 24 ++ (bytes4 sheet ++ (bytes4 (24 + sheet) ++ bytes4 body)))))

-- a finding in bytes
abbrev pub finding : Kind → ℕ → ℕ → List ℕ → List ℕ → List ℕ
finding k width n sheet body = frame_bytes k width n (length sheet) (length body) ++ (sheet ++ body)

abbrev pub fault_at : ℕ → FrameFault
fault_at offset = record { 0 = offset }

-- the kind, tested after byte 0, and then the fields in the order of their offsets; the first that is wrong by itself or by those before it
abbrev pub fields : List ℕ → Kind → Result Frame FrameFault
fields b k =
    cond (nat_lt 65535 (number4 b 4)) (Err (fault_at 4))
    (cond (not (number4 b 8 == 24)) (Err (fault_at 8))
    (cond (nat_lt (length b) (24 + number4 b 12)) (Err (fault_at 12))
    (cond (not (number4 b 16 == 24 + number4 b 12)) (Err (fault_at 16))
    (cond (not (number4 b 20 == number4 b 4 * body_wide (number2 b 2) k) || not (24 + number4 b 12 + number4 b 20 == length b)) (Err (fault_at 20))
    (Ok (record { kind = k; width = number2 b 2; count = number4 b 4; sheet = number4 b 12 }))))))

abbrev pub frame_by_kind : List ℕ → Result Kind UnknownKind → Result Frame FrameFault
frame_by_kind b (Err u) = Err (fault_at 1)
frame_by_kind b (Ok k) = fields b k

-- the frame, or the offset of the first wrong field; the length itself where it is under 24
abbrev pub frame_of : List ℕ → Result Frame FrameFault
frame_of b = cond (nat_lt (length b) 24) (Err (fault_at (length b))) (cond (not (slice_index b 0 == 1)) (Err (fault_at 0)) (frame_by_kind b (kind_told (slice_index b 1))))

abbrev pub sheet_in : Frame → List ℕ → List ℕ
sheet_in f b = take f.sheet (drop 24 b)

abbrev pub body_in : Frame → List ℕ → List ℕ
body_in f b = drop (24 + f.sheet) b
