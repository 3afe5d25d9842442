-- What is written as a finding has that frame. Assumes nothing.
use Rattle.std.proofs.Common.{◌≡◌, ℕ, ◌+◌, ◌*◌, ◌/◌, ◌%◌, ◌<◌, ◌≤◌, true, false, not, ◌||◌, eqb, List, ◌++◌, length, Ok, sym, refl, ap, ◌∙◌, arith, length-append}
use Rattle.std.proofs.lemmas.List.{take_at, drop_at, drop-drop}
use Rattle.std.proofs.lemmas.Nat.{from_be_bytes-to_be_bytes_4}
use Rattle.std.proofs.lemmas.Bool.{cond-false, le-ltb, eq-eqb}
use Rattle.bodies.specs.declared.kind.Kind.{Kind}
use Rattle.bodies.specs.declared.kind.Kind.TheVariants.{Breach, Closed}
use Rattle.bodies.specs.Kinds.{kind_byte, kind_told}
use Rattle.bodies.specs.Trips.{body_wide}
use Rattle.findings.specs.Frames.{number2, number4, finding, frame_by_kind, frame_of, sheet_in, body_in}
use Rattle.findings.specs.Stands.{frame_as}

-- a number comes back from its bytes
four-back : (n : ℕ) → n < 4294967296 → ((n / 16777216 % 256 * 256 + n / 65536 % 256) * 256 + n / 256 % 256) * 256 + n % 256 ≡ n
four-back n h = let back = from_be_bytes-to_be_bytes_4 n h in omega (arith, back)

kind-back : (k : Kind) → kind_told (kind_byte k) ≡ Ok k
kind-back Breach = refl
kind-back Closed = refl

module _ (k : Kind) (width n : ℕ) (sheet body : List ℕ) (narrow : width < 65536) (few : n ≤ 65535) (short : length sheet ≤ 2048) (long : length body ≡ n * body_wide width k) (small : length body < 4294967296) where
  abbrev w : List ℕ
  w = finding k width n sheet body

  rest-long : length (sheet ++ body) ≡ length sheet + length body
  rest-long = length-append sheet body

  pub whole_long : length w ≡ 24 + length sheet + length body
  whole_long = omega (arith, rest-long)

  at_width : number2 w 2 ≡ width
  at_width = omega arith

  at_count : number4 w 4 ≡ n
  at_count = four-back n (omega arith)

  at-sheet : number4 w 12 ≡ length sheet
  at-sheet = four-back (length sheet) (omega arith)

  at_body : number4 w 16 ≡ 24 + length sheet
  at_body = four-back (24 + length sheet) (omega arith)

  at_length : number4 w 20 ≡ length body
  at_length = four-back (length body) small

  pub frame-done : frame_of w ≡ Ok (frame_as k width n sheet)
  frame-done =
      cond-false _ _ _ (le-ltb (length w) 24 (omega (arith, whole_long)))
      ∙ ap (frame_by_kind w) (kind-back k)
      ∙ cond-false _ _ _ (le-ltb 65535 (number4 w 4) (omega (arith, at_count)))
      ∙ cond-false _ _ _ (le-ltb (length w) (24 + number4 w 12) (omega (arith, at-sheet, whole_long)))
      ∙ cond-false _ _ _ (ap not (eq-eqb (number4 w 16) (24 + number4 w 12) (at_body ∙ ap (λ x. 24 + x) (sym at-sheet))))
      ∙ cond-false _ _ _ last
      ∙ (λ i. Ok (record { kind = k; width = at_width i; count = at_count i; sheet = at-sheet i }))
    where
      last : (not (eqb (number4 w 20) (number4 w 4 * body_wide (number2 w 2) k)) || not (eqb (24 + number4 w 12 + number4 w 20) (length w))) ≡ false
      last =
          let one : eqb (number4 w 20) (number4 w 4 * body_wide (number2 w 2) k) ≡ true = eq-eqb _ _ (at_length ∙ long ∙ (λ i. sym at_count i * body_wide (sym at_width i) k)) in
          let two : eqb (24 + number4 w 12 + number4 w 20) (length w) ≡ true = eq-eqb _ _ ((λ i. 24 + at-sheet i + at_length i) ∙ sym whole_long) in
          (λ i. not (one i) || not (two i))

  pub sheet-done : sheet_in (frame_as k width n sheet) w ≡ sheet
  sheet-done = take_at sheet body (length sheet) refl

  pub body-done : body_in (frame_as k width n sheet) w ≡ body
  body-done = sym (drop-drop (length sheet) 24 w) ∙ drop_at sheet body (length sheet) refl
