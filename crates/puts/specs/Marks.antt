-- A mark's code, its scatter number, and its laws, which stand here since the impl cites them and can't cite this crate's proofs/. Assumes nothing.
use Rattle.std.specs.Prelude.{◌≡◌, ℕ, ◌*◌, ◌/◌, ◌%◌, ◌^◌, List, [], ◌∷◌, ◌==◌, refl}
use Rattle.std.proofs.Common.{ap, arith, lit≤}
use Rattle.std.specs.Ordering.{nat_cmp, on}
use Rattle.std.specs.Str.{bytes_eq}
use Rattle.std.proofs.lemmas.Bool.Decides.{nat_tests}
use Rattle.meaning.specs.Codes.{IsCode, ComparesCodes, code_order}
use Rattle.puts.specs.declared.mark.Mark.{Mark}

-- two bytes, the high one first
abbrev pub mark_code : Mark → List ℕ
mark_code m = m.number / 256 ∷ m.number % 256 ∷ []

-- a multiple of the number, squared, under a prime
abbrev pub mark_scattered : Mark → ℕ
mark_scattered m = (m.number * 2654435761 % 4294967291) * (m.number * 2654435761 % 4294967291) % 2 ^ 64 % 4294967291

head-same : (a b c d : ℕ) → a ∷ c ∷ [] ≡ b ∷ d ∷ [] → (a ≡ b) × (c ≡ d)
head-same a b c d e = (cc, cc)

pub mark_laws : IsCode mark_code 2
mark_laws = record {
  injective = λ a b e.
      let parts = head-same (a.number / 256) (b.number / 256) (a.number % 256) (b.number % 256) e in
      let high = parts.0 in
      let low = parts.1 in
      let same : a.number ≡ b.number = omega arith in
      ap (λ n. record { number = n }) same;
  wide = λ s. refl;
  narrow = lit≤ tt;
}

same-number : (x y : ℕ) → (x == y) ≡ bytes_eq (x / 256 ∷ x % 256 ∷ []) (y / 256 ∷ y % 256 ∷ [])
same-number x y = grind (arith, nat_tests)

order-number : (x y : ℕ) → nat_cmp x y ≡ code_order (x / 256 ∷ x % 256 ∷ []) (y / 256 ∷ y % 256 ∷ [])
order-number x y = grind (arith, nat_tests)

pub mark_compared : ComparesCodes mark_code (λ a b. a.number == b.number) (on (λ (m : Mark). m.number) nat_cmp)
mark_compared = record { same = λ a b. same-number a.number b.number; order = λ a b. order-number a.number b.number }
