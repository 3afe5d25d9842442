-- Names as they are numbered, one after the other. Assumes nothing.
use Rattle.std.proofs.Common.{◌≡◌, ℕ, zero, suc, ◌+◌, ◌<◌, ◌≤◌, max, Bool, true, false, cond, ltb, ◌⊎◌, List, [], ◌∷◌, ◌++◌, length, get_or, sym, refl, ap, ◌∙◌, subst, inl, inr, ⊎_elim, arith}
use Rattle.std.specs.Str.{bytes_eq}
use Rattle.std.proofs.lemmas.Slice.Eq.{bytes_eq-Decides}
use Rattle.std.proofs.lemmas.List.{get_or_append_left, get_or_push, length_push}
use Rattle.std.proofs.lemmas.Bool.{cond-true, cond-false, ltb-true, ltb-false}
use Rattle.sheets.specs.Names.{index_of, with_name}
use Rattle.sheets.specs.Words.{is_name}
use Rattle.sheets.specs.Rendered.{Naming}
use Rattle.sheets.proofs.NameFacts.{index-le}

-- the name at the number that is found
pub index-found : (ns : List (List ℕ)) (w : List ℕ) → index_of ns w < length ns → get_or ns (index_of ns w) [] ≡ w
index-found [] w h = absurd (omega arith)
index-found (n ∷ ns) w h = go (bytes_eq n w) refl (index-found ns w) h
  where
    go : (t : Bool) → bytes_eq n w ≡ t → (index_of ns w < length ns → get_or ns (index_of ns w) [] ≡ w) → cond t 0 (1 + index_of ns w) < length (n ∷ ns) → get_or (n ∷ ns) (cond t 0 (1 + index_of ns w)) [] ≡ w
    go true e f h = (bytes_eq-Decides n w).0 e
    go false e f h =
        let one : 1 + index_of ns w ≡ suc (index_of ns w) = omega arith in
        ap (λ k. get_or (n ∷ ns) k []) one ∙ f (omega arith)

-- no earlier name is the one sought
pub index-before : (ns : List (List ℕ)) (w : List ℕ) (i : ℕ) → i < index_of ns w → get_or ns i [] ≡ w → ⊥
index-before [] w i h e = omega arith
index-before (n ∷ ns) w i h e = go (bytes_eq n w) refl (index-before ns w) i h e
  where
    go : (t : Bool) → bytes_eq n w ≡ t → ((i : ℕ) → i < index_of ns w → get_or ns i [] ≡ w → ⊥) → (i : ℕ) → i < cond t 0 (1 + index_of ns w) → get_or (n ∷ ns) i [] ≡ w → ⊥
    go true s f i h e = omega arith
    go false s f zero h e = let z : ◌≡◌ {A = Bool} false true = sym s ∙ (bytes_eq-Decides n w).1 e in let q : ◌≡◌ {A = ℕ} 0 1 = cc in omega arith
    go false s f (suc i) h e = f i (omega arith) e

-- fs begins with ns
pub record Extends (ns fs : List (List ℕ)) : Type 0 where
  pub more : length ns ≤ length fs
  pub same : (k : ℕ) → k < length ns → get_or fs k [] ≡ get_or ns k []

pub extends-self : (ns : List (List ℕ)) → Extends ns ns
extends-self ns = record { more = omega arith; same = λ k h. refl }

pub extends-trans : (ns ms fs : List (List ℕ)) → Extends ns ms → Extends ms fs → Extends ns fs
extends-trans ns ms fs a b =
    let m = a.more in
    record { more = omega (arith, a.more, b.more); same = λ k h. b.same k (omega arith) ∙ a.same k h }

-- one name more, or none where it is there
pub record Numbered (ns : List (List ℕ)) (w : List ℕ) : Type 0 where
  pub naming : Naming (with_name ns w) (length (with_name ns w))
  pub extends : Extends ns (with_name ns w)
  pub here : get_or (with_name ns w) (index_of ns w) [] ≡ w
  pub count : length (with_name ns w) ≡ max (length ns) (index_of ns w + 1)

module _ (ns : List (List ℕ)) (w : List ℕ) (nm : Naming ns (length ns)) (is : is_name w ≡ true) where
  held : ltb (index_of ns w) (length ns) ≡ true → Numbered ns w
  held e =
      let h = ltb-true (index_of ns w) (length ns) e in
      let q : with_name ns w ≡ ns = cond-true _ _ _ e in
      record {
        naming = subst (λ l. Naming l (length l)) (sym q) nm;
        extends = subst (Extends ns) (sym q) (extends-self ns);
        here = ap (λ l. get_or l (index_of ns w) []) q ∙ index-found ns w h;
        count = ap length q ∙ omega arith;
      }

  abbrev grown : List (List ℕ)
  grown = ns ++ (w ∷ [])

  module _ (k : index_of ns w ≡ length ns) where
    long : length grown ≡ length ns + 1
    long = length_push ns w

    old : (j : ℕ) → j < length ns → get_or grown j [] ≡ get_or ns j []
    old j h = get_or_append_left ns (w ∷ []) [] j h

    new : (j : ℕ) → length ns ≡ j → get_or grown j [] ≡ w
    new j h = get_or_push ns w [] j h

    split : (j : ℕ) → j < length ns + 1 → (j < length ns) ⊎ (length ns ≡ j)
    split j h = go (ltb j (length ns)) refl
      where
        go : (t : Bool) → ltb j (length ns) ≡ t → (j < length ns) ⊎ (length ns ≡ j)
        go true e = inl (ltb-true j (length ns) e)
        go false e = inr (let l = ltb-false j (length ns) e in omega arith)

    grown-naming : Naming grown (length ns + 1)
    grown-naming = record {
      count = long;
      each = λ j h. ⊎_elim (λ l. ap is_name (old j l) ∙ nm.each j l) (λ e. ap is_name (new j e) ∙ is) (split j h);
      apart = λ i j l h e. ⊎_elim
          (λ m. let b : i < length ns = omega arith in nm.apart i j l m (sym (old i b) ∙ e ∙ old j m))
          (λ m. let b : i < length ns = omega arith in index-before ns w i (omega arith) (sym (old i b) ∙ e ∙ new j m)) (split j h);
    }

    fresh : ltb (index_of ns w) (length ns) ≡ false → Numbered ns w
    fresh e =
        let q : with_name ns w ≡ grown = cond-false _ _ _ e in
        let g : Naming grown (length grown) = subst (Naming grown) (sym long) grown-naming in
        record {
          naming = subst (λ l. Naming l (length l)) (sym q) g;
          extends = subst (Extends ns) (sym q) (record { more = omega (arith, long); same = λ j h. old j h });
          here = ap (λ l. get_or l (index_of ns w) []) q ∙ new (index_of ns w) (sym k);
          count = ap length q ∙ omega (arith, long);
        }

  pub numbered : Numbered ns w
  numbered = go (ltb (index_of ns w) (length ns)) refl
    where
      go : (t : Bool) → ltb (index_of ns w) (length ns) ≡ t → Numbered ns w
      go true e = held e
      go false e = let l = ltb-false (index_of ns w) (length ns) e in let m = index-le ns w in fresh (omega arith) e
