use Rattle.std.proofs.Common.{◌≡◌, Bool, true, false, ◌||◌, List, ℕ, codes, refl, rules, tests, bytes_eq, ◌∙◌}
use Rattle.std.proofs.lemmas.Iterator.{YieldsList-from_slice}
use Rattle.std.proofs.lemmas.Iterator.Search.{any_from_yields_List}
use Rattle.sheets.specs.Words.{is_keyword}
use Rattle.sheets.proofs.words.is_keyword.Goals as goal

or-false : (a : Bool) → (a || false) ≡ a
or-false true = refl
or-false false = refl

-- the words of the table, one by one
all-words : (t : List ℕ)
    → (bytes_eq t (codes "docket") || (bytes_eq t (codes "handshake") || (bytes_eq t (codes "original") || (bytes_eq t (codes "lowe")
    || (bytes_eq t (codes "tokens") || (bytes_eq t (codes "agent") || (bytes_eq t (codes "breach") || false)))))))
    ≡ is_keyword t
all-words t = rw (or-false (bytes_eq t (codes "breach"))) refl

pub returns : goal.returns
returns c =
    any_from_yields_List (λ k. bytes_eq c.args.text.now k.now) _ _ c.any.result c.any.ensures.ran (YieldsList-from_slice _ c.iter.ensures.rest) (λ x b q k. search (rules, tests))
    ∙ all-words c.args.text.now
