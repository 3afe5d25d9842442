use Rattle.std.proofs.Common.{◌≡◌, rules, tests, take, drop, ap, ◌∙◌}
use Rattle.std.specs.List.{prefix_len}
use Rattle.std.proofs.lemmas.Iterator.{YieldsList-from_slice}
use Rattle.std.proofs.lemmas.Iterator.Consumers.{count_from_yields_List}
use Rattle.std.proofs.lemmas.Iterator.Search.{YieldsList-from_take_while}
use Rattle.std.proofs.lemmas.List.{take_rest}
use Rattle.std.proofs.lemmas.List.Folds.{length-prefix_len}
use Rattle.sheets.specs.Words.{solid}
use Rattle.sheets.proofs.words.text_at.Goals as goal

pub returns : goal.returns
returns c =
    let n : c.count-end.result ≡ prefix_len solid c.in-Some.rest.now =
    count_from_yields_List _ c.count-end.result c.count-end.ensures.ran
    (YieldsList-from_take_while {ys = c.in-Some.rest.now} _ solid (YieldsList-from_slice _ (ap (λ i. i.rest.now) c.take_while.ensures.source ∙ c.iter.ensures.rest)) c.take_while.ensures.closure c.take_while.ensures.done (λ x b q k. search (rules, tests)))
    ∙ length-prefix_len solid c.in-Some.rest.now in
    let e : c.in-Some.rest.now ≡ drop c.args.at c.args.sheet.now = c.in-Some.ensures.lookup.0.2 ∙ take_rest c.args.sheet.now c.args.at in
    ap (λ m. take m c.in-Some.rest.now) n ∙ ap (λ l. take (prefix_len solid l) l) e
