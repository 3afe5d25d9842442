use Rattle.std.proofs.Common.{◌≡◌, List, sym, ap, ◌∙◌, subst}
use Rattle.register.specs.Views.{EntryView}
use Rattle.register.specs.Calls.{contents, filed, withdrawn}
use Rattle.desk.specs.Handled.{Ended}
use Rattle.desk.proofs.Settled.{by-refusal}
use Rattle.desk.proofs.docket.settle.Goals as goal

pub returns-in-Err : goal.returns-in-Err
returns-in-Err c =
    let es = contents c.args.register.now in
    let s = c.args.slip in
    let v = c.in-Some.verdict in
    let r = c.in-Err.refused in
    let held : contents c.withdraw-in-Err.new.self ≡ withdrawn (filed es s v) r.slip =
    c.withdraw-in-Err.ensures.held ∙ ap (λ (xs : List EntryView). withdrawn xs r.slip) c.file.ensures.held in
    subst (λ (fs : List EntryView). Ended s.number es fs) (sym held) (by-refusal es s v r c.requires.0 c.in-Err.ensures.answer c.requires.1)
