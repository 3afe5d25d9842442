use Rattle.std.proofs.Common.{◌≡◌, Some, sym, ap, ◌∙◌, arith}
use Rattle.std.proofs.lemmas.Bool.{lt-leb, le-leb, cond-false, cond-true}
use Rattle.sheets.specs.Words.{read_on}
use Rattle.sheets.proofs.Runs.{read_on-whole}
use Rattle.sheets.proofs.words.value_up_to.Goals as goal

pub returns-then-value-from : goal.returns-then-value-from
returns-then-value-from c =
    let t = c.args.text.now in
    let e = c.value-value.ensures ∙ read_on-whole t in
    let s : c.value-value.result ≡ read_on 0 t = omega (arith, e, c.from.ensures, c.if-value-from.true) in
    ap Some s ∙ sym (cond-true _ _ _ (le-leb (read_on 0 t) c.args.high (omega (arith, s, c.from.ensures, c.if-value-from.true))))

pub returns-else-value-from : goal.returns-else-value-from
returns-else-value-from c =
    let t = c.args.text.now in
    let e = c.value-value.ensures ∙ read_on-whole t in
    sym (cond-false _ _ _ (lt-leb (read_on 0 t) c.args.high (omega (arith, e, c.from.ensures, c.if-value-from.false))))
