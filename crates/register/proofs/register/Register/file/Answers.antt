use Rattle.std.proofs.Common.{sym, ap, ◌∙◌, subst}
use Rattle.bodies.specs.declared.kind.Kind.{Kind}
use Rattle.register.specs.Views.{FiledKindIsTrue, stamped}
use Rattle.register.specs.Calls.{contents, hand_back, after_file, marked}
use Rattle.register.proofs.Plans.{plans-compared}
use Rattle.register.proofs.Held.{file-sound}
use Rattle.register.specs.declared.entry.Status.TheVariants.{Filed}
use Rattle.register.proofs.register.Register.file.Goals as goal

pub mark-requires : goal.mark-requires
mark-requires c = λ e l.
    subst (λ (k : Kind). FiledKindIsTrue (stamped e (Filed k))) (sym c.kind.ensures.is) (file-sound (contents c.args.self.now) c.args.slip c.args.verdict (sym c.in-Ok.ensures) e l)

pub returns-in-Err : goal.returns-in-Err
returns-in-Err c =
    let es = contents c.args.self.now in
    let f = c.in-Err.ensures in
    record {
      answer = ap (hand_back c.args.slip c.args.verdict) f;
      held = ap (after_file es c.args.slip c.args.verdict) f;
      compared = plans-compared;
    }

pub returns-in-Ok : goal.returns-in-Ok
returns-in-Ok c =
    let es = contents c.args.self.now in
    let f = c.in-Ok.ensures in
    record {
      answer = ap (hand_back c.args.slip c.args.verdict) f;
      held = c.mark.ensures ∙ ap (λ (k : Kind). marked c.args.slip.number (Filed k) es) c.kind.ensures.is ∙ ap (after_file es c.args.slip c.args.verdict) f;
      compared = plans-compared;
    }
