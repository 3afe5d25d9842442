use Rattle.std.proofs.Common.{◌≡◌, ◌+◌, ◌-◌, length, append_assoc, arith}
use Rattle.std.proofs.lemmas.List.Edits.{sets-eq}
use Rattle.std.proofs.lemmas.List.{drop-drop}
use Rattle.findings.proofs.frame.put_bytes.Goals as goal

pub returns : goal.returns
returns c =
    let n : c.args.at + length c.args.bytes.now - c.args.at ≡ length c.args.bytes.now = omega arith in
    rw (sets-eq c.args.bytes.now c.args.out.now c.args.at c.requires, c.copy_from_slice.ensures.after, n, drop-drop, append_assoc)
