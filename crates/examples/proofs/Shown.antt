-- The examples, computed. Assumes nothing.
use Rattle.std.proofs.Common.{refl}
use Rattle.sheets.specs.Reads.{named_of, acts_at, agents_at}
use Rattle.tokens.specs.Places.{places}
use Rattle.tokens.specs.Stores.{tally, tally_by, every}
use Rattle.handshake.specs.Lawful.{present, others, lawful_scene}
use Rattle.examination.specs.Search.{try_all, advanced, answered}
use Rattle.bodies.specs.Bodies.{trailed}
use Rattle.bodies.specs.Judge.{walk, first_step_outside, stay, collect}
use Rattle.examples.specs.Examples.{WorkedExamplesHold}
use Rattle.examples.proofs.Findings.{judge-mends, judge-leaks}

pub examples-hold : WorkedExamplesHold
unfolding named_of acts_at agents_at tally tally_by every places present others lawful_scene try_all advanced answered trailed walk first_step_outside stay collect
examples-hold = record {
  read = refl;
  closes = record { opens = refl; advances = refl; leaves = refl };
  exhausts = record { opens = refl; advances = refl; leaves = refl };
  told = refl;
  whole = refl;
  leaks = refl;
  leaks_number = refl;
  leaks_values = refl;
  seventh_long = refl;
  seventh_read = refl;
  breaches = record { opens = refl; advances = refl; leaves = refl };
  found = refl;
  found_long = refl;
  eighth_read = refl;
  ninth_read = refl;
  attacked = λ xs n. refl;
  mended = λ xs n. refl;
  mended_number = refl;
  mended_values = refl;
  judge_mends = λ t j js. judge-mends refl refl refl (λ xs n. refl) t j js;
  judge_leaks = λ t j e r js. judge-leaks refl refl refl refl t j e r js;
}
