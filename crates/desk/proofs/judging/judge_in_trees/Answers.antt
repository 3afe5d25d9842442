use Rattle.std.proofs.Common.{length, ap, ◌∙◌, subst}
use Rattle.findings.specs.Judges.{LentTables, IsJudged, plain_answer}
use Rattle.tables.specs.Memory.{list_in}
use Rattle.desk.proofs.Trees.{tree-places}
use Rattle.desk.proofs.judging.judge_in_trees.Goals as goal

pub returns : goal.returns
returns c =
    let one = tree-places c.args.scene_places _ _ c.ranges.scene_places.fits (ap length c.as_mut_slice.ensures.value ∙ c.in_ok-one.ensures.0) (ap length c.as_mut_slice-2.ensures.value ∙ c.in_ok-one.ensures.1) in
    let two = tree-places c.args.store_places _ _ c.ranges.store_places.fits (ap length c.as_mut_slice-3.ensures.value ∙ c.in_ok-two.ensures.0) (ap length c.as_mut_slice-4.ensures.value ∙ c.in_ok-two.ensures.1) in
    let scenes = list_in c.judge.new.scenes in
    let stores = list_in c.judge.new.stores in (
      scenes,
      stores,
      subst (λ (t : LentTables). IsJudged c.args.finding.now t (record { answer = plain_answer c.judge.result; scenes = scenes; stores = stores }))
          (λ i. record { scenes = c.new-scenes.ensures.empty i; scene_room = (c.new-scenes.ensures.room ∙ one) i; stores = c.new-stores.ensures.empty i; store_room = (c.new-stores.ensures.room ∙ two) i })
          c.judge.ensures.judges,
    )
