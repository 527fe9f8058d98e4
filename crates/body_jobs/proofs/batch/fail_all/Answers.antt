use Rattle.std.proofs.Common.{◌≡◌, ◌∙◌, ap, ◌++◌, ◌∷◌, [], length, arith}
use Rattle.std.proofs.lemmas.List.{replicate_more}
use Rattle.std.proofs.lemmas.Simd.{splat_is_map}
use Rattle.pipe_types.specs.declared.message.Outcome.TheVariants.{Failed}
use Rattle.body_jobs.proofs.batch.fail_all.Goals as goal

pub loop-at-preserved : goal.loop-at-preserved
loop-at-preserved c =
    c.in_ok-push.ensures.items ∙ (ap (λ os. os ++ Failed c.args.why ∷ []) c.loop-at.invariant ∙ replicate_more c.loop-at._at (Failed c.args.why))

pub returns : goal.returns
returns c =
    let all : length c.args.messages.now ≡ c.loop-at._at = omega arith in
    c.loop-at.invariant ∙ splat_is_map c.args.messages.now c.loop-at._at (Failed c.args.why) all
