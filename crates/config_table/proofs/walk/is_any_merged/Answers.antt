use Rattle.std.proofs.Common.{◌∙◌, sym}
use Rattle.config_table.proofs.Items.{merged_next, merged_here, merged_none}
use Rattle.config_table.proofs.walk.is_any_merged.Goals as goal

pub loop-producer-preserved : goal.loop-producer-preserved
loop-producer-preserved c =
    c.loop-producer.invariant
    ∙ merged_next c.loop-producer.producer-index c.args.producers.now _ c.loop-producer-test.true c.producer-item.is (sym c.has_merged_source.ensures ∙ c.if-has_merged_source.false)

pub returns : goal.returns
returns c = sym (c.loop-producer.invariant ∙ merged_none c.loop-producer.producer-index c.args.producers.now c.loop-producer-test.false)

pub returns-then-has_merged_source : goal.returns-then-has_merged_source
returns-then-has_merged_source c =
    sym (c.loop-producer.invariant
    ∙ merged_here c.loop-producer.producer-index c.args.producers.now _ c.loop-producer-test.true c.producer-item.is (sym c.has_merged_source.ensures ∙ c.if-has_merged_source.true))
