-- A stage that feeds batchers is a processor.
use Rattle.std.proofs.Common.{◌≡◌, true, refl, ◌∙◌, Some, None, Option, arith}
use Rattle.std.specs.Prelude.{◌&&◌, nat_lt}
use Rattle.std.proofs.lemmas.Bool.{eqb-true, ltb-true}
use Rattle.pipe_types.specs.declared.numbers.StageNo.{StageNo}
use Rattle.pipe_types.specs.declared.topology.Topology.{Topology}
use Rattle.pipe_types.specs.declared.topology.StageSpec.{StageSpec}
use Rattle.pipe_types.specs.declared.topology.Role.{Role}
use Rattle.pipe_types.specs.declared.topology.Role.TheVariants.{Producer, Processor, Supervisor, Batcher, BatchProcessor}
use Rattle.pipe_types.specs.Stages.{spec_of}
use Rattle.pipe_types.specs.Sound.{IsSound, has_fields_of, no_batchers, no_batcher, no_demand, no_handler, no_batching, no_children, no_select, no_dispatcher, no_buffer, no_edge}
use Rattle.pipe_model.specs.Flow.{has_batchers_in}
use Rattle.pipe_model.specs.Legal.{has_role, is_processor_role}
use Rattle.pipe_laws.proofs.Tests.{and_right}
use Rattle.queue_laws.proofs.Sounds.{sound_fields}

none_fed : (spec : StageSpec) → nat_lt 0 spec.batchers ≡ true → no_batchers spec ≡ true → ⊥
none_fed spec some none = let zero_is = eqb-true spec.batchers 0 none in let low = ltb-true 0 spec.batchers some in omega (arith, zero_is, low)

pub feeders_process : (topology : Topology) (s : StageNo) → IsSound topology → has_batchers_in (spec_of topology s) ≡ true → has_role topology s is_processor_role ≡ true
feeders_process topology s sound feeds = by (spec_of topology s) refl feeds
  where
    by_role : (spec : StageSpec) (r : Role) → nat_lt 0 spec.batchers ≡ true → has_fields_of topology.stages r spec ≡ true → is_processor_role r ≡ true
    by_role spec Processor some fields = refl
    by_role spec Producer some fields =
        absurd (none_fed spec some (and_right (no_children spec && no_select spec) _ (and_right (no_handler spec && no_batching spec) _ (and_right (no_batcher spec && no_demand spec) _ (and_right _ _ fields)))))
    by_role spec Supervisor some fields =
        absurd (none_fed spec some (and_right (no_batching spec && no_select spec) _ (and_right (no_buffer spec && no_edge spec) _ (and_right (no_batcher spec && no_dispatcher spec) _ (and_right _ _ fields)))))
    by_role spec Batcher some fields =
        absurd (none_fed spec some (and_right (no_edge spec && (no_children spec && no_select spec)) _ (and_right (no_buffer spec && no_handler spec) _ (and_right _ _ fields))))
    by_role spec BatchProcessor some fields =
        absurd (none_fed spec some (and_right (no_batching spec && no_children spec) _ (and_right (no_dispatcher spec && no_buffer spec) _ (and_right _ _ fields))))

    by : (o : Option StageSpec) → spec_of topology s ≡ o → has_batchers_in o ≡ true → has_role topology s is_processor_role ≡ true
    by None e some = cc
    by (Some spec) e some =
        let same : has_role topology s is_processor_role ≡ is_processor_role spec.role = rw e refl in
        same ∙ by_role spec spec.role some (sound_fields topology s spec sound e)
