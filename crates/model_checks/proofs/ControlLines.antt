-- What control lines ask for.
use Rattle.std.proofs.Common.{◌≡◌, refl}
use Rattle.std.specs.Prelude.{[], ◌∷◌, codes}
use Rattle.pipe_types.specs.declared.message.Why.TheVariants.{Kill as ByKill, Stop as ByStop}
use Rattle.pipe_types.specs.declared.step.Step.TheVariants.{Kill, Restart, Drain, Refuse}
use Rattle.pipe_types.specs.declared.step.DrainCause.TheVariants.{Control, Limit as LimitCause}
use Rattle.pipe_types.specs.Numbers.{stage}
use Rattle.pipe_model.specs.Outside.{control_reading}
use Rattle.model_checks.proofs.Base.{by_key}

-- kill and stop of a live stage, by its whole name
kills : control_reading by_key [] 1 (codes "kill p") ≡ Kill (stage 1) ByKill
kills = refl

stops : control_reading by_key [] 1 (codes "stop processors.0") ≡ Kill (stage 2) ByStop
stops = refl

kills_a_batch_processor : control_reading by_key [] 1 (codes "kill b.0") ≡ Kill (stage 4) ByKill
kills_a_batch_processor = refl

-- a stage that is not there, or dead, and a line that is spelled otherwise, are refused by their number
unknown_stage : control_reading by_key [] 3 (codes "kill q") ≡ Refuse 3
unknown_stage = refl

dead_stage : control_reading by_key (Kill (stage 1) ByKill ∷ []) 2 (codes "kill p") ≡ Refuse 2
dead_stage = refl

alive_again : control_reading by_key (Restart (stage 1) ∷ Kill (stage 1) ByKill ∷ []) 2 (codes "kill p") ≡ Kill (stage 1) ByKill
alive_again = refl

two_spaces : control_reading by_key [] 1 (codes "kill  p") ≡ Refuse 1
two_spaces = refl

no_name : control_reading by_key [] 1 (codes "kill ") ≡ Refuse 1
no_name = refl

more_behind : control_reading by_key [] 1 (codes "kill p ") ≡ Refuse 1
more_behind = refl

capital : control_reading by_key [] 1 (codes "Kill p") ≡ Refuse 1
capital = refl

empty_line : control_reading by_key [] 1 [] ≡ Refuse 1
empty_line = refl

-- the first drain, whatever its cause, and no second
drains : control_reading by_key [] 1 (codes "drain") ≡ Drain Control
drains = refl

drains_once : control_reading by_key (Drain Control ∷ []) 2 (codes "drain") ≡ Refuse 2
drains_once = refl

drains_only_first : control_reading by_key (Drain LimitCause ∷ []) 1 (codes "drain") ≡ Refuse 1
drains_only_first = refl

drain_behind_a_space : control_reading by_key [] 1 (codes " drain") ≡ Refuse 1
drain_behind_a_space = refl
