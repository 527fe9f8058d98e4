-- One more stage behind those of a group.
use Rattle.std.proofs.Common.{◌≡◌, ℕ, suc, ◌+◌, ◌-◌, ◌<◌, List, [], ◌∷◌, ◌++◌, length, map, drop, get_or, codes, decimal, sym, append_assoc, arith}
use Rattle.std.proofs.lemmas.List.{drop_more}
use Rattle.pipe_types.specs.declared.topology.StageSpec.{StageSpec}
use Rattle.config_table.specs.Fault.{at_place}
use Rattle.pipe_types.specs.Sound.{numbered_name}
use Rattle.config_settings.specs.declared.settings.BatcherSettings.{BatcherSettings}
use Rattle.config_judge.specs.Judge.{batch_processor_count}
use Rattle.config_build.specs.Build.{places, batch_processor_stage, batch_processor_stages}
use Rattle.config_build.specs.Limits.{limit_place, next_place}

-- one more place of a group
pub place_step : (f : ℕ → StageSpec) (stages : List StageSpec) (stage : StageSpec) (i n : ℕ) → i < n → stage ≡ f i
    → (stages ++ stage ∷ []) ++ map f (places (i + 1) (n - (i + 1))) ≡ stages ++ map f (places i (n - i))
place_step f stages stage i n below is =
    let more : n - i ≡ suc (n - (i + 1)) = omega arith in
    rw (more, is) (append_assoc stages (f i ∷ []) (map f (places (i + 1) (n - (i + 1)))))

-- one more group of batch processors
pub group_step : (batchers : List BatcherSettings) (b : BatcherSettings) (before next i : ℕ) (stages : List StageSpec) → i < length batchers → b ≡ get_or batchers i b
    → (stages ++ map (batch_processor_stage i b before (limit_place next b.limit)) (places 0 b.concurrency)) ++ batch_processor_stages (before + b.concurrency) (next_place next b.limit) (i + 1) (drop (i + 1) batchers) ≡ stages ++ batch_processor_stages before next i (drop i batchers)
group_step batchers b before next i stages below at =
    rw (drop_more batchers i b below, ← at) (append_assoc stages (map (batch_processor_stage i b before (limit_place next b.limit)) (places 0 b.concurrency)) (batch_processor_stages (before + b.concurrency) (next_place next b.limit) (i + 1) (drop (i + 1) batchers)))

pub group_count : (batchers : List BatcherSettings) (b : BatcherSettings) (i : ℕ) → i < length batchers → b ≡ get_or batchers i b
    → batch_processor_count (drop i batchers) ≡ b.concurrency + batch_processor_count (drop (i + 1) batchers)
group_count batchers b i below at = rw (drop_more batchers i b below, ← at)

pub member_place : (name : List ℕ) (i : ℕ) → at_place name i ≡ numbered_name name i
member_place name i = sym (append_assoc name (codes ".") (decimal i))
