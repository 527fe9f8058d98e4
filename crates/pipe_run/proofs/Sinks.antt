-- From what a body's sink has got, to what the journal says of the sink that was opened.
use Rattle.std.proofs.Common.{ℕ, List, subst}
use Rattle.pipe_types.specs.declared.numbers.StageNo.{StageNo}
use Rattle.pipe_types.specs.declared.topology.Topology.{Topology}
use Rattle.pipe_model.specs.History.{History}
use Rattle.stage_job.specs.Chunks.{RoseBy}
use Rattle.stage_bodies.specs.Seen.{SinkSeen}
use Rattle.body_laws.specs.Counts.{short_writes}
use Rattle.body_laws.specs.Keeps.{KeepsSink}
use Rattle.edge_names.specs.Seen.{EdgesSeen}
use Rattle.edge_names.specs.Named.{GivesSink}
use Rattle.pipe_run.specs.Outside.{IsSinkWritten}

pub sink_written : (topology : Topology) (before : History) (s : StageNo) (edges : EdgesSeen) (name : List ℕ) (opened now : SinkSeen) → GivesSink edges name opened → KeepsSink topology before s opened now
    → IsSinkWritten topology edges before s name now
sink_written topology before s edges name opened now gives k = record {
  opened = opened;
  given = gives;
  same_telling = k.told;
  held = k.held;
  short = subst (λ n. RoseBy (short_writes topology before s) n now.faults) gives.no_fault k.short;
}
