-- What an audit reads of the source that holds the journal, and what it finds.
use Rattle.std.specs.Prelude.{◌≡◌, ◌<◌, ◌≤◌, ◌⊎◌, ℕ, List, [], ◌∷◌, ◌++◌, length, IsTrue, Result, Ok, Err}
use Rattle.pipe_types.specs.Counts.{Rose}
use Rattle.pipe_types.specs.declared.topology.Topology.{Topology}
use Rattle.pipe_edges.specs.declared.source.ReadEnd.{ReadEnd}
use Rattle.pipe_edges.specs.Reads.{ReadsBytes, ReadHasCause}
use Rattle.stage_bodies.specs.Seen.{SourceSeen}
use Rattle.edge_names.specs.Seen.{EdgesSeen}
use Rattle.edge_names.specs.Named.{GivesSource}
use Rattle.run_verdicts.specs.Judged.{Summary, Judgement, Legal, Bad, verdict_in, IsLegalText}
use Rattle.run_verdicts.specs.declared.audits.AuditFault.{AuditFault}
use Rattle.run_verdicts.specs.declared.audits.AuditFault.TheVariants.{Line, Large, Wait, Source}

-- as many bytes as a journal may have
abbrev pub most_bytes : ℕ
most_bytes = 268435456

-- all bytes were read, and no more than the limit
abbrev pub IsWhole : (taken left : List ℕ) → Type 0
IsWhole taken left = (left ≡ []) × (length taken ≤ most_bytes)

-- by the bytes that were read, and those that were not: the whole text is that of a legal journal, or its first bad line and the
-- cause; more than the limit was read; or no more than the limit, before nothing was ready or a read failed
abbrev pub IsFound : Topology → (taken left : List ℕ) → Result Summary AuditFault → Type 0
IsFound wanted taken left (Ok summary) = IsWhole taken left × ((verdict_in wanted taken ≡ Legal summary) × IsLegalText wanted taken summary)
IsFound wanted taken left (Err (Line line cause)) = IsWhole taken left × (verdict_in wanted taken ≡ Bad line cause)
IsFound wanted taken left (Err Large) = most_bytes < length taken
IsFound wanted taken left (Err Wait) = length taken ≤ most_bytes
IsFound wanted taken left (Err Source) = length taken ≤ most_bytes

-- what a verdict on the whole text comes to
abbrev pub found_by : Judgement → Result Summary AuditFault
found_by (Legal summary) = Ok summary
found_by (Bad line cause) = Err (Line line cause)

-- a read failed only where the faults rose, and nothing was ready only where the waits rose
abbrev pub FaultHasCause : (faults faults' waits waits' : ℕ) → Result Summary AuditFault → Type 0
FaultHasCause faults faults' waits waits' (Err Source) = Rose faults faults'
FaultHasCause faults faults' waits waits' (Err Wait) = Rose waits waits'
FaultHasCause faults faults' waits waits' _ = Unit {0}

-- a read into a piece
pub record ReadOnce (old new : SourceSeen) (piece : List ℕ) (end : ReadEnd) : Type 0 where
  pub same_telling : new.told ≡ old.told
  pub bytes : IsTrue old.told → ReadsBytes old.taken old.left piece new.taken new.left end
  pub faults_stay : old.faults ≤ new.faults
  pub waits_stay : old.waits ≤ new.waits
  pub cause : ReadHasCause old.faults new.faults old.waits new.waits end

-- the journal's source was opened, read and given back, and this was found of what it told
pub record IsAuditOf (name : List ℕ) (end : Result Summary AuditFault) (wanted : Topology) (old new : EdgesSeen) : Type 0 where
  pub opened : SourceSeen
  pub source : SourceSeen
  pub given : GivesSource old name opened
  pub same_telling : source.told ≡ opened.told
  pub same_bytes : IsTrue opened.told → opened.left ≡ source.taken ++ source.left
  pub found : IsTrue opened.told → IsFound wanted source.taken source.left end
  pub cause : FaultHasCause 0 source.faults 0 source.waits end
  pub back : new.sources_back ≡ old.sources_back ++ (name, source) ∷ []

-- at most a source of this name was given back
abbrev pub MayBeBack : (name : List ℕ) → (old new : EdgesSeen) → Type 0
MayBeBack name old new = (new.sources_back ≡ old.sources_back) ⊎ ((source : SourceSeen) × (new.sources_back ≡ old.sources_back ++ (name, source) ∷ []))
