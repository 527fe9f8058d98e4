-- What a run over generated records read of them.
use Rattle.std.proofs.Common.{◌≡◌, ◌-◌, ◌<◌, ◌≤◌, ◌^◌, ℕ, List, [], ◌∷◌, ◌++◌, length, Bool, true, Option, Some, None, refl, sym, ◌∙◌, ap, subst, inl, inr, arith}
use Rattle.std.specs.Prelude.{All, ◌==◌, ◌&&◌, option_map}
use Rattle.pipe_types.specs.Numbers.{post}
use Rattle.pipe_types.specs.Sound.{IsSound, is_ordered, is_producer, may_begin, may_go_on, batchers, producers}
use Rattle.pipe_types.specs.declared.numbers.StageNo.{StageNo}
use Rattle.pipe_types.specs.declared.topology.Role.{Role}
use Rattle.pipe_types.specs.declared.topology.Role.TheVariants.{Producer, Processor, Supervisor, Batcher, BatchProcessor}
use Rattle.pipe_types.specs.declared.topology.StageSpec.{StageSpec}
use Rattle.pipe_types.specs.declared.topology.Topology.{Topology}
use Rattle.pipe_model.specs.History.{History}
use Rattle.pipe_model.specs.Legal.{has_role, is_producer_role}
use Rattle.pipe_edges.specs.Paces.{unpaced}
use Rattle.pipe_edges.specs.Texts.{IsLine, ended}
use Rattle.pipe_edges.specs.declared.edges.EdgeKind.{EdgeKind}
use Rattle.source_lines.specs.Cut.{HasShortLines}
use Rattle.stage_bodies.specs.Seen.{SourceSeen, SourcesSeen, OneSource, ManySources, sources_out}
use Rattle.stage_bodies.specs.Posts.{place_at}
use Rattle.stage_laws.proofs.Numbering.{numbered_topology}
use Rattle.pipe_laws.proofs.Tests.{and_left, and_right}
use Rattle.body_laws.specs.Ready.{There}
use Rattle.body_laws.proofs.Posts.{some_role}
use Rattle.edge_names.specs.Seen.{EdgesSeen}
use Rattle.edge_names.specs.Opened.{supplied_in}
use Rattle.edge_names.specs.Gates.{pace_by, pace_of_stage}
use Rattle.edge_names.specs.Supplies.{Feeds, Fed, Made, supplied, supplied_by}
use Rattle.edge_names.specs.Returned.{feed_in}
use Rattle.made_sources.specs.Records.{records_made}
use Rattle.made_sources.proofs.Lines.{made_lines}
use Rattle.journal_texts.specs.Acks.{ack_text}
use Rattle.pipe_run.specs.Outside.{IsFedRead, IsMadeRead, IsOutside, IsOutsideWith, KeepsItsPace}
use Rattle.pipe_run.proofs.Records.{reads_records, short_ended}
use Rattle.pipe_top.specs.Cases.{Case, NoCommand, NoTopology as BadTopology, TooFew, Checks, Upgrades, Audits, Rejects, Runs, Feeding, Named, Filed, MadeFrom, feeds_of, origin_of}
use Rattle.pipe_top.specs.Runs.{OutsideSeen, HasUsed, IsOutsideOf, ReadShares, AreShares, ReadsGenerated}
use Rattle.pipe_top.specs.Flows.{IsFew, Outcome}
use Rattle.run_verdicts.specs.declared.verdict.Verdict.{Verdict}
use Rattle.pipe_top.proofs.Outcomes.{early}

-- ---- producers

-- a sound topology has a producer
some_of : (stages : List StageSpec) → is_ordered stages ≡ true → 1 ≤ length (producers stages)
some_of [] ordered = cc
some_of (s ∷ rest) ordered =
    let begins : may_begin s ≡ true = and_left (may_begin s) (may_go_on (length (batchers (s ∷ rest))) s rest) ordered in
    let producer : is_producer s.role ≡ true = and_left (is_producer s.role) (s.index == 0) (and_right (s.no.0 == 1) (is_producer s.role && s.index == 0) begins) in
    rw producer (omega arith)

pub some_producer : (topology : Topology) → IsSound topology → 1 ≤ length (producers topology.stages)
some_producer topology sound = some_of topology.stages sound.ordered

pub producer_is : (r : Role) → is_producer_role r ≡ true → r ≡ Producer
producer_is Producer e = refl
producer_is Processor e = cc
producer_is Supervisor e = cc
producer_is Batcher e = cc
producer_is BatchProcessor e = cc

-- ---- shares

-- the records of the producer with this number
abbrev pub share : (seed count : ℕ) → Topology → StageNo → List (List ℕ)
share seed count topology p = records_made seed (length (producers topology.stages)) (p.0 - 1) count

-- the producer's source was made of its share, and read as the journal says
pub record IsShareRead (seed count : ℕ) (topology : Topology) (before : History) (whole : Bool) (p : StageNo) : Type 0 where
  pub source : SourceSeen
  pub made : IsMadeRead whole before p (ended (share seed count topology p)) source
  pub plain : topology.rate ≡ None → source.paced ≡ unpaced
  pub lines : All IsLine (share seed count topology p)
  pub short : HasShortLines (source.taken ++ source.left)

made_supplied : (seed count : ℕ) (topology : Topology) (p : StageNo) (spec : StageSpec) → spec.no ≡ p → spec.role ≡ Producer
    → supplied (feeds_of (MadeFrom seed count) topology) spec ≡ Some (Fed (pace_of_stage topology spec) (Made (ended (share seed count topology p))))
made_supplied seed count topology p spec number producer =
    ap (λ (r : Role). supplied_by r (pace_of_stage topology spec) (origin_of (MadeFrom seed count) topology spec) spec.edge) producer
    ∙ ap (λ (n : StageNo). Some (Fed (pace_of_stage topology spec) (Made (ended (share seed count topology n))))) number

there_is : (seed count : ℕ) (topology : Topology) (before : History) (old : EdgesSeen) (whole : Bool) (p : StageNo) (spec : StageSpec) (o : Option SourcesSeen) → count < 2 ^ 32
    → There o (IsFedRead whole old before p (pace_of_stage topology spec) (Made (ended (share seed count topology p)))) → IsShareRead seed count topology before whole p
there_is seed count topology before old whole p spec None few made = absurd made
there_is seed count topology before old whole p spec (Some (ManySources sources)) few made = absurd made.read
there_is seed count topology before old whole p spec (Some (OneSource source)) few made =
    let lines = (made_lines seed (length (producers topology.stages)) (p.0 - 1) count few).1 in
    record {
      source = source;
      made = made.read;
      plain = λ none. subst (λ rate. KeepsItsPace (pace_by rate (length (producers topology.stages)) spec.index) before p source) none made.pace;
      lines = lines;
      short = subst HasShortLines (sym made.read.same_bytes) (short_ended (share seed count topology p) lines);
    }

pub share_read : (seed count : ℕ) (topology : Topology) (before : History) (old new : EdgesSeen) (whole : Bool) → IsSound topology → count < 2 ^ 32
    → IsOutside (feeds_of (MadeFrom seed count) topology) whole topology before old new → (p : StageNo) → has_role topology p is_producer_role ≡ true → IsShareRead seed count topology before whole p
share_read seed count topology before old new whole sound few outside p role =
    let found = some_role topology p is_producer_role role in
    let number = (numbered_topology topology sound).named p found.0 found.1 in
    let supply = made_supplied seed count topology p found.0 number (producer_is found.0.role found.2) in
    there_is seed count topology before old whole p found.0 (option_map sources_out (feed_in (outside.bodies (place_at (post p 0))))) few
    (outside.used.sources p (pace_of_stage topology found.0) (Made (ended (share seed count topology p))) (ap (supplied_in (feeds_of (MadeFrom seed count) topology)) found.1 ∙ supply))

-- what a run used behind which its live sink was opened
pub middle_of : (feeds : Feeds) (whole : Bool) (topology : Topology) (before : History) (live : Option (List ℕ)) (text : List ℕ) (unfed : Bool) (old new : EdgesSeen) → IsOutsideWith feeds whole topology before live text unfed old new
    → (middle : EdgesSeen) × IsOutside feeds whole topology before old middle × (new.sources_back ≡ middle.sources_back)
middle_of feeds whole topology before None text unfed old new outside = (new, outside, refl)
middle_of feeds whole topology before (Some name) text unfed old new outside = (outside.middle, outside.outside, outside.sink.sources)

shares_read : (seed count : ℕ) (live : Option (List ℕ)) (memory : Type 0) (says : Bool → Type 0) (wanted : Topology) (before : History) (old new : OutsideSeen) → IsSound wanted → count < 2 ^ 32
    → HasUsed (feeds_of (MadeFrom seed count) wanted) live memory says wanted before old new → ReadShares memory seed count wanted before
shares_read seed count live memory says wanted before old new sound few used = record {
  whole = used.whole;
  wanting = used.wanting;
  reads = λ p role.
      let middle = middle_of (feeds_of (MadeFrom seed count) wanted) used.whole wanted before live (ack_text wanted before) used.unfed old.edges new.edges used.outside in
      let read = share_read seed count wanted before old.edges middle.0 used.whole sound few middle.1 p role in
      reads_records used.whole wanted.rate before p (share seed count wanted p) read.source read.lines read.made read.plain;
}

-- ---- in the case of the call

by_feeding : (feeding : Feeding) (live : Option (List ℕ)) (memory : Type 0) (says : Bool → Type 0) (wanted : Topology) (before : History) (old new : OutsideSeen) → IsSound wanted → IsFew feeding
    → HasUsed (feeds_of feeding wanted) live memory says wanted before old new → AreShares memory (Some wanted) feeding wanted before
by_feeding Named live memory says wanted before old new sound few used = tt
by_feeding Filed live memory says wanted before old new sound few used = tt
by_feeding (MadeFrom seed count) live memory says wanted before old new sound few used = shares_read seed count live memory says wanted before old new sound few used

pub generated_in : (case : Case) (fails : List ℕ → Type 0) (memory : Type 0) (says : Bool → Type 0) (calls : List (EdgeKind × List ℕ)) (topology : Option Topology) (before : History) (verdict : Verdict) (old new : OutsideSeen)
    → Outcome case fails topology before verdict → IsOutsideOf memory says calls topology before case old new → ReadsGenerated memory topology before case
generated_in NoCommand fails memory says calls topology before verdict old new o out = tt
generated_in (BadTopology fault) fails memory says calls topology before verdict old new o out = tt
generated_in (TooFew shortage) fails memory says calls topology before verdict old new o out = tt
generated_in (Checks wanted) fails memory says calls topology before verdict old new o out = tt
generated_in (Upgrades file text wanted) fails memory says calls topology before verdict old new o out = tt
generated_in (Audits name summary wanted) fails memory says calls topology before verdict old new o out = tt
generated_in (Rejects name fault wanted) fails memory says calls topology before verdict old new o out = tt
generated_in (Runs shows live feeding wanted) fails memory says calls topology before verdict old new (inl e) out = rw (early fails topology before verdict e).no_topology tt
generated_in (Runs shows live feeding wanted) fails memory says calls topology before verdict old new (inr r) out =
    let used : HasUsed (feeds_of feeding wanted) live memory says wanted before old new = rw r.own at out in
    rw r.own (by_feeding feeding live memory says wanted before old new r.sound r.few used)
