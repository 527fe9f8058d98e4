-- The case of the call, and what was used in it.
use Rattle.std.proofs.Common.{◌≡◌, ◌∙◌, ◌≤◌, ◌++◌, refl, sym, ap, subst, inl, ℕ, List, [], ◌∷◌, codes, length, take, Bool, true, false, Option, Some, None, IfSome, Result, Ok, Err, arith}
use Rattle.std.specs.Prelude.{IsTrue, is_none}
use Rattle.std.proofs.lemmas.List.{length-map}
use Rattle.pipe_types.specs.declared.numbers.StageNo.{StageNo}
use Rattle.pipe_types.specs.declared.topology.Kind.{Kind}
use Rattle.pipe_types.specs.declared.topology.Role.{Role}
use Rattle.pipe_types.specs.declared.topology.Role.TheVariants.{Producer, Processor, Supervisor, Batcher, BatchProcessor}
use Rattle.pipe_types.specs.declared.topology.StageSpec.{StageSpec}
use Rattle.pipe_types.specs.declared.topology.Topology.{Topology}
use Rattle.pipe_types.specs.Stages.{spec_of}
use Rattle.pipe_model.specs.History.{History}
use Rattle.pipe_model.specs.Outside.{fed}
use Rattle.pipe_edges.specs.Paces.{Pace}
use Rattle.pipe_edges.specs.declared.edges.EdgeKind.{EdgeKind}
use Rattle.pipe_edges.specs.declared.edges.EdgeKind.TheVariants.{File, Source, Sink}
use Rattle.program_words.specs.Words.{Command, command_of}
use Rattle.config_table.specs.declared.fault.ConfigFault.{ConfigFault}
use Rattle.topology_needs.specs.declared.stock.Boxes.{Boxes}
use Rattle.topology_needs.specs.declared.stock.Shortage.{Shortage}
use Rattle.topology_needs.specs.Needs.{boxes_in, shortage_of}
use Rattle.stage_bodies.specs.Seen.{SourcesSeen, OneSource, ManySources, SinkSeen, BoxSeen}
use Rattle.source_lines.specs.Cut.{AreFirstLines}
use Rattle.body_laws.specs.Ready.{There}
use Rattle.edge_names.specs.Seen.{EdgesSeen}
use Rattle.edge_names.specs.Gates.{pace_of_stage}
use Rattle.edge_names.specs.Supplies.{Opened, Fed, calls_for, feed_by, feed_of_names, names_of, source_call, supplied_by}
use Rattle.edge_names.specs.Opened.{calls_in, supplied_in}
use Rattle.edge_names.proofs.NameLaws.{few_names}
use Rattle.pipe_config.specs.File.{topology_of_file}
use Rattle.pipe_top.specs.Boxes.{AreBoxesLeft}
use Rattle.pipe_top.specs.Outside.{IsFedRead, IsOutside}
use Rattle.pipe_top.specs.Cases.{Case, Filed, Runs, InCase, IsNamedFile, calls_of, case_of, feeds_of, file_name, for_topology, run_case, unless_short}
use Rattle.pipe_top.specs.Runs.{OutsideSeen, IsCall, IsEndOf, IsOutsideOf, SaysUnfed}
use Rattle.own_callback.specs.Came.{run_words, case_of_file}
use Rattle.own_callback.proofs.Commanded.{run_command, run_words_run}

-- the words, the bytes under the file's name and the kinds of the boxes make the case
pub cased : (named : EdgeKind → List ℕ → List ℕ) (words : List (List ℕ)) (workers : ℕ) (kinds : List Kind) (file : List ℕ) (holds : Case → Type 0)
    → words ≡ run_words workers → 1 ≤ workers → workers ≤ 16 → InCase true named (command_of words) (boxes_in kinds) holds → named File (codes "t") ≡ file
    → holds (case_of_file kinds file)
cased named words workers kinds file holds e least most call f =
    let command : command_of words ≡ Some (run_command workers) = ap command_of e ∙ run_words_run workers least most in
    let named_file = subst (λ (c : Option Command). IsNamedFile true named (file_name c) call.file) command call.is_file in
    let bytes : call.file ≡ take 1048577 file = named_file refl ∙ ap (take 1048577) f in
    let first = subst (λ (c : Option Command). holds (case_of c call.file call.text call.found (boxes_in kinds))) command call.it_holds in
    subst (λ (b : List ℕ). holds (case_of (Some (run_command workers)) b call.text call.found (boxes_in kinds))) bytes first

-- what is written to an output that holds nothing is all that it holds
pub written_first : (held held' text : List ℕ) → held ≡ [] → held' ≡ held ++ text → held' ≡ text
written_first held held' text e adds = adds ∙ ap (λ (h : List ℕ). h ++ text) e

-- what a whole run left of its outside
pub record IsUsedWhole (topology : Topology) (before : History) (old new : OutsideSeen) : Type 0 where
  pub outside : IsOutside (feeds_of Filed topology) true topology before old.edges new.edges
  pub boxes : AreBoxesLeft true topology before old.boxes new.boxes

got : Topology → Option Topology → Topology
got d (Some t) = t
got d None = d

abbrev shown_run : Topology → Case
shown_run topology = Runs (record { steps = true; acks = true }) None Filed topology

module _ (before : History) (status : ℕ) (calls : List (EdgeKind × List ℕ)) (old new : OutsideSeen) where
  whole : (topology : Topology) (b : Bool) → (b ≡ false → status ≡ 9) → status ≤ 4 → IsOutside (feeds_of Filed topology) b topology before old.edges new.edges → AreBoxesLeft b topology before old.boxes new.boxes
      → IsUsedWhole topology before old new
  whole topology true wanting low outside boxes = record { outside = outside; boxes = boxes }
  whole topology false wanting low outside boxes = let nine : status ≡ 9 = wanting refl in absurd (omega (arith, low, nine))

  in_run : (wanted : Topology) (topology : Option Topology) → status ≤ 4 → IsEndOf topology before status (shown_run wanted)
      → IsOutsideOf (status ≡ 9) (SaysUnfed status) calls topology before (shown_run wanted) old new → IfSome topology (λ t. IsUsedWhole t before old new)
  unfolding got
  in_run wanted None low end outside = tt
  in_run wanted (Some t) low end outside =
      subst (λ (z : Topology). IsUsedWhole z before old new) (ap (got wanted) (sym end.0)) (whole wanted outside.whole outside.wanting low outside.outside outside.boxes)

  in_short : (short : Option Shortage) (wanted : Topology) (topology : Option Topology) → status ≤ 4
      → IsEndOf topology before status (unless_short short (shown_run wanted)) → IsOutsideOf (status ≡ 9) (SaysUnfed status) calls topology before (unless_short short (shown_run wanted)) old new
      → IfSome topology (λ t. IsUsedWhole t before old new)
  in_short None wanted topology low end outside = in_run wanted topology low end outside
  in_short (Some short) wanted topology low end outside = absurd end

  in_file : (boxes : Boxes) (read : Result Topology ConfigFault) (topology : Option Topology) → status ≤ 4
      → IsEndOf topology before status (for_topology read (run_case boxes (record { steps = true; acks = true }) None Filed)) → IsOutsideOf (status ≡ 9) (SaysUnfed status) calls topology before (for_topology read (run_case boxes (record { steps = true; acks = true }) None Filed)) old new
      → IfSome topology (λ t. IsUsedWhole t before old new)
  in_file boxes (Ok wanted) topology low end outside = in_short (shortage_of wanted boxes) wanted topology low end outside
  in_file boxes (Err fault) topology low end outside = absurd end

  -- under 0 to 4 a run was whole
  used : (kinds : List Kind) (file : List ℕ) (topology : Option Topology) → status ≤ 4
      → IsEndOf topology before status (case_of_file kinds file) → IsOutsideOf (status ≡ 9) (SaysUnfed status) calls topology before (case_of_file kinds file) old new
      → IfSome topology (λ t. IsUsedWhole t before old new)
  used kinds file topology low end outside =
      in_file (boxes_in kinds) (topology_of_file (take 1048577 file)) topology low end outside

pub whole_run : (named : EdgeKind → List ℕ → List ℕ) (words : List (List ℕ)) (workers : ℕ) (kinds : List Kind) (file : List ℕ)
    (old new : OutsideSeen) (out out' err err' : SinkSeen) (topology : Option Topology) (before : History) (status : ℕ)
    → words ≡ run_words workers → 1 ≤ workers → workers ≤ 16
    → InCase true named (command_of words) (boxes_in kinds) (IsCall old new out out' err err' (command_of words) topology before status)
    → named File (codes "t") ≡ file → status ≤ 4 → IfSome topology (λ t. IsUsedWhole t before old new)
whole_run named words workers kinds file old new out out' err err' topology before status e least most call f low =
    let came = cased named words workers kinds file (IsCall old new out out' err err' (command_of words) topology before status) e least most call f in
    used before status (calls_of (command_of words) (case_of_file kinds file)) old new kinds file topology low (came.ended (inl low)) came.outside

there : {A : Type 0} (o : Option A) (P : A → Type 0) (Q : Type 0) → There o P → ((x : A) → P x → Q) → Q
there (Some x) P Q t f = f x t
there None P Q t f = absurd t

-- a stage that makes just this call is supplied with what it opens
abbrev kind_in : List (EdgeKind × List ℕ) → EdgeKind
kind_in [] = File
kind_in (call ∷ calls) = call.0

abbrev name_in : List (EdgeKind × List ℕ) → List ℕ
name_in [] = []
name_in (call ∷ calls) = call.1

opens_alone : (splits : Bool) (pace : Option Pace) (r : Role) (edge : Option (List ℕ)) (name : List ℕ) → calls_for (supplied_by r pace (feed_by splits edge) edge) ≡ (Source, name) ∷ []
    → supplied_by r pace (feed_by splits edge) edge ≡ Some (Fed pace (Opened name))
opens_alone splits pace Producer (Some text) name call = by (names_of splits text) refl call
  where
    by : (names : Option (List ℕ)) → names_of splits text ≡ names → calls_for (Some (Fed pace (feed_of_names names text))) ≡ (Source, name) ∷ [] → Some (Fed pace (feed_of_names names text)) ≡ Some (Fed pace (Opened name))
    by (Some list) is one =
        let few = few_names splits text list is in
        let count = sym (length-map _ source_call) ∙ ap length one in
        let least = few.0 in
        absurd (omega (arith, least, count))
    by None is one = ap (λ n. Some (Fed pace (Opened n))) (ap name_in one)
opens_alone splits pace Producer None name call = cc
opens_alone splits pace Processor edge name call = cc
opens_alone splits pace Supervisor edge name call = cc
opens_alone splits pace Batcher edge name call = cc
opens_alone splits pace BatchProcessor (Some text) name call = let kind : Sink ≡ Source = ap kind_in call in cc
opens_alone splits pace BatchProcessor None name call = cc

opens : (topology : Topology) (o : Option StageSpec) (name : List ℕ) → calls_in (feeds_of Filed topology) o ≡ (Source, name) ∷ [] → (pace : Option Pace) × (supplied_in (feeds_of Filed topology) o ≡ Some (Fed pace (Opened name)))
opens topology (Some spec) name call = (pace_of_stage topology spec, opens_alone (is_none topology.rate) (pace_of_stage topology spec) spec.role spec.edge name call)
opens topology None name call = cc

-- it accepted the first of the lines that stand under the name of its source
lines_of : (before : History) (old : EdgesSeen) (name bytes : List ℕ) (p : StageNo) (pace : Option Pace) (sources : SourcesSeen) → IsTrue old.told → old.named Source name ≡ bytes → IsFedRead true old before p pace (Opened name) sources → AreFirstLines bytes (fed before p)
lines_of before old name bytes p pace (ManySources sources) told stands fed_so = absurd fed_so.read
lines_of before old name bytes p pace (OneSource source) told stands fed_so =
    let read = fed_so.read in
    let gave = read.given.given told in
    let same : source.taken ++ source.left ≡ bytes = read.same_bytes gave.0 ∙ (gave.1 ∙ stands) in
    subst (λ (b : List ℕ). AreFirstLines b (fed before p)) same (read.reads.in_order (read.same_telling ∙ gave.0))

first_lines : (topology : Topology) (before : History) (old new : EdgesSeen) (name bytes : List ℕ) (p : StageNo) → IsOutside (feeds_of Filed topology) true topology before old new → IsTrue old.told → old.named Source name ≡ bytes
    → calls_in (feeds_of Filed topology) (spec_of topology p) ≡ (Source, name) ∷ [] → AreFirstLines bytes (fed before p)
first_lines topology before old new name bytes p outside told stands call =
    let supply = opens topology (spec_of topology p) name call in
    there _ (IsFedRead true old before p supply.0 (Opened name)) (AreFirstLines bytes (fed before p)) (outside.used.sources p supply.0 (Opened name) supply.1)
    (λ sources fed_so. lines_of before old name bytes p supply.0 sources told stands fed_so)

-- what a whole run read, and how it left the one box
pub accepted : (topology : Option Topology) (before : History) (old new : OutsideSeen) (name bytes : List ℕ)
    → IfSome topology (λ t. IsUsedWhole t before old new) → IsTrue old.edges.told → old.edges.named Source name ≡ bytes
    → IfSome topology (λ t. (p : StageNo) → calls_in (feeds_of Filed t) (spec_of t p) ≡ (Source, name) ∷ [] → AreFirstLines bytes (fed before p))
accepted None before old new name bytes whole told stands = tt
accepted (Some t) before old new name bytes whole told stands = λ p call. first_lines t before old.edges new.edges name bytes p whole.outside told stands call

pub counted : (topology : Option Topology) (before : History) (old new : OutsideSeen) (boxes : List BoxSeen)
    → IfSome topology (λ t. IsUsedWhole t before old new) → old.boxes ≡ boxes
    → IfSome topology (λ t. AreBoxesLeft true t before boxes new.boxes)
counted None before old new boxes whole same = tt
counted (Some t) before old new boxes whole same =
    subst (λ (b : List BoxSeen). AreBoxesLeft true t before b new.boxes) same whole.boxes
