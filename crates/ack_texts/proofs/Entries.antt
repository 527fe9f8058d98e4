-- The lines of a step's entries, stage by stage.
use Rattle.std.proofs.Common.{◌≡◌, ℕ, ◌+◌, ◌<◌, length, take, get_or, subst, List, [], ◌∷◌, ◌++◌, true, false, refl, ap, sym, ◌∙◌, append-nil, Some, None, Option, arith}
use Rattle.std.specs.Prelude.{◌||◌, is_some, Result, Ok, Err, IfOk}
use Rattle.std.specs.declared.alloc.AllocError.{AllocError}
use Rattle.journal_texts.specs.Sinks.{Extends}
use Rattle.std.specs.List.{flat_map}
use Rattle.std.proofs.lemmas.Bool.{ne_eqb}
use Rattle.std.proofs.lemmas.List.Concat.{flat_map-append}
use Rattle.pipe_types.specs.declared.numbers.StageNo.{StageNo}
use Rattle.pipe_types.specs.declared.topology.Topology.{Topology}
use Rattle.pipe_types.specs.declared.topology.StageSpec.{StageSpec}
use Rattle.pipe_types.specs.declared.step.Step.{Step}
use Rattle.pipe_types.specs.Numbers.{same_stage}
use Rattle.pipe_types.specs.Stages.{spec_in, spec_of}
use Rattle.pipe_types.specs.Sound.{IsSound}
use Rattle.pipe_laws.proofs.Numbers.{AscendFrom}
use Rattle.pipe_laws.proofs.Sounds.{sound_ascends}
use Rattle.pipe_laws.proofs.Tests.{same_stage-self}
use Rattle.pipe_model.specs.History.{History}
use Rattle.pipe_model.specs.Acknowledgements.{settled_by, entry, is_acked_successful, is_acked_failed}
use Rattle.journal_texts.specs.Acks.{name_in, ack_line}
use Rattle.journal_texts.proofs.Lists.{flat_map_step}
use Rattle.ack_texts.specs.Lines.{line_if_any, line_of, step_acks}
use Rattle.ack_texts.specs.Sides.{IsLeast, IsSide}
use Rattle.ack_texts.proofs.Members.{side_none, side_some}

-- Names

-- a search by number that finds each of these stages
abbrev Finds : (StageNo → Option StageSpec) → List StageSpec → Type 0
Finds search_by [] = Unit {0}
Finds search_by (spec ∷ specs) = (search_by spec.no ≡ Some spec) × Finds search_by specs

lower : (low high : ℕ) (specs : List StageSpec) → low < high → AscendFrom high specs → AscendFrom low specs
lower low high [] le h = tt
lower low high (spec ∷ specs) le h = (let above : high < spec.no.0 = h.0 in omega arith, h.1)

behind : (first : StageSpec) (all specs : List StageSpec) → AscendFrom first.no.0 specs → Finds (spec_in all) specs → Finds (spec_in (first ∷ all)) specs
behind first all [] h found = tt
behind first all (spec ∷ specs) h found = (
  let apart : same_stage first.no spec.no ≡ false = ne_eqb first.no.0 spec.no.0 (λ e. let above : first.no.0 < spec.no.0 = h.0 in omega arith) in rw apart found.0,
  behind first all specs (lower first.no.0 spec.no.0 specs h.0 h.1) found.1,
)

-- each of ascending stages is found by its number
ascending_found : (low : ℕ) (specs : List StageSpec) → AscendFrom low specs → Finds (spec_in specs) specs
ascending_found low [] h = tt
ascending_found low (spec ∷ specs) h =
    (let self : same_stage spec.no spec.no ≡ true = same_stage-self spec.no in rw self refl, behind spec specs specs h.1 (ascending_found spec.no.0 specs h.1))

-- Lines

-- the line of the stage, where the step acknowledges one of its messages
abbrev pub line_by : Topology → History → Step → StageSpec → List ℕ
line_by topology before step spec = line_if_any spec.name (settled_by topology before step spec.no is_acked_successful) (settled_by topology before step spec.no is_acked_failed)

module _ (topology : Topology) where
  -- the text of one entry
  entry_line : (spec : StageSpec) (successful failed : List ℕ) → spec_of topology spec.no ≡ Some spec → flat_map (line_of topology) (entry spec.no successful failed) ≡ line_if_any spec.name successful failed
  entry_line spec [] [] e = refl
  entry_line spec [] (n ∷ failed) e = append-nil (line_of topology (record { producer = spec.no; successful = []; failed = n ∷ failed })) ∙ ap (λ o. ack_line (name_in o) [] (n ∷ failed)) e
  entry_line spec (n ∷ successful) failed e = append-nil (line_of topology (record { producer = spec.no; successful = n ∷ successful; failed = failed })) ∙ ap (λ o. ack_line (name_in o) (n ∷ successful) failed) e

  entry_lines : (before : History) (step : Step) (specs : List StageSpec) → Finds (spec_of topology) specs
      → flat_map (line_of topology) (flat_map (λ spec. entry spec.no (settled_by topology before step spec.no is_acked_successful) (settled_by topology before step spec.no is_acked_failed)) specs) ≡ flat_map (line_by topology before step) specs
  entry_lines before step [] found = refl
  entry_lines before step (spec ∷ specs) found =
      let first = entry_line spec (settled_by topology before step spec.no is_acked_successful) (settled_by topology before step spec.no is_acked_failed) found.0 in
      let rest = entry_lines before step specs found.1 in
      flat_map-append (line_of topology) (entry spec.no (settled_by topology before step spec.no is_acked_successful) (settled_by topology before step spec.no is_acked_failed)) _
      ∙ (λ i. first i ++ rest i)

-- the lines of all stages are those of what the step acknowledges
pub all_lines : (topology : Topology) (before : History) (step : Step) → IsSound topology → flat_map (line_by topology before step) topology.stages ≡ step_acks topology before step
all_lines topology before step sound = sym (entry_lines topology before step topology.stages (ascending_found 0 topology.stages (sound_ascends topology sound)))

-- One stage

some_line : (name successful failed : List ℕ) (n : ℕ) → ack_line name successful (n ∷ failed) ≡ line_if_any name successful (n ∷ failed)
some_line name [] failed n = refl
some_line name (m ∷ successful) failed n = refl

-- a line, where one of its sides has a number
pub line_there : (name numbers others successful failed : List ℕ) (won lost : Option ℕ) → IsLeast numbers 0 won → IsLeast others 0 lost → IsSide 0 numbers successful → IsSide 0 others failed
    → (is_some won || is_some lost) ≡ true → ack_line name successful failed ≡ line_if_any name successful failed
line_there name numbers others successful failed (Some n) lost first second good bad some =
    let p = side_some numbers successful n good first in ap (λ (ns : List ℕ). ack_line name ns failed) p.is ∙ sym (ap (λ (ns : List ℕ). line_if_any name ns failed) p.is)
line_there name numbers others successful failed None (Some n) first second good bad some =
    let p = side_some others failed n bad second in
    ap (λ (ns : List ℕ). ack_line name successful ns) p.is ∙ (some_line name successful p.later n ∙ sym (ap (λ (ns : List ℕ). line_if_any name successful ns) p.is))
line_there name numbers others successful failed None None first second good bad some = cc

-- else there is none
pub line_none : (name numbers others successful failed : List ℕ) (won lost : Option ℕ) → IsLeast numbers 0 won → IsLeast others 0 lost → IsSide 0 numbers successful → IsSide 0 others failed
    → (is_some won || is_some lost) ≡ false → [] ≡ line_if_any name successful failed
line_none name numbers others successful failed (Some n) lost first second good bad none = cc
line_none name numbers others successful failed None (Some n) first second good bad none = cc
line_none name numbers others successful failed None None first second good bad none =
    let here = side_none numbers successful good first in
    let there = side_none others failed bad second in
    λ i. line_if_any name (sym here i) (sym there i)

-- one stage more
pub stages_step : (f : StageSpec → List ℕ) (items stages : List StageSpec) (i : ℕ) (spec : StageSpec) → items ≡ stages → i < length items → spec ≡ get_or items i spec → flat_map f (take i stages) ++ f spec ≡ flat_map f (take (i + 1) stages)
stages_step f items stages i spec same within read = subst (λ ss. flat_map f (take i ss) ++ f spec ≡ flat_map f (take (i + 1) ss)) same more
  where
    more : flat_map f (take i items) ++ f spec ≡ flat_map f (take (i + 1) items)
    more = flat_map_step f [] items i spec (flat_map f (take i items)) (flat_map f (take i items) ++ f spec) within read refl refl

-- A text in memory

-- what was written of each step is what was kept
pub kept_each : {E : Type 0} (result : Result (List ℕ) E) (wanting wanting' : Option AllocError) (bytes bytes' : List ℕ) (fits : History → Step → Type 0) (text : History → Step → List ℕ) → wanting ≡ None → bytes ≡ []
    → IfOk result (λ found. (wanting' ≡ None) × (found ≡ bytes')) → ((before : History) (step : Step) → fits before step → Extends wanting bytes wanting' bytes' (text before step))
    → IfOk result (λ found. (before : History) (step : Step) → fits before step → found ≡ text before step)
kept_each (Ok found) wanting wanting' bytes bytes' fits text none empty made puts = λ before step fit. made.1 ∙ ((puts before step fit made.0).1 ∙ ap (λ (l : List ℕ). l ++ text before step) empty)
kept_each (Err e) wanting wanting' bytes bytes' fits text none empty made puts = tt
