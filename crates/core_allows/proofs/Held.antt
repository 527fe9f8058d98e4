-- What the rows of jobs and stages say is what the journal says.
use Rattle.std.proofs.Common.{◌≡◌, ℕ, Bool, true, false, refl, ap, sym, ◌∙◌, Some}
use Rattle.std.specs.Prelude.{slice_get, ◌&&◌, ◌==◌}
use Rattle.pipe_types.specs.declared.numbers.StageNo.{StageNo}
use Rattle.pipe_types.specs.declared.topology.Topology.{Topology}
use Rattle.pipe_types.specs.declared.topology.StageSpec.{StageSpec}
use Rattle.pipe_types.specs.Numbers.{post}
use Rattle.pipe_types.specs.Stages.{spec_of}
use Rattle.pipe_model.specs.Posts.{is_out, out_from}
use Rattle.pipe_model.specs.Legal.{fetch_out}
use Rattle.stage_laws.proofs.Numbering.{numbered_topology}
use Rattle.move_laws.proofs.Still.{found_no}
use Rattle.core_tables.specs.Rows.{post_at}
use Rattle.core_laws.proofs.Past.{known_within, out_post}
use Rattle.core_state.specs.declared.state.Core.{Core}
use Rattle.core_state.specs.Stands.{Holds}
use Rattle.core_rows.proofs.Fetched.{fetch_by}
use Rattle.core_allows.specs.Rows.{from_by, fetched_by}

-- of a job that is out the row says from which incarnation
pub from_here : (core : Core) (s : StageNo) (slot i : ℕ) → Holds core → is_out core.journal.steps (post s slot) ≡ true
    → from_by (slice_get core.posts.items (post_at s.0 slot)) i ≡ (is_out core.journal.steps (post s slot) && out_from core.journal.steps (post s slot) == i)
from_here core s slot i x out =
    let p = out_post core.topology core.journal.steps s slot x.sound x.legal out in
    let w = known_within core.topology s (numbered_topology core.topology x.sound) p.known in
    ap (λ o. from_by o i) (x.fields.posts s slot w.1 p.low)
    ∙ ap (λ b. b && out_from core.journal.steps (post s slot) == i) (sym out)

-- of a fetch that is out the row says how many records it may bring
pub fetch_here : (core : Core) (s : StageNo) → Holds core → is_out core.journal.steps (post s 0) ≡ true
    → fetched_by (slice_get core.stages.items s.0) ≡ fetch_out core.journal.steps s
fetch_here core s x out =
    let p = out_post core.topology core.journal.steps s 0 x.sound x.legal out in
    let w = known_within core.topology s (numbered_topology core.topology x.sound) p.known in
    ap fetched_by (x.fields.stages s w.1) ∙ fetch_by core.journal.steps s true out

-- a stage that is found is its number's
pub found_there : (topology : Topology) (s : StageNo) (spec : StageSpec) → spec_of topology s ≡ Some spec → spec_of topology spec.no ≡ Some spec
found_there topology s spec e = ap (spec_of topology) (found_no topology s spec e) ∙ e

-- tests

pub and_parts : (a b c : Bool) → ((a && b) && c) ≡ (a && (b && c))
and_parts false b c = refl
and_parts true b c = refl

-- what is tested first, by its answer
pub tested_first : (a b c x r : Bool) → x ≡ (a && b) → x ≡ r → (r && c) ≡ (a && (b && c))
tested_first a b c x r tested is = ap (λ y. y && c) (sym is ∙ tested) ∙ and_parts a b c

pub but_last : (a b c d : Bool) → (a && (b && (c && d))) ≡ true → (a && (b && c)) ≡ true
but_last false b c d h = h
but_last true false c d h = h
but_last true true false d h = h
but_last true true true d h = refl

-- the last of four tests is weakened
pub weaker_last : (a b c d e : Bool) → (d ≡ true → e ≡ true) → (a && (b && (c && d))) ≡ true → (a && (b && (c && e))) ≡ true
weaker_last false b c d e f h = h
weaker_last true false c d e f h = h
weaker_last true true false d e f h = h
weaker_last true true true d e f h = f h
