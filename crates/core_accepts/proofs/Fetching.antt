-- The fields after a fetch.
use Rattle.std.proofs.Common.{◌≡◌, ℕ, ◌<◌, ◌≤◌, List, ◌∷◌, length, Bool, true, false, refl, ap, sym, ◌∙◌, Some}
use Rattle.std.specs.Prelude.{slice_get, option_map, if◌then◌else◌, ◌==◌, ◌&&◌, ◌||◌}
use Rattle.std.specs.declared.alloc.Global.{Global}
use Rattle.std.specs.declared.vec.Vec.{Vec}
use Rattle.pipe_types.specs.declared.numbers.StageNo.{StageNo}
use Rattle.pipe_types.specs.declared.topology.Topology.{Topology}
use Rattle.pipe_types.specs.declared.step.Step.TheVariants.{Fetch}
use Rattle.pipe_types.specs.Numbers.{same_stage, same_post, post}
use Rattle.pipe_model.specs.History.{History, incarnation}
use Rattle.pipe_model.specs.Lives.{is_live}
use Rattle.pipe_model.specs.Posts.{is_out, out_from}
use Rattle.pipe_model.specs.Legal.{allows}
use Rattle.pipe_laws.proofs.Tests.{and_left, same_stage-true}
use Rattle.pipe_laws.proofs.Allowed.{unowed}
use Rattle.pipe_journal.specs.Recorded.{Recorded}
use Rattle.stage_laws.specs.Numbered.{IsNumberedTopology}
use Rattle.core_tables.specs.declared.rows.StageRow.{StageRow}
use Rattle.core_tables.specs.declared.rows.PostRow.{PostRow}
use Rattle.core_tables.specs.Rows.{post_at, fetched}
use Rattle.core_laws.specs.Columns.{stage_row, post_row, last_fetch}
use Rattle.core_laws.proofs.Past.{known_within, live_known}
use Rattle.core_laws.proofs.Came.{flip}
use Rattle.core_state.specs.declared.state.Core.{Core}
use Rattle.core_state.specs.Stands.{Fields}
use Rattle.core_state.proofs.Ending.{row_changed, post_same}
use Rattle.core_state.proofs.Parts.{Part, PostsAre, PostsLen, StagesAre, StagesLen, Says, unchanged, fields_of}

-- one stage's job was put out
post_out : (posts : List PostRow) (s t : StageNo) (slot from : ℕ) (row : PostRow) → slot < 16 → slice_get posts (post_at t.0 slot) ≡ Some row
    → (if post_at s.0 0 == post_at t.0 slot then Some (record { out = true; from = from }) else slice_get posts (post_at t.0 slot))
    ≡ Some (record { out = same_post (post t slot) (post s 0) || row.out; from = if same_post (post t slot) (post s 0) then from else row.from })
post_out posts s t slot from row low at =
    ap (λ b. if b then Some (record { out = true; from = from }) else slice_get posts (post_at t.0 slot)) (post_same s.0 t.0 slot low)
    ∙ (ap (λ o. if t.0 == s.0 && slot == 0 then Some (record { out = true; from = from }) else o) at ∙ by (t.0 == s.0 && slot == 0))
  where
    by : (b : Bool) → (if b then Some (record { out = true; from = from }) else Some row) ≡ Some (record { out = b || row.out; from = if b then from else row.from })
    by true = refl
    by false = refl

pub fetched_fields : (core : Core) (topology : Topology) (before : History) (s : StageNo) (n from : ℕ) (j : Recorded) (rows : Vec StageRow Global) (posts : Vec PostRow Global)
    → Fields core topology before → from ≡ incarnation before s
    → ((i : ℕ) → slice_get rows.items i ≡ (if s.0 == i then option_map (fetched n) (slice_get core.stages.items i) else slice_get core.stages.items i)) → length rows.items ≡ length core.stages.items
    → ((i : ℕ) → slice_get posts.items i ≡ (if post_at s.0 0 == i then Some (record { out = true; from = from }) else slice_get core.posts.items i)) → length posts.items ≡ length core.posts.items
    → Fields (record core { journal = j; stages = rows; posts = posts }) topology (Fetch s n ∷ before)
fetched_fields core topology before s n from j rows posts x present noted len put_out len-posts = fields_of says
  where
    by : (b : Bool) (t : StageNo) → (t.0 == s.0) ≡ b → (if b then fetched n (stage_row topology before t) else stage_row topology before t) ≡ stage_row topology (Fetch s n ∷ before) t
    by true t e = ap (λ b. record (stage_row topology before t) { last_fetch = if b then n else last_fetch before t }) (sym e)
    by false t e = ap (λ b. record (stage_row topology before t) { last_fetch = if b then n else last_fetch before t }) (sym e)

    by_post : (b : Bool) (t : StageNo) (slot : ℕ) → same_post (post t slot) (post s 0) ≡ b
        → record { out = same_post (post t slot) (post s 0) || is_out before (post t slot); from = if same_post (post t slot) (post s 0) then from else out_from before (post t slot) } ≡ post_row (Fetch s n ∷ before) t slot
    by_post true t slot e =
        let here : t ≡ s = same_stage-true t s (and_left (same_stage t s) _ e) in
        ap (λ i. record { out = same_post (post t slot) (post s 0) || is_out before (post t slot); from = if same_post (post t slot) (post s 0) then i else out_from before (post t slot) })
        (present ∙ ap (incarnation before) (sym here))
    by_post false t slot e =
        ap (λ b. record { out = same_post (post t slot) (post s 0) || is_out before (post t slot); from = if b then from else out_from before (post t slot) }) e
        ∙ sym (ap (λ b. record { out = same_post (post t slot) (post s 0) || is_out before (post t slot); from = if b then incarnation before t else out_from before (post t slot) }) e)

    says : (it : Part) → Says it (record core { journal = j; stages = rows; posts = posts }) topology (Fetch s n ∷ before)
    says StagesLen = len ∙ x.sized.stages
    says PostsLen = len-posts ∙ x.sized.posts
    says StagesAre = λ t within. noted t.0 ∙ (row_changed (fetched n) core.stages.items s t (stage_row topology before t) (x.stages t within) ∙ ap Some (by (s.0 == t.0) t (flip t.0 s.0)))
    says PostsAre = λ t slot within low. put_out (post_at t.0 slot) ∙ (post_out core.posts.items s t slot from (post_row before t slot) low (x.posts t slot within low) ∙ ap Some (by_post (same_post (post t slot) (post s 0)) t slot refl))
    says it = unchanged x it

-- Where the producer stands
pub fetch_within : (topology : Topology) (before : History) (s : StageNo) (n : ℕ) → IsNumberedTopology topology → allows topology before (Fetch s n) ≡ true → s.0 ≤ length topology.stages
fetch_within topology before s n t h =
    (known_within topology s t (live_known topology before s (and_left (is_live topology before s) _ (unowed topology before (Fetch s n) (λ x. refl) (λ x. refl) h)))).1
