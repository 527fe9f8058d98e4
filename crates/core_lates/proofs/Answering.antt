-- What is known of a late answer that is legal, and what it leaves.
use Rattle.std.proofs.Common.{◌≡◌, ℕ, ◌<◌, ◌≤◌, ◌∷◌, length, Bool, true, false, refl, ap, sym, ◌∙◌, Some}
use Rattle.std.specs.Prelude.{slice_get, option_map, if◌then◌else◌, ◌==◌, ◌||◌}
use Rattle.std.specs.declared.alloc.Global.{Global}
use Rattle.std.specs.declared.vec.Vec.{Vec}
use Rattle.pipe_types.specs.declared.numbers.StageNo.{StageNo}
use Rattle.pipe_types.specs.declared.topology.Topology.{Topology}
use Rattle.pipe_types.specs.declared.step.SourceHow.{SourceHow}
use Rattle.pipe_types.specs.declared.step.LateAnswer.{LateAnswer}
use Rattle.pipe_types.specs.declared.step.LateAnswer.TheVariants.{Records, Source}
use Rattle.pipe_types.specs.declared.step.Step.TheVariants.{Late}
use Rattle.pipe_types.specs.Sound.{IsSound}
use Rattle.pipe_model.specs.History.{History, accepted}
use Rattle.pipe_model.specs.Content.{content}
use Rattle.pipe_model.specs.Legal.{is_legal, allows, has_ended}
use Rattle.pipe_laws.proofs.Allowed.{late_facts}
use Rattle.queue_laws.proofs.Laws.{waiting_law, inbox_law, gathered_law}
use Rattle.stage_laws.proofs.Laws.{running_law}
use Rattle.stage_laws.proofs.Numbering.{numbered_topology}
use Rattle.pipe_journal.specs.Recorded.{Recorded}
use Rattle.core_tables.specs.declared.rows.StageRow.{StageRow}
use Rattle.core_tables.specs.declared.rows.PostRow.{PostRow}
use Rattle.core_tables.specs.Rows.{post_at, home, ended_now}
use Rattle.core_laws.specs.Columns.{stage_row, post_row}
use Rattle.core_laws.proofs.Accepting.{content_old}
use Rattle.core_laws.proofs.Lawful.{legal_after}
use Rattle.core_laws.proofs.Past.{IsPost, out_post, known_within}
use Rattle.core_laws.proofs.Came.{flip}
use Rattle.core_state.proofs.Ending.{row_changed}
use Rattle.core_state.specs.declared.state.Core.{Core}
use Rattle.core_state.specs.Room.{Roomy}
use Rattle.core_state.specs.Stands.{Fields, Holds, Stands}
use Rattle.core_state.proofs.Steps.{holds_after, unowed_after, log_kept}
use Rattle.core_state.proofs.Homes.{post_home}
use Rattle.core_lates.specs.Lates.{is_plain}
use Rattle.core_lates.proofs.Leaving.{Leaves, Stays, left_fields, stays_changed}

-- a late answer's post has a row
pub record IsLate (topology : Topology) (before : History) (s : StageNo) (slot i : ℕ) (answer : LateAnswer) : Type 0 where
  pub within : s.0 ≤ length topology.stages
  pub low : slot < 16
  pub after : is_legal topology (Late s slot i answer ∷ before) ≡ true

pub post_of : (topology : Topology) (before : History) (s : StageNo) (slot i : ℕ) (answer : LateAnswer) → IsSound topology → is_legal topology before ≡ true → allows topology before (Late s slot i answer) ≡ true
    → IsLate topology before s slot i answer
post_of topology before s slot i answer sound legal h =
    let out : IsPost topology s slot = out_post topology before s slot sound legal (late_facts topology before s slot i answer h).out in
    record {
      within = (known_within topology s (numbered_topology topology sound) out.known).1;
      low = out.low;
      after = legal_after topology before (Late s slot i answer) legal h;
    }

content_late : (before : History) (s : StageNo) (slot i : ℕ) (answer : LateAnswer) (n : ℕ) → n ≤ accepted before → content (Late s slot i answer ∷ before) n ≡ content before n
content_late before s slot i (Records records) n low = content_old s records before n low
content_late before s slot i _ n low = refl

pub late_leaves : (topology : Topology) (before : History) (s : StageNo) (slot i : ℕ) (answer : LateAnswer) → IsSound topology → is_legal topology (Late s slot i answer ∷ before) ≡ true
    → Leaves topology before (Late s slot i answer)
late_leaves topology before s slot i answer sound after =
    record {
      came-is = λ t k. refl;
      pairs = λ c p. refl;
      waits = λ t. waiting_law topology before (Late s slot i answer) t sound after;
      sent = λ t. inbox_law topology before (Late s slot i answer) t sound after;
      runs = λ t. running_law topology before (Late s slot i answer) t sound after;
      gathers-are = λ t. gathered_law topology before (Late s slot i answer) t after;
      times = λ n. refl;
      children = λ t k. refl;
      contents = λ n low. content_late before s slot i answer n low;
      batches = λ b. refl;
      closes = λ b. refl;
      subs = λ b. refl;
      count = refl;
      restarts = λ l. refl;
    }

-- the posts after it
pub late_posts : (core : Core) (topology : Topology) (before : History) (s : StageNo) (slot i : ℕ) (answer : LateAnswer) (posts : Vec PostRow Global) → Fields core topology before → slot < 16
    → ((k : ℕ) → slice_get posts.items k ≡ (if post_at s.0 slot == k then option_map home (slice_get core.posts.items k) else slice_get core.posts.items k))
    → (t : StageNo) (k : ℕ) → t.0 ≤ length topology.stages → k < 16 → slice_get posts.items (post_at t.0 k) ≡ Some (post_row (Late s slot i answer ∷ before) t k)
late_posts core topology before s slot i answer posts x low homed t k within below =
    homed (post_at t.0 k) ∙ post_home core.posts.items s t slot k (post_row before t k) below low (x.posts t k within below)

-- Answers without records

-- an answer without records leaves each message where it stood
plain_stays : (topology : Topology) (before : History) (s : StageNo) (slot i : ℕ) (answer : LateAnswer) → is_plain answer ≡ true → Stays topology before (Late s slot i answer)
plain_stays topology before s slot i (Records records) h = cc
plain_stays topology before s slot i (Source how) h = cc
plain_stays topology before s slot i _ h = record { places = λ n. refl; producers = λ n. refl; contents = λ n. refl; count = refl; totals = refl }

plain_row : (topology : Topology) (before : History) (s : StageNo) (slot i : ℕ) (answer : LateAnswer) (t : StageNo) → is_plain answer ≡ true
    → stage_row topology (Late s slot i answer ∷ before) t ≡ stage_row topology before t
plain_row topology before s slot i (Records records) t h = cc
plain_row topology before s slot i (Source how) t h = cc
plain_row topology before s slot i _ t h = refl

pub plain_fields : (core : Core) (topology : Topology) (before : History) (s : StageNo) (slot i : ℕ) (answer : LateAnswer) (j : Recorded) (posts : Vec PostRow Global)
    → Fields core topology before → IsSound topology → is_legal topology before ≡ true → IsLate topology before s slot i answer → is_plain answer ≡ true
    → ((k : ℕ) → slice_get posts.items k ≡ (if post_at s.0 slot == k then option_map home (slice_get core.posts.items k) else slice_get core.posts.items k)) → length posts.items ≡ length core.posts.items
    → Fields (record core { journal = j; posts = posts; totals = record core.totals { quiet = 0 } }) topology (Late s slot i answer ∷ before)
plain_fields core topology before s slot i answer j posts x sound legal known plain homed len =
    left_fields core topology before (Late s slot i answer) j core.stages posts core.places core.settled core.producers core.contents (record core.totals { quiet = 0 }) x sound legal
    (late_leaves topology before s slot i answer sound known.after)
    (stays_changed core topology before (Late s slot i answer) core.stages posts x (plain_stays topology before s slot i answer plain)
    (λ t within. x.stages t within ∙ ap Some (sym (plain_row topology before s slot i answer t plain))) refl
    (late_posts core topology before s slot i answer posts x known.low homed) len)

-- The end of a source

pub source_fields : (core : Core) (topology : Topology) (before : History) (s : StageNo) (slot i : ℕ) (how : SourceHow) (j : Recorded) (rows : Vec StageRow Global) (posts : Vec PostRow Global)
    → Fields core topology before → IsSound topology → is_legal topology before ≡ true → IsLate topology before s slot i (Source how)
    → ((k : ℕ) → slice_get rows.items k ≡ (if s.0 == k then option_map ended_now (slice_get core.stages.items k) else slice_get core.stages.items k)) → length rows.items ≡ length core.stages.items
    → ((k : ℕ) → slice_get posts.items k ≡ (if post_at s.0 slot == k then option_map home (slice_get core.posts.items k) else slice_get core.posts.items k)) → length posts.items ≡ length core.posts.items
    → Fields (record core { journal = j; stages = rows; posts = posts; totals = record core.totals { quiet = 0 } }) topology (Late s slot i (Source how) ∷ before)
source_fields core topology before s slot i how j rows posts x sound legal known ended len-rows homed len =
    left_fields core topology before (Late s slot i (Source how)) j rows posts core.places core.settled core.producers core.contents (record core.totals { quiet = 0 }) x sound legal
    (late_leaves topology before s slot i (Source how) sound known.after)
    (stays_changed core topology before (Late s slot i (Source how)) rows posts x
    (record { places = λ n. refl; producers = λ n. refl; contents = λ n. refl; count = refl; totals = refl })
    (λ t within. ended t.0 ∙ (row_changed ended_now core.stages.items s t (stage_row topology before t) (x.stages t within) ∙ ap Some (by (s.0 == t.0) t (flip t.0 s.0)))) len-rows
    (late_posts core topology before s slot i (Source how) posts x known.low homed) len)
  where
    by : (b : Bool) (t : StageNo) → (t.0 == s.0) ≡ b → (if b then ended_now (stage_row topology before t) else stage_row topology before t) ≡ stage_row topology (Late s slot i (Source how) ∷ before) t
    by true t e = ap (λ b. record (stage_row topology before t) { ended = b || has_ended before t }) (sym e)
    by false t e = ap (λ b. record (stage_row topology before t) { ended = b || has_ended before t }) (sym e)

-- A late answer owes no step

pub late_stands : (core new : Core) (s : StageNo) (slot i : ℕ) (answer : LateAnswer) → Holds core → new.topology ≡ core.topology → new.journal.steps ≡ Late s slot i answer ∷ core.journal.steps
    → allows core.topology core.journal.steps (Late s slot i answer) ≡ true → Fields new core.topology (Late s slot i answer ∷ core.journal.steps) → Roomy new core.topology (Late s slot i answer ∷ core.journal.steps) → new.journal.acked ≡ core.journal.acked → Stands new
late_stands core new s slot i answer x same written allowed fields room acked =
    record {
      holds = holds_after core new (Late s slot i answer) x same written allowed fields room (log_kept core (Late s slot i answer) new.journal.acked x allowed refl refl acked);
      unowed = unowed_after new core.topology (Late s slot i answer) core.journal.steps same written refl;
    }
