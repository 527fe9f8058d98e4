-- What the answer of a handler that crashed leaves, and the kill that it owes.
use Rattle.std.proofs.Common.{◌≡◌, ℕ, ◌≤◌, List, [], ◌∷◌, ◌++◌, length, Bool, true, false, refl, ap, ◌∙◌, Some, None, Option, arith}
use Rattle.std.specs.Prelude.{slice_get, option_map, if◌then◌else◌, ◌==◌, ◌+◌, ◌&&◌, not, unwrap_or, position}
use Rattle.std.specs.declared.alloc.Global.{Global}
use Rattle.std.specs.declared.vec.Vec.{Vec}
use Rattle.pipe_types.specs.declared.numbers.StageNo.{StageNo}
use Rattle.pipe_types.specs.declared.topology.Topology.{Topology}
use Rattle.pipe_types.specs.declared.message.Reply.{Reply}
use Rattle.pipe_types.specs.declared.message.BatchEnd.TheVariants.{Crashed as BatchCrashed}
use Rattle.pipe_types.specs.declared.message.Place.{Place}
use Rattle.pipe_types.specs.declared.message.Place.TheVariants.{InBatch}
use Rattle.pipe_types.specs.declared.step.Step.TheVariants.{Done, Wrote}
use Rattle.pipe_types.specs.Numbers.{same_stage}
use Rattle.pipe_types.specs.Sound.{IsSound}
use Rattle.pipe_types.specs.Stages.{spec_of}
use Rattle.pipe_model.specs.History.{History}
use Rattle.pipe_model.specs.Posts.{last_take}
use Rattle.pipe_model.specs.Lives.{current_sub}
use Rattle.pipe_model.specs.Batches.{Batch}
use Rattle.pipe_model.specs.Content.{has_crash, content, newer, passed, passed_as}
use Rattle.pipe_model.specs.Flow.{place, batch, view_of, waiting, has_batchers_in, done, chunk_by, by_batch, place_in_batch}
use Rattle.pipe_model.specs.Ledger.{handled, taken_on}
use Rattle.pipe_model.specs.Legal.{is_legal, allows, owed, is_crash_of}
use Rattle.pipe_model.specs.Standing.{in_progress}
use Rattle.pipe_laws.proofs.Allowed.{done_facts, wrote_facts}
use Rattle.pipe_laws.proofs.Progress.{in_batch_going}
use Rattle.queue_laws.proofs.Batched.{going_in}
use Rattle.queue_laws.proofs.Laws.{waiting_law, inbox_law, gathered_law}
use Rattle.stage_laws.proofs.Laws.{running_law}
use Rattle.stage_laws.proofs.Numbering.{numbered_topology}
use Rattle.stage_subs.specs.Ledger.{ledger_row, ledger_counts}
use Rattle.pipe_journal.specs.Recorded.{Recorded}
use Rattle.core_tables.specs.declared.rows.PostRow.{PostRow}
use Rattle.core_tables.specs.Rows.{post_at, home}
use Rattle.core_laws.specs.Columns.{running, post_row, content_row, at_item, item_of}
use Rattle.core_laws.proofs.Lawful.{legal_after}
use Rattle.core_laws.proofs.Past.{known_within, live_known}
use Rattle.core_state.specs.declared.state.Core.{Core}
use Rattle.core_state.specs.Stands.{Fields}
use Rattle.core_state.proofs.Homes.{post_home}
use Rattle.core_lates.proofs.Leaving.{Leaves, Stays, left_fields, stays_changed}

none_and : {A : Type 0} (a : Bool) (x y : A) → (if a && false then x else y) ≡ y
none_and true x y = refl
none_and false x y = refl

-- A chunk

crash_leaves : (topology : Topology) (before : History) (s : StageNo) (replies : List Reply) → IsSound topology → is_legal topology (Done s replies ∷ before) ≡ true → has_crash replies ≡ true
    → Leaves topology before (Done s replies)
crash_leaves topology before s replies sound after crash =
    record {
      came-is = λ t k. refl;
      pairs = λ c p. ap (λ b. record (ledger_row topology before c p) {
        counts = record (ledger_counts topology before (current_sub topology before c p)) {
          handled = if b then handled topology before (current_sub topology before c p) else handled topology before (current_sub topology before c p) + taken_on (last_take before s) (current_sub topology before c p);
        };
      }) crash;
      waits = λ t. waiting_law topology before (Done s replies) t sound after
          ∙ (ap (λ b. if same_stage t s && (not b && has_batchers_in (spec_of topology s)) then waiting topology before t ++ passed replies else waiting topology before t) crash
          ∙ none_and (same_stage t s) (waiting topology before t ++ passed replies) (waiting topology before t));
      sent = λ t. inbox_law topology before (Done s replies) t sound after;
      runs = λ t. running_law topology before (Done s replies) t sound after
          ∙ (ap (λ b. if same_stage t s && not b then [] else running topology before t) crash ∙ none_and (same_stage t s) [] (running topology before t));
      gathers-are = λ t. gathered_law topology before (Done s replies) t after;
      times = λ n. refl;
      children = λ t k. refl;
      contents = λ n low. ap (λ b. newer (if b then None else passed_as replies n) (content before n)) crash;
      batches = λ b. refl;
      closes = λ b. refl;
      subs = λ b. refl;
      count = refl;
      restarts = λ l. refl;
    }

pub crash_stays : (topology : Topology) (before : History) (s : StageNo) (replies : List Reply) → has_crash replies ≡ true → Stays topology before (Done s replies)
crash_stays topology before s replies crash =
    record {
      places = λ n. ap (λ b. if b then place topology before n else option_map (done (has_batchers_in (spec_of topology s)) (chunk_by (view_of topology before) s) replies s n) (place topology before n)) crash;
      producers = λ n. refl;
      contents = λ n. ap (λ b. if b then content_row before n else at_item (length before) (item_of replies n) (content_row before n)) crash;
      count = refl;
      totals = refl;
    }

pub done_within : (topology : Topology) (before : History) (s : StageNo) (replies : List Reply) → IsSound topology → allows topology before (Done s replies) ≡ true → s.0 ≤ length topology.stages
done_within topology before s replies sound h = (known_within topology s (numbered_topology topology sound) (live_known topology before s (done_facts topology before s replies h).live)).1

pub crashed_fields : (core : Core) (topology : Topology) (before : History) (s : StageNo) (replies : List Reply) (j : Recorded) (posts : Vec PostRow Global)
    → Fields core topology before → IsSound topology → is_legal topology before ≡ true → allows topology before (Done s replies) ≡ true → has_crash replies ≡ true
    → ((k : ℕ) → slice_get posts.items k ≡ (if post_at s.0 0 == k then option_map home (slice_get core.posts.items k) else slice_get core.posts.items k)) → length posts.items ≡ length core.posts.items
    → Fields (record core { journal = j; posts = posts; totals = record core.totals { quiet = 0 } }) topology (Done s replies ∷ before)
crashed_fields core topology before s replies j posts x sound legal allowed crash homed len =
    left_fields core topology before (Done s replies) j core.stages posts core.places core.settled core.producers core.contents (record core.totals { quiet = 0 }) x sound legal
    (crash_leaves topology before s replies sound (legal_after topology before (Done s replies) legal allowed) crash)
    (stays_changed core topology before (Done s replies) core.stages posts x (crash_stays topology before s replies crash) x.stages refl
    (λ t k within low. homed (post_at t.0 k) ∙ post_home core.posts.items s t 0 k (post_row before t k) low (omega arith) (x.posts t k within low)) len)

-- the kill of the stage is owed
pub crash_owes : (new : Core) (topology : Topology) (s : StageNo) (replies : List Reply) (before : History) → new.topology ≡ topology → new.journal.steps ≡ Done s replies ∷ before → has_crash replies ≡ true
    → owed new.topology new.journal.steps ≡ Some (is_crash_of s)
crash_owes new topology s replies before same written crash =
    ap (λ t. owed t new.journal.steps) same ∙ (ap (owed topology) written ∙ ap (λ b. if b then Some (is_crash_of s) else None) crash)

-- A batch

write_leaves : (topology : Topology) (before : History) (s : StageNo) → IsSound topology → is_legal topology (Wrote s 0 BatchCrashed ∷ before) ≡ true → Leaves topology before (Wrote s 0 BatchCrashed)
write_leaves topology before s sound after =
    record {
      came-is = λ t k. refl;
      pairs = λ c p. refl;
      waits = λ t. waiting_law topology before (Wrote s 0 BatchCrashed) t sound after;
      sent = λ t. inbox_law topology before (Wrote s 0 BatchCrashed) t sound after;
      runs = λ t. running_law topology before (Wrote s 0 BatchCrashed) t sound after;
      gathers-are = λ t. gathered_law topology before (Wrote s 0 BatchCrashed) t after;
      times = λ n. refl;
      children = λ t k. refl;
      contents = λ n low. refl;
      batches = λ b. refl;
      closes = λ b. refl;
      subs = λ b. refl;
      count = refl;
      restarts = λ l. refl;
    }

-- a message of a batch stands in it while the batch is in progress
batch_stays : (topology : Topology) (before : History) (n : ℕ) (o : Option Place) → place topology before n ≡ o → option_map (by_batch (batch topology before) n) o ≡ o
batch_stays topology before n (Some (InBatch d)) e = stays_in (batch topology before d.0) (in_batch_going topology before n d e)
  where
    stays_in : (o : Option Batch) → in_progress o ≡ true → Some (place_in_batch d.0 o n) ≡ Some (InBatch d)
    stays_in None k = cc
    stays_in (Some x) k = ap Some (going_in d.0 x.place (unwrap_or (position (λ m. m == n) x.numbers) 0) k)
batch_stays topology before n _ e = refl

pub write_stays : (topology : Topology) (before : History) (s : StageNo) → Stays topology before (Wrote s 0 BatchCrashed)
write_stays topology before s =
    record {
      places = λ n. batch_stays topology before n (place topology before n) refl;
      producers = λ n. refl;
      contents = λ n. refl;
      count = refl;
      totals = refl;
    }

pub wrote_within : (topology : Topology) (before : History) (s : StageNo) → IsSound topology → allows topology before (Wrote s 0 BatchCrashed) ≡ true → s.0 ≤ length topology.stages
wrote_within topology before s sound h = (known_within topology s (numbered_topology topology sound) (live_known topology before s (wrote_facts topology before s 0 BatchCrashed h).live)).1

pub unwritten_fields : (core : Core) (topology : Topology) (before : History) (s : StageNo) (j : Recorded) (posts : Vec PostRow Global)
    → Fields core topology before → IsSound topology → is_legal topology before ≡ true → allows topology before (Wrote s 0 BatchCrashed) ≡ true
    → ((k : ℕ) → slice_get posts.items k ≡ (if post_at s.0 0 == k then option_map home (slice_get core.posts.items k) else slice_get core.posts.items k)) → length posts.items ≡ length core.posts.items
    → Fields (record core { journal = j; posts = posts; totals = record core.totals { quiet = 0 } }) topology (Wrote s 0 BatchCrashed ∷ before)
unwritten_fields core topology before s j posts x sound legal allowed homed len =
    left_fields core topology before (Wrote s 0 BatchCrashed) j core.stages posts core.places core.settled core.producers core.contents (record core.totals { quiet = 0 }) x sound legal
    (write_leaves topology before s sound (legal_after topology before (Wrote s 0 BatchCrashed) legal allowed))
    (stays_changed core topology before (Wrote s 0 BatchCrashed) core.stages posts x (write_stays topology before s) x.stages refl
    (λ t k within low. homed (post_at t.0 k) ∙ post_home core.posts.items s t 0 k (post_row before t k) low (omega arith) (x.posts t k within low)) len)

-- the kill of the stage is owed
pub write_owes : (new : Core) (topology : Topology) (s : StageNo) (before : History) → new.topology ≡ topology → new.journal.steps ≡ Wrote s 0 BatchCrashed ∷ before
    → owed new.topology new.journal.steps ≡ Some (is_crash_of s)
write_owes new topology s before same written = ap (λ t. owed t new.journal.steps) same ∙ ap (owed topology) written
