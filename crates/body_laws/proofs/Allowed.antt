-- The answer to a job may be recorded.
use Rattle.std.proofs.Common.{◌≡◌, ℕ, ◌≤◌, List, [], ◌∷◌, length, Bool, true, false, refl, ap, sym, ◌∙◌, subst, Some, None, Option, arith}
use Rattle.std.specs.Prelude.{not, ◌≢◌, ◌&&◌, ◌||◌, ◌==◌, nat_le, All, IsSome, is_some}
use Rattle.std.specs.List.{list_all, AllByRecursion}
use Rattle.std.specs.Str.{bytes_eq}
use Rattle.std.proofs.lemmas.Bool.Decides.{nat_tests}
use Rattle.std.proofs.lemmas.List.Elements.{recursion_from_All}
use Rattle.std.proofs.lemmas.Slice.Eq.{bytes_eq-Decides}
use Rattle.pipe_types.specs.declared.numbers.StageNo.{StageNo}
use Rattle.pipe_types.specs.declared.numbers.Post.{Post}
use Rattle.pipe_types.specs.declared.message.Message.{Message}
use Rattle.pipe_types.specs.declared.message.Reply.{Reply}
use Rattle.pipe_types.specs.declared.message.Reply.TheVariants.{Pass, Failed, Raised, Crashed}
use Rattle.pipe_types.specs.declared.message.Batch.{Batch}
use Rattle.pipe_types.specs.declared.message.BatchEnd.{BatchEnd}
use Rattle.pipe_types.specs.declared.message.BatchEnd.TheVariants as end
use Rattle.pipe_types.specs.declared.step.SourceHow.{SourceHow}
use Rattle.pipe_types.specs.declared.step.SourceHow.TheVariants as how
use Rattle.pipe_types.specs.declared.step.Step.{Step}
use Rattle.pipe_types.specs.declared.step.Step.TheVariants.{Done, Wrote, ChildEnd}
use Rattle.pipe_types.specs.declared.topology.Kind.{Kind}
use Rattle.pipe_types.specs.declared.topology.Kind.TheVariants.{Steps, Lines, Own}
use Rattle.pipe_types.specs.declared.topology.StageSpec.{StageSpec}
use Rattle.pipe_types.specs.declared.topology.Topology.{Topology}
use Rattle.pipe_types.specs.Handlers.{chunk_replies}
use Rattle.pipe_types.specs.Lines.{max_bytes}
use Rattle.pipe_types.specs.Sound.{IsSound}
use Rattle.pipe_types.specs.Stages.{spec_of}
use Rattle.pipe_model.specs.History.{History}
use Rattle.pipe_model.specs.Lives.{is_live}
use Rattle.pipe_model.specs.Posts.{in_slot}
use Rattle.pipe_model.specs.Content.{has_crash}
use Rattle.pipe_model.specs.Work.{same_message, same_reply, same_replies, are_replies_by, are_handled, is_end_by, is_batch_handled, taken_units, chunk_of, batch_of, child_of, count}
use Rattle.pipe_model.specs.Legal.{is_legal, allows, owed, passes, may_come, is_limit, happened, is_halt, is_late, has_role, is_current, are_records, is_producer_role, is_processor_role, is_batch_processor_role, is_supervisor_role}
use Rattle.pipe_laws.proofs.Tests.{both}
use Rattle.stage_job.specs.Chunks.{never_crashes}
use Rattle.stage_callback.specs.Callbacks.{is_message_for}
use Rattle.stage_bodies.specs.Seen.{LineSeen, MergeSeen, FeedSeen, BoxSeen, BodySeen}
use Rattle.stage_bodies.specs.Jobs.{Both, Fetches, FetchesMerge, FetchesFeed, IsFetched, IsMergeFetched, Replies, EndsIn, IsDone, reset}
use Rattle.stage_bodies.specs.Posts.{IsWorkOf, IsOutNow, IsJobOf, step_of, is_crash, is_crashed_end}
use Rattle.stage_bodies.specs.declared.job.Answer.{Answer}
use Rattle.stage_bodies.specs.declared.job.Job.{Job}
use Rattle.stage_bodies.specs.declared.job.Work.{Work}
use Rattle.stage_bodies.specs.declared.job.Work.TheVariants as work
use Rattle.stage_bodies.specs.declared.job.Outcome.{Outcome as Came}
use Rattle.stage_bodies.specs.declared.job.Outcome.TheVariants as came
use Rattle.body_laws.specs.Ready.{There, IsArmed, IsBodyAt}
use Rattle.body_laws.proofs.Steps.{processors_alone, writers_alone, is_present}
use Rattle.body_laws.proofs.Jobs.{of_feed, fit_of, source_there, chunk_armed, batch_armed, chunk_for, child_for, batch_for}
use Rattle.wait_laws.proofs.Contents.{Handles, processor_handles, supervisor_handles, messages_fit}
use Rattle.body_laws.proofs.Laws.{no_control, stage_low}

allowed_by : (halted late : Bool) (o : Option (Step → Bool)) (step : Step) (may : Bool) → halted ≡ false → o ≡ None → may ≡ true → ((not halted || late) && passes o step may) ≡ true
allowed_by true late o step may h e m = cc
allowed_by false late (Some test) step may h e m = cc
allowed_by false late None step may h e m = m

-- a step whose row holds may come while nothing is owed
allowed_row : (topology : Topology) (before : History) (step : Step) → happened is_halt before ≡ false → owed topology before ≡ None → may_come topology before step ≡ true → allows topology before step ≡ true
allowed_row topology before step going calm may = allowed_by (happened is_halt before) (is_late step) (owed topology before) step (may_come topology before step) going calm may

current_first : (before : History) (p : Post) → p.slot ≡ 0 → is_current before p.stage p.slot ≡ true → is_current before p.stage 0 ≡ true
current_first before p e h = subst (λ n. is_current before p.stage n ≡ true) e h

-- ---- fetches

all_short : (records : List (List ℕ)) → AllByRecursion (λ r. length r ≤ max_bytes) records → list_all (λ r. nat_le (length r) max_bytes) records ≡ true
all_short [] short = refl
all_short (r ∷ records) short =
    let here : length r ≤ 65536 = short.0 in
    let one : nat_le (length r) max_bytes ≡ true = grind (arith, nat_tests) in
    rw one (all_short records short.1)

pub records_fit : (records : List (List ℕ)) (most : ℕ) → 1 ≤ length records → length records ≤ most → All (λ r. length r ≤ max_bytes) records → are_records records most ≡ true
records_fit records most some few short =
    let one : nat_le 1 (length records) ≡ true = grind (arith, nat_tests) in
    let within : nat_le (length records) most ≡ true = grind (arith, nat_tests) in
    rw (one, within) (all_short records (recursion_from_All (λ r. length r ≤ max_bytes) records short))

-- what is known of an answer to a fetch
fetched : (P : Type 0) (most : ℕ) (o : Came) (x y : Option FeedSeen) → ((b c : LineSeen) → Fetches most o b c → P) → ((b c : MergeSeen) → FetchesMerge o b c → P) → IsSome x → Both (FetchesFeed most o) x y → P
fetched P most o (Some b) (Some c) f g h k = of_feed P most o b c f g k
fetched P most o (Some b) None f g h k = absurd k
fetched P most o None y f g h k = let x : false ≡ true = h in cc

not_merge_limit : (b c : MergeSeen) (h : SourceHow) → IsMergeFetched b c (came.Ended h) → is_limit h ≡ false
not_merge_limit b c how.End k = refl
not_merge_limit b c how.Fault k = refl
not_merge_limit b c how.TooLong k = refl
not_merge_limit b c how.Limit k = absurd k

not_limit : (most waits waits' : ℕ) (held : List ℕ) (c : LineSeen) (h : SourceHow) → IsFetched most waits waits' held c.end (came.Ended h) → is_limit h ≡ false
not_limit most waits waits' held c how.End k = refl
not_limit most waits waits' held c how.Fault k = refl
not_limit most waits waits' held c how.TooLong k = refl
not_limit most waits waits' held c how.Limit k = absurd k

fetch_row : (topology : Topology) (before : History) (p : Post) (most : ℕ) (o : Came) (old new : BodySeen) → 1 ≤ p.stage.0 → is_live topology before p.stage ≡ true → is_current before p.stage p.slot ≡ true → IsWorkOf topology before p (work.Fetch most)
    → IsSome old.source → IsDone (work.Fetch most) o old new → may_come topology before (step_of p o) ≡ true
fetch_row topology before p most (came.Records records) old new low live current is there done =
    let fit : are_records records most ≡ true = fetched (are_records records most ≡ true) most (came.Records records) old.source new.source (λ b c f. records_fit records most f.answer.0 f.answer.1 f.answer.3) (λ b c f. let one = f.answer.0 in records_fit records most (omega (arith, one)) (omega (arith, one, is.2)) f.answer.1) there done.0 in
    both (is_live topology before p.stage) _ live (both (has_role topology p.stage is_producer_role) _ is.0 (both (is_current before p.stage 0) _ (current_first before p is.3 current) (subst (λ n. are_records records n ≡ true) is.1 fit)))
fetch_row topology before p most came.NotYet old new low live current is there done =
    both (is_live topology before p.stage) _ live (both (has_role topology p.stage is_producer_role) _ is.0 (current_first before p is.3 current))
fetch_row topology before p most (came.Ended h) old new low live current is there done =
    let some : is_limit h ≡ false = fetched (is_limit h ≡ false) most (came.Ended h) old.source new.source (λ b c f. not_limit most b.source.waits c.source.waits c.waiting c h f.answer) (λ b c f. not_merge_limit b c h f.answer) there done.0 in
    rw (no_control p low)
    (both (is_live topology before p.stage) _ live (both (has_role topology p.stage is_producer_role) _ is.0 (both (is_current before p.stage 0) _ (current_first before p is.3 current) (ap not some))))
fetch_row topology before p most (came.Replies replies) old new low live current is there done = fetched (may_come topology before (Done p.stage replies) ≡ true) most (came.Replies replies) old.source new.source (λ b c f. absurd f.answer) (λ b c f. absurd f.answer) there done.0
fetch_row topology before p most (came.Wrote bytes end) old new low live current is there done = fetched (may_come topology before (Wrote p.stage bytes end) ≡ true) most (came.Wrote bytes end) old.source new.source (λ b c f. absurd f.answer) (λ b c f. absurd f.answer) there done.0
fetch_row topology before p most (came.Reply reply) old new low live current is there done = fetched (may_come topology before (ChildEnd p.stage p.slot reply) ≡ true) most (came.Reply reply) old.source new.source (λ b c f. absurd f.answer) (λ b c f. absurd f.answer) there done.0

-- ---- chunks

same_bytes : (bytes : List ℕ) → bytes_eq bytes bytes ≡ true
same_bytes bytes = (bytes_eq-Decides bytes bytes).1 refl

same_number : (n : ℕ) → (n == n) ≡ true
same_number n = grind (arith, nat_tests)

same_flushed : (m : Message) (b : Bool) → same_message (record m { flush = b }) (record m { flush = b }) ≡ true
same_flushed m true =
    λ i. same_number m.no.0 i && (same_number m.producer.0 i && (same_bytes m.payload i && (same_number m.batcher i && (same_bytes m.key i && true))))
same_flushed m false =
    λ i. same_number m.no.0 i && (same_number m.producer.0 i && (same_bytes m.payload i && (same_number m.batcher i && (same_bytes m.key i && true))))

same_reply_as_itself : (r : Reply) → same_reply r r ≡ true
same_reply_as_itself (Pass m) = same_flushed m m.flush
same_reply_as_itself (Failed why) = same_bytes why
same_reply_as_itself (Raised why) = same_bytes why
same_reply_as_itself Crashed = refl

same_replies_as_itself : (replies : List Reply) → same_replies replies replies ≡ true
same_replies_as_itself [] = refl
same_replies_as_itself (r ∷ replies) = rw (same_reply_as_itself r) (same_replies_as_itself replies)

built_in : (kind : Kind) (spec : StageSpec) (seen : ℕ) (messages : List Message) (replies : List Reply) → kind ≢ Own → replies ≡ chunk_replies spec seen messages → are_replies_by kind spec seen messages replies ≡ true
built_in Steps spec seen messages replies other is = ap (same_replies replies) (sym is) ∙ same_replies_as_itself replies
built_in Lines spec seen messages replies other is = ap (same_replies replies) (sym is) ∙ same_replies_as_itself replies
built_in Own spec seen messages replies other is = absurd (other refl)

-- the replies of a callback that is armed with the spec are the handler's
replies_are_handled : (begun : ℕ) (spec : StageSpec) (seen : ℕ) (messages : List Message) (replies : List Reply) (b c : BoxSeen) → b.spec ≡ spec → b.kind ≡ spec.kind → (b.kind ≢ Own → b.count ≡ seen) → list_all (is_message_for spec.batchers) messages ≡ true
    → Replies begun messages replies b c → are_replies_by spec.kind spec seen messages replies ≡ true
replies_are_handled begun spec seen messages replies b c armed kind counted fit done = by_kind spec.kind kind
  where
    by_kind : (k : Kind) → b.kind ≡ k → are_replies_by k spec seen messages replies ≡ true
    by_kind Own e = subst (λ x. are_replies_by Own x seen messages replies ≡ true) armed (done.shape e (subst (λ x. list_all (is_message_for x.batchers) messages ≡ true) (sym armed) fit))
    by_kind Steps e =
        let other : b.kind ≢ Own = λ own. let x : Steps ≡ Own = sym e ∙ own in cc in
        built_in Steps spec seen messages replies (λ x. cc) (done.by_rules other ∙ ap (λ n. chunk_replies b.spec n messages) (counted other) ∙ ap (λ x. chunk_replies x seen messages) armed)
    by_kind Lines e =
        let other : b.kind ≢ Own = λ own. let x : Lines ≡ Own = sym e ∙ own in cc in
        built_in Lines spec seen messages replies (λ x. cc) (done.by_rules other ∙ ap (λ n. chunk_replies b.spec n messages) (counted other) ∙ ap (λ x. chunk_replies x seen messages) armed)

handled_by : (topology : Topology) (before : History) (s : StageNo) (spec : StageSpec) (messages : List Message) (replies : List Reply) (x y : Option BoxSeen) → has_role topology s is_supervisor_role ≡ false → is_live topology before s ≡ true → list_all (is_message_for spec.batchers) messages ≡ true
    → There x (IsArmed topology before s spec) → Both (Replies 0 messages replies) x y → are_replies_by spec.kind spec (count topology before s) messages replies ≡ true
handled_by topology before s spec messages replies (Some b) (Some c) calm live fit armed done = replies_are_handled 0 spec (count topology before s) messages replies b c armed.spec armed.kind (λ own. armed.count own calm (is_present topology before s live)) fit done
handled_by topology before s spec messages replies (Some b) None calm live fit armed done = absurd done
handled_by topology before s spec messages replies None y calm live fit armed done = absurd armed

chunk_row : (topology : Topology) (before : History) (p : Post) (messages : List Message) (replies : List Reply) (old new : BodySeen) → IsSound topology → is_legal topology before ≡ true → is_live topology before p.stage ≡ true → is_current before p.stage p.slot ≡ true
    → IsWorkOf topology before p (work.Chunk messages) → IsBodyAt topology before p old → IsDone (work.Chunk messages) (came.Replies replies) old new → may_come topology before (Done p.stage replies) ≡ true
chunk_row topology before p messages replies old new sound legal live current is fit done =
    let f = fit_of topology before p is_processor_role old is.0 fit in
    let armed = chunk_for topology before p.stage f.spec f.spec.role old f.role f.holds in
    let for_it : list_all (is_message_for f.spec.batchers) messages ≡ true =
    subst (λ ms. list_all (is_message_for f.spec.batchers) ms ≡ true) (sym is.1) (messages_fit topology before f.spec (taken_units topology before p.stage) sound legal (processor_handles topology p.stage f.spec sound f.is f.role)) in
    let handled = handled_by topology before p.stage f.spec messages replies old.callback new.callback (processors_alone topology p.stage is.0) live for_it armed done.0 in
    both (is_live topology before p.stage) _ live (both (has_role topology p.stage is_processor_role) _ is.0 (both (is_current before p.stage 0) _ (current_first before p is.2 current)
    (subst (λ o. are_handled o (count topology before p.stage) (chunk_of topology before p.stage) replies ≡ true) (sym f.is) (subst (λ ms. are_replies_by f.spec.kind f.spec (count topology before p.stage) ms replies ≡ true) is.1 handled))))

-- ---- children

child_fits : (topology : Topology) (before : History) (s : StageNo) (slot : ℕ) (spec : StageSpec) → IsSound topology → is_legal topology before ≡ true → Handles topology spec → list_all (is_message_for spec.batchers) (child_of before s slot) ≡ true
child_fits topology before s slot spec sound legal handles = by_slot (in_slot before s slot) refl
  where
    by_slot : (o : Option ℕ) → in_slot before s slot ≡ o → list_all (is_message_for spec.batchers) (child_of before s slot) ≡ true
    by_slot None e = rw e refl
    by_slot (Some n) e = rw e (messages_fit topology before spec (n ∷ []) sound legal handles)

child_by : (topology : Topology) (before : History) (s : StageNo) (spec : StageSpec) (messages : List Message) (replies : List Reply) (x y : Option BoxSeen) → list_all (is_message_for spec.batchers) messages ≡ true
    → There x (IsArmed topology before s spec) → Both (λ b c. Replies 1 messages replies (reset b) c) x y → are_replies_by spec.kind spec 0 messages replies ≡ true
child_by topology before s spec messages replies (Some b) (Some c) fit armed done = replies_are_handled 1 spec 0 messages replies (reset b) c armed.spec armed.kind (λ own. refl) fit done
child_by topology before s spec messages replies (Some b) None fit armed done = absurd done
child_by topology before s spec messages replies None y fit armed done = absurd armed

child_row : (topology : Topology) (before : History) (p : Post) (message : Message) (reply : Reply) (old new : BodySeen) → IsSound topology → is_legal topology before ≡ true → is_live topology before p.stage ≡ true → is_current before p.stage p.slot ≡ true
    → IsWorkOf topology before p (work.Child message) → IsBodyAt topology before p old → IsDone (work.Child message) (came.Reply reply) old new → may_come topology before (ChildEnd p.stage p.slot reply) ≡ true
child_row topology before p message reply old new sound legal live current is fit done =
    let f = fit_of topology before p is_supervisor_role old is.0 fit in
    let armed = child_for topology before p.stage f.spec f.spec.role old f.role f.holds in
    let for_it : list_all (is_message_for f.spec.batchers) (message ∷ []) ≡ true =
    subst (λ ms. list_all (is_message_for f.spec.batchers) ms ≡ true) (sym is.1) (child_fits topology before p.stage p.slot f.spec sound legal (supervisor_handles topology p.stage f.spec sound f.is f.role)) in
    let handled = child_by topology before p.stage f.spec (message ∷ []) (reply ∷ []) old.callback new.callback for_it armed done.0 in
    both (is_live topology before p.stage) _ live (both (has_role topology p.stage is_supervisor_role) _ is.0 (both (is_current before p.stage p.slot) _ current
    (subst (λ o. are_handled o 0 (child_of before p.stage p.slot) (reply ∷ []) ≡ true) (sym f.is) (subst (λ ms. are_replies_by f.spec.kind f.spec 0 ms (reply ∷ []) ≡ true) is.1 handled))))

-- ---- batches

end_is_handled : (topology : Topology) (before : History) (s : StageNo) (spec : StageSpec) (asked : Batch) (bytes : ℕ) (end : BatchEnd) (old new : BodySeen) (x y : Option BoxSeen) → has_role topology s is_supervisor_role ≡ false → is_live topology before s ≡ true → is_some old.sink ≡ is_some spec.edge
    → There x (IsArmed topology before s spec) → Both (EndsIn asked bytes end old new) x y → is_end_by spec.kind (is_some spec.edge) spec (count topology before s) asked.messages bytes end ≡ true
end_is_handled topology before s spec asked bytes end old new (Some b) (Some c) calm live sink armed done = by_kind spec.kind armed.kind
  where
    ended : is_end_by b.kind (is_some spec.edge) spec b.count asked.messages bytes end ≡ true
    ended = subst (λ h. is_end_by b.kind h spec b.count asked.messages bytes end ≡ true) sink (subst (λ x. is_end_by b.kind (is_some old.sink) x b.count asked.messages bytes end ≡ true) armed.spec done.0.ended)

    by_kind : (k : Kind) → b.kind ≡ k → is_end_by k (is_some spec.edge) spec (count topology before s) asked.messages bytes end ≡ true
    by_kind Own e = subst (λ k. is_end_by k (is_some spec.edge) spec b.count asked.messages bytes end ≡ true) e ended
    by_kind Steps e =
        let other : b.kind ≢ Own = λ own. let x : Steps ≡ Own = sym e ∙ own in cc in
        subst (λ n. is_end_by Steps (is_some spec.edge) spec n asked.messages bytes end ≡ true) (armed.count other calm (is_present topology before s live)) (subst (λ k. is_end_by k (is_some spec.edge) spec b.count asked.messages bytes end ≡ true) e ended)
    by_kind Lines e =
        let other : b.kind ≢ Own = λ own. let x : Lines ≡ Own = sym e ∙ own in cc in
        subst (λ n. is_end_by Lines (is_some spec.edge) spec n asked.messages bytes end ≡ true) (armed.count other calm (is_present topology before s live)) (subst (λ k. is_end_by k (is_some spec.edge) spec b.count asked.messages bytes end ≡ true) e ended)
end_is_handled topology before s spec asked bytes end old new (Some b) None calm live sink armed done = absurd done
end_is_handled topology before s spec asked bytes end old new None y calm live sink armed done = absurd armed

batch_row : (topology : Topology) (before : History) (p : Post) (batch : Batch) (bytes : ℕ) (end : BatchEnd) (old new : BodySeen) → is_live topology before p.stage ≡ true → is_current before p.stage p.slot ≡ true
    → IsWorkOf topology before p (work.Batch batch) → IsBodyAt topology before p old → IsDone (work.Batch batch) (came.Wrote bytes end) old new → may_come topology before (Wrote p.stage bytes end) ≡ true
batch_row topology before p batch bytes end old new live current is fit done =
    let f = fit_of topology before p is_batch_processor_role old is.0 fit in
    let holds = batch_for topology before p.stage f.spec f.spec.role old f.role f.holds in
    let handled = end_is_handled topology before p.stage f.spec batch bytes end old new old.callback new.callback (writers_alone topology p.stage is.0) live holds.1 holds.0 done.0 in
    both (is_live topology before p.stage) _ live (both (has_role topology p.stage is_batch_processor_role) _ is.0 (both (is_current before p.stage 0) _ (current_first before p is.2 current)
    (subst (λ o. is_batch_handled o (count topology before p.stage) (batch_of topology before p.stage) bytes end ≡ true) (sym f.is) (subst (λ ms. is_end_by f.spec.kind (is_some f.spec.edge) f.spec (count topology before p.stage) ms bytes end ≡ true) is.1.messages handled))))

-- ---- any job

row : (topology : Topology) (before : History) (p : Post) (w : Work) (o : Came) (old new : BodySeen) → IsSound topology → is_legal topology before ≡ true → IsOutNow topology before p → IsWorkOf topology before p w → IsBodyAt topology before p old → IsDone w o old new
    → may_come topology before (step_of p o) ≡ true
row topology before p (work.Fetch most) o old new sound legal out is fit done = fetch_row topology before p most o old new (stage_low topology before p sound legal out) out.live out.current is (source_there topology before p old is.0 fit) done
row topology before p (work.Chunk messages) (came.Replies replies) old new sound legal out is fit done = chunk_row topology before p messages replies old new sound legal out.live out.current is fit done
row topology before p (work.Chunk messages) o old new sound legal out is fit done = absurd done
row topology before p (work.Batch batch) (came.Wrote bytes end) old new sound legal out is fit done = batch_row topology before p batch bytes end old new out.live out.current is fit done
row topology before p (work.Batch batch) o old new sound legal out is fit done = absurd done
row topology before p (work.Child message) (came.Reply reply) old new sound legal out is fit done = child_row topology before p message reply old new sound legal out.live out.current is fit done
row topology before p (work.Child message) o old new sound legal out is fit done = absurd done

pub answer_allowed : (topology : Topology) (before : History) (job : Job) (answer : Answer) (old new : BodySeen) → IsSound topology → is_legal topology before ≡ true → owed topology before ≡ None → IsJobOf topology before job → answer.post ≡ job.post
    → IsBodyAt topology before job.post old → IsDone job.work answer.outcome old new → allows topology before (step_of answer.post answer.outcome) ≡ true
answer_allowed topology before job answer old new sound legal calm is same fit done =
    subst (λ p. allows topology before (step_of p answer.outcome) ≡ true) (sym same)
    (allowed_row topology before (step_of job.post answer.outcome) is.out.going calm (row topology before job.post job.work answer.outcome old new sound legal is.out is.work fit done))

-- ---- no crash

no_crash_fetch : (most : ℕ) (o : Came) (old new : BodySeen) → IsSome old.source → IsDone (work.Fetch most) o old new → is_crash o ≡ false
no_crash_fetch most (came.Records records) old new there done = refl
no_crash_fetch most came.NotYet old new there done = refl
no_crash_fetch most (came.Ended h) old new there done = refl
no_crash_fetch most (came.Replies replies) old new there done = fetched (is_crash (came.Replies replies) ≡ false) most (came.Replies replies) old.source new.source (λ b c f. absurd f.answer) (λ b c f. absurd f.answer) there done.0
no_crash_fetch most (came.Wrote bytes end) old new there done = fetched (is_crash (came.Wrote bytes end) ≡ false) most (came.Wrote bytes end) old.source new.source (λ b c f. absurd f.answer) (λ b c f. absurd f.answer) there done.0
no_crash_fetch most (came.Reply reply) old new there done = refl

chunk_calm : (topology : Topology) (before : History) (s : StageNo) (spec : StageSpec) (messages : List Message) (replies : List Reply) (x y : Option BoxSeen) → spec.kind ≢ Own → never_crashes spec.rules ≡ true → There x (IsArmed topology before s spec) → Both (Replies 0 messages replies) x y → has_crash replies ≡ false
chunk_calm topology before s spec messages replies (Some b) (Some c) other calm armed done = done.calm (λ own. other (sym armed.kind ∙ own)) (subst (λ x. never_crashes x.rules ≡ true) (sym armed.spec) calm)
chunk_calm topology before s spec messages replies (Some b) None other calm armed done = absurd done
chunk_calm topology before s spec messages replies None y other calm armed done = absurd armed

end_calm : (e : BatchEnd) → (e ≡ end.Crashed → ⊥) → is_crashed_end e ≡ false
end_calm end.Crashed not_so = absurd (not_so refl)
end_calm (end.Outcomes outcomes) not_so = refl

batch_calm : (topology : Topology) (before : History) (s : StageNo) (spec : StageSpec) (asked : Batch) (bytes : ℕ) (e : BatchEnd) (old new : BodySeen) (x y : Option BoxSeen) → spec.kind ≢ Own → never_crashes spec.rules ≡ true → There x (IsArmed topology before s spec) → Both (EndsIn asked bytes e old new) x y → is_crashed_end e ≡ false
batch_calm topology before s spec asked bytes e old new (Some b) (Some c) other calm armed done = end_calm e (done.0.calm (λ own. other (sym armed.kind ∙ own)) (subst (λ x. never_crashes x.rules ≡ true) (sym armed.spec) calm))
batch_calm topology before s spec asked bytes e old new (Some b) None other calm armed done = absurd done
batch_calm topology before s spec asked bytes e old new None y other calm armed done = absurd armed

-- a built-in callback whose rules never crash does not
pub no_crash : (topology : Topology) (before : History) (job : Job) (o : Came) (old new : BodySeen) → IsWorkOf topology before job.post job.work → IsBodyAt topology before job.post old → IsDone job.work o old new
    → ((spec : StageSpec) → spec_of topology job.post.stage ≡ Some spec → (spec.kind ≢ Own) × (never_crashes spec.rules ≡ true)) → is_crash o ≡ false
no_crash topology before job o old new is fit done calm = by_work job.work o is done
  where
    by_work : (w : Work) (o : Came) → IsWorkOf topology before job.post w → IsDone w o old new → is_crash o ≡ false
    by_work (work.Fetch most) o is done = no_crash_fetch most o old new (source_there topology before job.post old is.0 fit) done
    by_work (work.Chunk messages) (came.Replies replies) is done =
        let armed = chunk_armed topology before job.post old is.0 fit in
        let so = calm armed.spec armed.is in
        chunk_calm topology before job.post.stage armed.spec messages replies old.callback new.callback so.0 so.1 armed.box done.0
    by_work (work.Chunk messages) o is done = absurd done
    by_work (work.Batch batch) (came.Wrote bytes e) is done =
        let armed = batch_armed topology before job.post old is.0 fit in
        let so = calm armed.spec armed.is in
        batch_calm topology before job.post.stage armed.spec batch bytes e old new old.callback new.callback so.0 so.1 armed.box done.0
    by_work (work.Batch batch) o is done = absurd done
    by_work (work.Child message) (came.Reply reply) is done = refl
    by_work (work.Child message) o is done = absurd done
