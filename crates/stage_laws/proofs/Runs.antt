-- What runs in a stage after a step.
use Rattle.std.proofs.Common.{◌≡◌, ℕ, ◌+◌, List, [], ◌∷◌, ◌++◌, map, take, Bool, true, false, refl, ap, sym, ◌∙◌, Some, None, Option, arith}
use Rattle.std.specs.Prelude.{if◌then◌else◌, ◌&&◌, ◌==◌, not, filter, option_map, is_some, length}
use Rattle.std.proofs.lemmas.List.{append-nil, map-append}
use Rattle.pipe_types.specs.declared.numbers.SubNo.{SubNo}
use Rattle.pipe_types.specs.declared.numbers.StageNo.{StageNo}
use Rattle.pipe_types.specs.declared.topology.Topology.{Topology}
use Rattle.pipe_types.specs.declared.message.Why.{Why}
use Rattle.pipe_types.specs.declared.message.Place.{Place}
use Rattle.pipe_types.specs.declared.message.Outcome.TheVariants.{Successful}
use Rattle.pipe_types.specs.declared.message.Place.TheVariants.{Waiting, Inbox, Running, InBatch, Acked}
use Rattle.pipe_types.specs.declared.message.Reply.{Reply}
use Rattle.pipe_types.specs.declared.message.Reply.TheVariants.{Pass, Failed as FailedReply, Raised, Crashed}
use Rattle.pipe_types.specs.declared.room.Sent.{Sent as SentUnit}
use Rattle.pipe_types.specs.declared.step.Step.{Step}
use Rattle.pipe_types.specs.declared.step.Step.TheVariants.{Accept, Dispatch, Take, Done, Close, Kill, Halt}
use Rattle.pipe_types.specs.declared.numbers.MsgNo.{MsgNo}
use Rattle.pipe_types.specs.declared.message.Trigger.{Trigger}
use Rattle.queue_laws.proofs.Unseen.{joined_unseen}
use Rattle.pipe_types.specs.Numbers.{same_stage, post}
use Rattle.pipe_types.specs.Stages.{spec_of}
use Rattle.pipe_model.specs.History.{History, accepted, closed, incarnation}
use Rattle.pipe_model.specs.Posts.{out_from}
use Rattle.pipe_model.specs.Lives.{KillSet, reason_in, kill_set, is_live}
use Rattle.pipe_model.specs.Content.{has_crash, is_among_next}
use Rattle.pipe_model.specs.Flow.{place, batch, view_of, inbox, sent_to, is_batcher, runs_in, chunk_by, deliveries, alone, delivered_to, subs_of, lost_over, dispatched, waiting_after, taken, next_units, units_on, among, accepted_to, done, answered, reply_to, has_batchers_in, closing, batch_waits_in, waits_in}
use Rattle.pipe_model.specs.Work.{taken_units}
use Rattle.pipe_model.specs.Legal.{is_legal, allows, has_role, is_processor_role, is_current}
use Rattle.pipe_laws.proofs.Tests.{clash, same_stage-true, same_stage-self, both}
use Rattle.pipe_laws.proofs.Lists.{each_always, each_map}
use Rattle.pipe_laws.proofs.Places.{IsOn, sends_on}
use Rattle.pipe_laws.proofs.Levels.{rank, feeds_down}
use Rattle.pipe_laws.proofs.Entries.{is_waiting, waiting_each, waits_here, delivered_each}
use Rattle.pipe_laws.proofs.Allowed.{legal_step, take_facts, done_facts}
use Rattle.pipe_laws.proofs.Chunks.{owes_crash, owed_dies}
use Rattle.queue_laws.specs.Queues.{unless_killed}
use Rattle.queue_laws.proofs.Filters.{filter_alike, filter_both, filter_split, filter_all, filter_none}
use Rattle.queue_laws.proofs.Waits.{TestsIn, tests_at, killed_test}
use Rattle.queue_laws.proofs.Fits.{Fits}
use Rattle.queue_laws.proofs.Roles.{batcher_rank}
use Rattle.queue_laws.proofs.Working.{chunk_is}
use Rattle.pipe_model.specs.Standing.{running}
use Rattle.stage_laws.proofs.Plain.{none_runs}
use Rattle.std.proofs.lemmas.Bool.{eq-eqb}
use Rattle.pipe_laws.proofs.Kept.{runs_here}

abbrev numbers : Topology → History → StageNo → List ℕ
numbers topology before s = map (λ d. d.1) (sent_to topology before s)

-- steps that leave each message's test
pub runs_still : (topology : Topology) (before : History) (step : Step) (s : StageNo) → sent_to topology (step ∷ before) s ≡ sent_to topology before s
    → ((n : ℕ) → runs_in s (place topology (step ∷ before) n) ≡ runs_in s (place topology before n)) → running topology (step ∷ before) s ≡ running topology before s
runs_still topology before step s same_list same =
    ap (λ ds. filter (λ n. runs_in s (place topology (step ∷ before) n)) (map (λ d. d.1) ds)) same_list
    ∙ filter_alike (λ n. runs_in s (place topology before n)) (λ n. runs_in s (place topology (step ∷ before) n)) same (map (λ d. d.1) (sent_to topology before s))

-- Accept

pub runs_accepted : (topology : Topology) (before : History) (t s : StageNo) (records : List (List ℕ)) → running topology (Accept t records ∷ before) s ≡ running topology before s
runs_accepted topology before t s records = runs_still topology before (Accept t records) s refl (λ n. by n (place topology before n))
  where
    by : (n : ℕ) (p : Option Place) → runs_in s (accepted_to (accepted before) (length records) (Waiting t) n p) ≡ runs_in s p
    by n (Some p) = refl
    by n None = either (is_among_next (accepted before) (length records) n)
      where
        either : (b : Bool) → runs_in s (if b then Some (Waiting t) else None) ≡ false
        either true = refl
        either false = refl

-- Dispatch

dispatched_runs : (units : List SentUnit) (over alone : List ℕ) (t s : StageNo) (n : ℕ) (p : Option Place) → runs_in s (option_map (dispatched units over alone t n) p) ≡ runs_in s p
dispatched_runs units over alone t s n (Some (Waiting w)) = by (same_stage t w)
  where
    after : (subs : List SubNo) (b : Bool) → runs_in s (Some (waiting_after subs b t)) ≡ false
    after (u ∷ subs) b = refl
    after [] true = refl
    after [] false = refl

    by : (b : Bool) → runs_in s (Some (if b then waiting_after (subs_of units n) (among over n) t else Waiting w)) ≡ false
    by true = after (subs_of units n) (among over n)
    by false = refl
dispatched_runs units over alone t s n (Some (InBatch b)) = by (among alone b.0)
  where
    by : (a : Bool) → runs_in s (Some (if a then Acked Successful else InBatch b)) ≡ false
    by true = refl
    by false = refl
dispatched_runs units over alone t s n _ = refl

pub runs_dispatched : (topology : Topology) (before : History) (t s : StageNo) → Fits topology → is_legal topology before ≡ true → running topology (Dispatch t ∷ before) s ≡ running topology before s
runs_dispatched topology before t s fit h =
    ap (filter (λ n. runs_in s (place topology (Dispatch t ∷ before) n))) (map-append (λ (d : SubNo × ℕ). d.1) (sent_to topology before s) (delivered_to (deliveries topology before t) s))
    ∙ (filter_split (λ n. runs_in s (place topology (Dispatch t ∷ before) n)) (numbers topology before s) (map (λ d. d.1) (delivered_to (deliveries topology before t) s))
    ∙ ((λ i. olds i ++ news i) ∙ append-nil (running topology before s)))
  where
    same : (n : ℕ) → runs_in s (place topology (Dispatch t ∷ before) n) ≡ runs_in s (place topology before n)
    same n = dispatched_runs (deliveries topology before t) (lost_over topology before (view_of topology before) t) (alone topology before t) t s n (place topology before n)

    olds : filter (λ n. runs_in s (place topology (Dispatch t ∷ before) n)) (numbers topology before s) ≡ running topology before s
    olds = filter_alike (λ n. runs_in s (place topology before n)) (λ n. runs_in s (place topology (Dispatch t ∷ before) n)) same (numbers topology before s)

    -- what is sent to the stage does not run there
    fresh : (d : SentUnit) → IsOn topology before t d.sub × (is_waiting topology before t d.unit ≡ true) → d.sub.consumer ≡ s → runs_in s (place topology (Dispatch t ∷ before) d.unit) ≡ false
    fresh d p there = same d.unit ∙ by (is_batcher (spec_of topology t)) refl p.1
      where
        by : (b : Bool) → is_batcher (spec_of topology t) ≡ b → (if b then batch_waits_in t (batch topology before d.unit) else waits_in t (place topology before d.unit)) ≡ true → runs_in s (place topology before d.unit) ≡ false
        by false e w = ap (runs_in s) (waits_here t (place topology before d.unit) w)
        by true e w =
            let two : rank topology t ≡ 2 = batcher_rank (spec_of topology t) e in
            let down = feeds_down topology t d.sub.consumer p.0.feeding in
            let same_rank : rank topology d.sub.consumer ≡ rank topology s = ap (rank topology) there in
            none_runs topology before s fit h (λ one. omega (arith, one, two, down, same_rank)) d.unit

    news : filter (λ n. runs_in s (place topology (Dispatch t ∷ before) n)) (map (λ d. d.1) (delivered_to (deliveries topology before t) s)) ≡ []
    news =
        filter_none (λ n. runs_in s (place topology (Dispatch t ∷ before) n)) (map (λ d. d.1) (delivered_to (deliveries topology before t) s))
        (each_map (λ n. runs_in s (place topology (Dispatch t ∷ before) n) ≡ false) (λ (d : SubNo × ℕ). d.1) (delivered_to (deliveries topology before t) s)
        (delivered_each (λ d. IsOn topology before t d.sub × (is_waiting topology before t d.unit ≡ true)) (λ d. runs_in s (place topology (Dispatch t ∷ before) d.1) ≡ false) s fresh (deliveries topology before t)
        (sends_on topology before t (λ n. is_waiting topology before t n ≡ true) (waiting_each topology before t))))

-- Take

pub runs_taken_else : (topology : Topology) (before : History) (t s : StageNo) (u : SubNo) (k : ℕ) → same_stage s t ≡ false → running topology (Take t u k ∷ before) s ≡ running topology before s
runs_taken_else topology before t s u k other = runs_still topology before (Take t u k) s refl (λ n. by n (place topology before n))
  where
    by : (n : ℕ) (p : Option Place) → runs_in s (option_map (taken (next_units topology (view_of topology before) t u k) t n) p) ≡ runs_in s p
    by n (Some (Inbox v)) = either (same_stage t v.consumer && among (next_units topology (view_of topology before) t u k) n)
      where
        either : (b : Bool) → runs_in s (Some (if b then Running t else Inbox v)) ≡ false
        either true = other
        either false = refl
    by n _ = refl

calm_take : (before : History) (t s : StageNo) (u : SubNo) (k : ℕ) → owes_crash (Take t u k ∷ before) s ≡ false
calm_take before t s u k = refl

-- no step can come to a stage that owes a crash, but its kill
pub calm : (topology : Topology) (before : History) (step : Step) (s : StageNo) → allows topology before step ≡ true → is_live topology (step ∷ before) s ≡ true → owes_crash before s ≡ false
calm topology before step s h live = by (owes_crash before s) refl
  where
    by : (b : Bool) → owes_crash before s ≡ b → b ≡ false
    by false e = refl
    by true e = clash (is_live topology (step ∷ before) s) live (owed_dies topology before step s e h)

pub runs_idle : (topology : Topology) (before : History) (s : StageNo) (u : SubNo) (k : ℕ) → Fits topology → is_legal topology before ≡ true → has_role topology s is_processor_role ≡ true → allows topology before (Take s u k) ≡ true → running topology before s ≡ []
runs_idle topology before s u k fit h role allowed =
    let facts = take_facts topology before s u k allowed in
    chunk_is topology before s fit h role facts.live (calm topology before (Take s u k) s allowed facts.live)
    ∙ ap (λ b. if b && (out_from before (post s 0) == incarnation before s) then taken_units topology before s else []) facts.free

pub runs_taken : (topology : Topology) (before : History) (s : StageNo) (u : SubNo) (k : ℕ) → Fits topology → is_legal topology before ≡ true → has_role topology s is_processor_role ≡ true → allows topology before (Take s u k) ≡ true
    → running topology (Take s u k ∷ before) s ≡ take k (units_on u (inbox topology before s))
runs_taken topology before s u k fit h role allowed =
    let facts = take_facts topology before s u k allowed in
    let self : same_stage s s ≡ true = same_stage-self s in
    let legal : is_legal topology (Take s u k ∷ before) ≡ true = both (is_legal topology before) (allows topology before (Take s u k)) h allowed in
    chunk_is topology (Take s u k ∷ before) s fit legal role facts.live refl
    ∙ (ap (λ b. if b then taken_units topology (Take s u k ∷ before) s else []) current
    ∙ ap (λ b. if b then take k (units_on u (inbox topology before s)) else taken_units topology before s) self)
  where
    current : is_current (Take s u k ∷ before) s 0 ≡ true
    current = rw (same_stage-self s) (eq-eqb (incarnation before s) (incarnation before s) refl)

-- Kill and Halt

pub runs_tests : (s : StageNo) → TestsIn (runs_in s) s
runs_tests s = tests_at (runs_in s) s (Running s) refl (runs_here s)

killed_running : (topology : Topology) (before : History) (step : Step) (set : KillSet) (s : StageNo) → sent_to topology (step ∷ before) s ≡ sent_to topology before s
    → ((n : ℕ) → runs_in s (place topology (step ∷ before) n) ≡ (runs_in s (place topology before n) && not (is_some (reason_in set s)))) → running topology (step ∷ before) s ≡ unless_killed set s (running topology before s)
killed_running topology before step set s same_list same =
    ap (λ ds. filter (λ n. runs_in s (place topology (step ∷ before) n)) (map (λ d. d.1) ds)) same_list
    ∙ (filter_both (λ n. runs_in s (place topology before n)) (λ n. runs_in s (place topology (step ∷ before) n)) (λ n. not (is_some (reason_in set s))) (numbers topology before s) (each_always _ same (numbers topology before s))
    ∙ either (is_some (reason_in set s)))
  where
    either : (b : Bool) → filter (λ n. not b) (running topology before s) ≡ (if b then [] else running topology before s)
    either true = filter_none (λ n. false) (running topology before s) (each_always (λ n. false ≡ false) (λ n. refl) (running topology before s))
    either false = filter_all (λ n. true) (running topology before s) (each_always (λ n. true ≡ true) (λ n. refl) (running topology before s))

pub runs_killed : (topology : Topology) (before : History) (t s : StageNo) (why : Why) → running topology (Kill t why ∷ before) s ≡ unless_killed (kill_set topology before (Kill t why)) s (running topology before s)
runs_killed topology before t s why =
    killed_running topology before (Kill t why) (kill_set topology before (Kill t why)) s refl
    (λ n. killed_test (runs_in s) s (runs_tests s) (kill_set topology before (Kill t why)) (incarnation before) (batch topology (Kill t why ∷ before)) n (place topology before n))

pub runs_halted : (topology : Topology) (before : History) (s : StageNo) → running topology (Halt ∷ before) s ≡ unless_killed (kill_set topology before Halt) s (running topology before s)
runs_halted topology before s =
    killed_running topology before Halt (kill_set topology before Halt) s refl
    (λ n. killed_test (runs_in s) s (runs_tests s) (kill_set topology before Halt) (incarnation before) (batch topology (Halt ∷ before)) n (place topology before n))

-- Done

pub runs_done_else : (topology : Topology) (before : History) (t s : StageNo) (replies : List Reply) → same_stage s t ≡ false → running topology (Done t replies ∷ before) s ≡ running topology before s
runs_done_else topology before t s replies other = runs_still topology before (Done t replies) s refl (λ n. crashed (has_crash replies) n)
  where
    answer : (b : Bool) (r : Option Reply) → runs_in s (Some (answered b t r)) ≡ false
    answer true (Some (Pass m)) = refl
    answer false (Some (Pass m)) = refl
    answer true (Some (FailedReply why)) = refl
    answer true (Some (Raised why)) = refl
    answer false (Some (FailedReply why)) = refl
    answer false (Some (Raised why)) = refl
    answer true (Some Crashed) = other
    answer false (Some Crashed) = other
    answer true None = other
    answer false None = other

    by : (n : ℕ) (p : Option Place) → runs_in s (option_map (done (has_batchers_in (spec_of topology t)) (chunk_by (view_of topology before) t) replies t n) p) ≡ runs_in s p
    by n (Some (Running v)) = either (same_stage t v) refl
      where
        either : (b : Bool) → same_stage t v ≡ b → runs_in s (Some (if b then answered (has_batchers_in (spec_of topology t)) t (reply_to (chunk_by (view_of topology before) t) replies n) else Running v)) ≡ runs_in s (Some (Running v))
        either true e = answer (has_batchers_in (spec_of topology t)) (reply_to (chunk_by (view_of topology before) t) replies n) ∙ sym (ap (same_stage s) (sym (same_stage-true t v e)) ∙ other)
        either false e = refl
    by n _ = refl

    crashed : (b : Bool) (n : ℕ) → runs_in s (if b then place topology before n else option_map (done (has_batchers_in (spec_of topology t)) (chunk_by (view_of topology before) t) replies t n) (place topology before n)) ≡ runs_in s (place topology before n)
    crashed true n = refl
    crashed false n = by n (place topology before n)

-- nothing runs in the stage once it answered
pub runs_done : (topology : Topology) (before : History) (s : StageNo) (replies : List Reply) → Fits topology → is_legal topology (Done s replies ∷ before) ≡ true → has_crash replies ≡ false → running topology (Done s replies ∷ before) s ≡ []
runs_done topology before s replies fit h safe =
    let facts = done_facts topology before s replies (legal_step topology before (Done s replies) h) in
    chunk_is topology (Done s replies ∷ before) s fit h facts.role facts.live (ap (λ b. b && same_stage s s) safe)
    ∙ ap (λ b. if b then taken_units topology (Done s replies ∷ before) s else []) idle
  where
    idle : is_current (Done s replies ∷ before) s 0 ≡ false
    idle = rw (same_stage-self s) refl

pub runs_joined : (topology : Topology) (before : History) (t s : StageNo) (first : MsgNo) (trigger : Trigger) → running topology (Close t first trigger ∷ before) s ≡ running topology before s
runs_joined topology before t s first trigger =
    runs_still topology before (Close t first trigger) s refl
    (λ n. joined_unseen (runs_in s) (λ x. refl) (λ b. refl) (closing before (view_of topology before) t first.0) t (closed before + 1) n (place topology before n))
