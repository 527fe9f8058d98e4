-- A live processor that is not at work runs nothing; one at work runs what it took last.
use Rattle.std.proofs.Common.{◌≡◌, ℕ, ◌≤◌, List, [], ◌∷◌, ◌++◌, map, length, take, Bool, true, false, refl, ap, sym, ◌∙◌, subst, Some, None, Option, arith}
use Rattle.std.specs.Prelude.{if◌then◌else◌, not, ◌==◌, ◌&&◌, ◌||◌, option_map, is_some, filter, cond}
use Rattle.std.proofs.lemmas.Bool.{eqb-true, eq-eqb, false_from_ne_true}
use Rattle.pipe_types.specs.declared.numbers.SubNo.{SubNo}
use Rattle.pipe_types.specs.declared.numbers.StageNo.{StageNo}
use Rattle.pipe_types.specs.declared.topology.Topology.{Topology}
use Rattle.pipe_types.specs.declared.topology.StageSpec.{StageSpec}
use Rattle.pipe_types.specs.declared.topology.Role.{Role}
use Rattle.pipe_types.specs.declared.topology.Role.TheVariants.{Producer, Processor, Supervisor, Batcher, BatchProcessor}
use Rattle.pipe_types.specs.declared.message.Place.{Place}
use Rattle.pipe_types.specs.declared.message.Place.TheVariants.{Waiting, Inbox, Running}
use Rattle.pipe_types.specs.declared.message.Reply.{Reply}
use Rattle.pipe_types.specs.declared.step.SourceHow.{SourceHow}
use Rattle.pipe_types.specs.declared.step.LateAnswer.{LateAnswer}
use Rattle.pipe_types.specs.declared.step.Step.{Step}
use Rattle.pipe_types.specs.declared.step.Step.TheVariants.{Fetch, Accept, Quiet, SourceEnd, Dispatch, Take, Done, Wrote, Child, ChildEnd, Late, Restart}
use Rattle.pipe_types.specs.Numbers.{stage, same_stage, same_sub, same_post, post}
use Rattle.pipe_types.specs.Stages.{spec_of, feeds, option_feeds, role_feeds}
use Rattle.pipe_model.specs.History.{History, incarnation}
use Rattle.pipe_model.specs.Posts.{puts_out, answers, is_out, out_from}
use Rattle.pipe_model.specs.Lives.{is_live, restarts}
use Rattle.pipe_model.specs.Content.{has_crash, content}
use Rattle.pipe_model.specs.Work.{taken_units, chunk_of, count}
use Rattle.pipe_model.specs.Flow.{place, batch, view_of, among, is_batcher, in_inbox_by, leg_waits_in, runs_in, waits_in, batch_waits_in, sent_to, inbox, units_on, taken, chunk_by, delivered_to, sends_by, has_batchers_in, reply_to}
use Rattle.pipe_model.specs.Legal.{is_legal, allows, is_current, first_sub, has_role, is_processor_role, is_producer_role, is_batcher_role, is_batch_processor_role, is_supervisor_role, may_end}
use Rattle.pipe_laws.proofs.Tests.{clash, and_left, and_right, both, same_stage-true, same_stage-self, same_stage-flip, same_sub-true, same_sub-self}
use Rattle.pipe_laws.proofs.Lists.{Each, each_always, each_weaker, each_both, each_filter, each_map, each_among, all_among, each-append, first_kept}
use Rattle.pipe_laws.proofs.Places.{move_by, starts, IsOn, sends_on}
use Rattle.pipe_laws.proofs.Entries.{EntryFits, MessageFits, entries_fit, is_waiting, waiting_each, waits_here, delivered_each}
use Rattle.pipe_laws.proofs.Allowed.{legal_before, legal_step, unowed, TakeFacts, take_facts, DoneFacts, done_facts, wrote_facts, child_facts, child_end_facts, accept_role, fetch_role, LateFacts, late_facts, restart_dead}
use Rattle.pipe_laws.proofs.Held.{held, stands_live}
use Rattle.pipe_laws.proofs.Kept.{ends_work, runs_same, runs_only, runs_here}
use Rattle.pipe_laws.proofs.Busy.{was_current, was_live, two_roles, same_incarnation, inbox_here, take_there}
use Rattle.pipe_laws.proofs.Accepted.{placed_content, content_kept}
use Rattle.pipe_laws.proofs.Replies.{handled_length, messages_length, reply_some, replied_stops}
use Rattle.pipe_laws.proofs.Chunks.{Covers, covers_take, each_take, none_kept, keeps_none, filters_agree, filter_same, kept_among, owes_crash, owed_dies}
use Rattle.pipe_model.specs.Standing.{in_inbox}
pub use Rattle.pipe_laws.proofs.Roles.{processor_producer, processor_supervisor, processor_writes}

-- Roles

pub other_stage : (s t : StageNo) → same_stage s t ≡ false → same_stage t s ≡ false
other_stage s t e = false_from_ne_true (same_stage t s) (λ h. clash (same_stage s t) (same_stage-flip t s h) e)

-- a stage of one role is not one that has another
pub roles_apart : (topology : Topology) (s t : StageNo) (one other : Role → Bool) → ((role : Role) → one role ≡ true → other role ≡ true → ⊥) → has_role topology s one ≡ true → has_role topology t other ≡ true → same_stage s t ≡ false
roles_apart topology s t one other apart h k =
    false_from_ne_true (same_stage s t) (λ same. two_roles topology s one other apart h (subst (λ x. has_role topology x other ≡ true) (sym (same_stage-true s t same)) k))

-- only batch processors take from batchers
batcher_feeds : (p c : Role) (b : Bool) → role_feeds p c b ≡ true → (is_batch_processor_role c ≡ true → ⊥) → is_batcher_role p ≡ false
batcher_feeds Producer c b h k = refl
batcher_feeds Processor c b h k = refl
batcher_feeds Supervisor c b h k = refl
batcher_feeds BatchProcessor c b h k = refl
batcher_feeds Batcher BatchProcessor b h k = absurd (k refl)
batcher_feeds Batcher Producer b h k = cc
batcher_feeds Batcher Processor b h k = cc
batcher_feeds Batcher Supervisor b h k = cc
batcher_feeds Batcher Batcher b h k = cc

pub spec_batcher : (spec : StageSpec) → is_batcher (Some spec) ≡ is_batcher_role spec.role
spec_batcher spec = by_role spec.role refl
  where
    by_role : (role : Role) → spec.role ≡ role → is_batcher (Some spec) ≡ is_batcher_role role
    by_role Producer e = rw e refl
    by_role _ e = rw e refl

pub fed_by_messages : (topology : Topology) (p c : StageNo) (one : Role → Bool) → ((role : Role) → one role ≡ true → is_batch_processor_role role ≡ true → ⊥) → feeds topology p c ≡ true → has_role topology c one ≡ true → is_batcher (spec_of topology p) ≡ false
fed_by_messages topology p c one apart h role = by_specs (spec_of topology p) (spec_of topology c) refl h
  where
    by_specs : (x y : Option StageSpec) → spec_of topology c ≡ y → option_feeds x y ≡ true → is_batcher x ≡ false
    by_specs None y e h = refl
    by_specs (Some x) None e h = cc
    by_specs (Some x) (Some y) e h =
        let known : has_role topology c one ≡ one y.role = rw e refl in
        spec_batcher x ∙ batcher_feeds x.role y.role (x.batcher == y.batcher) h (λ k. apart y.role (sym known ∙ role) k)

-- Steps that leave a processor's work alone

-- the step takes, answers or restarts in the processor
abbrev touches : Step → StageNo → Bool
touches (Take t u k) s = same_stage s t
touches (Done t replies) s = same_stage s t
touches (Restart t) s = same_stage s t
touches (Late t slot i answer) s = same_stage s t && 0 == slot
touches _ s = false

record Untouched (step : Step) (s : StageNo) : Type 0 where
  no_put : puts_out step (post s 0) ≡ false
  no_answer : answers step (post s 0) ≡ false
  no_restart : restarts step s ≡ false
  no_start : starts step s ≡ false
  no_end : ends_work step s ≡ false

and_false : (a b : Bool) → a ≡ false → (a && b) ≡ false
and_false a b e = ap (λ x. x && b) e

pub not_source : (topology : Topology) (before : History) (t : StageNo) (how : SourceHow) → may_end topology before t how ≡ true → same_stage t (stage 0) ≡ false → has_role topology t is_producer_role ≡ true
not_source topology before t how h e = by_test (same_stage t (stage 0)) _ _ _ e h
  where
    by_test : (b x y z : Bool) → b ≡ false → (if b then x else (y && (has_role topology t is_producer_role && z))) ≡ true → has_role topology t is_producer_role ≡ true
    by_test true x y z e h = cc
    by_test false x y z e h = and_left (has_role topology t is_producer_role) _ (and_right y _ h)

untouched : (topology : Topology) (before : History) (step : Step) (s : StageNo) → allows topology before step ≡ true → has_role topology s is_processor_role ≡ true → touches step s ≡ false → Untouched step s
untouched topology before (Fetch t n) s h role e =
    let apart : same_stage s t ≡ false = roles_apart topology s t is_processor_role is_producer_role processor_producer role (fetch_role topology before t n h) in
    record { no_put = and_false (same_stage s t) true apart; no_answer = refl; no_restart = refl; no_start = refl; no_end = refl }
untouched topology before (Accept t records) s h role e =
    let apart : same_stage s t ≡ false = roles_apart topology s t is_processor_role is_producer_role processor_producer role (accept_role topology before t records h) in
    record { no_put = refl; no_answer = and_false (same_stage s t) true apart; no_restart = refl; no_start = refl; no_end = refl }
untouched topology before (Quiet t) s h role e =
    let producer : has_role topology t is_producer_role ≡ true = and_left (has_role topology t is_producer_role) _ (and_right (is_live topology before t) _ (unowed topology before (Quiet t) (λ x. refl) (λ x. refl) h)) in
    let apart : same_stage s t ≡ false = roles_apart topology s t is_processor_role is_producer_role processor_producer role producer in
    record { no_put = refl; no_answer = and_false (same_stage s t) true apart; no_restart = refl; no_start = refl; no_end = refl }
untouched topology before (SourceEnd t how) s h role e =
    record { no_put = refl; no_answer = by_source (same_stage t (stage 0)) refl; no_restart = refl; no_start = refl; no_end = refl }
  where
    by_source : (b : Bool) → same_stage t (stage 0) ≡ b → (not b && same_post (post s 0) (post t 0)) ≡ false
    by_source true e = refl
    by_source false e =
        and_false (same_stage s t) true
        (roles_apart topology s t is_processor_role is_producer_role processor_producer role
        (not_source topology before t how (unowed topology before (SourceEnd t how) (λ x. refl) (λ x. refl) h) e))
untouched topology before (Take t u k) s h role e =
    record { no_put = and_false (same_stage s t) true e; no_answer = refl; no_restart = refl; no_start = other_stage s t e; no_end = refl }
untouched topology before (Done t replies) s h role e =
    record { no_put = refl; no_answer = and_false (same_stage s t) true e; no_restart = refl; no_start = refl; no_end = other_stage s t e }
untouched topology before (Wrote t bytes end) s h role e =
    let apart : same_stage s t ≡ false = roles_apart topology s t is_processor_role is_batch_processor_role processor_writes role (wrote_facts topology before t bytes end h).role in
    record { no_put = refl; no_answer = and_false (same_stage s t) true apart; no_restart = refl; no_start = refl; no_end = other_stage s t apart }
untouched topology before (Child t m slot) s h role e =
    let apart : same_stage s t ≡ false = roles_apart topology s t is_processor_role is_supervisor_role processor_supervisor role (child_facts topology before t m slot h).role in
    record { no_put = and_false (same_stage s t) (0 == slot) apart; no_answer = refl; no_restart = refl; no_start = other_stage s t apart; no_end = refl }
untouched topology before (ChildEnd t slot reply) s h role e =
    let apart : same_stage s t ≡ false = roles_apart topology s t is_processor_role is_supervisor_role processor_supervisor role (child_end_facts topology before t slot reply h).role in
    record { no_put = refl; no_answer = and_false (same_stage s t) (0 == slot) apart; no_restart = refl; no_start = refl; no_end = other_stage s t apart }
untouched topology before (Late t slot i answer) s h role e = record { no_put = refl; no_answer = e; no_restart = refl; no_start = refl; no_end = refl }
untouched topology before (Restart t) s h role e = record { no_put = refl; no_answer = refl; no_restart = e; no_start = refl; no_end = refl }
untouched topology before _ s h role e = record { no_put = refl; no_answer = refl; no_restart = refl; no_start = refl; no_end = refl }

same_current : (before : History) (step : Step) (s : StageNo) → Untouched step s → is_current (step ∷ before) s 0 ≡ is_current before s 0
same_current before step s u = either (puts_out step (post s 0)) (answers step (post s 0)) u.no_put u.no_answer
  where
    either : (p a : Bool) → p ≡ false → a ≡ false → ((p || (not a && is_out before (post s 0))) && ((if p then incarnation before s else out_from before (post s 0)) == incarnation (step ∷ before) s)) ≡ is_current before s 0
    either true a ep ea = cc
    either false true ep ea = cc
    either false false ep ea = ap (λ n. is_out before (post s 0) && (out_from before (post s 0) == n)) (same_incarnation step s (incarnation before s) u.no_restart)

same_taken : (topology : Topology) (before : History) (step : Step) (s : StageNo) → touches step s ≡ false → taken_units topology (step ∷ before) s ≡ taken_units topology before s
same_taken topology before (Take t u k) s e = rw e refl
same_taken topology before _ s e = refl

-- Chunks

abbrev chunk : Topology → History → StageNo → List ℕ
chunk topology before s = chunk_by (view_of topology before) s

filter_pieces : (p : ℕ → Bool) (xs ys : List (SubNo × ℕ)) → filter p (map (λ d. d.1) ys) ≡ [] → filter p (map (λ d. d.1) (xs ++ ys)) ≡ filter p (map (λ d. d.1) xs)
filter_pieces p [] ys e = e
filter_pieces p (x ∷ xs) ys e = ap (λ zs. cond (p x.1) (x.1 ∷ zs) zs) (filter_pieces p xs ys e)

-- the same messages run where the step neither starts nor ends work
chunk_same : (topology : Topology) (before : History) (step : Step) (s : StageNo) → has_role topology s is_processor_role ≡ true → starts step s ≡ false → ends_work step s ≡ false → is_live topology (step ∷ before) s ≡ true → chunk topology (step ∷ before) s ≡ chunk topology before s
chunk_same topology before (Dispatch t) s role no_start no_end live =
    filter_pieces (λ n. runs_in s (place topology (Dispatch t ∷ before) n)) (sent_to topology before s) (delivered_to (sends_by topology before (view_of topology before) t) s)
    (keeps_none (λ n. runs_in s (place topology (Dispatch t ∷ before) n)) _
    (delivered_each (λ d. IsOn topology before t d.sub × (is_waiting topology before t d.unit ≡ true)) (λ d. runs_in s (place topology (Dispatch t ∷ before) d.1) ≡ false) s
    (λ d p there. fresh d.unit
    (fed_by_messages topology t s is_processor_role processor_writes (subst (λ x. feeds topology t x ≡ true) there p.0.feeding) role) p.1)
    (sends_by topology before (view_of topology before) t)
    (sends_on topology before t (λ n. is_waiting topology before t n ≡ true) (waiting_each topology before t))))
    ∙ filter_same _ _ (λ n. runs_same topology before (Dispatch t) s n no_start no_end live) (map (λ d. d.1) (sent_to topology before s))
  where
    fresh : (n : ℕ) → is_batcher (spec_of topology t) ≡ false → is_waiting topology before t n ≡ true → runs_in s (place topology (Dispatch t ∷ before) n) ≡ false
    fresh n e waiting =
        let here : place topology before n ≡ Some (Waiting t) = waits_here t (place topology before n) (subst (λ b. (if b then batch_waits_in t (batch topology before n) else waits_in t (place topology before n)) ≡ true) e waiting) in
        runs_same topology before (Dispatch t) s n no_start no_end live ∙ ap (runs_in s) here
chunk_same topology before step s role no_start no_end live =
    filter_same _ _ (λ n. runs_same topology before step s n no_start no_end live) (map (λ d. d.1) (sent_to topology before s))

-- a live processor at work runs what it took last, and else nothing
pub record Chunk (topology : Topology) (before : History) (s : StageNo) : Type 0 where
  pub idle : is_current before s 0 ≡ false → chunk topology before s ≡ []
  pub covered : is_current before s 0 ≡ true → Covers (taken_units topology before s) (chunk topology before s)
  pub filled : is_current before s 0 ≡ true → Each (λ n. is_some (content before n) ≡ true) (taken_units topology before s)

chunk_untouched : (topology : Topology) (before : History) (step : Step) (s : StageNo) → allows topology before step ≡ true → has_role topology s is_processor_role ≡ true → is_live topology (step ∷ before) s ≡ true → touches step s ≡ false → Chunk topology before s → Chunk topology (step ∷ before) s
chunk_untouched topology before step s h role live e old =
    record {
      idle = λ now. same ∙ old.idle (sym current ∙ now);
      covered = λ now. covered (old.covered (sym current ∙ now));
      filled = λ now.
          subst (Each (λ n. is_some (content (step ∷ before) n) ≡ true)) (sym (same_taken topology before step s e))
          (each_weaker (λ n. is_some (content before n) ≡ true) (λ n. is_some (content (step ∷ before) n) ≡ true) (λ n k. content_kept before step n k) (taken_units topology before s) (old.filled (sym current ∙ now)));
    }
  where
    free : Untouched step s
    free = untouched topology before step s h role e

    current : is_current (step ∷ before) s 0 ≡ is_current before s 0
    current = same_current before step s free

    same : chunk topology (step ∷ before) s ≡ chunk topology before s
    same = chunk_same topology before step s role free.no_start free.no_end live

    covered : Covers (taken_units topology before s) (chunk topology before s) → Covers (taken_units topology (step ∷ before) s) (chunk topology (step ∷ before) s)
    covered c =
        subst (λ ts. Covers ts (chunk topology (step ∷ before) s)) (sym (same_taken topology before step s e))
        (subst (Covers (taken_units topology before s)) (sym same) c)

-- A take

record IsNotRunning (topology : Topology) (before : History) (s : StageNo) (d : SubNo × ℕ) : Type 0 where
  fits : EntryFits topology before s d
  idle : runs_in s (place topology before d.1) ≡ false

-- a message of the stage runs after a take exactly where it was taken
taken_runs : (topology : Topology) (before : History) (s : StageNo) (u : SubNo) (ts : List ℕ) (d : SubNo × ℕ) → u.consumer ≡ s → ((n : ℕ) → among ts n ≡ true → in_inbox_by u (place topology before n) ≡ true) → MessageFits topology s d.0 (place topology before d.1) → runs_in s (place topology before d.1) ≡ false → runs_in s (option_map (taken ts s d.1) (place topology before d.1)) ≡ (same_sub d.0 u && (in_inbox_by d.0 (place topology before d.1) && among ts d.1))
taken_runs topology before s u ts d there stood fits idle = by_place (place topology before d.1) fits idle (stood d.1)
  where
    none : (a : Bool) → false ≡ (a && false)
    none true = refl
    none false = refl

    by_place : (p : Option Place) → MessageFits topology s d.0 p → runs_in s p ≡ false → (among ts d.1 ≡ true → in_inbox_by u p ≡ true) → runs_in s (option_map (taken ts s d.1) p) ≡ (same_sub d.0 u && (in_inbox_by d.0 p && among ts d.1))
    by_place (Some (Running t)) fits idle stood = idle ∙ none (same_sub d.0 u)
    by_place (Some (Inbox w)) fits idle stood = either (among ts d.1) refl stood
      where
        unchosen : (a b : Bool) → false ≡ (a && (b && false))
        unchosen true true = refl
        unchosen true false = refl
        unchosen false b = refl

        not_chosen : (a : Bool) → runs_in s (Some (if a && false then Running s else Inbox w)) ≡ false
        not_chosen true = refl
        not_chosen false = refl

        either : (b : Bool) → among ts d.1 ≡ b → (b ≡ true → same_sub u w ≡ true) → runs_in s (Some (if same_stage s w.consumer && b then Running s else Inbox w)) ≡ (same_sub d.0 u && (same_sub d.0 w && b))
        either false e stood = not_chosen (same_stage s w.consumer) ∙ unchosen (same_sub d.0 u) (same_sub d.0 w)
        either true e stood =
            let uw : u ≡ w = same_sub-true u w (stood refl) in
            let consumer : w.consumer ≡ s = ap (λ x. x.consumer) (sym uw) ∙ there in
            let own : w ≡ d.0 = fits.own w refl consumer in
            let here : same_stage s w.consumer ≡ true = ap (same_stage s) consumer ∙ same_stage-self s in
            let first : same_sub d.0 u ≡ true = ap (same_sub d.0) (uw ∙ own) ∙ same_sub-self d.0 in
            let second : same_sub d.0 w ≡ true = ap (same_sub d.0) own ∙ same_sub-self d.0 in
            rw (here, first, second) (same_stage-self s)
    by_place _ fits idle stood = none (same_sub d.0 u)

-- the units of an inbox stand in it
units_stand : (topology : Topology) (before : History) (s : StageNo) (u : SubNo) → is_batcher (spec_of topology u.producer) ≡ false → Each (λ n. in_inbox_by u (place topology before n) ≡ true) (units_on u (inbox topology before s))
units_stand topology before s u plain =
    each_map (λ n. in_inbox_by u (place topology before n) ≡ true) (λ d. d.1) _
    (each_weaker (λ d. (Unit {0} × (in_inbox topology before d ≡ true)) × (same_sub d.0 u ≡ true)) (λ d. in_inbox_by u (place topology before d.1) ≡ true) (λ d p. stands d p.0.1 p.1) _
    (each_filter (λ d. Unit {0} × (in_inbox topology before d ≡ true)) (λ d. same_sub d.0 u) (inbox topology before s)
    (each_filter (λ d. Unit {0}) (in_inbox topology before) (sent_to topology before s) (each_always (λ d. Unit {0}) (λ d. tt) (sent_to topology before s)))))
  where
    stands : (d : SubNo × ℕ) → in_inbox topology before d ≡ true → same_sub d.0 u ≡ true → in_inbox_by u (place topology before d.1) ≡ true
    stands d h same =
        let here : in_inbox topology before (u, d.1) ≡ true = subst (λ x. in_inbox topology before (x, d.1) ≡ true) (same_sub-true d.0 u same) h in
        subst (λ b. (if b then leg_waits_in u (batch topology before d.1) else in_inbox_by u (place topology before d.1)) ≡ true) plain here

chunk_taken : (topology : Topology) (before : History) (s : StageNo) (u : SubNo) (k : ℕ) → allows topology before (Take s u k) ≡ true → has_role topology s is_processor_role ≡ true → (is_current before s 0 ≡ false → chunk topology before s ≡ []) → Chunk topology (Take s u k ∷ before) s
chunk_taken topology before s u k h role was_idle =
    record {
      idle = λ now. clash (is_current (Take s u k ∷ before) s 0) now_current now;
      covered = λ now. subst (λ ts. Covers ts (chunk topology (Take s u k ∷ before) s)) (sym took) (subst (Covers (take k xs)) (sym is) (covers_take k xs));
      filled = λ now. subst (Each (λ n. is_some (content (Take s u k ∷ before) n) ≡ true)) (sym took) (each_take (λ n. is_some (content (Take s u k ∷ before) n) ≡ true) k xs filled);
    }
  where
    facts : TakeFacts topology before s u k
    facts = take_facts topology before s u k h

    xs : List ℕ
    xs = units_on u (inbox topology before s)

    here : (same_stage s s && true) ≡ true
    here = ap (λ b. b && true) (same_stage-self s)

    now_current : is_current (Take s u k ∷ before) s 0 ≡ true
    now_current = rw (same_stage-self s) (eq-eqb (incarnation before s) (incarnation before s) refl)

    took : taken_units topology (Take s u k ∷ before) s ≡ take k (units_on u (inbox topology before s))
    took = ap (λ b. if b then take k (units_on u (inbox topology before s)) else taken_units topology before s) (same_stage-self s)

    there : u.consumer ≡ s
    there = take_there topology before s u facts.first

    plain : is_batcher (spec_of topology u.producer) ≡ false
    plain = by_inbox (inbox topology before s) refl facts.first
      where
        by_inbox : (units : List (SubNo × ℕ)) → inbox topology before s ≡ units → first_sub units u ≡ true → is_batcher (spec_of topology u.producer) ≡ false
        by_inbox [] e f = cc
        by_inbox (d ∷ units) e f =
            let fits : EntryFits topology before s d = (first_kept (EntryFits topology before s) (in_inbox topology before) (λ x. 0) (sent_to topology before s) d units (entries_fit topology before s) e).1 in
            fed_by_messages topology u.producer s is_processor_role processor_writes (subst (λ x. feeds topology x.producer s ≡ true) (same_sub-true d.0 u f) fits.feeding) role

    stood : Each (λ n. in_inbox_by u (place topology before n) ≡ true) (units_on u (inbox topology before s))
    stood = units_stand topology before s u plain

    filled : Each (λ n. is_some (content (Take s u k ∷ before) n) ≡ true) (units_on u (inbox topology before s))
    filled = each_weaker (λ n. in_inbox_by u (place topology before n) ≡ true) (λ n. is_some (content (Take s u k ∷ before) n) ≡ true) (λ n p. content_kept before (Take s u k) n (placed_content topology before n (ap is_some (inbox_here u (place topology before n) p)))) (units_on u (inbox topology before s)) stood

    empty : chunk topology before s ≡ []
    empty = was_idle (ap (λ b. b && (out_from before (post s 0) == incarnation before s)) facts.free)

    agree : (d : SubNo × ℕ) → EntryFits topology before s d × (runs_in s (place topology before d.1) ≡ false) → runs_in s (place topology (Take s u k ∷ before) d.1) ≡ (same_sub d.0 u && (in_inbox topology before d && among (take k (units_on u (inbox topology before s))) d.1))
    agree d p =
        let fed : is_batcher (spec_of topology d.0.producer) ≡ false = fed_by_messages topology d.0.producer s is_processor_role processor_writes p.0.feeding role in
        taken_runs topology before s u (take k (units_on u (inbox topology before s))) d there
        (λ n. each_among (λ m. in_inbox_by u (place topology before m) ≡ true) (take k (units_on u (inbox topology before s))) n (each_take (λ m. in_inbox_by u (place topology before m) ≡ true) k (units_on u (inbox topology before s)) stood))
        (p.0.message fed) p.1
        ∙ ap (λ b. same_sub d.0 u && ((if b then leg_waits_in d.0 (batch topology before d.1) else in_inbox_by d.0 (place topology before d.1)) && among (take k (units_on u (inbox topology before s))) d.1)) (sym fed)

    is : chunk topology (Take s u k ∷ before) s ≡ filter (among (take k (units_on u (inbox topology before s)))) (units_on u (inbox topology before s))
    is =
        filters_agree (λ n. runs_in s (place topology (Take s u k ∷ before) n)) (among (take k (units_on u (inbox topology before s)))) (in_inbox topology before) (λ d. same_sub d.0 u) (sent_to topology before s)
        (each_weaker (λ d. EntryFits topology before s d × (runs_in s (place topology before d.1) ≡ false)) (λ d. runs_in s (place topology (Take s u k ∷ before) d.1) ≡ (same_sub d.0 u && (in_inbox topology before d && among (take k (units_on u (inbox topology before s))) d.1))) agree (sent_to topology before s)
        (each_both (EntryFits topology before s) (λ d. runs_in s (place topology before d.1) ≡ false) (sent_to topology before s) (entries_fit topology before s) (none_kept (λ n. runs_in s (place topology before n)) (sent_to topology before s) empty)))

-- An answer

chunk_done : (topology : Topology) (before : History) (s : StageNo) (replies : List Reply) → allows topology before (Done s replies) ≡ true → has_crash replies ≡ false → Chunk topology before s → Chunk topology (Done s replies ∷ before) s
chunk_done topology before s replies h safe old =
    record {
      idle = λ now. keeps_none (λ n. runs_in s (place topology (Done s replies ∷ before) n)) (sent_to topology before s) stopped;
      covered = λ now. clash (is_current (Done s replies ∷ before) s 0) now not_current;
      filled = λ now. clash (is_current (Done s replies ∷ before) s 0) now not_current;
    }
  where
    facts : DoneFacts topology before s replies
    facts = done_facts topology before s replies h

    not_current : is_current (Done s replies ∷ before) s 0 ≡ false
    not_current = rw (same_stage-self s) refl

    covers : Covers (taken_units topology before s) (chunk topology before s)
    covers = old.covered facts.current

    enough : length (taken_units topology before s) ≤ length replies
    enough =
        let one : length replies ≡ length (chunk_of topology before s) = handled_length (spec_of topology s) (count topology before s) (chunk_of topology before s) replies facts.handled safe in
        let other : length (chunk_of topology before s) ≡ length (taken_units topology before s) = messages_length before (taken_units topology before s) (old.filled facts.current) in
        omega arith

    replied : (n : ℕ) → among (chunk topology before s) n ≡ true → is_some (reply_to (chunk topology before s) replies n) ≡ true
    replied n here =
        let in_taken : among (taken_units topology before s) n ≡ true =
        each_among (λ m. among (taken_units topology before s) m ≡ true) (taken_units topology before s ++ covers.rest) n
        (each-append (λ m. among (taken_units topology before s) m ≡ true) (taken_units topology before s) covers.rest (all_among (taken_units topology before s)) covers.all)
        (ap (λ ys. among ys n) (sym covers.is) ∙ here) in
        ap (λ ys. is_some (reply_to ys replies n)) covers.is ∙ reply_some (taken_units topology before s) covers.rest replies n enough in_taken

    stops : (d : SubNo × ℕ) → (runs_in s (place topology before d.1) ≡ true → among (chunk topology before s) d.1 ≡ true) → runs_in s (place topology (Done s replies ∷ before) d.1) ≡ false
    stops d listed =
        false_from_ne_true (runs_in s (place topology (Done s replies ∷ before) d.1))
        (λ runs. let was : runs_in s (place topology before d.1) ≡ true = runs_only topology before (Done s replies) s _ _ (move_by topology before (Done s replies) d.1) refl runs in
        clash (runs_in s (place topology (Done s replies ∷ before) d.1)) runs (after d.1 was (replied d.1 (listed was))))
      where
        after : (n : ℕ) → runs_in s (place topology before n) ≡ true → is_some (reply_to (chunk topology before s) replies n) ≡ true → runs_in s (place topology (Done s replies ∷ before) n) ≡ false
        after n was has =
            rw (safe, runs_here s (place topology before n) was, same_stage-self s)
            (replied_stops (has_batchers_in (spec_of topology s)) s s (chunk topology before s) replies n safe has)

    stopped : Each (λ d. runs_in s (place topology (Done s replies ∷ before) d.1) ≡ false) (sent_to topology before s)
    stopped = each_weaker (λ d. runs_in s (place topology before d.1) ≡ true → among (chunk topology before s) d.1 ≡ true) (λ d. runs_in s (place topology (Done s replies ∷ before) d.1) ≡ false) stops (sent_to topology before s) (kept_among (λ n. runs_in s (place topology before n)) (sent_to topology before s))

-- A restart and a late answer

chunk_restarted : (topology : Topology) (before : History) (s : StageNo) → is_legal topology (Restart s ∷ before) ≡ true → Chunk topology (Restart s ∷ before) s
chunk_restarted topology before s h =
    record {
      idle = λ now. keeps_none (λ n. runs_in s (place topology before n)) (sent_to topology before s) (each_always (λ d. runs_in s (place topology before d.1) ≡ false) (λ d. none d.1) (sent_to topology before s));
      covered = λ now. clash (same_stage s s) (same_stage-self s) (was_current before (Restart s) s 0 refl now).unrestarted;
      filled = λ now. clash (same_stage s s) (same_stage-self s) (was_current before (Restart s) s 0 refl now).unrestarted;
    }
  where
    dead : is_live topology before s ≡ false
    dead = restart_dead topology before s (legal_step topology before (Restart s) h)

    none : (n : ℕ) → runs_in s (place topology before n) ≡ false
    none n =
        false_from_ne_true (runs_in s (place topology before n))
        (λ runs. clash (is_live topology before s) (ap (stands_live (is_live topology before)) (sym (runs_here s (place topology before n) runs)) ∙ held topology before n (legal_before topology before (Restart s) h)) dead)

chunk_late : (topology : Topology) (before : History) (s : StageNo) (slot i : ℕ) (answer : LateAnswer) → allows topology before (Late s slot i answer) ≡ true → (0 == slot) ≡ true → has_role topology s is_processor_role ≡ true → is_live topology (Late s slot i answer ∷ before) s ≡ true → is_live topology before s ≡ true → Chunk topology before s → Chunk topology (Late s slot i answer ∷ before) s
chunk_late topology before s slot i answer h first role after live old =
    record {
      idle = λ now. chunk_same topology before (Late s slot i answer) s role refl refl after ∙ old.idle not_before;
      covered = λ now. clash (is_current (Late s slot i answer ∷ before) s 0) now not_now;
      filled = λ now. clash (is_current (Late s slot i answer ∷ before) s 0) now not_now;
    }
  where
    facts : LateFacts topology before s slot i answer
    facts = late_facts topology before s slot i answer h

    not_now : is_current (Late s slot i answer ∷ before) s 0 ≡ false
    not_now = rw (same_stage-self s, first) refl

    gone : (incarnation before s == i) ≡ false
    gone = ap (λ b. b && (incarnation before s == i)) (sym live) ∙ facts.gone

    not_before : is_current before s 0 ≡ false
    not_before =
        false_from_ne_true (is_current before s 0)
        (λ now. let from : out_from before (post s 0) ≡ incarnation before s = eqb-true (out_from before (post s 0)) (incarnation before s) (and_right (is_out before (post s 0)) _ now) in
        let zero_slot : 0 ≡ slot = eqb-true 0 slot first in
        let is : incarnation before s ≡ i = sym from ∙ (ap (λ x. out_from before (post s x)) zero_slot ∙ facts.from) in
        clash (incarnation before s == i) (eq-eqb (incarnation before s) i is) gone)

chunk_step : (topology : Topology) (before : History) (step : Step) (s : StageNo) → is_legal topology (step ∷ before) ≡ true → has_role topology s is_processor_role ≡ true → is_live topology (step ∷ before) s ≡ true → owes_crash (step ∷ before) s ≡ false → (is_live topology before s ≡ true → Chunk topology before s) → Chunk topology (step ∷ before) s
chunk_step topology before (Take t u k) s h role live sound old = either (same_stage s t) refl
  where
    alive : is_live topology before s ≡ true
    alive = was_live topology before (Take t u k) s refl live

    either : (b : Bool) → same_stage s t ≡ b → Chunk topology (Take t u k ∷ before) s
    either false e = chunk_untouched topology before (Take t u k) s (legal_step topology before (Take t u k) h) role live e (old alive)
    either true e =
        let same : s ≡ t = same_stage-true s t e in
        subst (λ x. Chunk topology (Take x u k ∷ before) s) same
        (chunk_taken topology before s u k (subst (λ x. allows topology before (Take x u k) ≡ true) (sym same) (legal_step topology before (Take t u k) h)) role (old alive).idle)
chunk_step topology before (Done t replies) s h role live sound old = either (same_stage s t) refl
  where
    alive : is_live topology before s ≡ true
    alive = was_live topology before (Done t replies) s refl live

    either : (b : Bool) → same_stage s t ≡ b → Chunk topology (Done t replies ∷ before) s
    either false e = chunk_untouched topology before (Done t replies) s (legal_step topology before (Done t replies) h) role live e (old alive)
    either true e =
        let same : s ≡ t = same_stage-true s t e in
        let safe : has_crash replies ≡ false =
        false_from_ne_true (has_crash replies) (λ crash. clash (has_crash replies && same_stage t s) (both (has_crash replies) (same_stage t s) crash (same_stage-flip s t e)) sound) in
        subst (λ x. Chunk topology (Done x replies ∷ before) s) same
        (chunk_done topology before s replies (subst (λ x. allows topology before (Done x replies) ≡ true) (sym same) (legal_step topology before (Done t replies) h)) safe (old alive))
chunk_step topology before (Restart t) s h role live sound old = either (same_stage s t) refl
  where
    either : (b : Bool) → same_stage s t ≡ b → Chunk topology (Restart t ∷ before) s
    either false e = chunk_untouched topology before (Restart t) s (legal_step topology before (Restart t) h) role live e (old (was_live topology before (Restart t) s e live))
    either true e =
        let same : s ≡ t = same_stage-true s t e in
        subst (λ x. Chunk topology (Restart x ∷ before) s) same
        (chunk_restarted topology before s (subst (λ x. is_legal topology (Restart x ∷ before) ≡ true) (sym same) h))
chunk_step topology before (Late t slot i answer) s h role live sound old = either (same_stage s t && 0 == slot) refl
  where
    alive : is_live topology before s ≡ true
    alive = was_live topology before (Late t slot i answer) s refl live

    either : (b : Bool) → (same_stage s t && 0 == slot) ≡ b → Chunk topology (Late t slot i answer ∷ before) s
    either false e = chunk_untouched topology before (Late t slot i answer) s (legal_step topology before (Late t slot i answer) h) role live e (old alive)
    either true e =
        let same : s ≡ t = same_stage-true s t (and_left (same_stage s t) _ e) in
        subst (λ x. Chunk topology (Late x slot i answer ∷ before) s) same
        (chunk_late topology before s slot i answer (subst (λ x. allows topology before (Late x slot i answer) ≡ true) (sym same) (legal_step topology before (Late t slot i answer) h)) (and_right (same_stage s t) _ e) role
        (subst (λ x. is_live topology (Late x slot i answer ∷ before) s ≡ true) (sym same) live) alive (old alive))
chunk_step topology before step s h role live sound old =
    chunk_untouched topology before step s (legal_step topology before step h) role live refl (old (was_live topology before step s refl live))

-- what runs in a live processor that no crash has ended
pub chunk_facts : (topology : Topology) (before : History) (s : StageNo) → is_legal topology before ≡ true → has_role topology s is_processor_role ≡ true → is_live topology before s ≡ true → owes_crash before s ≡ false → Chunk topology before s
chunk_facts topology [] s h role live sound = record { idle = λ now. refl; covered = λ now. cc; filled = λ now. cc }
chunk_facts topology (step ∷ before) s h role live sound =
    chunk_step topology before step s h role live sound
    (λ alive. chunk_facts topology before s (legal_before topology before step h) role alive
    (false_from_ne_true (owes_crash before s) (λ owes. clash (is_live topology (step ∷ before) s) live (owed_dies topology before step s owes (legal_step topology before step h)))))
