-- The end of a batch by its callback.
use Rattle.std.proofs.Common.{◌≡◌, ◌≢◌, ℕ, Bool, true, false, ◌==◌, List, [], ◌∷◌, ◌++◌, map, length, refl, sym, ap, ◌∙◌, append_assoc, append-nil, arith, cond, Option, Some}
use Rattle.std.specs.List.{list_all, list_any}
use Rattle.std.proofs.lemmas.List.{length-map}
use Rattle.std.proofs.lemmas.Bool.{and_parts, and_from, eqb-true, eq-eqb}
use Rattle.pipe_types.specs.Handlers.{answer_of, replies_until, ends_batch, eval, counted, is_crashed, end_by, text_by, outcome_with, is_own_outcome, is_own_reason, reason_of, is_successful, lines_where, is_own_end}
use Rattle.pipe_types.specs.declared.message.Message.{Message}
use Rattle.pipe_types.specs.declared.message.Reply.{Reply}
use Rattle.pipe_types.specs.declared.message.Reply.TheVariants as reply
use Rattle.pipe_types.specs.declared.message.Outcome.{Outcome}
use Rattle.pipe_types.specs.declared.message.Outcome.TheVariants.{Successful, Failed}
use Rattle.pipe_types.specs.declared.message.BatchEnd.TheVariants.{Outcomes, Crashed}
use Rattle.pipe_types.specs.declared.message.BatchReply.{BatchReply}
use Rattle.pipe_types.specs.declared.message.BatchReply.TheVariants as batch
use Rattle.pipe_types.specs.declared.topology.Kind.{Kind}
use Rattle.pipe_types.specs.declared.topology.StageSpec.{StageSpec}
use Rattle.pipe_model.specs.Work.{own_text, is_failed_by_sink}
use Rattle.stage_callback.specs.Callbacks.{is_batch_answer}
use Rattle.stage_callback.specs.declared.answers.Said.{Said}
use Rattle.stage_callback.specs.declared.answers.Said.TheVariants as said
use Rattle.stage_job.specs.Chunks.{never_crashes}
use Rattle.stage_job.proofs.CalmRules.{rules_calm}
use Rattle.stage_job.proofs.CallCounts.{rose_after}
use Rattle.stage_bodies.specs.Seen.{BoxSeen}
use Rattle.stage_job.specs.Told.{before}
use Rattle.stage_job.proofs.ToldSteps.{before_none}
use Rattle.stage_bodies.specs.Told.{end_with, outcomes_by, raised_with}
use Rattle.stage_bodies.specs.Jobs.{is_bad_end}
use Rattle.body_jobs.specs.Batches.{Asks, Settles, Handles}
use Rattle.body_jobs.proofs.Children.{kept_on}

-- Rules without a crash

calm_answer : (kind : Kind) (earlier : List Reply) (spec : StageSpec) (count : ℕ) (messages : List Message) → never_crashes spec.rules ≡ true
    → answer_of kind earlier (replies_until ends_batch spec count messages) ≢ batch.Crashed
calm_answer kind earlier spec count [] calm = λ is. cc
calm_answer kind earlier spec count (m ∷ messages) calm =
    by (eval spec count m) (rules_calm (counted count 1) spec.rules m calm) (λ q. calm_answer kind (earlier ++ q ∷ []) spec (counted count 1) messages calm)
  where
    by : (r : Reply) → is_crashed r ≡ false → ((q : Reply) → answer_of kind (earlier ++ q ∷ []) (replies_until ends_batch spec (counted count 1) messages) ≢ batch.Crashed)
        → answer_of kind earlier (cond (ends_batch r) (r ∷ []) (r ∷ replies_until ends_batch spec (counted count 1) messages)) ≢ batch.Crashed
    by reply.Crashed none rest = λ is. cc
    by (reply.Raised why) none rest = λ is. cc
    by (reply.Pass x) none rest = rest (reply.Pass x)
    by (reply.Failed why) none rest = rest (reply.Failed why)

-- Outcomes of a user's own kind

not_successes : (os : List Outcome) → is_bad_end (Outcomes os) ≡ true → list_all is_successful os ≡ false
not_successes [] bad = cc
not_successes (Successful ∷ os) bad = not_successes os bad
not_successes (Failed why ∷ os) bad = refl

same_all : (os ps : List Outcome) → map is_successful os ≡ map is_successful ps → list_all is_successful os ≡ list_all is_successful ps
same_all [] [] same = refl
same_all [] (p ∷ ps) same = cc
same_all (o ∷ os) [] same = cc
same_all (o ∷ os) (p ∷ ps) same =
    let head : is_successful o ≡ is_successful p = cc in
    let tail : map is_successful os ≡ map is_successful ps = cc in
    rw (head, same_all os ps tail) refl

same_lines : (messages : List Message) (os ps : List Outcome) → map is_successful os ≡ map is_successful ps → lines_where is_successful messages os ≡ lines_where is_successful messages ps
same_lines [] os ps same = refl
same_lines (m ∷ messages) [] [] same = refl
same_lines (m ∷ messages) [] (p ∷ ps) same = cc
same_lines (m ∷ messages) (o ∷ os) [] same = cc
same_lines (m ∷ messages) (o ∷ os) (p ∷ ps) same =
    let head : is_successful o ≡ is_successful p = cc in
    let tail : map is_successful os ≡ map is_successful ps = cc in
    rw (head, same_lines messages os ps tail) refl

same_length : (os ps : List Outcome) → map is_successful os ≡ map is_successful ps → length os ≡ length ps
same_length os ps same = sym (length-map os is_successful) ∙ (ap length same ∙ length-map ps is_successful)

-- without a success no line is that of a success
no_success : (messages : List Message) (os : List Outcome) → list_any is_successful os ≡ false → lines_where is_successful messages os ≡ []
no_success [] os none = refl
no_success (m ∷ messages) [] none = refl
no_success (m ∷ messages) (Successful ∷ os) none = cc
no_success (m ∷ messages) (Failed why ∷ os) none = no_success messages os none

not_by_sink : (o : Outcome) → is_own_outcome o ≡ true → is_failed_by_sink o ≡ false
not_by_sink Successful own = refl
not_by_sink (Failed why) own = grind arith

-- an own reason is not the sink's
no_sink : (messages : List Message) (os : List Outcome) → list_all is_own_outcome os ≡ true → lines_where is_failed_by_sink messages os ≡ []
no_sink [] os own = refl
no_sink (m ∷ messages) [] own = refl
no_sink (m ∷ messages) (o ∷ os) own =
    let parts = and_parts (is_own_outcome o) (list_all is_own_outcome os) own in
    rw (not_by_sink o parts.0) (no_sink messages os parts.1)

-- the text of the successes is that of the end
pub text_of_successes : (messages : List Message) (os : List Outcome) → list_all is_own_outcome os ≡ true → lines_where is_successful messages os ≡ own_text messages (Outcomes os)
text_of_successes messages os own = by (list_any is_successful os) refl
  where
    by : (some : Bool) → list_any is_successful os ≡ some → lines_where is_successful messages os ≡ cond some (lines_where is_successful messages os) (lines_where is_failed_by_sink messages os)
    by true is = refl
    by false is = no_success messages os is ∙ sym (no_sink messages os own)

-- The three answers

all_own : (messages : List Message) (os : List Outcome) (text : List ℕ) → is_batch_answer messages (batch.Answered os text) ≡ true → (length os ≡ length messages) × (list_all is_own_outcome os ≡ true)
all_own messages os text shape =
    let parts = and_parts (length os == length messages) (list_all is_own_outcome os) shape in
    (eqb-true (length os) (length messages) parts.0, parts.1)

own_end : (messages : List Message) (os : List Outcome) → length os ≡ length messages → list_all is_own_outcome os ≡ true → is_own_end messages (Outcomes os) ≡ true
own_end messages os same own = and_from (length os == length messages) (list_all is_own_outcome os) (eq-eqb (length os) (length messages) same) own

told_answered : (first middle now : List Said) (said' : Said) → middle ≡ first ++ said' ∷ [] → (answers : List Said) → now ≡ middle ++ answers → now ≡ first ++ (said' ∷ answers)
told_answered first middle now said' one answers more = more ∙ (ap (λ t. t ++ answers) one ∙ append_assoc first (said' ∷ []) answers)

-- outcomes and a text
pub handles_answered : {messages : List Message} {old middle new : BoxSeen} (reply : BatchReply) (os settled : List Outcome) (text : List ℕ) → reply ≡ batch.Answered os text
    → Asks messages reply old middle → Settles os settled middle new → Handles messages (Outcomes settled) text old new
handles_answered {messages = messages} {old = old} {middle = middle} {new = new} reply os settled text is asked settles =
    let a : Asks messages (batch.Answered os text) old middle = rw is at asked in
    let shape = all_own messages os text a.shape in
    record {
      kept = kept_on a.kept settles.kept;
      no_text = λ crash. cc;
      built_in = λ not_own.
          let x = a.built_in not_own in
          let y = settles.built_in (rw a.kept.kind not_own) in
          let z : settled ≡ map (outcome_with old.spec.failed) os = y.0 ∙ ap (λ (s : StageSpec). map (outcome_with s.failed) os) a.kept.spec in
          (ap Outcomes z ∙ ap (end_by old.spec.failed messages) x.0, ap text_by x.0, y.1 ∙ x.1);
      own = λ own.
          let own_os = settles.own (a.kept.kind ∙ own) shape.1 in
          let text_is : text ≡ lines_where is_successful messages os = a.own_text own in
          (own_end messages settled (same_length settled os settles.same ∙ shape.0) own_os, text_is ∙ (same_lines messages os settled (sym settles.same) ∙ text_of_successes messages settled own_os));
      calm = λ not_own calm crash. cc;
      calls = λ own. rose_after old.calls middle.calls new.calls a.kept.calls settles.kept.calls (a.calls own);
      bad = λ own bad.
          rose_after old.bad middle.bad new.bad a.kept.bad settles.kept.bad (a.bad own (sym (same_all settled os settles.same) ∙ not_successes settled bad));
      by_answers = λ told.
          let more = settles.by_answers (rw a.kept.told told) in
          (said.Batch (batch.Answered os text) ∷ more.0, told_answered _ _ _ _ (a.answered told) more.0 more.1, by_all more.0 more.2, refl);
    }
  where
    by_all : (answers : List Said) → ((others : List Outcome) (later : List Said) → outcomes_by (os ++ others) (answers ++ later) ≡ before settled (outcomes_by others later)) → end_with (outcomes_by os answers) ≡ Some (Outcomes settled)
    by_all answers made =
        ap end_with (ap (λ x. outcomes_by x answers) (sym (append-nil os)) ∙ (ap (outcomes_by (os ++ [])) (sym (append-nil answers)) ∙ (made [] [] ∙ before_none settled)))

-- one reason for every message
pub handles_raised : {messages : List Message} {old middle new : BoxSeen} (reply : BatchReply) (why : List ℕ) (os settled : List Outcome) (text : List ℕ) → reply ≡ batch.Raised why → os ≡ raised_with why messages → text ≡ []
    → Asks messages reply old middle → Settles os settled middle new → Handles messages (Outcomes settled) text old new
handles_raised {messages = messages} {old = old} {middle = middle} {new = new} reply why os settled text is all no_text asked given =
    let a : Asks messages (batch.Raised why) old middle = rw is at asked in
    let settles : Settles (raised_with why messages) settled middle new = rw all at given in
    record {
      kept = kept_on a.kept settles.kept;
      no_text = λ crash. no_text;
      built_in = λ not_own.
          let x = a.built_in not_own in
          let y = settles.built_in (rw a.kept.kind not_own) in
          let z : settled ≡ map (outcome_with old.spec.failed) (raised_with why messages) = y.0 ∙ ap (λ (s : StageSpec). map (outcome_with s.failed) (raised_with why messages)) a.kept.spec in
          (ap Outcomes (z ∙ raised_map old.spec.failed messages) ∙ ap (end_by old.spec.failed messages) x.0, no_text ∙ ap text_by x.0, y.1 ∙ x.1);
      own = λ own.
          let own_os = settles.own (a.kept.kind ∙ own) (raised_own messages a.shape) in (
            own_end messages settled (same_length settled _ settles.same ∙ length-map messages (λ (m : Message). Failed why)) own_os,
            no_text ∙ (sym (no_success messages settled (none_raised messages settled settles.same)) ∙ text_of_successes messages settled own_os),
          );
      calm = λ not_own calm crash. cc;
      calls = λ own. rose_after old.calls middle.calls new.calls a.kept.calls settles.kept.calls (a.calls own);
      bad = λ own bad. rose_after old.bad middle.bad new.bad a.kept.bad settles.kept.bad (a.bad own refl);
      by_answers = λ told.
          let more = settles.by_answers (rw a.kept.told told) in
          (said.Batch (batch.Raised why) ∷ more.0, told_answered _ _ _ _ (a.answered told) more.0 more.1, by_all more.0 more.2, no_text);
    }
  where
    raised_map : (failed : Option (List ℕ)) (ms : List Message) → map (outcome_with failed) (raised_with why ms) ≡ map (λ m. Failed (reason_of failed why)) ms
    raised_map failed [] = refl
    raised_map failed (m ∷ ms) = ap (λ x. Failed (reason_of failed why) ∷ x) (raised_map failed ms)

    raised_own : (ms : List Message) → is_own_reason why ≡ true → list_all is_own_outcome (raised_with why ms) ≡ true
    raised_own [] own = refl
    raised_own (m ∷ ms) own = and_from (is_own_reason why) (list_all is_own_outcome (raised_with why ms)) own (raised_own ms own)

    none_raised : (ms : List Message) (os : List Outcome) → map is_successful os ≡ map is_successful (raised_with why ms) → list_any is_successful os ≡ false
    none_raised [] [] same = refl
    none_raised [] (o ∷ os) same = cc
    none_raised (m ∷ ms) [] same = refl
    none_raised (m ∷ ms) (o ∷ os) same =
        let head : is_successful o ≡ false = cc in
        let tail : map is_successful os ≡ map is_successful (raised_with why ms) = cc in
        rw head (none_raised ms os tail)

    by_all : (answers : List Said) → ((others : List Outcome) (later : List Said) → outcomes_by (raised_with why messages ++ others) (answers ++ later) ≡ before settled (outcomes_by others later)) → end_with (outcomes_by (raised_with why messages) answers) ≡ Some (Outcomes settled)
    by_all answers made =
        ap end_with (ap (λ x. outcomes_by x answers) (sym (append-nil (raised_with why messages))) ∙ (ap (outcomes_by (raised_with why messages ++ [])) (sym (append-nil answers)) ∙ (made [] [] ∙ before_none settled)))

-- a crash
pub handles_crashed : {messages : List Message} {old new : BoxSeen} (reply : BatchReply) (text : List ℕ) → reply ≡ batch.Crashed → text ≡ [] → Asks messages reply old new → Handles messages Crashed text old new
handles_crashed {messages = messages} {old = old} {new = new} reply text is no_text asked =
    let a : Asks messages batch.Crashed old new = rw is at asked in
    record {
      kept = a.kept;
      no_text = λ crash. no_text;
      built_in = λ not_own. let x = a.built_in not_own in (ap (end_by old.spec.failed messages) x.0, no_text ∙ ap text_by x.0, x.1);
      own = λ own. (refl, no_text);
      calm = λ not_own calm crash. calm_answer old.kind [] old.spec old.count messages calm (sym (a.built_in not_own).0);
      calls = a.calls;
      bad = λ own bad. a.bad own refl;
      by_answers = λ told. (said.Batch batch.Crashed ∷ [], a.answered told, refl, no_text);
    }
