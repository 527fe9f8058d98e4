-- Replies of handlers: one to each message, up to the first crash.
use Rattle.std.proofs.Common.{◌≡◌, ℕ, ◌+◌, ◌<◌, ◌≤◌, List, [], ◌∷◌, map, drop, length, Bool, true, false, refl, ap, sym, ◌∙◌, Some, None, Option, arith, get_or}
use Rattle.std.specs.Prelude.{if◌then◌else◌, ◌==◌, ◌-◌, is_some}
use Rattle.std.proofs.lemmas.Bool.Decides.{nat_tests}
use Rattle.std.proofs.lemmas.List.{at_drop_more, drop_all, length-drop}
use Rattle.pipe_types.specs.declared.numbers.StageNo.{StageNo}
use Rattle.pipe_types.specs.declared.topology.Topology.{Topology}
use Rattle.pipe_types.specs.declared.topology.StageSpec.{StageSpec}
use Rattle.pipe_types.specs.declared.topology.Kind.{Kind}
use Rattle.pipe_types.specs.declared.topology.Kind.TheVariants.{Steps, Lines, Own}
use Rattle.pipe_types.specs.declared.message.Message.{Message}
use Rattle.pipe_types.specs.declared.message.Reply.{Reply}
use Rattle.pipe_types.specs.declared.message.Reply.TheVariants.{Pass, Failed, Raised, Crashed}
use Rattle.pipe_types.specs.declared.step.Step.TheVariants.{Done}
use Rattle.pipe_types.specs.Sound.{IsSound}
use Rattle.pipe_types.specs.Stages.{spec_of}
use Rattle.pipe_types.specs.Handlers.{is_crashed, with_reason, replies_until, chunk_replies, counted, eval, are_own_replies, is_own_reply}
use Rattle.pipe_model.specs.History.{History}
use Rattle.pipe_model.specs.Content.{content}
use Rattle.pipe_model.specs.Lives.{is_live}
use Rattle.pipe_model.specs.Flow.{place, sent_to, runs_in, chunk_by, view_of}
use Rattle.pipe_model.specs.Work.{same_reply, same_replies, are_handled, messages_of, taken_units, chunk_of, count}
use Rattle.pipe_model.specs.Legal.{is_legal, owed, may_come, has_role, is_processor_role, is_current}
use Rattle.pipe_laws.proofs.Tests.{and_left, and_right}
use Rattle.pipe_laws.proofs.Lists.{Each, each_filter, each_weaker, each_always}
use Rattle.pipe_laws.proofs.Accepted.{placed_content}
use Rattle.pipe_laws.proofs.Kept.{runs_here}
use Rattle.pipe_laws.proofs.Replies.{messages_length, crash_stays}
use Rattle.queue_laws.proofs.Laws.{chunk_law}
use Rattle.core_allows.specs.Tested.{answers_each, may_be_done}
use Rattle.core_allows.proofs.Held.{weaker_last}

-- Going over the replies

pub each_past : (chunk : List ℕ) (replies : List Reply) (k : ℕ) (r : Reply) → k < length replies → length chunk ≤ k → answers_each (drop k chunk) (drop k replies) ≡ false
each_past chunk replies k r below past =
    ap (λ xs. answers_each xs (drop k replies)) (drop_all k chunk past) ∙ at_drop_more (λ ys. answers_each [] ys) replies k r below

pub each_here : (chunk : List ℕ) (replies : List Reply) (k n : ℕ) (r : Reply) (b : Bool) → k < length chunk → k < length replies → is_crashed (get_or replies k r) ≡ b
    → answers_each (drop k chunk) (drop k replies) ≡ (if b then length (drop (k + 1) replies) == 0 else answers_each (drop (k + 1) chunk) (drop (k + 1) replies))
each_here chunk replies k n r b few below crash =
    at_drop_more (λ xs. answers_each xs (drop k replies)) chunk k n few
    ∙ (at_drop_more (λ ys. answers_each (get_or chunk k n ∷ drop (k + 1) chunk) ys) replies k r below
    ∙ ap (λ c. if c then length (drop (k + 1) replies) == 0 else answers_each (drop (k + 1) chunk) (drop (k + 1) replies)) crash)

none_left : (messages : List ℕ) → answers_each messages [] ≡ (length messages == 0)
none_left [] = refl
none_left (n ∷ messages) = grind (arith, nat_tests)

pub each_end : (chunk : List ℕ) (replies : List Reply) (k : ℕ) → k ≡ length replies → k ≤ length chunk → (length chunk == length replies) ≡ answers_each (drop k chunk) (drop k replies)
each_end chunk replies k e few =
    sym (ap (answers_each (drop k chunk)) (drop_all k replies (omega (arith, e))) ∙ (none_left (drop k chunk) ∙ (ap (λ n. n == 0) (length-drop k chunk) ∙ same)))
  where
    same : (length chunk - k == 0) ≡ (length chunk == length replies)
    same = grind (arith, nat_tests)

pub last_is : (replies : List Reply) (k : ℕ) → k < length replies → (k + 1 == length replies) ≡ (length (drop (k + 1) replies) == 0)
last_is replies k below = same ∙ sym (ap (λ n. n == 0) (length-drop (k + 1) replies))
  where
    same : (k + 1 == length replies) ≡ (length replies - (k + 1) == 0)
    same = grind (arith, nat_tests)

-- What handlers reply

same_crash : (r q : Reply) → same_reply r q ≡ true → is_crashed r ≡ is_crashed q
same_crash (Pass m) (Pass n) h = refl
same_crash (Failed why) (Failed other) h = refl
same_crash (Raised why) (Raised other) h = refl
same_crash Crashed Crashed h = refl
same_crash (Pass m) (Failed other) h = cc
same_crash (Pass m) (Raised other) h = cc
same_crash (Pass m) Crashed h = cc
same_crash (Failed why) (Pass n) h = cc
same_crash (Failed why) (Raised other) h = cc
same_crash (Failed why) Crashed h = cc
same_crash (Raised why) (Pass n) h = cc
same_crash (Raised why) (Failed other) h = cc
same_crash (Raised why) Crashed h = cc
same_crash Crashed (Pass n) h = cc
same_crash Crashed (Failed other) h = cc
same_crash Crashed (Raised other) h = cc

-- of an own handler
own_each : (batchers : ℕ) (messages : List Message) (numbers : List ℕ) (replies : List Reply) → length messages ≡ length numbers → are_own_replies batchers messages replies ≡ true → answers_each numbers replies ≡ true
own_each batchers [] [] [] e h = refl
own_each batchers [] [] (r ∷ replies) e h = cc
own_each batchers [] (n ∷ numbers) replies e h = absurd (omega (arith, e))
own_each batchers (m ∷ messages) [] replies e h = absurd (omega (arith, e))
own_each batchers (m ∷ messages) (n ∷ numbers) [] e h = cc
own_each batchers (m ∷ messages) (n ∷ numbers) (r ∷ replies) e h =
    by (is_crashed r) (and_right (is_own_reply batchers m r) _ h) (own_each batchers messages numbers replies (omega (arith, e)))
  where
    by : (b : Bool) → (if b then length replies == 0 else are_own_replies batchers messages replies) ≡ true → (are_own_replies batchers messages replies ≡ true → answers_each numbers replies ≡ true)
        → (if b then length replies == 0 else answers_each numbers replies) ≡ true
    by true h rest = h
    by false h rest = rest h

-- of a built-in handler
chunk_each : (spec : StageSpec) (seen : ℕ) (messages : List Message) (numbers : List ℕ) (replies : List Reply) → length messages ≡ length numbers → same_replies replies (chunk_replies spec seen messages) ≡ true → answers_each numbers replies ≡ true
chunk_each spec seen [] [] [] e h = refl
chunk_each spec seen [] [] (r ∷ replies) e h = cc
chunk_each spec seen [] (n ∷ numbers) replies e h = absurd (omega (arith, e))
chunk_each spec seen (m ∷ messages) [] replies e h = absurd (omega (arith, e))
chunk_each spec seen (m ∷ messages) (n ∷ numbers) replies e h =
    by (is_crashed (eval spec seen m)) refl replies h (λ others. chunk_each spec (counted seen 1) messages numbers others (omega (arith, e)))
  where
    none : (others : List Reply) → same_replies others [] ≡ true → (length others == 0) ≡ true
    none [] h = refl
    none (r ∷ others) h = cc

    by : (b : Bool) → is_crashed (eval spec seen m) ≡ b → (replies : List Reply)
        → same_replies replies (map (with_reason spec.failed) (if b then eval spec seen m ∷ [] else eval spec seen m ∷ replies_until is_crashed spec (counted seen 1) messages)) ≡ true
        → ((others : List Reply) → same_replies others (chunk_replies spec (counted seen 1) messages) ≡ true → answers_each numbers others ≡ true)
        → answers_each (n ∷ numbers) replies ≡ true
    by true is [] h rest = cc
    by false is [] h rest = cc
    by true is (r ∷ others) h rest =
        let crash : is_crashed r ≡ true = same_crash r (with_reason spec.failed (eval spec seen m)) (and_left (same_reply r (with_reason spec.failed (eval spec seen m))) _ h) ∙ (crash_stays spec.failed (eval spec seen m) ∙ is) in
        ap (λ c. if c then length others == 0 else answers_each numbers others) crash ∙ none others (and_right (same_reply r (with_reason spec.failed (eval spec seen m))) _ h)
    by false is (r ∷ others) h rest =
        let crash : is_crashed r ≡ false = same_crash r (with_reason spec.failed (eval spec seen m)) (and_left (same_reply r (with_reason spec.failed (eval spec seen m))) _ h) ∙ (crash_stays spec.failed (eval spec seen m) ∙ is) in
        ap (λ c. if c then length others == 0 else answers_each numbers others) crash ∙ rest others (and_right (same_reply r (with_reason spec.failed (eval spec seen m))) _ h)

handled_each : (spec : Option StageSpec) (seen : ℕ) (messages : List Message) (numbers : List ℕ) (replies : List Reply) → length messages ≡ length numbers → are_handled spec seen messages replies ≡ true → answers_each numbers replies ≡ true
handled_each None seen messages numbers replies e h = cc
handled_each (Some spec) seen messages numbers replies e h = by_kind spec.kind refl
  where
    by_kind : (kind : Kind) → spec.kind ≡ kind → answers_each numbers replies ≡ true
    by_kind Own is = own_each spec.batchers messages numbers replies e (rw is at h)
    by_kind Steps is = chunk_each spec seen messages numbers replies e (rw is at h)
    by_kind Lines is = chunk_each spec seen messages numbers replies e (rw is at h)

-- each message that runs in the stage has its content
runs_filled : (topology : Topology) (before : History) (s : StageNo) → Each (λ n. is_some (content before n) ≡ true) (chunk_by (view_of topology before) s)
runs_filled topology before s =
    each_weaker (λ n. Unit {0} × (runs_in s (place topology before n) ≡ true)) (λ n. is_some (content before n) ≡ true)
    (λ n h. placed_content topology before n (ap is_some (runs_here s (place topology before n) h.1)))
    (chunk_by (view_of topology before) s)
    (each_filter (λ n. Unit {0}) (λ n. runs_in s (place topology before n)) (map (λ d. d.1) (sent_to topology before s)) (each_always (λ n. Unit {0}) (λ n. tt) (map (λ d. d.1) (sent_to topology before s))))

-- what the model has of an answer holds of its form
pub done_model : (topology : Topology) (before : History) (s : StageNo) (replies : List Reply) → IsSound topology → is_legal topology before ≡ true → owed topology before ≡ None
    → may_come topology before (Done s replies) ≡ true → may_be_done topology before s replies ≡ true
done_model topology before s replies sound legal free h =
    weaker_last (is_live topology before s) (has_role topology s is_processor_role) (is_current before s 0)
    (are_handled (spec_of topology s) (count topology before s) (chunk_of topology before s) replies) (answers_each (chunk_by (view_of topology before) s) replies) answered h
  where
    live : is_live topology before s ≡ true
    live = and_left (is_live topology before s) _ h

    role : has_role topology s is_processor_role ≡ true
    role = and_left (has_role topology s is_processor_role) _ (and_right (is_live topology before s) _ h)

    current : is_current before s 0 ≡ true
    current = and_left (is_current before s 0) _ (and_right (has_role topology s is_processor_role) _ (and_right (is_live topology before s) _ h))

    taken : chunk_by (view_of topology before) s ≡ taken_units topology before s
    taken = chunk_law topology before s sound legal free role live ∙ ap (λ b. if b then taken_units topology before s else []) current

    answered : are_handled (spec_of topology s) (count topology before s) (chunk_of topology before s) replies ≡ true → answers_each (chunk_by (view_of topology before) s) replies ≡ true
    answered handled =
        handled_each (spec_of topology s) (count topology before s) (messages_of before (chunk_by (view_of topology before) s)) (chunk_by (view_of topology before) s) replies
        (messages_length before (chunk_by (view_of topology before) s) (runs_filled topology before s))
        (ap (λ ns. are_handled (spec_of topology s) (count topology before s) (messages_of before ns) replies) taken ∙ handled)
