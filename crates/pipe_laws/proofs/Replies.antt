-- Replies without a crash: one for each message.
use Rattle.std.proofs.Common.{◌≡◌, ℕ, suc, ◌≤◌, List, [], ◌∷◌, ◌++◌, map, length, Bool, true, false, refl, ap, ◌∙◌, subst, Some, None, Option, arith}
use Rattle.std.specs.Prelude.{if◌then◌else◌, ◌==◌, ◌||◌, is_some}
use Rattle.pipe_types.specs.declared.numbers.StageNo.{StageNo}
use Rattle.pipe_types.specs.declared.topology.StageSpec.{StageSpec}
use Rattle.pipe_types.specs.declared.topology.Kind.{Kind}
use Rattle.pipe_types.specs.declared.topology.Kind.TheVariants.{Steps, Lines, Own}
use Rattle.pipe_types.specs.declared.message.Message.{Message}
use Rattle.pipe_types.specs.declared.message.Reply.{Reply}
use Rattle.pipe_types.specs.declared.message.Reply.TheVariants.{Pass, Failed, Raised, Crashed}
use Rattle.pipe_types.specs.Handlers.{is_crashed, with_reason, replies_until, chunk_replies, counted, eval, are_own_replies, is_own_reply}
use Rattle.pipe_model.specs.History.{History}
use Rattle.pipe_model.specs.Content.{has_crash, content}
use Rattle.pipe_model.specs.Work.{same_reply, same_replies, are_handled, messages_of}
use Rattle.pipe_model.specs.Flow.{among, reply_to, answered, runs_in}
use Rattle.pipe_laws.proofs.Tests.{clash, and_left, and_right}
use Rattle.pipe_laws.proofs.Lists.{Each}

head_safe : (r : Reply) (replies : List Reply) → has_crash (r ∷ replies) ≡ false → is_crashed r ≡ false
head_safe Crashed replies h = cc
head_safe _ replies h = refl

tail_safe : (r : Reply) (replies : List Reply) → has_crash (r ∷ replies) ≡ false → has_crash replies ≡ false
tail_safe Crashed replies h = cc
tail_safe _ replies h = h

safe_cons : (r : Reply) (replies : List Reply) → is_crashed r ≡ false → has_crash replies ≡ false → has_crash (r ∷ replies) ≡ false
safe_cons Crashed replies h k = cc
safe_cons _ replies h k = k

same_safe : (r q : Reply) → same_reply r q ≡ true → is_crashed r ≡ false → is_crashed q ≡ false
same_safe r (Pass n) h k = refl
same_safe r (Failed why) h k = refl
same_safe r (Raised why) h k = refl
same_safe Crashed Crashed h k = k
same_safe (Pass m) Crashed h k = cc
same_safe (Failed why) Crashed h k = cc
same_safe (Raised why) Crashed h k = cc

-- the same replies are as many, and crash alike
same_length : (replies others : List Reply) → same_replies replies others ≡ true → has_crash replies ≡ false → (length replies ≡ length others) × (has_crash others ≡ false)
same_length [] [] h k = (refl, refl)
same_length [] (q ∷ others) h k = cc
same_length (r ∷ replies) [] h k = cc
same_length (r ∷ replies) (q ∷ others) h k =
    let t = same_length replies others (and_right (same_reply r q) _ h) (tail_safe r replies k) in
    (ap suc t.0, safe_cons q others (same_safe r q (and_left (same_reply r q) _ h) (head_safe r replies k)) t.1)

pub crash_stays : (failed : Option (List ℕ)) (r : Reply) → is_crashed (with_reason failed r) ≡ is_crashed r
crash_stays failed (Pass m) = refl
crash_stays failed _ = refl

chunk_length : (spec : StageSpec) (count : ℕ) (messages : List Message) → has_crash (chunk_replies spec count messages) ≡ false → length (chunk_replies spec count messages) ≡ length messages
chunk_length spec count [] h = refl
chunk_length spec count (m ∷ messages) h = either (is_crashed (eval spec count m)) refl h (chunk_length spec (counted count 1) messages)
  where
    either : (b : Bool) → is_crashed (eval spec count m) ≡ b → has_crash (map (with_reason spec.failed) (if b then eval spec count m ∷ [] else eval spec count m ∷ replies_until is_crashed spec (counted count 1) messages)) ≡ false → (has_crash (chunk_replies spec (counted count 1) messages) ≡ false → length (chunk_replies spec (counted count 1) messages) ≡ length messages) → length (map (with_reason spec.failed) (if b then eval spec count m ∷ [] else eval spec count m ∷ replies_until is_crashed spec (counted count 1) messages)) ≡ suc (length messages)
    either true e h rest =
        clash (is_crashed (with_reason spec.failed (eval spec count m))) (crash_stays spec.failed (eval spec count m) ∙ e) (head_safe _ _ h)
    either false e h rest = ap suc (rest (tail_safe (with_reason spec.failed (eval spec count m)) _ h))

own_length : (batchers : ℕ) (messages : List Message) (replies : List Reply) → are_own_replies batchers messages replies ≡ true → has_crash replies ≡ false → length replies ≡ length messages
own_length batchers [] [] h k = refl
own_length batchers [] (r ∷ replies) h k = cc
own_length batchers (m ∷ messages) [] h k = cc
own_length batchers (m ∷ messages) (r ∷ replies) h k =
    either (is_crashed r) (head_safe r replies k) (and_right (is_own_reply batchers m r) _ h) (λ own. own_length batchers messages replies own (tail_safe r replies k))
  where
    either : (b : Bool) → b ≡ false → (if b then length replies == 0 else are_own_replies batchers messages replies) ≡ true → (are_own_replies batchers messages replies ≡ true → length replies ≡ length messages) → suc (length replies) ≡ suc (length messages)
    either true e h rest = cc
    either false e h rest = ap suc (rest h)

-- a handler that does not crash answers each message
pub handled_length : (spec : Option StageSpec) (count : ℕ) (messages : List Message) (replies : List Reply) → are_handled spec count messages replies ≡ true → has_crash replies ≡ false → length replies ≡ length messages
handled_length None count messages replies h k = cc
handled_length (Some spec) count messages replies h k = by_kind spec.kind refl
  where
    built_in : same_replies replies (chunk_replies spec count messages) ≡ true → length replies ≡ length messages
    built_in s = let t = same_length replies (chunk_replies spec count messages) s k in t.0 ∙ chunk_length spec count messages t.1

    by_kind : (kind : Kind) → spec.kind ≡ kind → length replies ≡ length messages
    by_kind Own e = own_length spec.batchers messages replies (rw e at h) k
    by_kind Steps e = built_in (rw e at h)
    by_kind Lines e = built_in (rw e at h)

pub messages_length : (before : History) (numbers : List ℕ) → Each (λ n. is_some (content before n) ≡ true) numbers → length (messages_of before numbers) ≡ length numbers
messages_length before [] h = refl
messages_length before (n ∷ numbers) h = by_content (content before n) refl h.0 (messages_length before numbers h.1)
  where
    by_content : (o : Option Message) → content before n ≡ o → is_some o ≡ true → length (messages_of before numbers) ≡ length numbers → length (messages_of before (n ∷ numbers)) ≡ suc (length numbers)
    by_content None e h rest = cc
    by_content (Some m) e h rest = rw e (ap suc rest)

-- each message among the first ones of the chunk has a reply, where there are so many
pub reply_some : (taken rest : List ℕ) (replies : List Reply) (n : ℕ) → length taken ≤ length replies → among taken n ≡ true → is_some (reply_to (taken ++ rest) replies n) ≡ true
reply_some [] rest replies n le h = cc
reply_some (m ∷ taken) rest [] n le h = absurd (omega arith)
reply_some (m ∷ taken) rest (r ∷ replies) n le h = either (m == n) h (reply_some taken rest replies n (omega arith))
  where
    either : (b : Bool) → (b || among taken n) ≡ true → (among taken n ≡ true → is_some (reply_to (taken ++ rest) replies n) ≡ true) → is_some (if b then Some r else reply_to (taken ++ rest) replies n) ≡ true
    either true h rest = refl
    either false h rest = rest h

-- and it is no crash
reply_safe : (chunk : List ℕ) (replies : List Reply) (n : ℕ) (r : Reply) → has_crash replies ≡ false → reply_to chunk replies n ≡ Some r → is_crashed r ≡ false
reply_safe [] replies n r k e = cc
reply_safe (m ∷ chunk) [] n r k e = cc
reply_safe (m ∷ chunk) (q ∷ replies) n r k e = either (m == n) e (reply_safe chunk replies n r (tail_safe q replies k))
  where
    either : (b : Bool) → (if b then Some q else reply_to chunk replies n) ≡ Some r → (reply_to chunk replies n ≡ Some r → is_crashed r ≡ false) → is_crashed r ≡ false
    either true e rest = let same : q ≡ r = cc in subst (λ x. is_crashed x ≡ false) same (head_safe q replies k)
    either false e rest = rest e

answered_stops : (b : Bool) (s t : StageNo) (r : Reply) → is_crashed r ≡ false → runs_in t (Some (answered b s (Some r))) ≡ false
answered_stops true s t (Pass m) h = refl
answered_stops false s t (Pass m) h = refl
answered_stops true s t (Failed why) h = refl
answered_stops false s t (Failed why) h = refl
answered_stops true s t (Raised why) h = refl
answered_stops false s t (Raised why) h = refl
answered_stops b s t Crashed h = cc

-- a message with a reply runs no more
pub replied_stops : (b : Bool) (s t : StageNo) (chunk : List ℕ) (replies : List Reply) (n : ℕ) → has_crash replies ≡ false → is_some (reply_to chunk replies n) ≡ true → runs_in t (Some (answered b s (reply_to chunk replies n))) ≡ false
replied_stops b s t chunk replies n k h = by_reply (reply_to chunk replies n) refl h
  where
    by_reply : (o : Option Reply) → reply_to chunk replies n ≡ o → is_some o ≡ true → runs_in t (Some (answered b s o)) ≡ false
    by_reply None e h = cc
    by_reply (Some r) e h = answered_stops b s t r (reply_safe chunk replies n r k e)
