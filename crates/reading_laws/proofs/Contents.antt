-- No message has a key or a payload that is too long.
use Rattle.std.proofs.Common.{◌≡◌, ℕ, zero, suc, ◌+◌, ◌-◌, ◌≤◌, Bool, true, false, List, [], ◌∷◌, length, refl, Option, Some, None, arith}
use Rattle.std.specs.Prelude.{if◌then◌else◌, nat_lt, nat_le, ◌==◌, slice_get}
use Rattle.std.specs.List.{list_all}
use Rattle.std.proofs.lemmas.Bool.{leb-true}
use Rattle.pipe_types.specs.declared.numbers.StageNo.{StageNo}
use Rattle.pipe_types.specs.declared.message.Message.{Message}
use Rattle.pipe_types.specs.declared.message.Reply.{Reply}
use Rattle.pipe_types.specs.declared.message.Reply.TheVariants.{Pass, Failed, Raised, Crashed}
use Rattle.pipe_types.specs.declared.step.LateAnswer.TheVariants.{Records}
use Rattle.pipe_types.specs.declared.step.Step.TheVariants.{Accept, Done, Late}
use Rattle.pipe_types.specs.declared.topology.Topology.{Topology}
use Rattle.pipe_types.specs.Lines.{max_bytes}
use Rattle.pipe_types.specs.Stages.{spec_of}
use Rattle.pipe_model.specs.History.{History, accepted}
use Rattle.pipe_model.specs.Content.{content, newer, fresh, record_as, passed_as, has_crash}
use Rattle.pipe_model.specs.Posts.{in_slot}
use Rattle.pipe_model.specs.Work.{messages_of, chunk_of, child_of, count}
use Rattle.pipe_model.specs.Legal.{is_legal, allows, are_records, fetch_out, has_role, is_producer_role, is_current}
use Rattle.pipe_model.specs.Lives.{is_live}
use Rattle.pipe_laws.proofs.Tests.{and_left, and_right}
use Rattle.pipe_laws.proofs.Allowed.{legal_before, legal_step, unowed, done_facts, late_facts}
use Rattle.reading_laws.proofs.Passing.{IsShortMessage, AreShort, PassAsThere, replies_pass}

abbrev pub IsShortIn : Option Message → Type 0
IsShortIn None = Unit {0}
IsShortIn (Some m) = IsShortMessage m

-- ---- records

pub accept_records : (topology : Topology) (before : History) (s : StageNo) (records : List (List ℕ)) → allows topology before (Accept s records) ≡ true → are_records records (fetch_out before s) ≡ true
accept_records topology before s records h =
    and_right (is_current before s 0) _ (and_right (has_role topology s is_producer_role) _ (and_right (is_live topology before s) _ (unowed topology before (Accept s records) (λ t. refl) (λ t. refl) h)))

pub late_records : (topology : Topology) (before : History) (s : StageNo) (slot i : ℕ) (records : List (List ℕ)) → allows topology before (Late s slot i (Records records)) ≡ true → are_records records (fetch_out before s) ≡ true
late_records topology before s slot i records h = and_right (has_role topology s is_producer_role) _ (late_facts topology before s slot i (Records records) h).fits

pub some_records : (records : List (List ℕ)) (most : ℕ) → are_records records most ≡ true → 1 ≤ length records
some_records records most h = leb-true 1 (length records) (and_left (nat_le 1 (length records)) _ h)

short_records : (records : List (List ℕ)) (most : ℕ) → are_records records most ≡ true → list_all (λ r. nat_le (length r) max_bytes) records ≡ true
short_records records most h = and_right (nat_le (length records) most) _ (and_right (nat_le 1 (length records)) _ h)

record_short : (s : StageNo) (n i : ℕ) (records : List (List ℕ)) → list_all (λ r. nat_le (length r) max_bytes) records ≡ true → IsShortIn (record_as s n (slice_get records i))
record_short s n i [] h = tt
record_short s n zero (r ∷ records) h =
    record { payload = leb-true (length r) max_bytes (and_left (nat_le (length r) max_bytes) _ h); key = omega arith }
record_short s n (suc i) (r ∷ records) h = record_short s n i records (and_right (nat_le (length r) max_bytes) _ h)

fresh_short : (s : StageNo) (c : ℕ) (records : List (List ℕ)) (n : ℕ) → list_all (λ r. nat_le (length r) max_bytes) records ≡ true → IsShortIn (fresh s c records n)
fresh_short s c records n h = either (nat_lt c n)
  where
    either : (b : Bool) → IsShortIn (if b then record_as s n (slice_get records (n - (c + 1))) else None)
    either true = record_short s n (n - (c + 1)) records h
    either false = tt

-- ---- replies

reply_short : (messages : List Message) (replies : List Reply) (n : ℕ) → PassAsThere messages replies → IsShortIn (passed_as replies n)
reply_short messages [] n there = tt
reply_short [] (reply ∷ replies) n there = absurd there
reply_short (m ∷ messages) (Pass p ∷ replies) n there = either (p.no.0 == n) (reply_short messages replies n there.1)
  where
    either : (b : Bool) → IsShortIn (passed_as replies n) → IsShortIn (if b then Some p else passed_as replies n)
    either true rest = there.0.short
    either false rest = rest
reply_short (m ∷ messages) (Failed why ∷ replies) n there = reply_short messages replies n there.1
reply_short (m ∷ messages) (Raised why ∷ replies) n there = reply_short messages replies n there.1
reply_short (m ∷ messages) (Crashed ∷ replies) n there = reply_short messages replies n there.1

-- ---- contents

messages_short : (before : History) (numbers : List ℕ) → ((n : ℕ) → IsShortIn (content before n)) → AreShort (messages_of before numbers)
messages_short before [] f = tt
messages_short before (n ∷ numbers) f = by_content (content before n) refl (f n) (messages_short before numbers f)
  where
    by_content : (o : Option Message) → content before n ≡ o → IsShortIn o → AreShort (messages_of before numbers) → AreShort (messages_of before (n ∷ numbers))
    by_content None e p rest = rw e rest
    by_content (Some m) e p rest = rw e (p, rest)

newer_short : (o old : Option Message) → IsShortIn o → IsShortIn old → IsShortIn (newer o old)
newer_short None old p q = q
newer_short (Some m) old p q = p

content_short : (topology : Topology) (before : History) (n : ℕ) → is_legal topology before ≡ true → IsShortIn (content before n)
content_short topology [] n h = tt
content_short topology (Accept s records ∷ before) n h =
    newer_short (fresh s (accepted before) records n) (content before n)
    (fresh_short s (accepted before) records n (short_records records (fetch_out before s) (accept_records topology before s records (legal_step topology before (Accept s records) h))))
    (content_short topology before n (legal_before topology before (Accept s records) h))
content_short topology (Late s slot i (Records records) ∷ before) n h =
    newer_short (fresh s (accepted before) records n) (content before n)
    (fresh_short s (accepted before) records n (short_records records (fetch_out before s) (late_records topology before s slot i records (legal_step topology before (Late s slot i (Records records)) h))))
    (content_short topology before n (legal_before topology before (Late s slot i (Records records)) h))
content_short topology (Done s replies ∷ before) n h =
    newer_short (if has_crash replies then None else passed_as replies n) (content before n)
    (either (has_crash replies)
    (replies_pass (spec_of topology s) (count topology before s) (chunk_of topology before s) replies (done_facts topology before s replies (legal_step topology before (Done s replies) h)).handled
    (messages_short before _ (λ m. content_short topology before m (legal_before topology before (Done s replies) h)))))
    (content_short topology before n (legal_before topology before (Done s replies) h))
  where
    either : (b : Bool) → PassAsThere (chunk_of topology before s) replies → IsShortIn (if b then None else passed_as replies n)
    either true there = tt
    either false there = reply_short (chunk_of topology before s) replies n there
content_short topology (step ∷ before) n h = content_short topology before n (legal_before topology before step h)

-- the messages of a job are not too long
pub job_short : (topology : Topology) (before : History) (numbers : List ℕ) → is_legal topology before ≡ true → AreShort (messages_of before numbers)
job_short topology before numbers h = messages_short before numbers (λ n. content_short topology before n h)

pub child_short : (topology : Topology) (before : History) (s : StageNo) (slot : ℕ) → is_legal topology before ≡ true → AreShort (child_of before s slot)
child_short topology before s slot h = by (in_slot before s slot) refl
  where
    by : (o : Option ℕ) → in_slot before s slot ≡ o → AreShort (child_of before s slot)
    by None e = rw e tt
    by (Some n) e = rw e (job_short topology before (n ∷ []) h)
