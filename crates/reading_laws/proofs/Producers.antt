-- A message's producer is the one that took it in, so a unit of a job names its message.
use Rattle.std.proofs.Common.{◌≡◌, ℕ, zero, suc, ◌+◌, ◌-◌, ◌<◌, ◌≤◌, Bool, true, false, List, [], ◌∷◌, length, refl, ap, sym, ◌∙◌, subst, Option, Some, None, arith, inl, inr}
use Rattle.std.specs.Prelude.{if◌then◌else◌, nat_lt, nat_le, ◌==◌, ◌&&◌, slice_get, is_some, option_map}
use Rattle.std.proofs.lemmas.Bool.Decides.{nat_tests}
use Rattle.std.proofs.lemmas.Bool.{cases_lt, eqb-true, le-leb, ltb-true}
use Rattle.std.proofs.lemmas.Option.{slice_get_past}
use Rattle.pipe_types.specs.declared.numbers.MsgNo.{MsgNo}
use Rattle.pipe_types.specs.declared.numbers.StageNo.{StageNo}
use Rattle.pipe_types.specs.declared.message.Message.{Message}
use Rattle.pipe_types.specs.declared.message.Reply.{Reply}
use Rattle.pipe_types.specs.declared.message.Reply.TheVariants.{Pass, Failed, Raised, Crashed}
use Rattle.pipe_types.specs.declared.step.LateAnswer.TheVariants.{Records}
use Rattle.pipe_types.specs.declared.step.Step.TheVariants.{Accept, Done, Late}
use Rattle.pipe_types.specs.declared.topology.Topology.{Topology}
use Rattle.pipe_types.specs.Numbers.{message_no}
use Rattle.pipe_types.specs.Stages.{spec_of}
use Rattle.pipe_model.specs.History.{History, accepted}
use Rattle.pipe_model.specs.Content.{content, newer, fresh, record_as, passed_as, has_crash, producer_of, is_among_next}
use Rattle.pipe_model.specs.Work.{messages_of, chunk_of, count, taken_units}
use Rattle.pipe_model.specs.Legal.{is_legal}
use Rattle.pipe_laws.proofs.Allowed.{legal_before, legal_step, done_facts}
use Rattle.pipe_laws.proofs.Contents.{content_no}
use Rattle.pipe_laws.proofs.Lists.{Each}
use Rattle.reading_laws.specs.Named.{with_producer}
use Rattle.reading_laws.proofs.Passing.{PassAsThere, replies_pass}
use Rattle.reading_laws.proofs.Contents.{job_short}

-- the message, if there is one, has this producer
abbrev IsProducedBy : Option StageNo → Option Message → Type 0
IsProducedBy producer None = Unit {0}
IsProducedBy producer (Some m) = producer ≡ Some m.producer

-- ---- records

within : {A : Type 0} (xs : List A) (i : ℕ) (x : A) → slice_get xs i ≡ Some x → i < length xs
within xs i x e =
    elim (cases_lt i (length xs)) [
      | inl lt ↦ lt
      | inr far ↦ absurd (let none = slice_get_past xs i far in cc)
    ]

past : {A : Type 0} (xs : List A) (i : ℕ) → slice_get xs i ≡ None → length xs ≤ i
past [] i e = omega arith
past (x ∷ xs) zero e = absurd cc
past (x ∷ xs) (suc i) e = omega (arith, past xs i e)

fresh_produced : (s : StageNo) (c : ℕ) (records : List (List ℕ)) (n : ℕ) (producer : Option StageNo) (old : Option Message) → IsProducedBy producer old
    → IsProducedBy (if is_among_next c (length records) n then Some s else producer) (newer (fresh s c records n) old)
fresh_produced s c records n producer old is = by_low (nat_lt c n) refl
  where
    by_record : (o : Option (List ℕ)) → nat_lt c n ≡ true → slice_get records (n - (c + 1)) ≡ o → IsProducedBy (if nat_le n (c + length records) then Some s else producer) (newer (record_as s n o) old)
    by_record None low at =
        let far : length records ≤ n - (c + 1) = past records (n - (c + 1)) at in
        let lt : c < n = ltb-true c n low in
        let no : nat_le n (c + length records) ≡ false = grind (arith, nat_tests) in
        rw no is
    by_record (Some bytes) low at =
        let near : n - (c + 1) < length records = within records (n - (c + 1)) bytes at in
        let lt : c < n = ltb-true c n low in
        let yes : nat_le n (c + length records) ≡ true = le-leb _ _ (omega arith) in
        rw yes refl

    by_low : (b : Bool) → nat_lt c n ≡ b
        → IsProducedBy (if b && nat_le n (c + length records) then Some s else producer) (newer (if b then record_as s n (slice_get records (n - (c + 1))) else None) old)
    by_low false low = is
    by_low true low = by_record (slice_get records (n - (c + 1))) low refl

-- ---- replies

abbrev AreProduced : History → List Message → Type 0
AreProduced before messages = Each (λ m. producer_of before m.no.0 ≡ Some m.producer) messages

reply_produced : (before : History) (messages : List Message) (replies : List Reply) (n : ℕ) → AreProduced before messages → PassAsThere messages replies → IsProducedBy (producer_of before n) (passed_as replies n)
reply_produced before messages [] n produced there = tt
reply_produced before [] (reply ∷ replies) n produced there = absurd there
reply_produced before (m ∷ messages) (Pass p ∷ replies) n produced there = either (p.no.0 == n) refl (reply_produced before messages replies n produced.1 there.1)
  where
    either : (b : Bool) → (p.no.0 == n) ≡ b → IsProducedBy (producer_of before n) (passed_as replies n) → IsProducedBy (producer_of before n) (if b then Some p else passed_as replies n)
    either false other rest = rest
    either true same rest =
        let no : m.no.0 ≡ n = ap (λ (k : MsgNo). k.0) (sym there.0.no) ∙ eqb-true p.no.0 n same in
        ap (producer_of before) (sym no) ∙ (produced.0 ∙ ap (λ (s : StageNo). Some s) (sym there.0.producer))
reply_produced before (m ∷ messages) (Failed why ∷ replies) n produced there = reply_produced before messages replies n produced.1 there.1
reply_produced before (m ∷ messages) (Raised why ∷ replies) n produced there = reply_produced before messages replies n produced.1 there.1
reply_produced before (m ∷ messages) (Crashed ∷ replies) n produced there = reply_produced before messages replies n produced.1 there.1

-- ---- contents

messages_produced : (before : History) (numbers : List ℕ) → ((n : ℕ) → IsProducedBy (producer_of before n) (content before n)) → AreProduced before (messages_of before numbers)
messages_produced before [] f = tt
messages_produced before (n ∷ numbers) f = by (content before n) refl (f n) (messages_produced before numbers f)
  where
    by : (o : Option Message) → content before n ≡ o → IsProducedBy (producer_of before n) o → AreProduced before (messages_of before numbers) → AreProduced before (messages_of before (n ∷ numbers))
    by None e p rest = rw e rest
    by (Some m) e p rest = rw e (ap (producer_of before) (content_no before n m e) ∙ p, rest)

newer_produced : (producer : Option StageNo) (o old : Option Message) → IsProducedBy producer o → IsProducedBy producer old → IsProducedBy producer (newer o old)
newer_produced producer None old p q = q
newer_produced producer (Some m) old p q = p

content_produced : (topology : Topology) (before : History) (n : ℕ) → is_legal topology before ≡ true → IsProducedBy (producer_of before n) (content before n)
content_produced topology [] n h = tt
content_produced topology (Accept s records ∷ before) n h =
    fresh_produced s (accepted before) records n (producer_of before n) (content before n) (content_produced topology before n (legal_before topology before (Accept s records) h))
content_produced topology (Late s slot i (Records records) ∷ before) n h =
    fresh_produced s (accepted before) records n (producer_of before n) (content before n) (content_produced topology before n (legal_before topology before (Late s slot i (Records records)) h))
content_produced topology (Done s replies ∷ before) n h =
    newer_produced (producer_of before n) (if has_crash replies then None else passed_as replies n) (content before n)
    (either (has_crash replies)
    (messages_produced before (taken_units topology before s) (λ m. content_produced topology before m (legal_before topology before (Done s replies) h)))
    (replies_pass (spec_of topology s) (count topology before s) (chunk_of topology before s) replies (done_facts topology before s replies (legal_step topology before (Done s replies) h)).handled
    (job_short topology before (taken_units topology before s) (legal_before topology before (Done s replies) h))))
    (content_produced topology before n (legal_before topology before (Done s replies) h))
  where
    either : (b : Bool) → AreProduced before (chunk_of topology before s) → PassAsThere (chunk_of topology before s) replies → IsProducedBy (producer_of before n) (if b then None else passed_as replies n)
    either true produced there = tt
    either false produced there = reply_produced before (chunk_of topology before s) replies n produced there
content_produced topology (step ∷ before) n h = content_produced topology before n (legal_before topology before step h)

-- ---- units

-- the message at a place of a job is named by the unit at that place
pub unit_names : (topology : Topology) (before : History) (numbers : List ℕ) → is_legal topology before ≡ true → Each (λ n. is_some (content before n) ≡ true) numbers → (k : ℕ) (m : Message) → slice_get (messages_of before numbers) k ≡ Some m
    → with_producer before (slice_get numbers k) ≡ Some (m.no, m.producer)
unit_names topology before [] h held k m at = cc
unit_names topology before (n ∷ numbers) h held k m at =
    by (content before n) refl held.0 (content_produced topology before n h) k at (λ i e. unit_names topology before numbers h held.1 i m e)
  where
    name : (x : Message) → content before n ≡ Some x → producer_of before n ≡ Some x.producer → with_producer before (Some n) ≡ Some (x.no, x.producer)
    name x e p =
        let no : message_no n ≡ x.no = λ i. record { 0 = sym (content_no before n x e) i } in
        ap (option_map (λ (s : StageNo). (message_no n, s))) p ∙ ap (λ (k : MsgNo). Some (k, x.producer)) no

    by : (o : Option Message) → content before n ≡ o → is_some o ≡ true → IsProducedBy (producer_of before n) o → (k : ℕ) → slice_get (messages_of before (n ∷ numbers)) k ≡ Some m
        → ((i : ℕ) → slice_get (messages_of before numbers) i ≡ Some m → with_producer before (slice_get numbers i) ≡ Some (m.no, m.producer))
        → with_producer before (slice_get (n ∷ numbers) k) ≡ Some (m.no, m.producer)
    by None e some p k at rest = cc
    by (Some x) e some p zero at rest =
        let here : x ≡ m = (let there = rw e at at in cc) in
        subst (λ (y : Message). with_producer before (Some n) ≡ Some (y.no, y.producer)) here (name x e p)
    by (Some x) e some p (suc k) at rest = rest k (rw e at at)
