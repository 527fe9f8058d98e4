-- Each step of a legal journal can be spelt.
use Rattle.std.proofs.Common.{◌≡◌, ℕ, suc, ◌+◌, Bool, true, false, List, [], ◌∷◌, refl, ap, sym, ◌∙◌, subst, Option, Some, None, arith}
use Rattle.std.specs.Prelude.{if◌then◌else◌, slice_get, is_some}
use Rattle.std.specs.Option.{option_to_list}
use Rattle.pipe_types.specs.declared.numbers.Post.{Post}
use Rattle.pipe_types.specs.declared.numbers.StageNo.{StageNo}
use Rattle.pipe_types.specs.declared.message.Message.{Message}
use Rattle.pipe_types.specs.declared.message.Outcome.{Outcome}
use Rattle.pipe_types.specs.declared.message.Outcome.TheVariants.{Successful, Failed as FailedOutcome}
use Rattle.pipe_types.specs.declared.message.BatchEnd.{BatchEnd}
use Rattle.pipe_types.specs.declared.message.BatchEnd.TheVariants.{Outcomes, Crashed as BatchCrashed}
use Rattle.pipe_types.specs.declared.message.Reply.{Reply}
use Rattle.pipe_types.specs.declared.message.Reply.TheVariants.{Pass, Failed, Raised, Crashed}
use Rattle.pipe_types.specs.declared.message.Why.{Why}
use Rattle.pipe_types.specs.declared.message.Why.TheVariants.{Crash, Kill as KillWhy, Cancelled, Limit as LimitWhy}
use Rattle.pipe_types.specs.declared.step.LateAnswer.{LateAnswer}
use Rattle.pipe_types.specs.declared.step.LateAnswer.TheVariants.{Records, Source, Wrote as LateWrote}
use Rattle.pipe_types.specs.declared.step.Step.{Step}
use Rattle.pipe_types.specs.declared.step.Step.TheVariants.{Ask, Fetch, Accept, Quiet, SourceEnd, Dispatch, Take, Done, Gather, Close, Wrote, Child, ChildEnd, Kill, Late, Restart, Tick, Drain, Halt, Refuse}
use Rattle.pipe_types.specs.declared.topology.Topology.{Topology}
use Rattle.pipe_types.specs.Numbers.{post}
use Rattle.pipe_types.specs.Stages.{spec_of}
use Rattle.pipe_model.specs.History.{History}
use Rattle.pipe_model.specs.Posts.{is_out, in_slot}
use Rattle.pipe_model.specs.Content.{content}
use Rattle.pipe_model.specs.Work.{taken_units, messages_of, count, chunk_of, child_of, batch_of, are_handled}
use Rattle.pipe_model.specs.Legal.{is_legal, allows, has_role, is_processor_role, is_supervisor_role, is_batch_processor_role, takes_role, fetch_out, ends_batch}
use Rattle.line_reading.specs.Lines.{Named}
use Rattle.line_reading.specs.Spelling.{Each, EachFrom, IsRecord, IsReply, IsReplyAt, IsOutcome, AreItems, IsEnd, IsAnswer, IsKillWhy, IsSpelt}
use Rattle.pipe_laws.proofs.Tests.{and_left, and_right}
use Rattle.pipe_laws.proofs.Allowed.{legal_before, legal_step, unowed, take_facts, done_facts, wrote_facts, ChildEndFacts, child_end_facts, late_facts}
use Rattle.pipe_laws.proofs.Busy.{two_roles, take_there}
use Rattle.pipe_laws.proofs.Slots.{supervisor_processes}
use Rattle.pipe_laws.proofs.Lists as Held
use Rattle.pipe_laws.proofs.Outcomes.{ends_count}
use Rattle.reading_laws.specs.Fields.{AreBytes, IsHeldReply, IsHeldOutcome, IsHeldEnd, IsHeldAnswer, IsHeld}
use Rattle.reading_laws.specs.Named.{job_units, with_producer, named_at}
use Rattle.reading_laws.proofs.Passing.{AreShort, PassesAs, PassAsThere, replies_pass, some_replies}
use Rattle.reading_laws.proofs.Contents.{accept_records, late_records, some_records, job_short, child_short}
use Rattle.reading_laws.proofs.Taken.{taker_slot, weaker_role, writer_takes, chunk_held, chunk_some, batch_some}
use Rattle.reading_laws.proofs.Producers.{unit_names}

-- ---- items

records_at : (i : ℕ) (records : List (List ℕ)) → Each AreBytes records → EachFrom IsRecord i records
records_at i [] each = tt
records_at i (r ∷ records) each = (each.0, records_at (i + 1) records each.1)

outcome_at : (i : ℕ) (o : Outcome) → IsHeldOutcome o → IsOutcome i o
unfolding IsHeldOutcome IsOutcome
outcome_at i Successful held = tt
outcome_at i (FailedOutcome why) held = held

outcomes_at : (i : ℕ) (outcomes : List Outcome) → Each IsHeldOutcome outcomes → EachFrom IsOutcome i outcomes
outcomes_at i [] each = tt
outcomes_at i (o ∷ outcomes) each = (outcome_at i o each.0, outcomes_at (i + 1) outcomes each.1)

-- ---- replies

reply_at_place : (named : Option Named) (first : Message) (reply : Reply) → named ≡ Some (first.no, first.producer) → PassesAs first reply → IsHeldReply reply → IsReply named reply
unfolding IsHeldReply IsReply
reply_at_place named first (Pass m) is kept held =
    let name : (first.no, first.producer) ≡ (m.no, m.producer) = λ i. (sym kept.no i, sym kept.producer i) in
    (is ∙ ap (λ (n : Named). Some n) name, held.0, record { bytes = held.1; short = kept.short.key }, record { bytes = held.2; short = kept.short.payload })
reply_at_place named first (Failed why) is kept held = held
reply_at_place named first (Raised why) is kept held = held
reply_at_place named first Crashed is kept held = tt

-- the names from place i on are those of these messages
abbrev NamesFrom : (ℕ → Option Named) → ℕ → List Message → Type 0
NamesFrom named i messages = (k j : ℕ) (m : Message) → j ≡ i + k → slice_get messages k ≡ Some m → named j ≡ Some (m.no, m.producer)

replies_at : (named : ℕ → Option Named) (i : ℕ) (messages : List Message) (replies : List Reply) → NamesFrom named i messages → PassAsThere messages replies → Each IsHeldReply replies → EachFrom (IsReplyAt named) i replies
replies_at named i messages [] names there held = tt
replies_at named i [] (reply ∷ replies) names there held = absurd there
replies_at named i (m ∷ messages) (reply ∷ replies) names there held = (
  reply_at_place (named i) m reply (names 0 i m (omega arith) refl) there.0 held.0,
  replies_at named (i + 1) messages replies (λ k j n e at. names (suc k) j n (omega arith) at) there.1 held.1,
)

-- ---- the job of a post that is out

names_of : (topology : Topology) (before : History) (p : Post) (numbers : List ℕ) → is_legal topology before ≡ true → is_out before p ≡ true → job_units topology before p ≡ numbers → Held.Each (λ n. is_some (content before n) ≡ true) numbers
    → NamesFrom (named_at topology before p) 0 (messages_of before numbers)
names_of topology before p numbers h out is held k j m e at =
    let here : j ≡ k = omega arith in
    ap (λ (b : Bool). if b then with_producer before (slice_get (job_units topology before p) j) else None) out
    ∙ (ap (λ (ns : List ℕ). with_producer before (slice_get ns j)) is
    ∙ (ap (λ (i : ℕ). with_producer before (slice_get numbers i)) here ∙ unit_names topology before numbers h held k m at))

processor_units : (topology : Topology) (before : History) (s : StageNo) → has_role topology s is_processor_role ≡ true → job_units topology before (post s 0) ≡ taken_units topology before s
processor_units topology before s role =
    ap (λ (b : Bool). if b then taken_units topology before s else (if has_role topology s is_supervisor_role then option_to_list (in_slot before s 0) else [])) role

supervisor_units : (topology : Topology) (before : History) (s : StageNo) (slot : ℕ) → has_role topology s is_supervisor_role ≡ true → job_units topology before (post s slot) ≡ option_to_list (in_slot before s slot)
supervisor_units topology before s slot role = either (has_role topology s is_processor_role) refl
  where
    either : (b : Bool) → has_role topology s is_processor_role ≡ b → (if b then taken_units topology before s else (if has_role topology s is_supervisor_role then option_to_list (in_slot before s slot) else [])) ≡ option_to_list (in_slot before s slot)
    either true is = absurd (two_roles topology s is_supervisor_role is_processor_role supervisor_processes role is)
    either false is = ap (λ (b : Bool). if b then option_to_list (in_slot before s slot) else []) role

-- ---- answers

done_spelt : (topology : Topology) (before : History) (s : StageNo) (replies : List Reply) → is_legal topology (Done s replies ∷ before) ≡ true → Each IsHeldReply replies → AreItems (IsReplyAt (named_at topology before (post s 0))) replies
done_spelt topology before s replies h held =
    let legal = legal_before topology before (Done s replies) h in
    let facts = done_facts topology before s replies (legal_step topology before (Done s replies) h) in
    let out : is_out before (post s 0) ≡ true = and_left (is_out before (post s 0)) _ facts.current in
    let there : PassAsThere (chunk_of topology before s) replies = replies_pass (spec_of topology s) (count topology before s) (chunk_of topology before s) replies facts.handled (job_short topology before _ legal) in
    record {
      some = some_replies (spec_of topology s) (count topology before s) (chunk_of topology before s) replies facts.handled (chunk_some topology before s replies h);
      each =
          replies_at (named_at topology before (post s 0)) 0 (chunk_of topology before s) replies
          (names_of topology before (post s 0) (taken_units topology before s) legal out (processor_units topology before s facts.role) (chunk_held topology before s replies h))
          there held;
    }

child_spelt : (topology : Topology) (before : History) (s : StageNo) (slot : ℕ) (reply : Reply) → is_legal topology (ChildEnd s slot reply ∷ before) ≡ true → IsHeldReply reply → IsReply (named_at topology before (post s slot) 0) reply
child_spelt topology before s slot reply h held = by (in_slot before s slot) refl facts.handled (child_short topology before s slot legal)
  where
    legal : is_legal topology before ≡ true
    legal = legal_before topology before (ChildEnd s slot reply) h

    facts : ChildEndFacts topology before s slot reply
    facts = child_end_facts topology before s slot reply (legal_step topology before (ChildEnd s slot reply) h)

    one : (n : ℕ) → in_slot before s slot ≡ Some n → (o : Option Message) → content before n ≡ o → PassAsThere (messages_of before (n ∷ [])) (reply ∷ []) → IsReply (named_at topology before (post s slot) 0) reply
    one n is None e there = absurd (let none : messages_of before (n ∷ []) ≡ [] = rw e refl in subst (λ (ms : List Message). PassAsThere ms (reply ∷ [])) none there)
    one n is (Some m) e there =
        (replies_at (named_at topology before (post s slot)) 0 (messages_of before (n ∷ [])) (reply ∷ [])
        (names_of topology before (post s slot) (n ∷ []) legal (and_left (is_out before (post s slot)) _ facts.current)
        (supervisor_units topology before s slot facts.role ∙ ap option_to_list is) (ap is_some e, tt))
        there (held, tt)).0

    by : (o : Option ℕ) → in_slot before s slot ≡ o → are_handled (spec_of topology s) 0 (child_of before s slot) (reply ∷ []) ≡ true → AreShort (child_of before s slot) → IsReply (named_at topology before (post s slot) 0) reply
    by None is handled short =
        absurd (let none : child_of before s slot ≡ [] = rw is refl in
        subst (λ (ms : List Message). PassAsThere ms (reply ∷ [])) none (replies_pass (spec_of topology s) 0 (child_of before s slot) (reply ∷ []) handled short))
    by (Some n) is handled short =
        let child : child_of before s slot ≡ messages_of before (n ∷ []) = rw is refl in
        one n is (content before n) refl
        (subst (λ (ms : List Message). PassAsThere ms (reply ∷ [])) child (replies_pass (spec_of topology s) 0 (child_of before s slot) (reply ∷ []) handled short))

end_spelt : (topology : Topology) (before : History) (s : StageNo) (bytes : ℕ) (end : BatchEnd) → is_legal topology before ≡ true → has_role topology s is_batch_processor_role ≡ true → is_out before (post s 0) ≡ true
    → ends_batch topology before s bytes end ≡ true → IsHeldEnd end → IsEnd end
unfolding IsHeldEnd IsEnd
end_spelt topology before s bytes BatchCrashed h role out ends held = tt
end_spelt topology before s bytes (Outcomes outcomes) h role out ends held =
    let many = ends_count (spec_of topology s) (count topology before s) (batch_of topology before s) bytes outcomes ends in
    record { some = omega (arith, many, batch_some topology before s h role out); each = outcomes_at 0 outcomes held }

late_end_spelt : (topology : Topology) (before : History) (s : StageNo) (slot i n : ℕ) (end : BatchEnd) → is_legal topology (Late s slot i (LateWrote n end) ∷ before) ≡ true → IsHeldEnd end → IsEnd end
late_end_spelt topology before s slot i n end h held =
    let legal = legal_before topology before (Late s slot i (LateWrote n end)) h in
    let facts = late_facts topology before s slot i (LateWrote n end) (legal_step topology before (Late s slot i (LateWrote n end)) h) in
    let role : has_role topology s is_batch_processor_role ≡ true = and_left (has_role topology s is_batch_processor_role) _ facts.fits in
    let out : is_out before (post s 0) ≡ true = subst (λ (k : ℕ). is_out before (post s k) ≡ true) (taker_slot topology before s slot legal (weaker_role topology s is_batch_processor_role takes_role writer_takes role) facts.out) facts.out in
    end_spelt topology before s n end legal role out (and_right (has_role topology s is_batch_processor_role) _ facts.fits) held

answer_spelt : (topology : Topology) (before : History) (s : StageNo) (slot i : ℕ) (answer : LateAnswer) → is_legal topology (Late s slot i answer ∷ before) ≡ true → IsHeldAnswer answer → IsAnswer answer
unfolding IsHeldAnswer IsAnswer
answer_spelt topology before s slot i (Records records) h held =
    record {
      some = some_records records (fetch_out before s) (late_records topology before s slot i records (legal_step topology before (Late s slot i (Records records)) h));
      each = records_at 0 records held;
    }
answer_spelt topology before s slot i (LateWrote n end) h held = (held.0, late_end_spelt topology before s slot i n end h held.1)
answer_spelt topology before s slot i _ h held = tt

-- ---- kills

kill_spelt : (topology : Topology) (before : History) (s : StageNo) (why : Why) → allows topology before (Kill s why) ≡ true → IsKillWhy why
unfolding IsKillWhy
kill_spelt topology before s (Cancelled u) h = let wrong : false ≡ true = unowed topology before (Kill s (Cancelled u)) (λ t. refl) (λ t. refl) h in cc
kill_spelt topology before s LimitWhy h = let wrong : false ≡ true = unowed topology before (Kill s LimitWhy) (λ t. refl) (λ t. refl) h in cc
kill_spelt topology before s _ h = tt

-- ---- steps

-- each step of a legal journal whose fields are held has a line that is read as that step
pub legal_spelt : (topology : Topology) (before : History) (step : Step) → is_legal topology (step ∷ before) ≡ true → IsHeld step → IsSpelt (named_at topology before) step
unfolding IsSpelt IsHeld
legal_spelt topology before (Ask u n) h held = held
legal_spelt topology before (Fetch s n) h held = held
legal_spelt topology before (Accept s records) h held = (
  held.0,
  record {
    some = some_records records (fetch_out before s) (accept_records topology before s records (legal_step topology before (Accept s records) h));
    each = records_at 0 records held.1;
  },
)
legal_spelt topology before (Quiet s) h held = held
legal_spelt topology before (SourceEnd s how) h held = held
legal_spelt topology before (Dispatch s) h held = held
legal_spelt topology before (Take s u k) h held =
    (held.0, take_there topology before s u (take_facts topology before s u k (legal_step topology before (Take s u k) h)).first, held.1, held.2, held.3)
legal_spelt topology before (Done s replies) h held = (held.0, done_spelt topology before s replies h held.1)
legal_spelt topology before (Gather s m) h held = held
legal_spelt topology before (Close s m trigger) h held = held
legal_spelt topology before (Wrote s n end) h held =
    let facts = wrote_facts topology before s n end (legal_step topology before (Wrote s n end) h) in (
      held.0,
      held.1,
      end_spelt topology before s n end (legal_before topology before (Wrote s n end) h) facts.role (and_left (is_out before (post s 0)) _ facts.current) facts.handled held.2,
    )
legal_spelt topology before (Child s m slot) h held = held
legal_spelt topology before (ChildEnd s slot reply) h held = (held.0, held.1, child_spelt topology before s slot reply h held.2)
legal_spelt topology before (Kill s why) h held = (held, kill_spelt topology before s why (legal_step topology before (Kill s why) h))
legal_spelt topology before (Late s slot i answer) h held = (held.0, held.1, held.2, answer_spelt topology before s slot i answer h held.3)
legal_spelt topology before (Restart s) h held = held
legal_spelt topology before (Tick t) h held = held
legal_spelt topology before (Drain cause) h held = held
legal_spelt topology before Halt h held = held
legal_spelt topology before (Refuse line) h held = held
