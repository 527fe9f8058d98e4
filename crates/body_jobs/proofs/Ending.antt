-- The end of a batch after its text went to a sink.
use Rattle.std.proofs.Common.{◌≡◌, ◌≢◌, ◌<◌, ℕ, Bool, true, false, ◌&&◌, ◌==◌, nat_lt, List, [], ◌∷◌, map, length, refl, sym, ap, ◌∙◌, arith, cond, inl, inr}
use Rattle.std.specs.List.{list_all, list_any}
use Rattle.std.specs.Str.{bytes_eq}
use Rattle.std.proofs.lemmas.Bool.{and_parts, and_from, eq-eqb, or_right, or_left}
use Rattle.std.proofs.lemmas.Bool.Decides.{nat_tests}
use Rattle.std.proofs.lemmas.Slice.Eq.{bytes_eq-Decides}
use Rattle.pipe_types.specs.Handlers.{batch_answer_by, batch_end, batch_text, end_by, text_by as text_of_reply, is_own_outcome, is_own_reason, is_successful, lines_where, is_own_end}
use Rattle.pipe_types.specs.declared.message.Message.{Message}
use Rattle.pipe_types.specs.declared.message.Outcome.{Outcome}
use Rattle.pipe_types.specs.declared.message.Outcome.TheVariants.{Successful, Failed}
use Rattle.pipe_types.specs.declared.message.BatchEnd.{BatchEnd}
use Rattle.pipe_types.specs.declared.message.BatchEnd.TheVariants.{Outcomes, Crashed}
use Rattle.pipe_types.specs.declared.topology.Kind.{Kind}
use Rattle.pipe_types.specs.declared.topology.Kind.TheVariants.{Steps, Lines, Own}
use Rattle.pipe_types.specs.declared.topology.StageSpec.{StageSpec}
use Rattle.pipe_model.specs.Work.{sink_reason, failed_by_sink, is_failed_by_sink, same_outcomes, same_end, is_write_end, is_end_by, own_text, before_sink}
use Rattle.stage_bodies.specs.Seen.{BoxSeen}
use Rattle.stage_bodies.specs.Jobs.{Ends, is_bad_end, text_by}
use Rattle.body_jobs.specs.Batches.{Handles, IsWritten, by_sink}
use Rattle.body_jobs.proofs.Handling.{text_of_successes}

-- An end is the same as itself

same_bytes : (bytes : List ℕ) → bytes_eq bytes bytes ≡ true
same_bytes bytes = (bytes_eq-Decides bytes bytes).1 refl

same_as : (os : List Outcome) → same_outcomes os os ≡ true
same_as [] = refl
same_as (Successful ∷ os) = same_as os
same_as (Failed why ∷ os) = and_from (bytes_eq why why) (same_outcomes os os) (same_bytes why) (same_as os)

same_end_as : (e : BatchEnd) → same_end e e ≡ true
same_end_as (Outcomes os) = same_as os
same_end_as Crashed = refl

is_less : (n m : ℕ) → n < m → nat_lt n m ≡ true
is_less n m below = grind (arith, nat_tests)

-- The sink's part

pub write_ends : (has_sink : Bool) (h : BatchEnd) (text : List ℕ) (bytes : ℕ) (end : BatchEnd) → (h ≡ Crashed → text ≡ []) → IsWritten has_sink h text bytes end → is_write_end has_sink h text bytes end ≡ true
write_ends true Crashed text bytes end no_text (inl (b, e)) = and_from (bytes == 0) _ (eq-eqb bytes 0 (b ∙ ap length (no_text refl))) (rw e refl)
write_ends false Crashed text bytes end no_text (inl (b, e)) = and_from (bytes == 0) _ (eq-eqb bytes 0 b) (rw e refl)
write_ends has_sink Crashed text bytes end no_text (inr (s, b, e)) = let none : length text ≡ 0 = ap length (no_text refl) in absurd (omega arith)
write_ends false (Outcomes hs) text bytes end no_text (inl (b, e)) = and_from (bytes == 0) _ (eq-eqb bytes 0 b) (rw e (same_as hs))
write_ends false (Outcomes hs) text bytes end no_text (inr (s, b, e)) = cc
write_ends true (Outcomes hs) text bytes end no_text (inl (b, e)) =
    or_left (bytes == length text && same_end end (Outcomes hs)) _ (and_from (bytes == length text) _ (eq-eqb bytes (length text) b) (rw e (same_as hs)))
write_ends true (Outcomes hs) text bytes end no_text (inr (s, b, e)) =
    or_right (bytes == length text && same_end end (Outcomes hs)) _ (and_from (nat_lt bytes (length text)) _ (is_less bytes (length text) b) (rw e (same_end_as (failed_by_sink (Outcomes hs)))))

-- A user's own kind

unsunk : (o : Outcome) → is_own_outcome o ≡ true → is_failed_by_sink o ≡ false
unsunk Successful own = refl
unsunk (Failed why) own = grind arith

abbrev add_outcome : Outcome → BatchEnd → BatchEnd
add_outcome o (Outcomes os) = Outcomes (o ∷ os)
add_outcome o Crashed = Crashed

sunk : (os : List Outcome) → failed_by_sink (Outcomes os) ≡ Outcomes (map by_sink os)
sunk [] = refl
sunk (Successful ∷ os) = ap (add_outcome (Failed sink_reason)) (sunk os)
sunk (Failed why ∷ os) = ap (add_outcome (Failed why)) (sunk os)

-- the sink's failures undone
undone : (os : List Outcome) → list_all is_own_outcome os ≡ true → before_sink (Outcomes (map by_sink os)) ≡ Outcomes os
undone [] own = refl
undone (Successful ∷ os) own = ap (add_outcome Successful) (undone os own)
undone (Failed why ∷ os) own =
    let parts = and_parts (is_own_reason why) (list_all is_own_outcome os) own in
    let kept : is_failed_by_sink (Failed why) ≡ false = unsunk (Failed why) parts.0 in
    undone_one (is_failed_by_sink (Failed why)) kept (undone os parts.1)
  where
    undone_one : (b : Bool) → b ≡ false → before_sink (Outcomes (map by_sink os)) ≡ Outcomes os → add_outcome (cond b Successful (Failed why)) (before_sink (Outcomes (map by_sink os))) ≡ Outcomes (Failed why ∷ os)
    undone_one true is e = cc
    undone_one false is e = ap (add_outcome (Failed why)) e

none_sunk : (os : List Outcome) → list_any is_successful (map by_sink os) ≡ false
none_sunk [] = refl
none_sunk (Successful ∷ os) = none_sunk os
none_sunk (Failed why ∷ os) = none_sunk os

sunk_lines : (messages : List Message) (os : List Outcome) → list_all is_own_outcome os ≡ true → lines_where is_failed_by_sink messages (map by_sink os) ≡ lines_where is_successful messages os
sunk_lines [] os own = refl
sunk_lines (m ∷ messages) [] own = refl
sunk_lines (m ∷ messages) (Successful ∷ os) own = rw (sunk_lines messages os own) refl
sunk_lines (m ∷ messages) (Failed why ∷ os) own =
    let parts = and_parts (is_own_reason why) (list_all is_own_outcome os) own in
    rw (unsunk (Failed why) parts.0) (sunk_lines messages os parts.1)

own_outcomes : (messages : List Message) (hs : List Outcome) → is_own_end messages (Outcomes hs) ≡ true → list_all is_own_outcome hs ≡ true
own_outcomes messages hs own = (and_parts (length hs == length messages) (list_all is_own_outcome hs) own).1

-- the text is that of the end, whatever the sink took
sunk_text : (messages : List Message) (hs : List Outcome) → list_all is_own_outcome hs ≡ true → own_text messages (failed_by_sink (Outcomes hs)) ≡ own_text messages (Outcomes hs)
sunk_text messages hs own =
    ap (own_text messages) (sunk hs)
    ∙ (ap (λ b. cond b (lines_where is_successful messages (map by_sink hs)) (lines_where is_failed_by_sink messages (map by_sink hs))) (none_sunk hs)
    ∙ (sunk_lines messages hs own ∙ text_of_successes messages hs own))

own_text_as : (has_sink : Bool) (messages : List Message) (h : BatchEnd) (text : List ℕ) (bytes : ℕ) (end : BatchEnd) → (h ≡ Crashed → text ≡ []) → is_own_end messages h ≡ true → text ≡ own_text messages h
    → IsWritten has_sink h text bytes end → own_text messages end ≡ text
own_text_as has_sink messages h text bytes end no_text own is (inl (b, e)) = ap (own_text messages) e ∙ sym is
own_text_as has_sink messages Crashed text bytes end no_text own is (inr (s, b, e)) = let none : length text ≡ 0 = ap length (no_text refl) in absurd (omega arith)
own_text_as has_sink messages (Outcomes hs) text bytes end no_text own is (inr (s, b, e)) =
    ap (own_text messages) e ∙ (sunk_text messages hs (own_outcomes messages hs own) ∙ sym is)

own_ends : (has_sink : Bool) (spec : StageSpec) (count : ℕ) (messages : List Message) (h : BatchEnd) (text : List ℕ) (bytes : ℕ) (end : BatchEnd) → (h ≡ Crashed → text ≡ [])
    → is_own_end messages h ≡ true → text ≡ own_text messages h → IsWritten has_sink h text bytes end → is_end_by Own has_sink spec count messages bytes end ≡ true
own_ends has_sink spec count messages h text bytes end no_text own is (inl (b, e)) =
    let written : is_write_end has_sink h (own_text messages h) bytes h ≡ true = rw is at (write_ends has_sink h text bytes h no_text (inl (b, refl))) in
    or_left (is_own_end messages end && is_write_end has_sink end (own_text messages end) bytes end) _
    (rw e (and_from (is_own_end messages h) _ own written))
own_ends has_sink spec count messages Crashed text bytes end no_text own is (inr (s, b, e)) = let none : length text ≡ 0 = ap length (no_text refl) in absurd (omega arith)
own_ends has_sink spec count messages (Outcomes hs) text bytes end no_text own is (inr (s, b, e)) =
    let written : is_write_end has_sink (Outcomes hs) (own_text messages (Outcomes hs)) bytes end ≡ true = rw is at (write_ends has_sink (Outcomes hs) text bytes end no_text (inr (s, b, e))) in
    let before : before_sink end ≡ Outcomes hs = ap before_sink (e ∙ sunk hs) ∙ undone hs (own_outcomes messages hs own) in
    or_right (is_own_end messages end && is_write_end has_sink end (own_text messages end) bytes end) _
    (rw before (and_from (is_own_end messages (Outcomes hs)) _ own written))

bad_before : (os : List Outcome) → is_bad_end (Outcomes (map by_sink os)) ≡ true → is_bad_end (Outcomes os) ≡ true
bad_before [] bad = bad
bad_before (Successful ∷ os) bad = bad_before os bad
bad_before (Failed why ∷ os) bad = by (bytes_eq why sink_reason) refl (λ more. bad_before os more)
  where
    by : (b : Bool) → bytes_eq why sink_reason ≡ b → (is_bad_end (Outcomes (map by_sink os)) ≡ true → is_bad_end (Outcomes os) ≡ true) → is_bad_end (Outcomes (Failed why ∷ os)) ≡ true
    by true is rest = rw is (rest (rw is at bad))
    by false is rest = rw is refl

bad_handled : (has_sink : Bool) (h : BatchEnd) (text : List ℕ) (bytes : ℕ) (end : BatchEnd) → IsWritten has_sink h text bytes end → is_bad_end end ≡ true → is_bad_end h ≡ true
bad_handled has_sink h text bytes end (inl (b, e)) bad = sym (ap is_bad_end e) ∙ bad
bad_handled has_sink Crashed text bytes end (inr (s, b, e)) bad = refl
bad_handled has_sink (Outcomes hs) text bytes end (inr (s, b, e)) bad = bad_before hs (sym (ap is_bad_end (e ∙ sunk hs)) ∙ bad)

crashed_handled : (has_sink : Bool) (h : BatchEnd) (text : List ℕ) (bytes : ℕ) (end : BatchEnd) → IsWritten has_sink h text bytes end → end ≡ Crashed → h ≡ Crashed
crashed_handled has_sink h text bytes end (inl (b, e)) crash = sym e ∙ crash
crashed_handled has_sink Crashed text bytes end (inr (s, b, e)) crash = refl
crashed_handled has_sink (Outcomes hs) text bytes end (inr (s, b, e)) crash = let both : Outcomes (map by_sink hs) ≡ Crashed = sym (e ∙ sunk hs) ∙ crash in cc

-- every kind

abbrev BuiltIn : StageSpec → ℕ → List Message → BatchEnd → List ℕ → Type 0
BuiltIn spec count messages h text = (h ≡ batch_end spec count messages) × (text ≡ batch_text spec count messages)

ended_by : (k : Kind) (has_sink : Bool) (spec : StageSpec) (count : ℕ) (messages : List Message) (h : BatchEnd) (text : List ℕ) (bytes : ℕ) (end : BatchEnd) → (h ≡ Crashed → text ≡ [])
    → (k ≢ Own → BuiltIn spec count messages h text) → (k ≡ Own → (is_own_end messages h ≡ true) × (text ≡ own_text messages h)) → IsWritten has_sink h text bytes end
    → is_end_by k has_sink spec count messages bytes end ≡ true
ended_by Steps has_sink spec count messages h text bytes end no_text built_in own written =
    let is = built_in (λ e. cc) in rw (is.0, is.1) at (write_ends has_sink h text bytes end no_text written)
ended_by Lines has_sink spec count messages h text bytes end no_text built_in own written =
    let is = built_in (λ e. cc) in rw (is.0, is.1) at (write_ends has_sink h text bytes end no_text written)
ended_by Own has_sink spec count messages h text bytes end no_text built_in own written =
    let is = own refl in own_ends has_sink spec count messages h text bytes end no_text is.0 is.1 written

text_as : (k : Kind) (has_sink : Bool) (box : BoxSeen) (messages : List Message) (h : BatchEnd) (text : List ℕ) (bytes : ℕ) (end : BatchEnd) → (h ≡ Crashed → text ≡ [])
    → (k ≢ Own → BuiltIn box.spec box.count messages h text) → (k ≡ Own → (is_own_end messages h ≡ true) × (text ≡ own_text messages h)) → IsWritten has_sink h text bytes end
    → text_by k box messages end ≡ text
text_as Steps has_sink box messages h text bytes end no_text built_in own written = sym (built_in (λ e. cc)).1
text_as Lines has_sink box messages h text bytes end no_text built_in own written = sym (built_in (λ e. cc)).1
text_as Own has_sink box messages h text bytes end no_text built_in own written =
    let is = own refl in own_text_as has_sink messages h text bytes end no_text is.0 is.1 written

built_in_as : {messages : List Message} {h : BatchEnd} {text : List ℕ} {old new : BoxSeen} → old.kind ≡ old.spec.kind → Handles messages h text old new → old.kind ≢ Own → BuiltIn old.spec old.count messages h text
built_in_as {messages = messages} {old = old} armed handled not_own =
    let x = handled.built_in not_own in
    (x.0 ∙ ap (λ k. end_by old.spec.failed messages (batch_answer_by k old.spec old.count messages)) armed, x.1 ∙ ap (λ k. text_of_reply (batch_answer_by k old.spec old.count messages)) armed)

-- the end of a batch
pub ends_so : {messages : List Message} {h : BatchEnd} {text : List ℕ} {old new : BoxSeen} (has_sink : Bool) (bytes : ℕ) (end : BatchEnd) → old.kind ≡ old.spec.kind
    → Handles messages h text old new → IsWritten has_sink h text bytes end → Ends messages bytes end has_sink old new
ends_so {messages = messages} {h = h} {text = text} {old = old} has_sink bytes end armed handled written = record {
  kept = handled.kept;
  ended = ended_by old.kind has_sink old.spec old.count messages h text bytes end handled.no_text (built_in_as armed handled) handled.own written;
  count = λ not_own below. (handled.built_in not_own).2;
  calm = λ not_own calm crash. handled.calm not_own calm (crashed_handled has_sink h text bytes end written crash);
  calls = handled.calls;
  bad = λ own bad. handled.bad own (bad_handled has_sink h text bytes end written bad);
  by_answers = λ told.
      let more = handled.by_answers told in
      let w : is_write_end has_sink h text bytes end ≡ true = write_ends has_sink h text bytes end handled.no_text written in
      (more.0, h, more.1, more.2, rw more.3 at w);
}

-- its text
pub text_so : {messages : List Message} {h : BatchEnd} {text : List ℕ} {old new : BoxSeen} (has_sink : Bool) (bytes : ℕ) (end : BatchEnd) → old.kind ≡ old.spec.kind
    → Handles messages h text old new → IsWritten has_sink h text bytes end → text_by old.kind old messages end ≡ text
text_so {messages = messages} {h = h} {text = text} {old = old} has_sink bytes end armed handled written =
    text_as old.kind has_sink old messages h text bytes end handled.no_text (built_in_as armed handled) handled.own written
