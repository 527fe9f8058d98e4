-- What a callback with the law of plain text writes.
use Rattle.std.proofs.Common.{◌≡◌, ◌≤◌, ℕ, zero, suc, Bool, true, false, List, [], ◌∷◌, ◌++◌, length, map, take, replicate, refl, ap, ◌∙◌, subst, Option, Some, None, IfSome, Result}
use Rattle.std.specs.Prelude.{if◌then◌else◌, ◌==◌, ◌&&◌, IfOk, slice_get}
use Rattle.std.specs.List.{list_all}
use Rattle.std.proofs.lemmas.Bool.{and_parts, and_from}
use Rattle.std.proofs.lemmas.List.Folds.{list_all-append}
use Rattle.std.proofs.lemmas.Result.{IfOk-weaker}
use Rattle.pipe_types.specs.declared.numbers.StageNo.{StageNo}
use Rattle.pipe_types.specs.declared.numbers.Post.{Post}
use Rattle.pipe_types.specs.declared.message.Message.{Message}
use Rattle.pipe_types.specs.declared.message.Outcome.TheVariants.{Successful}
use Rattle.pipe_types.specs.declared.message.BatchEnd.{BatchEnd}
use Rattle.pipe_types.specs.declared.message.BatchEnd.TheVariants.{Outcomes, Crashed as CrashedEnd}
use Rattle.pipe_types.specs.declared.message.BatchReply.{BatchReply}
use Rattle.pipe_types.specs.declared.message.BatchReply.TheVariants.{Answered, Raised, Crashed}
use Rattle.pipe_types.specs.declared.step.LateAnswer.TheVariants.{Wrote as WroteLate}
use Rattle.pipe_types.specs.declared.step.Step.TheVariants.{Wrote, Late}
use Rattle.pipe_types.specs.declared.topology.Topology.{Topology}
use Rattle.pipe_types.specs.Handlers.{text_by, lines_where, is_successful, is_own_outcome, is_own_reason}
use Rattle.pipe_types.specs.Numbers.{same_stage}
use Rattle.pipe_model.specs.History.{History}
use Rattle.pipe_model.specs.Outside.{sink_text, text_taken}
use Rattle.stage_bodies.specs.Seen.{BoxSeen}
use Rattle.stage_bodies.specs.Jobs.{Both}
use Rattle.stage_bodies.specs.Lawful.{IsEndBy}
use Rattle.body_laws.specs.Lawful.{IsLawfulWrite, AreLawfulAnswers}
use Rattle.own_handler.specs.Judged.{judged_batch, judged_raised}
use Rattle.own_handler.specs.declared.handler.BatchAnswer.TheVariants as answer
use Rattle.box_stock.specs.Homes.{post_for}
use Rattle.pipe_top.specs.Boxes.{AreBoxesLeft, IsBoxLeft, kinds}
use Rattle.own_callback.specs.declared.call.Came.{Came}
use Rattle.own_callback.specs.Plain.{is_plain_byte, is_plain_text, has_plain_payload, plain_law, WritesPlainText}

-- ---- one batch

lines_plain : (messages : List Message) → list_all has_plain_payload messages ≡ true → is_plain_text (lines_where is_successful messages (replicate (length messages) Successful)) ≡ true
lines_plain [] all = refl
lines_plain (m ∷ messages) all =
    let parts = and_parts (has_plain_payload m) (list_all has_plain_payload messages) all in
    let rest = lines_where is_successful messages (replicate (length messages) Successful) in
    list_all-append is_plain_byte (m.payload ++ 10 ∷ []) rest
    ∙ and_from (is_plain_text (m.payload ++ 10 ∷ [])) (is_plain_text rest)
    (list_all-append is_plain_byte m.payload (10 ∷ []) ∙ and_from (is_plain_text m.payload) true parts.0 refl) (lines_plain messages parts.1)

successful_plain : (messages : List Message) → list_all has_plain_payload messages ≡ true → is_plain_text (text_by (judged_batch messages answer.Successful)) ≡ true
successful_plain messages all =
    by (length (replicate (length messages) Successful) == length messages && list_all is_own_outcome (replicate (length messages) Successful))
  where
    by : (b : Bool) → is_plain_text (text_by (if b then Answered (replicate (length messages) Successful) (lines_where is_successful messages (replicate (length messages) Successful)) else Crashed)) ≡ true
    by true = lines_plain messages all
    by false = refl

raised_plain : (why : List ℕ) → is_plain_text (text_by (judged_raised why)) ≡ true
raised_plain why = by (is_own_reason why)
  where
    by : (b : Bool) → is_plain_text (text_by (if b then Raised why else Crashed)) ≡ true
    by true = refl
    by false = refl

pub all_plain : {E : Type 0} (result : Result BatchReply E) (messages : List Message) → list_all has_plain_payload messages ≡ true → IfOk result (λ reply. reply ≡ judged_batch messages answer.Successful)
    → IfOk result (λ reply. is_plain_text (text_by reply) ≡ true)
all_plain result messages all is =
    IfOk-weaker result (λ reply. reply ≡ judged_batch messages answer.Successful) (λ reply. is_plain_text (text_by reply) ≡ true)
    (λ reply e. ap (λ r. is_plain_text (text_by r)) e ∙ successful_plain messages all) is

pub none_plain : {E : Type 0} (result : Result BatchReply E) (messages : List Message) (why : List ℕ) → IfOk result (λ reply. reply ≡ judged_batch messages (answer.Raised why))
    → IfOk result (λ reply. is_plain_text (text_by reply) ≡ true)
none_plain result messages why is =
    IfOk-weaker result (λ reply. reply ≡ judged_batch messages (answer.Raised why)) (λ reply. is_plain_text (text_by reply) ≡ true)
    (λ reply e. ap (λ r. is_plain_text (text_by r)) e ∙ raised_plain why) is

-- ---- a journal

plain_front : (n : ℕ) (text : List ℕ) → is_plain_text text ≡ true → is_plain_text (take n text) ≡ true
plain_front zero text plain = refl
plain_front (suc n) [] plain = refl
plain_front (suc n) (byte ∷ text) plain =
    let parts = and_parts (is_plain_byte byte) (is_plain_text text) plain in
    and_from (is_plain_byte byte) (is_plain_text (take n text)) parts.0 (plain_front n text parts.1)

plain_more : (b : Bool) (old text : List ℕ) (bytes : ℕ) → is_plain_text old ≡ true → (b ≡ true → is_plain_text text ≡ true) → is_plain_text (if b then old ++ take bytes text else old) ≡ true
plain_more true old text bytes plain more =
    list_all-append is_plain_byte old (take bytes text) ∙ and_from (is_plain_text old) (is_plain_text (take bytes text)) plain (plain_front bytes text (more refl))
plain_more false old text bytes plain more = plain

plain_end : (messages : List Message) (reply : BatchReply) (handled : BatchEnd) (text : List ℕ) → IsEndBy plain_law messages reply handled text → is_plain_text (text_by reply) ≡ true → is_plain_text text ≡ true
plain_end messages (Answered given answered) (Outcomes settled) text by plain = ap is_plain_text by.1 ∙ plain
plain_end messages (Raised why) (Outcomes settled) text by plain = ap is_plain_text by.1
plain_end messages Crashed CrashedEnd text by plain = ap is_plain_text by
plain_end messages (Answered given answered) CrashedEnd text by plain = absurd by
plain_end messages (Raised why) CrashedEnd text by plain = absurd by
plain_end messages Crashed (Outcomes settled) text by plain = absurd by

plain_write : (topology : Topology) (before : History) (s : StageNo) (bytes : ℕ) (end : BatchEnd) → IsLawfulWrite topology before s bytes end plain_law → is_plain_text (text_taken topology before s end) ≡ true
plain_write topology before s bytes end write =
    let handled = write.lawful.lawful in
    plain_end write.asked.messages handled.reply write.lawful.handled (text_taken topology before s end) handled.by handled.lawful.0

-- each text of the stage is plain
plain_sink : (topology : Topology) (before : History) (p : Post) → AreLawfulAnswers topology before p plain_law → is_plain_text (sink_text topology before p.stage) ≡ true
plain_sink topology [] p are = refl
plain_sink topology (Wrote s bytes end ∷ before) p are =
    plain_more (same_stage s p.stage) (sink_text topology before p.stage) (text_taken topology before s end) bytes (plain_sink topology before p are.0)
    (λ same. plain_write topology before s bytes end (are.1 same))
plain_sink topology (Late s slot i (WroteLate bytes end) ∷ before) p are =
    plain_more (same_stage s p.stage) (sink_text topology before p.stage) (text_taken topology before s end) bytes (plain_sink topology before p are.0)
    (λ same. plain_write topology before s bytes end (are.1 same))
plain_sink topology (_ ∷ before) p are = plain_sink topology before p are.0

-- ---- a run

pub writes_plain : (topology : Topology) (before : History) (old new : List BoxSeen) → AreBoxesLeft true topology before old new → WritesPlainText topology before old
writes_plain topology before old new left k p box here home law =
    by_box (slice_get new k)
    (subst (λ h. Both (IsBoxLeft true topology before h) (Some box) (slice_get new k)) home
    (subst (λ o. Both (IsBoxLeft true topology before (post_for topology (kinds old) k)) o (slice_get new k)) here (left.each k)))
  where
    by_box : (o : Option BoxSeen) → Both (IsBoxLeft true topology before (Some p)) (Some box) o → is_plain_text (sink_text topology before p.stage) ≡ true
    by_box (Some used) is = plain_sink topology before p (subst (λ l. AreLawfulAnswers topology before p l) law is.lawful)
    by_box None is = absurd is

some_plain : (o : Option Topology) (before : History) (old new : List BoxSeen) → IfSome o (λ topology. AreBoxesLeft true topology before old new) → IfSome o (λ topology. WritesPlainText topology before old)
some_plain (Some topology) before old new left = writes_plain topology before old new left
some_plain None before old new left = tt

-- where a call left the callbacks so
pub came_plain : {C E : Type 0} (seen : C → BoxSeen) (old : List BoxSeen) (result : Result (Came C) E)
    → IfOk result (λ came. came.status ≤ 4 → IfSome came.topology (λ topology. AreBoxesLeft true topology came.journal.steps old (map seen came.stock.items)))
    → IfOk result (λ came. came.status ≤ 4 → IfSome came.topology (λ topology. WritesPlainText topology came.journal.steps old))
came_plain seen old result left =
    IfOk-weaker result (λ came. came.status ≤ 4 → IfSome came.topology (λ topology. AreBoxesLeft true topology came.journal.steps old (map seen came.stock.items)))
    (λ came. came.status ≤ 4 → IfSome came.topology (λ topology. WritesPlainText topology came.journal.steps old))
    (λ came h low. some_plain came.topology came.journal.steps old (map seen came.stock.items) (h low)) left
