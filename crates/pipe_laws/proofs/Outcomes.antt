-- The end of a batch has an outcome for each message.
use Rattle.std.proofs.Common.{◌≡◌, ℕ, suc, ◌+◌, List, [], ◌∷◌, ◌++◌, map, length, Bool, true, false, refl, ap, sym, ◌∙◌, Some, None, Option, arith, inl, inr}
use Rattle.std.specs.Prelude.{if◌then◌else◌, ◌==◌, ◌&&◌, ◌||◌, ◌⊎◌, is_some, nat_lt}
use Rattle.std.proofs.lemmas.Bool.{eqb-true}
use Rattle.std.proofs.lemmas.List.{length-append, length-map}
use Rattle.pipe_types.specs.declared.message.Message.{Message}
use Rattle.pipe_types.specs.declared.message.Reply.{Reply}
use Rattle.pipe_types.specs.declared.message.Reply.TheVariants.{Pass, Failed, Raised, Crashed}
use Rattle.pipe_types.specs.declared.message.Outcome.{Outcome}
use Rattle.pipe_types.specs.declared.message.Outcome.TheVariants.{Failed as FailedOutcome}
use Rattle.pipe_types.specs.declared.message.BatchEnd.{BatchEnd}
use Rattle.pipe_types.specs.declared.message.BatchEnd.TheVariants.{Outcomes, Crashed as CrashedEnd}
use Rattle.pipe_types.specs.declared.message.BatchReply.{BatchReply}
use Rattle.pipe_types.specs.declared.message.BatchReply.TheVariants.{Answered, Raised as RaisedBatch, Crashed as CrashedBatch}
use Rattle.pipe_types.specs.declared.topology.Kind.{Kind}
use Rattle.pipe_types.specs.declared.topology.Kind.TheVariants.{Steps, Lines, Own}
use Rattle.pipe_types.specs.declared.topology.StageSpec.{StageSpec}
use Rattle.pipe_types.specs.Handlers.{answer_of, replies_until, ends_batch, eval, counted, outcome_of, outcome_with, batch_answer, batch_end, batch_text, end_by, reason_of, is_own_end}
use Rattle.pipe_model.specs.Work.{same_outcome, same_outcomes, same_end, is_write_end, failed_by_sink, is_end_by, own_text, before_sink, is_batch_handled}
use Rattle.pipe_laws.proofs.Tests.{and_left, and_right}

-- Built-in handlers

answered_count : (kind : Kind) (earlier : List Reply) (spec : StageSpec) (count : ℕ) (messages : List Message) (outcomes : List Outcome) (text : List ℕ)
    → answer_of kind earlier (replies_until ends_batch spec count messages) ≡ Answered outcomes text → length outcomes ≡ length earlier + length messages
answered_count kind earlier spec count [] outcomes text e = let is : map outcome_of earlier ≡ outcomes = cc in omega (arith, ap length is, length-map earlier outcome_of)
answered_count kind earlier spec count (m ∷ messages) outcomes text e =
    by (eval spec count m) e (λ q f. answered_count kind (earlier ++ q ∷ []) spec (counted count 1) messages outcomes text f)
  where
    by : (r : Reply) → answer_of kind earlier (if ends_batch r then r ∷ [] else r ∷ replies_until ends_batch spec (counted count 1) messages) ≡ Answered outcomes text
        → ((q : Reply) → answer_of kind (earlier ++ q ∷ []) (replies_until ends_batch spec (counted count 1) messages) ≡ Answered outcomes text → length outcomes ≡ length (earlier ++ q ∷ []) + length messages)
        → length outcomes ≡ length earlier + suc (length messages)
    by Crashed f rest = cc
    by (Raised why) f rest = cc
    by (Pass x) f rest = let w = rest (Pass x) f in omega (arith, w, length-append earlier (Pass x ∷ []))
    by (Failed why) f rest = let w = rest (Failed why) f in omega (arith, w, length-append earlier (Failed why ∷ []))

handled_count : (spec : StageSpec) (count : ℕ) (messages : List Message) (outcomes : List Outcome) → batch_end spec count messages ≡ Outcomes outcomes → length outcomes ≡ length messages
handled_count spec count messages outcomes e = by (batch_answer spec count messages) refl e
  where
    by : (r : BatchReply) → batch_answer spec count messages ≡ r → end_by spec.failed messages r ≡ Outcomes outcomes → length outcomes ≡ length messages
    by (Answered os text) f e =
        let is : map (outcome_with spec.failed) os ≡ outcomes = cc in
        let all = answered_count spec.kind [] spec count messages os text f in
        omega (arith, ap length is, length-map os (outcome_with spec.failed), all)
    by (RaisedBatch why) f e =
        let is : map (λ (m : Message). FailedOutcome (reason_of spec.failed why)) messages ≡ outcomes = cc in
        omega (arith, ap length is, length-map messages (λ (m : Message). FailedOutcome (reason_of spec.failed why)))
    by CrashedBatch f e = cc

-- Sinks

same_count : (os ps : List Outcome) → same_outcomes os ps ≡ true → length os ≡ length ps
same_count [] [] h = refl
same_count [] (p ∷ ps) h = cc
same_count (o ∷ os) [] h = cc
same_count (o ∷ os) (p ∷ ps) h = ap suc (same_count os ps (and_right (same_outcome o p) _ h))

sink_count : (os hs : List Outcome) → same_end (Outcomes os) (failed_by_sink (Outcomes hs)) ≡ true → length os ≡ length hs
sink_count [] [] h = refl
sink_count [] (p ∷ ps) h = cc
sink_count (o ∷ os) [] h = cc
sink_count (o ∷ os) (p ∷ ps) h = ap suc (sink_count os ps (and_right _ _ h))

either_count : (a b : Bool) (n m : ℕ) → (a || b) ≡ true → (a ≡ true → n ≡ m) → (b ≡ true → n ≡ m) → n ≡ m
either_count true b n m h f g = f refl
either_count false b n m h f g = g h

write_count : (has_sink : Bool) (handled : BatchEnd) (text : List ℕ) (bytes : ℕ) (os : List Outcome) (n : ℕ) → ((hs : List Outcome) → handled ≡ Outcomes hs → length hs ≡ n)
    → is_write_end has_sink handled text bytes (Outcomes os) ≡ true → length os ≡ n
write_count true CrashedEnd text bytes os n known h = let wrong : false ≡ true = and_right (bytes == 0) false h in cc
write_count false CrashedEnd text bytes os n known h = let wrong : false ≡ true = and_right (bytes == 0) false h in cc
write_count false (Outcomes hs) text bytes os n known h = same_count os hs (and_right (bytes == 0) _ h) ∙ known hs refl
write_count true (Outcomes hs) text bytes os n known h =
    either_count (bytes == length text && same_outcomes os hs) (nat_lt bytes (length text) && same_end (Outcomes os) (failed_by_sink (Outcomes hs))) (length os) n h
    (λ k. same_count os hs (and_right (bytes == length text) _ k) ∙ known hs refl)
    (λ k. sink_count os hs (and_right (nat_lt bytes (length text)) _ k) ∙ known hs refl)

-- A user's own handler

abbrev outcomes_of : BatchEnd → ℕ
outcomes_of (Outcomes os) = length os
outcomes_of CrashedEnd = 0

undone_count : (os : List Outcome) → outcomes_of (before_sink (Outcomes os)) ≡ length os
undone_count [] = refl
undone_count (o ∷ os) = ap suc (undone_count os)

own_count : (messages : List Message) (e : BatchEnd) → is_own_end messages e ≡ true → (outcomes_of e ≡ length messages) ⊎ (e ≡ CrashedEnd)
own_count messages (Outcomes os) h = inl (eqb-true (length os) (length messages) (and_left (length os == length messages) _ h))
own_count messages CrashedEnd h = inr refl

own_outcomes : (messages : List Message) (os : List Outcome) → (outcomes_of (before_sink (Outcomes os)) ≡ length messages) ⊎ (before_sink (Outcomes os) ≡ CrashedEnd) → length os ≡ length messages
own_outcomes messages os (inl same) = sym (undone_count os) ∙ same
own_outcomes messages os (inr wrong) = cc

-- The law

pub ends_count : (o : Option StageSpec) (count : ℕ) (messages : List Message) (bytes : ℕ) (os : List Outcome) → is_batch_handled o count messages bytes (Outcomes os) ≡ true → length os ≡ length messages
ends_count None count messages bytes os h = cc
ends_count (Some spec) count messages bytes os h = by spec.kind h
  where
    by : (kind : Kind) → is_end_by kind (is_some spec.edge) spec count messages bytes (Outcomes os) ≡ true → length os ≡ length messages
    by Steps h = write_count (is_some spec.edge) (batch_end spec count messages) (batch_text spec count messages) bytes os (length messages) (λ hs e. handled_count spec count messages hs e) h
    by Lines h = write_count (is_some spec.edge) (batch_end spec count messages) (batch_text spec count messages) bytes os (length messages) (λ hs e. handled_count spec count messages hs e) h
    by Own h =
        either_count
        (is_own_end messages (Outcomes os) && is_write_end (is_some spec.edge) (Outcomes os) (own_text messages (Outcomes os)) bytes (Outcomes os))
        (is_own_end messages (before_sink (Outcomes os)) && is_write_end (is_some spec.edge) (before_sink (Outcomes os)) (own_text messages (before_sink (Outcomes os))) bytes (Outcomes os))
        (length os) (length messages) h
        (λ k. eqb-true (length os) (length messages) (and_left (length os == length messages) _ (and_left (is_own_end messages (Outcomes os)) _ k)))
        (λ k. own_outcomes messages os (own_count messages (before_sink (Outcomes os)) (and_left (is_own_end messages (before_sink (Outcomes os))) _ k)))
