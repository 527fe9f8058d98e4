-- A batch, message by message.
use Rattle.std.proofs.Common.{◌≡◌, ℕ, suc, ◌+◌, ◌^◌, ◌<◌, ◌≤◌, true, cond, List, [], ◌∷◌, ◌++◌, length, map, drop, get_or, refl, sym, ap, ◌∙◌, subst, Option, Some, None, arith, append_assoc, append-nil, drop-cons, add-one}
use Rattle.std.specs.Prelude.{unwrap_or, ◌==◌}
use Rattle.std.proofs.lemmas.Bool.{eqb-true}
use Rattle.std.proofs.lemmas.List.{drop_all}
use Rattle.pipe_types.specs.declared.message.Message.{Message}
use Rattle.pipe_types.specs.declared.message.Reply.{Reply}
use Rattle.pipe_types.specs.declared.message.Reply.TheVariants.{Pass as Passed, Failed, Raised, Crashed}
use Rattle.pipe_types.specs.declared.message.Outcome.{Outcome}
use Rattle.pipe_types.specs.declared.message.Outcome.TheVariants.{Successful, Failed as FailedOutcome}
use Rattle.pipe_types.specs.declared.message.BatchReply.{BatchReply}
use Rattle.pipe_types.specs.declared.message.BatchReply.TheVariants.{Answered, Raised as RaisedBatch, Crashed as CrashedBatch}
use Rattle.pipe_types.specs.declared.topology.Kind.{Kind}
use Rattle.pipe_types.specs.declared.topology.Kind.TheVariants.{Steps, Lines, Own}
use Rattle.pipe_types.specs.declared.topology.Rule.{Rule}
use Rattle.pipe_types.specs.declared.topology.StageSpec.{StageSpec}
use Rattle.pipe_types.specs.Handlers.{eval, rules_reply, counted, batch_replies, ends_batch, outcome_of, text_of, passed_lines, answer_of, batch_answer_by, count_after_batch}

-- the answer that a reply which ends a batch makes, where there is one
abbrev pub batch_ender : List Reply → Option BatchReply
batch_ender [] = None
batch_ender (Raised why ∷ replies) = Some (RaisedBatch why)
batch_ender (Crashed ∷ replies) = Some CrashedBatch
batch_ender (Passed m ∷ replies) = batch_ender replies
batch_ender (Failed why ∷ replies) = batch_ender replies

-- what these replies make of a batch
abbrev pub answered : Kind → List Reply → BatchReply
answered kind replies = Answered (map outcome_of replies) (text_of kind replies)

pub answer_of-ender : (kind : Kind) (before replies : List Reply) → answer_of kind before replies ≡ unwrap_or (batch_ender replies) (answered kind (before ++ replies))
answer_of-ender kind before [] = ap (answered kind) (sym (append-nil before))
answer_of-ender kind before (Raised why ∷ replies) = refl
answer_of-ender kind before (Crashed ∷ replies) = refl
answer_of-ender kind before (Passed m ∷ replies) =
    answer_of-ender kind (before ++ Passed m ∷ []) replies ∙ ap (λ all. unwrap_or (batch_ender replies) (answered kind all)) (append_assoc before (Passed m ∷ []) replies)
answer_of-ender kind before (Failed why ∷ replies) =
    answer_of-ender kind (before ++ Failed why ∷ []) replies ∙ ap (λ all. unwrap_or (batch_ender replies) (answered kind all)) (append_assoc before (Failed why ∷ []) replies)

-- one message and then more are one more
counted-more : (count n : ℕ) → counted (counted count 1) n ≡ counted count (suc n)
-- one message and then more are one more
counted-more count n = omega arith

-- the outcomes and the text so far, the messages seen, and what the replies to the rest will add
pub record BatchSoFar (kind : Kind) (spec : StageSpec) (first : ℕ) (messages : List Message) (seen : ℕ) (rest : List Message) (outcomes : List Outcome) (text : List ℕ) : Type 0 where
  pub in_range : seen < 2 ^ 64
  pub outcomes_so_far : outcomes ++ map outcome_of (batch_replies spec seen rest) ≡ map outcome_of (batch_replies spec first messages)
  pub text_so_far : text ++ text_of kind (batch_replies spec seen rest) ≡ text_of kind (batch_replies spec first messages)
  pub ender : batch_ender (batch_replies spec seen rest) ≡ batch_ender (batch_replies spec first messages)
  pub count : counted seen (length (batch_replies spec seen rest)) ≡ count_after_batch spec first messages

-- the reply to the next message before the replies to the rest, unless it ends the batch
abbrev with_next : Reply → List Reply → List Reply
with_next reply replies = cond (ends_batch reply) (reply ∷ []) (reply ∷ replies)

next_reply : (spec : StageSpec) (seen : ℕ) (m : Message) (rest : List Message) (reply : Reply) → reply ≡ eval spec seen m → batch_replies spec seen (m ∷ rest) ≡ with_next reply (batch_replies spec (counted seen 1) rest)
next_reply spec seen m rest reply is = ap (λ r. with_next r (batch_replies spec (counted seen 1) rest)) (sym is)

text_of-passed : (kind : Kind) (p : Message) (replies : List Reply) → text_of kind (Passed p ∷ replies) ≡ text_of kind (Passed p ∷ []) ++ text_of kind replies
text_of-passed Steps p replies = refl
text_of-passed Own p replies = refl
text_of-passed Lines p replies = ap (λ line. line ++ passed_lines replies) (sym (append-nil (p.payload ++ 10 ∷ [])))

text_of-failed : (kind : Kind) (why : List ℕ) (replies : List Reply) → text_of kind (Failed why ∷ replies) ≡ text_of kind replies
text_of-failed Steps why replies = refl
text_of-failed Own why replies = refl
text_of-failed Lines why replies = refl

-- a message that passed
pub one_passed : (kind : Kind) (spec : StageSpec) (first : ℕ) (messages : List Message) (seen : ℕ) (m : Message) (rest : List Message) (outcomes : List Outcome) (text : List ℕ) (p : Message)
    → Passed p ≡ eval spec seen m
    → BatchSoFar kind spec first messages seen (m ∷ rest) outcomes text
    → BatchSoFar kind spec first messages (counted seen 1) rest (outcomes ++ Successful ∷ []) (text ++ text_of kind (Passed p ∷ []))
one_passed kind spec first messages seen m rest outcomes text p is so_far =
    let e = next_reply spec seen m rest (Passed p) is in
    let after = batch_replies spec (counted seen 1) rest in
    record {
      in_range = omega arith;
      outcomes_so_far = append_assoc outcomes (Successful ∷ []) (map outcome_of after) ∙ (ap (λ rs. outcomes ++ map outcome_of rs) (sym e) ∙ so_far.outcomes_so_far);
      text_so_far = append_assoc text (text_of kind (Passed p ∷ [])) (text_of kind after) ∙ (ap (λ t. text ++ t) (sym (text_of-passed kind p after)) ∙ (ap (λ rs. text ++ text_of kind rs) (sym e) ∙ so_far.text_so_far));
      ender = ap batch_ender (sym e) ∙ so_far.ender;
      count = counted-more seen (length after) ∙ (ap (λ rs. counted seen (length rs)) (sym e) ∙ so_far.count);
    }

-- without rules every message passes as it is
pub passes : (spec : StageSpec) (seen : ℕ) (m : Message) → spec.rules ≡ [] → Passed m ≡ eval spec seen m
passes spec seen m none = ap (λ (rules : List Rule). rules_reply (counted seen 1) rules m) (sym none)

pub no_rules : (rules : List Rule) → (length rules == 0) ≡ true → rules ≡ []
no_rules [] h = refl
no_rules (rule ∷ rules) h = let none : suc (length rules) ≡ 0 = eqb-true (suc (length rules)) 0 h in absurd (omega (arith, none))

-- a message that failed
pub one_failed : (kind : Kind) (spec : StageSpec) (first : ℕ) (messages : List Message) (seen : ℕ) (m : Message) (rest : List Message) (outcomes : List Outcome) (text : List ℕ) (why : List ℕ)
    → Failed why ≡ eval spec seen m
    → BatchSoFar kind spec first messages seen (m ∷ rest) outcomes text
    → BatchSoFar kind spec first messages (counted seen 1) rest (outcomes ++ FailedOutcome why ∷ []) text
one_failed kind spec first messages seen m rest outcomes text why is so_far =
    let e = next_reply spec seen m rest (Failed why) is in
    let after = batch_replies spec (counted seen 1) rest in
    record {
      in_range = omega arith;
      outcomes_so_far = append_assoc outcomes (FailedOutcome why ∷ []) (map outcome_of after) ∙ (ap (λ rs. outcomes ++ map outcome_of rs) (sym e) ∙ so_far.outcomes_so_far);
      text_so_far = ap (λ t. text ++ t) (sym (text_of-failed kind why after)) ∙ (ap (λ rs. text ++ text_of kind rs) (sym e) ∙ so_far.text_so_far);
      ender = ap batch_ender (sym e) ∙ so_far.ender;
      count = counted-more seen (length after) ∙ (ap (λ rs. counted seen (length rs)) (sym e) ∙ so_far.count);
    }

-- the same facts of equal values
pub same_so_far : (kind : Kind) (spec : StageSpec) (first : ℕ) (messages : List Message) (seen seen' : ℕ) (rest : List Message) (outcomes outcomes' : List Outcome) (text text' : List ℕ)
    → seen' ≡ seen → outcomes' ≡ outcomes → text' ≡ text
    → BatchSoFar kind spec first messages seen rest outcomes text
    → BatchSoFar kind spec first messages seen' rest outcomes' text'
same_so_far kind spec first messages seen seen' rest outcomes outcomes' text text' e o t so_far = rw (e, o, t) so_far

-- a reply that ends the batch: its answer is the batch's, and its message is the last that was seen
by_ender : (kind : Kind) (spec : StageSpec) (first : ℕ) (messages : List Message) (answer : BatchReply) → Some answer ≡ batch_ender (batch_replies spec first messages) → answer ≡ batch_answer_by kind spec first messages
by_ender kind spec first messages answer is =
    ap (λ o. unwrap_or o (answered kind (batch_replies spec first messages))) is ∙ sym (answer_of-ender kind [] (batch_replies spec first messages))

pub ended_by : (kind : Kind) (spec : StageSpec) (first : ℕ) (messages : List Message) (seen : ℕ) (m : Message) (rest : List Message) (outcomes : List Outcome) (text : List ℕ) (reply : Reply) (answer : BatchReply)
    → ends_batch reply ≡ true
    → batch_ender (reply ∷ []) ≡ Some answer
    → reply ≡ eval spec seen m
    → BatchSoFar kind spec first messages seen (m ∷ rest) outcomes text
    → (answer ≡ batch_answer_by kind spec first messages) × (counted seen 1 ≡ count_after_batch spec first messages)
ended_by kind spec first messages seen m rest outcomes text reply answer ends makes is so_far =
    let last : batch_replies spec seen (m ∷ rest) ≡ reply ∷ [] =
    next_reply spec seen m rest reply is ∙ ap (λ b. cond b (reply ∷ []) (reply ∷ batch_replies spec (counted seen 1) rest)) ends in (
      by_ender kind spec first messages answer (sym makes ∙ (ap batch_ender (sym last) ∙ so_far.ender)),
      ap (λ rs. counted seen (length rs)) (sym last) ∙ so_far.count,
    )

-- the next message stands before the rest
pub next_message : (kind : Kind) (spec : StageSpec) (first : ℕ) (messages : List Message) (m : Message) (i : ℕ) (seen : ℕ) (outcomes : List Outcome) (text : List ℕ)
    → i < length messages → m ≡ get_or messages i m
    → BatchSoFar kind spec first messages seen (drop i messages) outcomes text
    → BatchSoFar kind spec first messages seen (m ∷ drop (i + 1) messages) outcomes text
next_message kind spec first messages m i seen outcomes text below is so_far =
    let e : drop i messages ≡ m ∷ drop (i + 1) messages = rw add-one (drop-cons messages i m below ∙ ap (λ x. x ∷ drop (suc i) messages) (sym is)) in
    subst (λ rest. BatchSoFar kind spec first messages seen rest outcomes text) e so_far

-- every message was seen
pub all_seen : (kind : Kind) (spec : StageSpec) (first : ℕ) (messages : List Message) (seen : ℕ) (outcomes : List Outcome) (text : List ℕ)
    → (i : ℕ) → length messages ≤ i
    → BatchSoFar kind spec first messages seen (drop i messages) outcomes text
    → (Answered outcomes text ≡ batch_answer_by kind spec first messages) × (seen ≡ count_after_batch spec first messages)
all_seen kind spec first messages seen outcomes text i past some_left =
    let so_far = subst (λ rest. BatchSoFar kind spec first messages seen rest outcomes text) (drop_all i messages past) some_left in
    let in_range : seen < 2 ^ 64 = so_far.in_range in
    let still : seen ≡ counted seen 0 = omega arith in
    let whole = batch_replies spec first messages in
    let same : Answered outcomes text ≡ answered kind whole =
    ap (λ os. Answered os text) (sym (append-nil outcomes) ∙ so_far.outcomes_so_far) ∙ ap (λ t. Answered (map outcome_of whole) t) (text_now so_far.text_so_far) in
    (same ∙ (ap (λ o. unwrap_or o (answered kind whole)) so_far.ender ∙ sym (answer_of-ender kind [] whole)), still ∙ so_far.count)
  where
    text_now : text ++ text_of kind [] ≡ text_of kind (batch_replies spec first messages) → text ≡ text_of kind (batch_replies spec first messages)
    text_now h = elim kind as (λ k. text ++ text_of k [] ≡ text_of k (batch_replies spec first messages) → text ≡ text_of k (batch_replies spec first messages)) [
      | Steps ↦ λ h. sym (append-nil text) ∙ h
      | Lines ↦ λ h. sym (append-nil text) ∙ h
      | Own ↦ λ h. sym (append-nil text) ∙ h
    ] h
