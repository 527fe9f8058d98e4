-- The line of a step has no end of line in it.
use Rattle.std.proofs.Common.{◌≡◌, ℕ, ◌≤◌, Bool, true, List, [], ◌∷◌, ◌++◌, refl, arith}
use Rattle.std.specs.Prelude.{decimal, codes, nat_le, ◌&&◌, ◌==◌, false}
use Rattle.std.specs.List.{flat_map}
use Rattle.std.proofs.lemmas.Bool.{leb-true}
use Rattle.std.proofs.lemmas.Bool.Decides.{nat_tests}
use Rattle.pipe_types.specs.declared.message.Trigger.{Trigger}
use Rattle.pipe_types.specs.declared.message.Trigger.TheVariants.{Size, Flush, Timeout}
use Rattle.pipe_types.specs.declared.message.Why.{Why}
use Rattle.pipe_types.specs.declared.message.Why.TheVariants.{Crash, Kill as KillWhy, Stop, Cancelled, Limit as LimitWhy}
use Rattle.pipe_types.specs.declared.step.SourceHow.{SourceHow}
use Rattle.pipe_types.specs.declared.step.SourceHow.TheVariants.{End, Fault, TooLong, Limit}
use Rattle.pipe_types.specs.declared.step.DrainCause.{DrainCause}
use Rattle.pipe_types.specs.declared.step.DrainCause.TheVariants.{Sources, Control, Limit as LimitCause, Idle}
use Rattle.pipe_types.specs.declared.step.LateAnswer.{LateAnswer}
use Rattle.pipe_types.specs.declared.step.LateAnswer.TheVariants.{Records, Quiet as LateQuiet, Source, Wrote as LateWrote, Nothing}
use Rattle.pipe_types.specs.declared.step.Step.{Step}
use Rattle.pipe_types.specs.declared.step.Step.TheVariants.{Ask, Fetch, Accept, Quiet, SourceEnd, Dispatch, Take, Done, Gather, Close, Wrote, Child, ChildEnd, Kill, Late, Restart, Tick, Drain, Halt, Refuse}
use Rattle.pipe_types.specs.Numbers.{post}
use Rattle.line_reading.specs.Lines.{Jobs}
use Rattle.line_reading.specs.Spelling.{Each, IsAnswer, IsSpelt}
use Rattle.line_reading.proofs.Spelt.{each_append, each_weaker, Lacks, IsPlain, decimal_plain}
use Rattle.line_reading.proofs.ItemsAgain.{IsFar, IsListed, short_small, number_small, long_small, records_again, replies_again, reply_far, end_again}
use Rattle.line_reading.proofs.Again.{IsSmall}
use Rattle.journal_texts.specs.Words.{number_word, words, list_text, bytes_text}
use Rattle.journal_texts.specs.Steps.{how_word, cause_word, trigger_word, why_word, reply_text, ends_text, answer_text, step_text}

-- no control character
abbrev pub IsVisible : ℕ → Type 0
IsVisible b = 32 ≤ b

abbrev AreVisible : List ℕ → Type 0
AreVisible text = Each IsVisible text

-- ---- texts

abbrev are_visible : List ℕ → Bool
are_visible [] = true
are_visible (b ∷ bs) = nat_le 32 b && are_visible bs

both_parts : (a b : Bool) → (a && b) ≡ true → (a ≡ true) × (b ≡ true)
both_parts true b h = (refl, h)
both_parts false b h = cc

literal : (text : List ℕ) → are_visible text ≡ true → AreVisible text
literal [] h = tt
literal (b ∷ bs) h = let p = both_parts (nat_le 32 b) (are_visible bs) h in (leb-true 32 b p.0, literal bs p.1)

joined : (xs ys : List ℕ) → AreVisible xs → AreVisible ys → AreVisible (xs ++ ys)
joined xs ys p q = each_append IsVisible xs ys p q

far_visible : (text : List ℕ) → Each IsFar text → AreVisible text
far_visible text h = each_weaker IsFar IsVisible (λ b low. omega arith) text h

listed_visible : (text : List ℕ) → Each IsListed text → AreVisible text
listed_visible text h = each_weaker IsListed IsVisible (λ b low. omega arith) text h

decimal_visible : (n : ℕ) → IsSmall n → AreVisible (decimal n)
decimal_visible n small = each_weaker IsPlain IsVisible (λ b p. let low = p.low in omega arith) (decimal n) (decimal_plain n small)

numbers_visible : (ns : List ℕ) → Each IsSmall ns → AreVisible (flat_map number_word ns)
numbers_visible [] h = tt
numbers_visible (n ∷ ns) h = joined (number_word n) (flat_map number_word ns) (omega arith, decimal_visible n h.0) (numbers_visible ns h.1)

pub words_visible : (w ns : List ℕ) → are_visible w ≡ true → Each IsSmall ns → AreVisible (words w ns)
words_visible w ns v h = joined w (flat_map number_word ns) (literal w v) (numbers_visible ns h)

words_and : (w ns tail : List ℕ) → are_visible w ≡ true → Each IsSmall ns → AreVisible tail → AreVisible (words w ns ++ codes " " ++ tail)
words_and w ns tail v h t = joined (words w ns ++ codes " ") tail (joined (words w ns) (codes " ") (words_visible w ns v h) (omega arith, tt)) t

-- ---- words of which there are few

how_visible : (how : SourceHow) → AreVisible (how_word how)
how_visible End = literal (codes "end") refl
how_visible Fault = literal (codes "fault") refl
how_visible TooLong = literal (codes "toolong") refl
how_visible Limit = literal (codes "limit") refl

cause_visible : (cause : DrainCause) → AreVisible (cause_word cause)
cause_visible Sources = literal (codes "sources") refl
cause_visible Control = literal (codes "control") refl
cause_visible LimitCause = literal (codes "limit") refl
cause_visible Idle = literal (codes "idle") refl

trigger_visible : (trigger : Trigger) → AreVisible (trigger_word trigger)
trigger_visible Size = literal (codes "size") refl
trigger_visible Flush = literal (codes "flush") refl
trigger_visible Timeout = literal (codes "timeout") refl

why_visible : (why : Why) → AreVisible (why_word why)
why_visible Crash = literal (codes "crash") refl
why_visible KillWhy = literal (codes "kill") refl
why_visible Stop = literal (codes "stop") refl
why_visible (Cancelled u) = tt
why_visible LimitWhy = tt

-- ---- steps

answer_visible : (answer : LateAnswer) → IsAnswer answer → AreVisible (answer_text answer)
unfolding IsAnswer
answer_visible (Records records) h = joined (codes "records ") (list_text bytes_text records) (literal (codes "records ") refl) (listed_visible _ (records_again records h).listed)
answer_visible LateQuiet h = literal (codes "quiet") refl
answer_visible (Source how) h = joined (codes "source ") (how_word how) (literal (codes "source ") refl) (how_visible how)
answer_visible (LateWrote n end) h = words_and (codes "wrote") (n ∷ []) (ends_text end) refl (long_small n h.0, tt) (listed_visible _ (end_again end h.1).listed)
answer_visible Nothing h = literal (codes "none") refl

step_visible : (jobs : Jobs) (step : Step) → IsSpelt jobs step → AreVisible (step_text step)
unfolding IsSpelt
step_visible jobs (Ask u n) h =
    words_visible (codes "ask") (u.consumer.0 ∷ (u.producer.0 ∷ (u.generation ∷ (n ∷ [])))) refl (short_small _ h.0, (short_small _ h.1, (number_small _ h.2, (number_small _ h.3, tt))))
step_visible jobs (Fetch s n) h = words_visible (codes "fetch") (s.0 ∷ (n ∷ [])) refl (short_small _ h.0, (number_small _ h.1, tt))
step_visible jobs (Accept s records) h = words_and (codes "accept") (s.0 ∷ []) (list_text bytes_text records) refl (short_small _ h.0, tt) (listed_visible _ (records_again records h.1).listed)
step_visible jobs (Quiet s) h = words_visible (codes "quiet") (s.0 ∷ []) refl (short_small _ h, tt)
step_visible jobs (SourceEnd s how) h = words_and (codes "source") (s.0 ∷ []) (how_word how) refl (short_small _ h, tt) (how_visible how)
step_visible jobs (Dispatch s) h = words_visible (codes "dispatch") (s.0 ∷ []) refl (short_small _ h, tt)
step_visible jobs (Take s u k) h =
    words_visible (codes "take") (s.0 ∷ (u.producer.0 ∷ (u.generation ∷ (k ∷ [])))) refl (short_small _ h.0, (short_small _ h.2, (number_small _ h.3, (number_small _ h.4, tt))))
step_visible jobs (Done s replies) h =
    words_and (codes "done") (s.0 ∷ []) (list_text reply_text replies) refl (short_small _ h.0, tt) (listed_visible _ (replies_again (jobs (post s 0)) replies h.1).listed)
step_visible jobs (Gather s m) h = words_visible (codes "gather") (s.0 ∷ (m.0 ∷ [])) refl (short_small _ h.0, (number_small _ h.1, tt))
step_visible jobs (Close s m trigger) h = words_and (codes "close") (s.0 ∷ (m.0 ∷ [])) (trigger_word trigger) refl (short_small _ h.0, (number_small _ h.1, tt)) (trigger_visible trigger)
step_visible jobs (Wrote s n end) h = words_and (codes "wrote") (s.0 ∷ (n ∷ [])) (ends_text end) refl (short_small _ h.0, (long_small _ h.1, tt)) (listed_visible _ (end_again end h.2).listed)
step_visible jobs (Child s m slot) h = words_visible (codes "child") (s.0 ∷ (m.0 ∷ (slot ∷ []))) refl (short_small _ h.0, (number_small _ h.1, (short_small _ h.2, tt)))
step_visible jobs (ChildEnd s slot reply) h =
    words_and (codes "childend") (s.0 ∷ (slot ∷ [])) (reply_text reply) refl (short_small _ h.0, (short_small _ h.1, tt)) (far_visible _ (reply_far (jobs (post s slot) 0) reply h.2))
step_visible jobs (Kill s why) h = words_and (codes "kill") (s.0 ∷ []) (why_word why) refl (short_small _ h.0, tt) (why_visible why)
step_visible jobs (Late s slot i answer) h =
    words_and (codes "late") (s.0 ∷ (slot ∷ (i ∷ []))) (answer_text answer) refl (short_small _ h.0, (short_small _ h.1, (number_small _ h.2, tt))) (answer_visible answer h.3)
step_visible jobs (Restart s) h = words_visible (codes "restart") (s.0 ∷ []) refl (short_small _ h, tt)
step_visible jobs (Tick t) h = words_visible (codes "tick") (t ∷ []) refl (long_small _ h, tt)
step_visible jobs (Drain cause) h = joined (codes "drain ") (cause_word cause) (literal (codes "drain ") refl) (cause_visible cause)
step_visible jobs Halt h = literal (codes "halt") refl
step_visible jobs (Refuse line) h = words_visible (codes "refuse") (line ∷ []) refl (number_small _ h, tt)

-- ---- ends of lines

pub no_line_end : (text : List ℕ) → AreVisible text → Lacks 10 text
no_line_end text h = each_weaker IsVisible (λ b. (b == 10) ≡ false) (λ b low. grind (arith, nat_tests)) text h

pub one_line : (jobs : Jobs) (step : Step) → IsSpelt jobs step → Lacks 10 (step_text step)
one_line jobs step h = no_line_end (step_text step) (step_visible jobs step h)
