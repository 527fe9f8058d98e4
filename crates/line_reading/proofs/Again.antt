-- The line of a step is read as that step.
use Rattle.std.proofs.Common.{◌≡◌, ℕ, ◌^◌, ◌<◌, List, [], ◌∷◌, ◌++◌, map, Result, Ok, refl, ap, ◌∙◌, append_assoc, lit<}
use Rattle.std.specs.Prelude.{decimal, codes}
use Rattle.std.specs.List.{flat_map, slice_split}
use Rattle.std.proofs.lemmas.List.{append-nil}
use Rattle.pipe_types.specs.declared.numbers.StageNo.{StageNo}
use Rattle.pipe_types.specs.declared.message.BatchEnd.{BatchEnd}
use Rattle.pipe_types.specs.declared.message.Trigger.{Trigger}
use Rattle.pipe_types.specs.declared.message.Trigger.TheVariants.{Size, Flush, Timeout}
use Rattle.pipe_types.specs.declared.message.Why.{Why}
use Rattle.pipe_types.specs.declared.message.Why.TheVariants.{Kill as KillWhy, Cancelled, Limit as LimitWhy}
use Rattle.pipe_types.specs.declared.step.SourceHow.{SourceHow}
use Rattle.pipe_types.specs.declared.step.SourceHow.TheVariants.{End, Limit}
use Rattle.pipe_types.specs.declared.step.DrainCause.{DrainCause}
use Rattle.pipe_types.specs.declared.step.DrainCause.TheVariants.{Sources}
use Rattle.pipe_types.specs.declared.step.LateAnswer.{LateAnswer}
use Rattle.pipe_types.specs.declared.step.LateAnswer.TheVariants.{Records, Quiet as LateQuiet, Source, Wrote as LateWrote, Nothing}
use Rattle.pipe_types.specs.declared.step.Step.{Step}
use Rattle.pipe_types.specs.declared.step.Step.TheVariants.{Ask, Fetch, Accept, Quiet, SourceEnd, Dispatch, Take, Done, Gather, Close, Wrote, Child, ChildEnd, Kill, Late, Restart, Tick, Drain, Halt, Refuse}
use Rattle.pipe_types.specs.Numbers.{post}
use Rattle.line_reading.specs.declared.fault.Fault.{Fault}
use Rattle.line_reading.specs.declared.fault.Fault.TheVariants.{Word}
use Rattle.line_reading.specs.Reading.{◌>>=◌, is_at}
use Rattle.line_reading.specs.Lines.{Jobs, how_in, cause_in, trigger_in, why_in, ends_in, by_first, ask_in, fetch_in, accept_in, of_stage, source_in, take_in, done_in, gather_in, close_in, wrote_in, child_in, child_end_in, kill_in, late_by, late_in, tick_in, refuse_in, rows, rows_of_numbers, rows_of_one, rows_of_words, rows_of_lists, step_in}
use Rattle.line_reading.specs.Spelling.{Each, IsStage, IsShort, IsNumber, IsKillWhy, IsAnswer, IsSpelt}
use Rattle.journal_texts.specs.Words.{bytes_text, list_text, number_word, words}
use Rattle.journal_texts.specs.Steps.{step_text, reply_text, ends_text, answer_text, how_word, cause_word, trigger_word, why_word}
use Rattle.line_reading.proofs.Spelt.{Lacks, lacks, split_none, split_at, decimal_plain}
use Rattle.line_reading.proofs.ItemsAgain.{short_small, number_small, long_small, short_again, number_fits, long_again, stage_again, plain_lacks, far_words, records_again, reply_again, reply_far, replies_again, end_again}

-- ---- words

abbrev pub IsSmall : ℕ → Type 0
IsSmall n = n < 2 ^ 64

-- the words of a line that is a word and numbers
split_words : (w : List ℕ) (ns : List ℕ) → Lacks 32 w → Each IsSmall ns → slice_split (is_at 32) (words w ns) ≡ w ∷ map decimal ns
split_words w [] h k = rw append-nil (split_none 32 w h)
split_words w (n ∷ ns) h k =
    let more = split_words (decimal n) ns (plain_lacks 32 (lit< tt) (decimal n) (decimal_plain n k.0)) k.1 in
    split_at 32 w (decimal n ++ flat_map number_word ns) h ∙ ap (λ (ws : List (List ℕ)). w ∷ ws) more

-- and of one that goes on
split_words_and : (w : List ℕ) (ns : List ℕ) (rest : List ℕ) → Lacks 32 w → Each IsSmall ns
    → slice_split (is_at 32) (words w ns ++ (32 ∷ rest)) ≡ (w ∷ map decimal ns) ++ slice_split (is_at 32) rest
split_words_and w [] rest h k = rw append-nil (split_at 32 w rest h)
split_words_and w (n ∷ ns) rest h k =
    let more = split_words_and (decimal n) ns rest (plain_lacks 32 (lit< tt) (decimal n) (decimal_plain n k.0)) k.1 in
    rw append_assoc (split_at 32 w ((decimal n ++ flat_map number_word ns) ++ (32 ∷ rest)) h ∙ ap (λ (ws : List (List ℕ)). w ∷ ws) more)

-- a line of numbers, by the reading of its row
by_words : (jobs : Jobs) (w ns : List ℕ) (read : List (List ℕ) → Result Step Fault) (step : Step) → Lacks 32 w → Each IsSmall ns
    → ((ws : List (List ℕ)) → by_first Word (rows jobs) (w ∷ ws) ≡ read ws) → read (map decimal ns) ≡ Ok step → step_in jobs (words w ns) ≡ Ok step
by_words jobs w ns read step h k row e = ap (by_first Word (rows jobs)) (split_words w ns h k) ∙ (row (map decimal ns) ∙ e)

-- and of one that goes on with these words
by_words_and : (jobs : Jobs) (w ns tail : List ℕ) (tails : List (List ℕ)) (read : List (List ℕ) → Result Step Fault) (step : Step) → Lacks 32 w → Each IsSmall ns
    → slice_split (is_at 32) tail ≡ tails → ((ws : List (List ℕ)) → by_first Word (rows jobs) (w ∷ ws) ≡ read ws) → read (map decimal ns ++ tails) ≡ Ok step
    → step_in jobs (words w ns ++ codes " " ++ tail) ≡ Ok step
by_words_and jobs w ns tail tails read step h k t row e =
    ap (step_in jobs) (append_assoc (words w ns) (codes " ") tail)
    ∙ (ap (by_first Word (rows jobs)) (split_words_and w ns tail h k ∙ ap (λ (ws : List (List ℕ)). (w ∷ map decimal ns) ++ ws) t) ∙ (row (map decimal ns ++ tails) ∙ e))

-- ---- words of which there are few

how_again : (how : SourceHow) → (how_in (how_word how) ≡ Ok how) × (slice_split (is_at 32) (how_word how) ≡ how_word how ∷ [])
how_again End = (refl, refl)
how_again _ = (refl, refl)

cause_again : (cause : DrainCause) → (cause_in (cause_word cause) ≡ Ok cause) × (slice_split (is_at 32) (cause_word cause) ≡ cause_word cause ∷ [])
cause_again Sources = (refl, refl)
cause_again _ = (refl, refl)

trigger_again : (trigger : Trigger) → (trigger_in (trigger_word trigger) ≡ Ok trigger) × (slice_split (is_at 32) (trigger_word trigger) ≡ trigger_word trigger ∷ [])
trigger_again Size = (refl, refl)
trigger_again Flush = (refl, refl)
trigger_again Timeout = (refl, refl)

why_again : (why : Why) → IsKillWhy why → (why_in (why_word why) ≡ Ok why) × (slice_split (is_at 32) (why_word why) ≡ why_word why ∷ [])
unfolding IsKillWhy
why_again (Cancelled u) h = absurd h
why_again LimitWhy h = absurd h
why_again _ h = (refl, refl)

-- ---- late answers

-- the words of a late answer
abbrev answer_words : LateAnswer → List (List ℕ)
answer_words (Records records) = codes "records" ∷ (list_text bytes_text records ∷ [])
answer_words LateQuiet = codes "quiet" ∷ []
answer_words (Source how) = codes "source" ∷ (how_word how ∷ [])
answer_words (LateWrote n end) = codes "wrote" ∷ (decimal n ∷ (ends_text end ∷ []))
answer_words Nothing = codes "none" ∷ []

answer_split : (answer : LateAnswer) → IsAnswer answer → slice_split (is_at 32) (answer_text answer) ≡ answer_words answer
unfolding IsAnswer
answer_split (Records records) h =
    split_at 32 (codes "records") (list_text bytes_text records) (lacks 32 (codes "records") refl) ∙ ap (λ (ws : List (List ℕ)). codes "records" ∷ ws) (records_again records h).word
answer_split LateQuiet h = refl
answer_split (Source how) h = split_at 32 (codes "source") (how_word how) (lacks 32 (codes "source") refl) ∙ ap (λ (ws : List (List ℕ)). codes "source" ∷ ws) (how_again how).1
answer_split (LateWrote n end) h =
    ap (slice_split (is_at 32)) (append_assoc (words (codes "wrote") (n ∷ [])) (codes " ") (ends_text end))
    ∙ (split_words_and (codes "wrote") (n ∷ []) (ends_text end) (lacks 32 (codes "wrote") refl) (long_small n h.0, tt)
    ∙ ap (λ (ws : List (List ℕ)). codes "wrote" ∷ (decimal n ∷ ws)) (end_again end h.1).word)
answer_split Nothing h = refl

late_numbers : (s : StageNo) (slot i : ℕ) (answer : LateAnswer) → IsStage s → IsShort slot → IsNumber i → late_by (decimal s.0) (decimal slot) (decimal i) (Ok answer) ≡ Ok (Late s slot i answer)
late_numbers s slot i answer a b c = rw (stage_again s a, short_again slot b, number_fits i c) refl

late_row : (s : StageNo) (slot i : ℕ) (answer : LateAnswer) → IsStage s → IsShort slot → IsNumber i → IsAnswer answer
    → late_in (decimal s.0 ∷ (decimal slot ∷ (decimal i ∷ answer_words answer))) ≡ Ok (Late s slot i answer)
unfolding IsAnswer
late_row s slot i (Records records) a b c h =
    ap (λ (r : Result (List (List ℕ)) Fault). late_by (decimal s.0) (decimal slot) (decimal i) (r >>= λ records. Ok (Records records))) (records_again records h).again
    ∙ late_numbers s slot i (Records records) a b c
late_row s slot i LateQuiet a b c h = late_numbers s slot i LateQuiet a b c
late_row s slot i (Source how) a b c h =
    ap (λ (r : Result SourceHow Fault). r >>= λ how. late_by (decimal s.0) (decimal slot) (decimal i) (Ok (Source how))) (how_again how).0 ∙ late_numbers s slot i (Source how) a b c
late_row s slot i (LateWrote n end) a b c h =
    ap (λ (r : Result ℕ Fault). late_by (decimal s.0) (decimal slot) (decimal i) (r >>= λ n. ends_in (ends_text end) >>= λ ends. Ok (LateWrote n ends))) (long_again n h.0)
    ∙ (ap (λ (r : Result BatchEnd Fault). late_by (decimal s.0) (decimal slot) (decimal i) (r >>= λ ends. Ok (LateWrote n ends))) (end_again end h.1).again
    ∙ late_numbers s slot i (LateWrote n end) a b c)
late_row s slot i Nothing a b c h = late_numbers s slot i Nothing a b c

-- ---- steps

pub step_again : (jobs : Jobs) (step : Step) → IsSpelt jobs step → step_in jobs (step_text step) ≡ Ok step
unfolding IsSpelt rows rows_of_numbers rows_of_one rows_of_words rows_of_lists
step_again jobs (Ask u n) h =
    by_words jobs (codes "ask") (u.consumer.0 ∷ (u.producer.0 ∷ (u.generation ∷ (n ∷ [])))) ask_in (Ask u n) (lacks 32 (codes "ask") refl)
    (short_small _ h.0, (short_small _ h.1, (number_small _ h.2, (number_small _ h.3, tt)))) (λ ws. refl)
    (rw (stage_again u.consumer h.0, stage_again u.producer h.1, number_fits u.generation h.2, number_fits n h.3) refl)
step_again jobs (Fetch s n) h =
    by_words jobs (codes "fetch") (s.0 ∷ (n ∷ [])) fetch_in (Fetch s n) (lacks 32 (codes "fetch") refl) (short_small _ h.0, (number_small _ h.1, tt)) (λ ws. refl)
    (rw (stage_again s h.0, number_fits n h.1) refl)
step_again jobs (Accept s records) h =
    let r = records_again records h.1 in
    by_words_and jobs (codes "accept") (s.0 ∷ []) (list_text bytes_text records) (list_text bytes_text records ∷ []) accept_in (Accept s records) (lacks 32 (codes "accept") refl)
    (short_small _ h.0, tt) r.word (λ ws. refl) (rw (stage_again s h.0, r.again) refl)
step_again jobs (Quiet s) h =
    by_words jobs (codes "quiet") (s.0 ∷ []) (of_stage Quiet) (Quiet s) (lacks 32 (codes "quiet") refl) (short_small _ h, tt) (λ ws. refl) (rw (stage_again s h) refl)
step_again jobs (SourceEnd s how) h =
    by_words_and jobs (codes "source") (s.0 ∷ []) (how_word how) (how_word how ∷ []) source_in (SourceEnd s how) (lacks 32 (codes "source") refl) (short_small _ h, tt) (how_again how).1 (λ ws. refl)
    (rw ((how_again how).0, stage_again s h) refl)
step_again jobs (Dispatch s) h =
    by_words jobs (codes "dispatch") (s.0 ∷ []) (of_stage Dispatch) (Dispatch s) (lacks 32 (codes "dispatch") refl) (short_small _ h, tt) (λ ws. refl) (rw (stage_again s h) refl)
step_again jobs (Take s u k) h =
    let c : IsStage u.consumer = rw h.1 h.0 in
    rw (← h.1) (
    by_words jobs (codes "take") (u.consumer.0 ∷ (u.producer.0 ∷ (u.generation ∷ (k ∷ [])))) take_in (Take u.consumer u k) (lacks 32 (codes "take") refl)
    (short_small u.consumer.0 c, (short_small _ h.2, (number_small _ h.3, (number_small _ h.4, tt)))) (λ ws. refl)
    (rw (stage_again u.consumer c, stage_again u.producer h.2, number_fits u.generation h.3, number_fits k h.4) refl)
    )
step_again jobs (Done s replies) h =
    let r = replies_again (jobs (post s 0)) replies h.1 in
    by_words_and jobs (codes "done") (s.0 ∷ []) (list_text reply_text replies) (list_text reply_text replies ∷ []) (done_in jobs) (Done s replies) (lacks 32 (codes "done") refl)
    (short_small _ h.0, tt) r.word (λ ws. refl) (rw (stage_again s h.0, r.again) refl)
step_again jobs (Gather s m) h =
    by_words jobs (codes "gather") (s.0 ∷ (m.0 ∷ [])) gather_in (Gather s m) (lacks 32 (codes "gather") refl) (short_small _ h.0, (number_small _ h.1, tt)) (λ ws. refl)
    (rw (stage_again s h.0, number_fits m.0 h.1) refl)
step_again jobs (Close s m trigger) h =
    by_words_and jobs (codes "close") (s.0 ∷ (m.0 ∷ [])) (trigger_word trigger) (trigger_word trigger ∷ []) close_in (Close s m trigger) (lacks 32 (codes "close") refl)
    (short_small _ h.0, (number_small _ h.1, tt)) (trigger_again trigger).1 (λ ws. refl) (rw ((trigger_again trigger).0, stage_again s h.0, number_fits m.0 h.1) refl)
step_again jobs (Wrote s n end) h =
    let r = end_again end h.2 in
    by_words_and jobs (codes "wrote") (s.0 ∷ (n ∷ [])) (ends_text end) (ends_text end ∷ []) wrote_in (Wrote s n end) (lacks 32 (codes "wrote") refl)
    (short_small _ h.0, (long_small _ h.1, tt)) r.word (λ ws. refl) (rw (stage_again s h.0, long_again n h.1, r.again) refl)
step_again jobs (Child s m slot) h =
    by_words jobs (codes "child") (s.0 ∷ (m.0 ∷ (slot ∷ []))) child_in (Child s m slot) (lacks 32 (codes "child") refl) (short_small _ h.0, (number_small _ h.1, (short_small _ h.2, tt))) (λ ws. refl)
    (rw (stage_again s h.0, number_fits m.0 h.1, short_again slot h.2) refl)
step_again jobs (ChildEnd s slot reply) h =
    by_words_and jobs (codes "childend") (s.0 ∷ (slot ∷ [])) (reply_text reply) (reply_text reply ∷ []) (child_end_in jobs) (ChildEnd s slot reply) (lacks 32 (codes "childend") refl)
    (short_small _ h.0, (short_small _ h.1, tt)) (far_words (reply_text reply) (reply_far (jobs (post s slot) 0) reply h.2)) (λ ws. refl)
    (rw (stage_again s h.0, short_again slot h.1, reply_again (jobs (post s slot) 0) reply h.2) refl)
step_again jobs (Kill s why) h =
    let r = why_again why h.1 in
    by_words_and jobs (codes "kill") (s.0 ∷ []) (why_word why) (why_word why ∷ []) kill_in (Kill s why) (lacks 32 (codes "kill") refl) (short_small _ h.0, tt) r.1 (λ ws. refl)
    (rw (r.0, stage_again s h.0) refl)
step_again jobs (Late s slot i answer) h =
    by_words_and jobs (codes "late") (s.0 ∷ (slot ∷ (i ∷ []))) (answer_text answer) (answer_words answer) late_in (Late s slot i answer) (lacks 32 (codes "late") refl)
    (short_small _ h.0, (short_small _ h.1, (number_small _ h.2, tt))) (answer_split answer h.3) (λ ws. refl) (late_row s slot i answer h.0 h.1 h.2 h.3)
step_again jobs (Restart s) h =
    by_words jobs (codes "restart") (s.0 ∷ []) (of_stage Restart) (Restart s) (lacks 32 (codes "restart") refl) (short_small _ h, tt) (λ ws. refl) (rw (stage_again s h) refl)
step_again jobs (Tick t) h = by_words jobs (codes "tick") (t ∷ []) tick_in (Tick t) (lacks 32 (codes "tick") refl) (long_small _ h, tt) (λ ws. refl) (rw (long_again t h) refl)
step_again jobs (Drain cause) h =
    ap (by_first Word (rows jobs)) (split_at 32 (codes "drain") (cause_word cause) (lacks 32 (codes "drain") refl) ∙ ap (λ (ws : List (List ℕ)). codes "drain" ∷ ws) (cause_again cause).1)
    ∙ (rw ((cause_again cause).0) refl)
step_again jobs Halt h = refl
step_again jobs (Refuse line) h = by_words jobs (codes "refuse") (line ∷ []) refuse_in (Refuse line) (lacks 32 (codes "refuse") refl) (number_small _ h, tt) (λ ws. refl) (rw (number_fits line h) refl)
