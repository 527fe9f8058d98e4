-- A line that is read as a step is the line of that step.
use Rattle.std.proofs.Common.{◌≡◌, ℕ, List, [], ◌∷◌, ◌++◌, map, Result, Ok, refl, sym, ap, ◌∙◌}
use Rattle.std.specs.Prelude.{decimal, codes}
use Rattle.std.specs.List.{join_with_byte}
use Rattle.pipe_types.specs.declared.numbers.StageNo.{StageNo}
use Rattle.pipe_types.specs.declared.message.Trigger.{Trigger}
use Rattle.pipe_types.specs.declared.message.Trigger.TheVariants.{Size, Flush, Timeout}
use Rattle.pipe_types.specs.declared.message.Why.{Why}
use Rattle.pipe_types.specs.declared.message.Why.TheVariants.{Crash, Kill as KillWhy, Stop}
use Rattle.pipe_types.specs.declared.step.SourceHow.{SourceHow}
use Rattle.pipe_types.specs.declared.step.SourceHow.TheVariants.{End, Fault as FaultHow, TooLong, Limit}
use Rattle.pipe_types.specs.declared.step.DrainCause.{DrainCause}
use Rattle.pipe_types.specs.declared.step.DrainCause.TheVariants.{Sources, Control, Limit as LimitCause, Idle}
use Rattle.pipe_types.specs.declared.step.LateAnswer.{LateAnswer}
use Rattle.pipe_types.specs.declared.step.LateAnswer.TheVariants.{Records, Quiet as LateQuiet, Source, Wrote as LateWrote, Nothing}
use Rattle.pipe_types.specs.declared.step.Step.{Step}
use Rattle.pipe_types.specs.declared.step.Step.TheVariants.{Ask, Fetch, Accept, Quiet, SourceEnd, Dispatch, Take, Done, Gather, Close, Wrote, Child, ChildEnd, Kill, Late, Restart, Tick, Drain, Halt, Refuse}
use Rattle.pipe_types.specs.Numbers.{message_no, subscription, post}
use Rattle.line_reading.specs.declared.fault.Fault.{Fault}
use Rattle.line_reading.specs.declared.fault.Fault.TheVariants.{Word}
use Rattle.line_reading.specs.Reading.{◌>>=◌}
use Rattle.line_reading.specs.Lines.{Row, Jobs, short_number, number, long_number, stage_in, how_in, cause_in, trigger_in, why_in, list_in, record_in, reply_in, reply_at, ends_in, ask_in, fetch_in, accept_in, of_stage, source_in, take_in, done_in, gather_in, close_in, wrote_in, child_in, child_end_in, kill_in, late_by, late_records_in, late_alone_in, late_source_in, late_wrote_in, late_rows, late_in, tick_in, drain_in, halt_in, refuse_in, rows, rows_of_numbers, rows_of_one, rows_of_words, rows_of_lists, step_in}
use Rattle.line_reading.specs.Spelling.{IsShort, IsNumber, IsStage, IsKillWhy, IsAnswer, IsSpelt}
use Rattle.journal_texts.specs.Words.{bytes_text, list_text, words}
use Rattle.journal_texts.specs.Steps.{step_text, how_word, cause_word, trigger_word, why_word, reply_text, ends_text, answer_text}
use Rattle.line_reading.proofs.Spelt.{bind_ok, ok_is}
use Rattle.line_reading.proofs.Chains.{one, two, three, four, word_spelt, SpellsIn, Spells, rows_spell, text_spells, moved, cons_is, join_words, join_words_and}
use Rattle.line_reading.proofs.ItemsSpelt.{short_spelt, word_spelt32, long_spelt, stage_spelt, records_spelt, reply_spelt, replies_spelt, end_spelt}

-- ---- words of which there are few

how_spelt : (w : List ℕ) (how : SourceHow) → how_in w ≡ Ok how → w ≡ how_word how
how_spelt w how e =
    word_spelt (λ w how. w ≡ how_word how) Word ((codes "end", End) ∷ ((codes "fault", FaultHow) ∷ ((codes "toolong", TooLong) ∷ ((codes "limit", Limit) ∷ [])))) (refl, (refl, (refl, (refl, tt)))) w how e

cause_spelt : (w : List ℕ) (cause : DrainCause) → cause_in w ≡ Ok cause → w ≡ cause_word cause
cause_spelt w cause e =
    word_spelt (λ w cause. w ≡ cause_word cause) Word ((codes "sources", Sources) ∷ ((codes "control", Control) ∷ ((codes "limit", LimitCause) ∷ ((codes "idle", Idle) ∷ [])))) (refl, (refl, (refl, (refl, tt)))) w cause e

trigger_spelt : (w : List ℕ) (trigger : Trigger) → trigger_in w ≡ Ok trigger → w ≡ trigger_word trigger
trigger_spelt w trigger e =
    word_spelt (λ w trigger. w ≡ trigger_word trigger) Word ((codes "size", Size) ∷ ((codes "flush", Flush) ∷ ((codes "timeout", Timeout) ∷ []))) (refl, (refl, (refl, tt))) w trigger e

why_spelt : (w : List ℕ) (why : Why) → why_in w ≡ Ok why → (w ≡ why_word why) × IsKillWhy why
unfolding IsKillWhy
why_spelt w why e =
    word_spelt (λ w why. (w ≡ why_word why) × IsKillWhy why) Word ((codes "crash", Crash) ∷ ((codes "kill", KillWhy) ∷ ((codes "stop", Stop) ∷ []))) ((refl, tt), ((refl, tt), ((refl, tt), tt))) w why e

-- ---- lines

-- a line of this word and numbers
numbers_line : (w : List ℕ) (ws : List (List ℕ)) (ns : List ℕ) → ws ≡ map decimal ns → join_with_byte 32 (w ∷ ws) ≡ words w ns
numbers_line w ws ns e = ap (λ (vs : List (List ℕ)). join_with_byte 32 (w ∷ vs)) e ∙ join_words w ns

-- and one more word
tail_line : (w : List ℕ) (ws : List (List ℕ)) (ns : List ℕ) (tail : List ℕ) → ws ≡ map decimal ns ++ (tail ∷ []) → join_with_byte 32 (w ∷ ws) ≡ words w ns ++ codes " " ++ tail
tail_line w ws ns tail e = ap (λ (vs : List (List ℕ)). join_with_byte 32 (w ∷ vs)) e ∙ join_words_and w ns tail []

abbrev LineSpells : Jobs → Row Step → Type 0
LineSpells jobs = Spells 32 step_text (IsSpelt jobs)

ask_spells : (jobs : Jobs) → LineSpells jobs (codes "ask", ask_in)
unfolding IsSpelt
ask_spells jobs (c ∷ p ∷ g ∷ n ∷ []) step e =
    let r = four (stage_in c) (stage_in p) (number g) (number n) (λ c p g n. Ask (subscription c p g) n) step e in
    let x = stage_spelt c r.a r.a_is in
    let y = stage_spelt p r.b r.b_is in
    let z = word_spelt32 g r.c r.c_is in
    let v = word_spelt32 n r.d r.d_is in
    moved (join_with_byte 32 (codes "ask" ∷ (c ∷ (p ∷ (g ∷ (n ∷ [])))))) step_text (IsSpelt jobs) (Ask (subscription r.a r.b r.c) r.d) step r.all
    (numbers_line (codes "ask") (c ∷ (p ∷ (g ∷ (n ∷ [])))) (r.a.0 ∷ (r.b.0 ∷ (r.c ∷ (r.d ∷ []))))
    (cons_is _ _ _ _ x.0 (cons_is _ _ _ _ y.0 (cons_is _ _ _ _ z.0 (cons_is _ _ _ _ v.0 refl)))))
    (x.1, y.1, z.1, v.1)
ask_spells jobs ws step e = absurd cc

fetch_spells : (jobs : Jobs) → LineSpells jobs (codes "fetch", fetch_in)
unfolding IsSpelt
fetch_spells jobs (s ∷ n ∷ []) step e =
    let r = two (stage_in s) (number n) Fetch step e in
    let x = stage_spelt s r.a r.a_is in
    let y = word_spelt32 n r.b r.b_is in
    moved (join_with_byte 32 (codes "fetch" ∷ (s ∷ (n ∷ [])))) step_text (IsSpelt jobs) (Fetch r.a r.b) step r.all
    (numbers_line (codes "fetch") (s ∷ (n ∷ [])) (r.a.0 ∷ (r.b ∷ [])) (cons_is _ _ _ _ x.0 (cons_is _ _ _ _ y.0 refl))) (x.1, y.1)
fetch_spells jobs ws step e = absurd cc

take_spells : (jobs : Jobs) → LineSpells jobs (codes "take", take_in)
unfolding IsSpelt
take_spells jobs (s ∷ p ∷ g ∷ k ∷ []) step e =
    let r = four (stage_in s) (stage_in p) (number g) (number k) (λ s p g k. Take s (subscription s p g) k) step e in
    let x = stage_spelt s r.a r.a_is in
    let y = stage_spelt p r.b r.b_is in
    let z = word_spelt32 g r.c r.c_is in
    let v = word_spelt32 k r.d r.d_is in
    moved (join_with_byte 32 (codes "take" ∷ (s ∷ (p ∷ (g ∷ (k ∷ [])))))) step_text (IsSpelt jobs) (Take r.a (subscription r.a r.b r.c) r.d) step r.all
    (numbers_line (codes "take") (s ∷ (p ∷ (g ∷ (k ∷ [])))) (r.a.0 ∷ (r.b.0 ∷ (r.c ∷ (r.d ∷ []))))
    (cons_is _ _ _ _ x.0 (cons_is _ _ _ _ y.0 (cons_is _ _ _ _ z.0 (cons_is _ _ _ _ v.0 refl)))))
    (x.1, refl, y.1, z.1, v.1)
take_spells jobs ws step e = absurd cc

gather_spells : (jobs : Jobs) → LineSpells jobs (codes "gather", gather_in)
unfolding IsSpelt
gather_spells jobs (s ∷ m ∷ []) step e =
    let r = two (stage_in s) (number m) (λ s m. Gather s (message_no m)) step e in
    let x = stage_spelt s r.a r.a_is in
    let y = word_spelt32 m r.b r.b_is in
    moved (join_with_byte 32 (codes "gather" ∷ (s ∷ (m ∷ [])))) step_text (IsSpelt jobs) (Gather r.a (message_no r.b)) step r.all
    (numbers_line (codes "gather") (s ∷ (m ∷ [])) (r.a.0 ∷ (r.b ∷ [])) (cons_is _ _ _ _ x.0 (cons_is _ _ _ _ y.0 refl))) (x.1, y.1)
gather_spells jobs ws step e = absurd cc

child_spells : (jobs : Jobs) → LineSpells jobs (codes "child", child_in)
unfolding IsSpelt
child_spells jobs (s ∷ m ∷ slot ∷ []) step e =
    let r = three (stage_in s) (number m) (short_number slot) (λ s m slot. Child s (message_no m) slot) step e in
    let x = stage_spelt s r.a r.a_is in
    let y = word_spelt32 m r.b r.b_is in
    let z = short_spelt slot r.c r.c_is in
    moved (join_with_byte 32 (codes "child" ∷ (s ∷ (m ∷ (slot ∷ []))))) step_text (IsSpelt jobs) (Child r.a (message_no r.b) r.c) step r.all
    (numbers_line (codes "child") (s ∷ (m ∷ (slot ∷ []))) (r.a.0 ∷ (r.b ∷ (r.c ∷ []))) (cons_is _ _ _ _ x.0 (cons_is _ _ _ _ y.0 (cons_is _ _ _ _ z.0 refl)))) (x.1, y.1, z.1)
child_spells jobs ws step e = absurd cc

-- the line of a stage alone
stage_spells : (jobs : Jobs) (w : List ℕ) (of : StageNo → Step) → ((s : StageNo) → step_text (of s) ≡ words w (s.0 ∷ [])) → ((s : StageNo) → IsStage s → IsSpelt jobs (of s)) → LineSpells jobs (w, of_stage of)
stage_spells jobs w of written fact (s ∷ []) step e =
    let r = one (stage_in s) of step e in
    let x = stage_spelt s r.a r.a_is in
    moved (join_with_byte 32 (w ∷ (s ∷ []))) step_text (IsSpelt jobs) (of r.a) step r.all (numbers_line w (s ∷ []) (r.a.0 ∷ []) (cons_is _ _ _ _ x.0 refl) ∙ sym (written r.a)) (fact r.a x.1)
stage_spells jobs w of written fact ws step e = absurd cc

tick_spells : (jobs : Jobs) → LineSpells jobs (codes "tick", tick_in)
unfolding IsSpelt
tick_spells jobs (t ∷ []) step e =
    let r = one (long_number t) (λ t. Tick t) step e in
    let x = long_spelt t r.a r.a_is in
    moved (join_with_byte 32 (codes "tick" ∷ (t ∷ []))) step_text (IsSpelt jobs) (Tick r.a) step r.all (numbers_line (codes "tick") (t ∷ []) (r.a ∷ []) (cons_is _ _ _ _ x.0 refl)) x.1
tick_spells jobs ws step e = absurd cc

refuse_spells : (jobs : Jobs) → LineSpells jobs (codes "refuse", refuse_in)
unfolding IsSpelt
refuse_spells jobs (line ∷ []) step e =
    let r = one (number line) (λ line. Refuse line) step e in
    let x = word_spelt32 line r.a r.a_is in
    moved (join_with_byte 32 (codes "refuse" ∷ (line ∷ []))) step_text (IsSpelt jobs) (Refuse r.a) step r.all (numbers_line (codes "refuse") (line ∷ []) (r.a ∷ []) (cons_is _ _ _ _ x.0 refl)) x.1
refuse_spells jobs ws step e = absurd cc

source_spells : (jobs : Jobs) → LineSpells jobs (codes "source", source_in)
unfolding IsSpelt
source_spells jobs (s ∷ how ∷ []) step e =
    let r = two (how_in how) (stage_in s) (λ how s. SourceEnd s how) step e in
    let x = how_spelt how r.a r.a_is in
    let y = stage_spelt s r.b r.b_is in
    moved (join_with_byte 32 (codes "source" ∷ (s ∷ (how ∷ [])))) step_text (IsSpelt jobs) (SourceEnd r.b r.a) step r.all
    (tail_line (codes "source") (s ∷ (how ∷ [])) (r.b.0 ∷ []) (how_word r.a) (cons_is _ _ _ _ y.0 (cons_is _ _ _ _ x refl))) y.1
source_spells jobs ws step e = absurd cc

close_spells : (jobs : Jobs) → LineSpells jobs (codes "close", close_in)
unfolding IsSpelt
close_spells jobs (s ∷ m ∷ trigger ∷ []) step e =
    let r = three (trigger_in trigger) (stage_in s) (number m) (λ trigger s m. Close s (message_no m) trigger) step e in
    let x = trigger_spelt trigger r.a r.a_is in
    let y = stage_spelt s r.b r.b_is in
    let z = word_spelt32 m r.c r.c_is in
    moved (join_with_byte 32 (codes "close" ∷ (s ∷ (m ∷ (trigger ∷ []))))) step_text (IsSpelt jobs) (Close r.b (message_no r.c) r.a) step r.all
    (tail_line (codes "close") (s ∷ (m ∷ (trigger ∷ []))) (r.b.0 ∷ (r.c ∷ [])) (trigger_word r.a) (cons_is _ _ _ _ y.0 (cons_is _ _ _ _ z.0 (cons_is _ _ _ _ x refl)))) (y.1, z.1)
close_spells jobs ws step e = absurd cc

kill_spells : (jobs : Jobs) → LineSpells jobs (codes "kill", kill_in)
unfolding IsSpelt
kill_spells jobs (s ∷ why ∷ []) step e =
    let r = two (why_in why) (stage_in s) (λ why s. Kill s why) step e in
    let x = why_spelt why r.a r.a_is in
    let y = stage_spelt s r.b r.b_is in
    moved (join_with_byte 32 (codes "kill" ∷ (s ∷ (why ∷ [])))) step_text (IsSpelt jobs) (Kill r.b r.a) step r.all
    (tail_line (codes "kill") (s ∷ (why ∷ [])) (r.b.0 ∷ []) (why_word r.a) (cons_is _ _ _ _ y.0 (cons_is _ _ _ _ x.0 refl))) (y.1, x.1)
kill_spells jobs ws step e = absurd cc

drain_spells : (jobs : Jobs) → LineSpells jobs (codes "drain", drain_in)
unfolding IsSpelt
drain_spells jobs (cause ∷ []) step e =
    let r = one (cause_in cause) (λ cause. Drain cause) step e in
    moved (join_with_byte 32 (codes "drain" ∷ (cause ∷ []))) step_text (IsSpelt jobs) (Drain r.a) step r.all (ap (λ (t : List ℕ). codes "drain " ++ t) (cause_spelt cause r.a r.a_is)) tt
drain_spells jobs ws step e = absurd cc

halt_spells : (jobs : Jobs) → LineSpells jobs (codes "halt", halt_in)
unfolding IsSpelt
halt_spells jobs [] step e = let k = ok_is Halt step e in moved (codes "halt") step_text (IsSpelt jobs) Halt step k refl tt
halt_spells jobs (w ∷ ws) step e = absurd cc

accept_spells : (jobs : Jobs) → LineSpells jobs (codes "accept", accept_in)
unfolding IsSpelt
accept_spells jobs (s ∷ records ∷ []) step e =
    let r = two (stage_in s) (list_in record_in records) Accept step e in
    let x = stage_spelt s r.a r.a_is in
    let y = records_spelt records r.b r.b_is in
    moved (join_with_byte 32 (codes "accept" ∷ (s ∷ (records ∷ [])))) step_text (IsSpelt jobs) (Accept r.a r.b) step r.all
    (tail_line (codes "accept") (s ∷ (records ∷ [])) (r.a.0 ∷ []) (list_text bytes_text r.b) (cons_is _ _ _ _ x.0 (cons_is _ _ _ _ y.0 refl))) (x.1, y.1)
accept_spells jobs ws step e = absurd cc

done_spells : (jobs : Jobs) → LineSpells jobs (codes "done", done_in jobs)
unfolding IsSpelt
done_spells jobs (s ∷ replies ∷ []) step e =
    let a = bind_ok (stage_in s) (λ s. list_in (reply_at (jobs (post s 0))) replies >>= λ replies. Ok (Done s replies)) step e in
    let b = one (list_in (reply_at (jobs (post a.0 0))) replies) (λ replies. Done a.0 replies) step a.2 in
    let x = stage_spelt s a.0 a.1 in
    let y = replies_spelt (jobs (post a.0 0)) replies b.a b.a_is in
    moved (join_with_byte 32 (codes "done" ∷ (s ∷ (replies ∷ [])))) step_text (IsSpelt jobs) (Done a.0 b.a) step b.all
    (tail_line (codes "done") (s ∷ (replies ∷ [])) (a.0.0 ∷ []) (list_text reply_text b.a) (cons_is _ _ _ _ x.0 (cons_is _ _ _ _ y.0 refl))) (x.1, y.1)
done_spells jobs ws step e = absurd cc

wrote_spells : (jobs : Jobs) → LineSpells jobs (codes "wrote", wrote_in)
unfolding IsSpelt
wrote_spells jobs (s ∷ n ∷ ends ∷ []) step e =
    let r = three (stage_in s) (long_number n) (ends_in ends) Wrote step e in
    let x = stage_spelt s r.a r.a_is in
    let y = long_spelt n r.b r.b_is in
    let z = end_spelt ends r.c r.c_is in
    moved (join_with_byte 32 (codes "wrote" ∷ (s ∷ (n ∷ (ends ∷ []))))) step_text (IsSpelt jobs) (Wrote r.a r.b r.c) step r.all
    (tail_line (codes "wrote") (s ∷ (n ∷ (ends ∷ []))) (r.a.0 ∷ (r.b ∷ [])) (ends_text r.c) (cons_is _ _ _ _ x.0 (cons_is _ _ _ _ y.0 (cons_is _ _ _ _ z.0 refl)))) (x.1, y.1, z.1)
wrote_spells jobs ws step e = absurd cc

child_end_spells : (jobs : Jobs) → LineSpells jobs (codes "childend", child_end_in jobs)
unfolding IsSpelt
child_end_spells jobs (s ∷ slot ∷ reply ∷ []) step e =
    let a = bind_ok (stage_in s) (λ s. short_number slot >>= λ slot. reply_in (jobs (post s slot) 0) reply >>= λ reply. Ok (ChildEnd s slot reply)) step e in
    let b = bind_ok (short_number slot) (λ slot. reply_in (jobs (post a.0 slot) 0) reply >>= λ reply. Ok (ChildEnd a.0 slot reply)) step a.2 in
    let c = one (reply_in (jobs (post a.0 b.0) 0) reply) (λ reply. ChildEnd a.0 b.0 reply) step b.2 in
    let x = stage_spelt s a.0 a.1 in
    let y = short_spelt slot b.0 b.1 in
    let z = reply_spelt (jobs (post a.0 b.0) 0) reply c.a c.a_is in
    moved (join_with_byte 32 (codes "childend" ∷ (s ∷ (slot ∷ (reply ∷ []))))) step_text (IsSpelt jobs) (ChildEnd a.0 b.0 c.a) step c.all
    (tail_line (codes "childend") (s ∷ (slot ∷ (reply ∷ []))) (a.0.0 ∷ (b.0 ∷ [])) (reply_text c.a) (cons_is _ _ _ _ x.0 (cons_is _ _ _ _ y.0 (cons_is _ _ _ _ z.0 refl)))) (x.1, y.1, z.1)
child_end_spells jobs ws step e = absurd cc

-- ---- late answers

-- the words before a late answer, and what follows
record IsLate (s slot i : List ℕ) (answer : Result LateAnswer Fault) (step : Step) : Type 0 where
  at : StageNo
  place : ℕ
  life : ℕ
  read : LateAnswer
  answer_is : answer ≡ Ok read
  words_are : s ∷ (slot ∷ (i ∷ [])) ≡ map decimal (at.0 ∷ (place ∷ (life ∷ [])))
  fits : IsStage at × IsShort place × IsNumber life
  all : Late at place life read ≡ step

late_is : (s slot i : List ℕ) (answer : Result LateAnswer Fault) (step : Step) → late_by s slot i answer ≡ Ok step → IsLate s slot i answer step
late_is s slot i answer step e =
    let r = four (stage_in s) (short_number slot) (number i) answer Late step e in
    let x = stage_spelt s r.a r.a_is in
    let y = short_spelt slot r.b r.b_is in
    let z = word_spelt32 i r.c r.c_is in
    record {
      at = r.a;
      place = r.b;
      life = r.c;
      read = r.d;
      answer_is = r.d_is;
      words_are = cons_is _ _ _ _ x.0 (cons_is _ _ _ _ y.0 (cons_is _ _ _ _ z.0 refl));
      fits = (x.1, y.1, z.1);
      all = r.all;
    }

-- a late answer whose words are these
late_line : (jobs : Jobs) (s slot i w : List ℕ) (ws : List (List ℕ)) (answer : Result LateAnswer Fault) (step : Step) → late_by s slot i answer ≡ Ok step
    → ((read : LateAnswer) → answer ≡ Ok read → (join_with_byte 32 (w ∷ ws) ≡ answer_text read) × IsAnswer read)
    → (join_with_byte 32 (codes "late" ∷ (s ∷ (slot ∷ (i ∷ (w ∷ ws))))) ≡ step_text step) × IsSpelt jobs step
unfolding IsSpelt
late_line jobs s slot i w ws answer step e found =
    let r = late_is s slot i answer step e in
    let f = found r.read r.answer_is in
    moved (join_with_byte 32 (codes "late" ∷ (s ∷ (slot ∷ (i ∷ (w ∷ ws)))))) step_text (IsSpelt jobs) (Late r.at r.place r.life r.read) step r.all
    (ap (λ (vs : List (List ℕ)). join_with_byte 32 (codes "late" ∷ (vs ++ (w ∷ ws)))) r.words_are
    ∙ (join_words_and (codes "late") (r.at.0 ∷ (r.place ∷ (r.life ∷ []))) w ws
    ∙ ap (λ (t : List ℕ). words (codes "late") (r.at.0 ∷ (r.place ∷ (r.life ∷ []))) ++ codes " " ++ t) f.0))
    (r.fits.0, r.fits.1, r.fits.2, f.1)

-- the line of a late answer with these words before it
abbrev late_frame : (s slot i : List ℕ) → List (List ℕ) → List ℕ
late_frame s slot i ws = join_with_byte 32 (codes "late" ∷ (s ∷ (slot ∷ (i ∷ ws))))

abbrev LateSpells : Jobs → (s slot i : List ℕ) → Row Step → Type 0
LateSpells jobs s slot i = SpellsIn (late_frame s slot i) step_text (IsSpelt jobs)

late_records : (jobs : Jobs) (s slot i : List ℕ) → LateSpells jobs s slot i (codes "records", late_records_in s slot i)
unfolding IsAnswer
late_records jobs s slot i (records ∷ []) step e =
    late_line jobs s slot i (codes "records") (records ∷ []) (list_in record_in records >>= λ records. Ok (Records records)) step e (λ read is.
    let o = one (list_in record_in records) Records read is in
    let r = records_spelt records o.a o.a_is in
    moved (join_with_byte 32 (codes "records" ∷ (records ∷ []))) answer_text IsAnswer (Records o.a) read o.all (ap (λ (t : List ℕ). codes "records " ++ t) r.0) r.1)
late_records jobs s slot i ws step e = absurd cc

late_quiet : (jobs : Jobs) (s slot i : List ℕ) → LateSpells jobs s slot i (codes "quiet", late_alone_in LateQuiet s slot i)
unfolding IsAnswer
late_quiet jobs s slot i [] step e =
    late_line jobs s slot i (codes "quiet") [] (Ok LateQuiet) step e (λ read is. let k = ok_is LateQuiet read is in moved (codes "quiet") answer_text IsAnswer LateQuiet read k refl tt)
late_quiet jobs s slot i (w ∷ ws) step e = absurd cc

late_none : (jobs : Jobs) (s slot i : List ℕ) → LateSpells jobs s slot i (codes "none", late_alone_in Nothing s slot i)
unfolding IsAnswer
late_none jobs s slot i [] step e =
    late_line jobs s slot i (codes "none") [] (Ok Nothing) step e (λ read is. let k = ok_is Nothing read is in moved (codes "none") answer_text IsAnswer Nothing read k refl tt)
late_none jobs s slot i (w ∷ ws) step e = absurd cc

late_source : (jobs : Jobs) (s slot i : List ℕ) → LateSpells jobs s slot i (codes "source", late_source_in s slot i)
unfolding IsAnswer
late_source jobs s slot i (how ∷ []) step e =
    let a = bind_ok (how_in how) (λ how. late_by s slot i (Ok (Source how))) step e in
    let x = how_spelt how a.0 a.1 in
    late_line jobs s slot i (codes "source") (how ∷ []) (Ok (Source a.0)) step a.2
    (λ read is. let k = ok_is (Source a.0) read is in moved (codes "source " ++ how) answer_text IsAnswer (Source a.0) read k (ap (λ (t : List ℕ). codes "source " ++ t) x) tt)
late_source jobs s slot i ws step e = absurd cc

late_wrote : (jobs : Jobs) (s slot i : List ℕ) → LateSpells jobs s slot i (codes "wrote", late_wrote_in s slot i)
unfolding IsAnswer
late_wrote jobs s slot i (n ∷ ends ∷ []) step e =
    late_line jobs s slot i (codes "wrote") (n ∷ (ends ∷ [])) (long_number n >>= λ n. ends_in ends >>= λ ends. Ok (LateWrote n ends)) step e (λ read is.
    let o = two (long_number n) (ends_in ends) LateWrote read is in
    let x = long_spelt n o.a o.a_is in
    let y = end_spelt ends o.b o.b_is in
    moved (join_with_byte 32 (codes "wrote" ∷ (n ∷ (ends ∷ [])))) answer_text IsAnswer (LateWrote o.a o.b) read o.all
    (tail_line (codes "wrote") (n ∷ (ends ∷ [])) (o.a ∷ []) (ends_text o.b) (cons_is _ _ _ _ x.0 (cons_is _ _ _ _ y.0 refl))) (x.1, y.1))
late_wrote jobs s slot i ws step e = absurd cc

late_spells : (jobs : Jobs) → LineSpells jobs (codes "late", late_in)
late_spells jobs (s ∷ slot ∷ i ∷ w ∷ ws) step e =
    rows_spell (late_frame s slot i) step_text (IsSpelt jobs) Word (late_rows s slot i)
    (late_records jobs s slot i, (late_quiet jobs s slot i, (late_source jobs s slot i, (late_wrote jobs s slot i, (late_none jobs s slot i, tt))))) w ws step e
late_spells jobs ws step e = absurd cc

-- ---- steps

quiet_is : (jobs : Jobs) (s : StageNo) → IsStage s → IsSpelt jobs (Quiet s)
unfolding IsSpelt
quiet_is jobs s h = h

dispatch_is : (jobs : Jobs) (s : StageNo) → IsStage s → IsSpelt jobs (Dispatch s)
unfolding IsSpelt
dispatch_is jobs s h = h

restart_is : (jobs : Jobs) (s : StageNo) → IsStage s → IsSpelt jobs (Restart s)
unfolding IsSpelt
restart_is jobs s h = h

-- what is read as a step is its text, and the step can be spelt
pub step_spelt : (jobs : Jobs) (line : List ℕ) (step : Step) → step_in jobs line ≡ Ok step → (line ≡ step_text step) × IsSpelt jobs step
unfolding rows rows_of_numbers rows_of_one rows_of_words rows_of_lists
step_spelt jobs line step e =
    text_spells 32 step_text (IsSpelt jobs) Word (rows jobs) (
      ask_spells jobs,
      (
        fetch_spells jobs,
        (
          take_spells jobs,
          (
            gather_spells jobs,
            (
              child_spells jobs,
              (
                stage_spells jobs (codes "quiet") Quiet (λ s. refl) (quiet_is jobs),
                (
                  stage_spells jobs (codes "dispatch") Dispatch (λ s. refl) (dispatch_is jobs),
                  (
                    stage_spells jobs (codes "restart") Restart (λ s. refl) (restart_is jobs),
                    (
                      tick_spells jobs,
                      (
                        refuse_spells jobs,
                        (
                          source_spells jobs,
                          (
                            close_spells jobs,
                            (
                              kill_spells jobs,
                              (
                                drain_spells jobs,
                                (
                                  halt_spells jobs,
                                  (accept_spells jobs, (done_spells jobs, (wrote_spells jobs, (child_end_spells jobs, (late_spells jobs, tt))))),
                                ),
                              ),
                            ),
                          ),
                        ),
                      ),
                    ),
                  ),
                ),
              ),
            ),
          ),
        ),
      ),
    )
    line step e
