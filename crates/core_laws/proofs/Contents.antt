-- The content row of a message points at its content in the journal.
--
--     content_is : (before : History) (n : ℕ) → message_by before (producer_of before n) n (content_row before n) ≡ content before n
--
-- For every history: with the rows of the core, the record that `payload_at` lends there is the payload of message n, of its
-- producer, with no key; and where there is no record, the reply that `reply_at` lends there passes the message on as it is.
use Rattle.std.proofs.Common.{◌≡◌, ℕ, zero, suc, ◌+◌, ◌-◌, ◌<◌, ◌≤◌, List, [], ◌∷◌, ◌++◌, length, reverse, Bool, true, false, refl, ap, sym, ◌∙◌, Some, None, Option, arith, inl, inr}
use Rattle.std.specs.Prelude.{if◌then◌else◌, ◌==◌, nat_lt, slice_get, option_map, is_some, unwrap_or, ◌⊎◌}
use Rattle.std.proofs.lemmas.Bool.{ltb-true, lt-ltb, cases_lt}
use Rattle.std.proofs.lemmas.Option.{slice_get_past}
use Rattle.std.proofs.lemmas.List.{reverse-append, length-reverse}
use Rattle.pipe_types.specs.declared.numbers.StageNo.{StageNo}
use Rattle.pipe_types.specs.declared.message.Message.{Message}
use Rattle.pipe_types.specs.declared.message.Reply.{Reply}
use Rattle.pipe_types.specs.declared.message.Reply.TheVariants.{Pass, Failed as FailedReply, Raised, Crashed}
use Rattle.pipe_types.specs.declared.step.LateAnswer.TheVariants.{Records}
use Rattle.pipe_types.specs.declared.step.Step.{Step}
use Rattle.pipe_types.specs.declared.step.Step.TheVariants.{Accept, Done, Late}
use Rattle.pipe_types.specs.Numbers.{stage}
use Rattle.pipe_model.specs.History.{History, accepted}
use Rattle.pipe_model.specs.Content.{content, newer, fresh, record_as, passed_as, has_crash, is_among_next, producer_of}
use Rattle.pipe_laws.proofs.Accepted.{among_next, next_among, accepted_content}
use Rattle.pipe_laws.proofs.Tests.{clash}
use Rattle.pipe_journal.specs.Readers.{step_at, item_of as item_in, records_of, replies_of}
use Rattle.core_tables.specs.declared.rows.ContentRow.{ContentRow}
use Rattle.core_laws.specs.Columns.{content_row, content_after, at_record, at_item, item_of}
use Rattle.core_laws.specs.Contents.{message_in, message_by}

-- The steps by their places

slice_front : {A : Type 0} (xs ys : List A) (i : ℕ) → i < length xs → slice_get (xs ++ ys) i ≡ slice_get xs i
slice_front [] ys i h = absurd (omega arith)
slice_front (x ∷ xs) ys zero h = refl
slice_front (x ∷ xs) ys (suc i) h = slice_front xs ys i (omega arith)

slice_last : {A : Type 0} (xs : List A) (y : A) → slice_get (xs ++ y ∷ []) (length xs) ≡ Some y
slice_last [] y = refl
slice_last (x ∷ xs) y = slice_last xs y

-- a step leaves the steps before it where they are
pub step_before : (step : Step) (before : History) (at : ℕ) → at < length before → step_at (step ∷ before) at ≡ step_at before at
step_before step before at h =
    ap (λ (steps : History). slice_get steps at) (reverse-append (step ∷ []) before)
    ∙ slice_front (reverse before) (step ∷ []) at (omega (arith, length-reverse before))

-- and stands behind them
pub step_last : (step : Step) (before : History) → step_at (step ∷ before) (length before) ≡ Some step
step_last step before =
    ap (λ (steps : History). slice_get steps (length before)) (reverse-append (step ∷ []) before)
    ∙ (ap (λ n. slice_get (reverse before ++ step ∷ []) n) (sym (length-reverse before))
    ∙ slice_last (reverse before) step)

-- A row points at a step of the journal

-- each content stands in a step that is there
pub content_there : (before : History) (n : ℕ) (row : ContentRow) → content_row before n ≡ Some row → row.entry < length before
content_there [] n row e = cc
content_there (step ∷ before) n row e = moved step (λ r f. let w = content_there before n r f in omega (arith, w)) (content_row before n) refl e
  where
    new_or_old : (o : Option ContentRow) (b : Bool) (k : ℕ) → o ≡ content_row before n → (if b then Some (record { entry = length before; item = k }) else o) ≡ Some row
        → ((r : ContentRow) → content_row before n ≡ Some r → r.entry < suc (length before)) → row.entry < suc (length before)
    new_or_old o true k same f rest = let is : record { entry = length before; item = k } ≡ row = cc in let at : length before ≡ row.entry = ap (λ (r : ContentRow). r.entry) is in omega (arith, at)
    new_or_old o false k same f rest = rest row (sym same ∙ f)

    moved : (step : Step) → ((r : ContentRow) → content_row before n ≡ Some r → r.entry < suc (length before)) → (o : Option ContentRow) → o ≡ content_row before n
        → content_after (length before) (accepted before) step n o ≡ Some row → row.entry < suc (length before)
    moved (Accept s records) rest o same f = new_or_old o (is_among_next (accepted before) (length records) n) (n - (accepted before + 1)) same f rest
    moved (Late s slot i (Records records)) rest o same f = new_or_old o (is_among_next (accepted before) (length records) n) (n - (accepted before + 1)) same f rest
    moved (Done s replies) rest o same f = by_crash (has_crash replies) (item_of replies n) f
      where
        by_crash : (b : Bool) (k : Option ℕ) → (if b then o else at_item (length before) k o) ≡ Some row → row.entry < suc (length before)
        by_crash true k f = rest row (sym same ∙ f)
        by_crash false None f = rest row (sym same ∙ f)
        by_crash false (Some k) f = new_or_old o true k same f rest
    moved step rest o same f = rest row (sym same ∙ f)

-- a row of an earlier step says what it said
row_kept : (step : Step) (before : History) (producer : Option StageNo) (n : ℕ) (o : Option ContentRow) → ((row : ContentRow) → o ≡ Some row → row.entry < length before)
    → message_by (step ∷ before) producer n o ≡ message_by before producer n o
row_kept step before producer n None there = refl
row_kept step before producer n (Some row) there =
    ap (λ o. message_in (unwrap_or producer (stage 0)) n (item_in records_of o row.item) (item_in replies_of o row.item)) (step_before step before row.entry (there row refl))

-- Records

some_at : {A : Type 0} (xs : List A) (i : ℕ) → i < length xs → (x : A) × (slice_get xs i ≡ Some x)
some_at [] i h = absurd (omega arith)
some_at (y ∷ xs) zero h = (y, refl)
some_at (y ∷ xs) (suc i) h = some_at xs i (omega arith)

-- one of the next numbers is the message of its record
new_record : (s : StageNo) (c : ℕ) (records : List (List ℕ)) (n : ℕ) (old : Option Message) (reply : Option Reply) → is_among_next c (length records) n ≡ true
    → message_in s n (slice_get records (n - (c + 1))) reply ≡ newer (fresh s c records n) old
new_record s c records n old reply h =
    let t = among_next c (length records) n h in
    let found = some_at records (n - (c + 1)) (omega (arith, t.0, t.1)) in
    ap (λ o. message_in s n o reply) found.1
    ∙ sym (ap (λ b. newer (if b then record_as s n (slice_get records (n - (c + 1))) else None) old) (lt-ltb c n t.0) ∙ ap (λ o. newer (record_as s n o) old) found.1)

-- every other message is as before
old_record : (s : StageNo) (c : ℕ) (records : List (List ℕ)) (n : ℕ) (old : Option Message) → is_among_next c (length records) n ≡ false → newer (fresh s c records n) old ≡ old
old_record s c records n old h = by (nat_lt c n) refl
  where
    past : nat_lt c n ≡ true → (c + length records < n) ⊎ (n ≤ c + length records) → length records ≤ n - (c + 1)
    past e (inl far) = omega (arith, far)
    past e (inr near) = absurd (clash (is_among_next c (length records) n) (next_among c (length records) n (ltb-true c n e) near) h)

    by : (b : Bool) → nat_lt c n ≡ b → newer (if b then record_as s n (slice_get records (n - (c + 1))) else None) old ≡ old
    by false e = refl
    by true e = ap (λ o. newer (record_as s n o) old) (slice_get_past records (n - (c + 1)) (past e (cases_lt (c + length records) n)))

-- a step that brings records in
brought : (step : Step) (s : StageNo) (records : List (List ℕ)) (before : History) (n : ℕ) → records_of step ≡ records
    → message_by before (producer_of before n) n (content_row before n) ≡ content before n
    → message_by (step ∷ before) (if is_among_next (accepted before) (length records) n then Some s else producer_of before n) n
    (at_record (length before) (accepted before) (length records) n (content_row before n))
    ≡ newer (fresh s (accepted before) records n) (content before n)
brought step s records before n brings known = by (is_among_next (accepted before) (length records) n) refl
  where
    by : (b : Bool) → is_among_next (accepted before) (length records) n ≡ b
        → message_by (step ∷ before) (if b then Some s else producer_of before n) n (if b then Some (record { entry = length before; item = n - (accepted before + 1) }) else content_row before n)
        ≡ newer (fresh s (accepted before) records n) (content before n)
    by true e =
        ap (λ o. message_in s n (item_in records_of o (n - (accepted before + 1))) (item_in replies_of o (n - (accepted before + 1)))) (step_last step before)
        ∙ (ap (λ (rs : List (List ℕ)). message_in s n (slice_get rs (n - (accepted before + 1))) (slice_get (replies_of step) (n - (accepted before + 1)))) brings
        ∙ new_record s (accepted before) records n (content before n) (slice_get (replies_of step) (n - (accepted before + 1))) e)
    by false e =
        row_kept step before (producer_of before n) n (content_row before n) (content_there before n)
        ∙ (known ∙ sym (old_record s (accepted before) records n (content before n) e))

-- Replies

-- where the replies pass message n on
data Passed (replies : List Reply) (n : ℕ) : Type 0 where
  Nowhere : item_of replies n ≡ None → passed_as replies n ≡ None → Passed replies n
  Here : (k : ℕ) (m : Message) → item_of replies n ≡ Some k → slice_get replies k ≡ Some (Pass m) → passed_as replies n ≡ Some m → Passed replies n

later : (r : Reply) (replies : List Reply) (n : ℕ) → item_of (r ∷ replies) n ≡ option_map suc (item_of replies n) → passed_as (r ∷ replies) n ≡ passed_as replies n → Passed replies n → Passed (r ∷ replies) n
later r replies n at same (Nowhere none no_pass) = Nowhere (at ∙ ap (option_map suc) none) (same ∙ no_pass)
later r replies n at same (Here k m is there pass) = Here (suc k) m (at ∙ ap (option_map suc) is) there (same ∙ pass)

passed_at : (replies : List Reply) (n : ℕ) → Passed replies n
passed_at [] n = Nowhere refl refl
passed_at (Pass m ∷ replies) n = either (m.no.0 == n) refl (passed_at replies n)
  where
    either : (b : Bool) → (m.no.0 == n) ≡ b → Passed replies n → Passed (Pass m ∷ replies) n
    either true e rest = Here 0 m (ap (λ b. if b then Some 0 else option_map suc (item_of replies n)) e) refl (ap (λ b. if b then Some m else passed_as replies n) e)
    either false e rest = later (Pass m) replies n (ap (λ b. if b then Some 0 else option_map suc (item_of replies n)) e) (ap (λ b. if b then Some m else passed_as replies n) e) rest
passed_at (FailedReply why ∷ replies) n = later (FailedReply why) replies n refl refl (passed_at replies n)
passed_at (Raised why ∷ replies) n = later (Raised why) replies n refl refl (passed_at replies n)
passed_at (Crashed ∷ replies) n = later Crashed replies n refl refl (passed_at replies n)

-- a chunk that was handled
handled_on : (s : StageNo) (replies : List Reply) (before : History) (n : ℕ)
    → message_by before (producer_of before n) n (content_row before n) ≡ content before n
    → message_by (Done s replies ∷ before) (producer_of before n) n (if has_crash replies then content_row before n else at_item (length before) (item_of replies n) (content_row before n))
    ≡ newer (if has_crash replies then None else passed_as replies n) (content before n)
handled_on s replies before n known = by (has_crash replies) (passed_at replies n)
  where
    same : message_by (Done s replies ∷ before) (producer_of before n) n (content_row before n) ≡ content before n
    same = row_kept (Done s replies) before (producer_of before n) n (content_row before n) (content_there before n) ∙ known

    by : (b : Bool) → Passed replies n
        → message_by (Done s replies ∷ before) (producer_of before n) n (if b then content_row before n else at_item (length before) (item_of replies n) (content_row before n))
        ≡ newer (if b then None else passed_as replies n) (content before n)
    by true found = same
    by false (Nowhere none no_pass) =
        ap (λ k. message_by (Done s replies ∷ before) (producer_of before n) n (at_item (length before) k (content_row before n))) none
        ∙ (same ∙ sym (ap (λ o. newer o (content before n)) no_pass))
    by false (Here k m is there pass) =
        ap (λ i. message_by (Done s replies ∷ before) (producer_of before n) n (at_item (length before) i (content_row before n))) is
        ∙ (ap (λ o. message_in (unwrap_or (producer_of before n) (stage 0)) n (item_in records_of o k) (item_in replies_of o k)) (step_last (Done s replies) before)
        ∙ (ap (λ r. message_in (unwrap_or (producer_of before n) (stage 0)) n None r) there
        ∙ sym (ap (λ o. newer o (content before n)) pass)))

-- The law

-- message n is what the journal has where its row points
pub content_is : (before : History) (n : ℕ) → message_by before (producer_of before n) n (content_row before n) ≡ content before n
content_is [] n = refl
content_is (Accept s records ∷ before) n = brought (Accept s records) s records before n refl (content_is before n)
content_is (Late s slot i (Records records) ∷ before) n = brought (Late s slot i (Records records)) s records before n refl (content_is before n)
content_is (Done s replies ∷ before) n = handled_on s replies before n (content_is before n)
content_is (step ∷ before) n = row_kept step before (producer_of before n) n (content_row before n) (content_there before n) ∙ content_is before n

-- an accepted message has a row
pub content_known : (before : History) (n : ℕ) → 1 ≤ n → n ≤ accepted before → is_some (content_row before n) ≡ true
content_known before n low high = by (content_row before n) refl
  where
    by : (o : Option ContentRow) → content_row before n ≡ o → is_some o ≡ true
    by (Some row) e = refl
    by None e =
        let none : None ≡ content before n = sym (ap (message_by before (producer_of before n) n) e) ∙ content_is before n in
        ap is_some none ∙ accepted_content before n low high
