-- The texts of fields, of replies, of outcomes and of lists are read again, and what stands in them.
use Rattle.std.proofs.Common.{◌≡◌, ℕ, ◌+◌, ◌^◌, ◌<◌, ◌≤◌, Bool, true, false, List, [], ◌∷◌, ◌++◌, length, Option, Some, Result, Ok, refl, sym, ap, subst, ◌∙◌, append_assoc, arith, lit<, lit≤}
use Rattle.std.specs.Prelude.{decimal, codes, nat_le, ◌==◌}
use Rattle.std.specs.List.{slice_split}
use Rattle.std.proofs.lemmas.Bool.{le-leb}
use Rattle.std.proofs.lemmas.Bool.Decides.{nat_tests}
use Rattle.std.proofs.lemmas.List.{append-nil}
use Rattle.pipe_types.specs.declared.numbers.StageNo.{StageNo}
use Rattle.pipe_types.specs.declared.message.Message.{Message}
use Rattle.pipe_types.specs.declared.message.Reply.{Reply}
use Rattle.pipe_types.specs.declared.message.Reply.TheVariants.{Pass, Failed, Raised, Crashed}
use Rattle.pipe_types.specs.declared.message.Outcome.{Outcome}
use Rattle.pipe_types.specs.declared.message.Outcome.TheVariants.{Successful, Failed as FailedOutcome}
use Rattle.pipe_types.specs.declared.message.BatchEnd.{BatchEnd}
use Rattle.pipe_types.specs.declared.message.BatchEnd.TheVariants.{Outcomes, Crashed as BatchCrashed}
use Rattle.pipe_types.specs.Lines.{max_bytes}
use Rattle.line_reading.specs.declared.fault.Fault.{Fault}
use Rattle.line_reading.specs.declared.fault.Fault.TheVariants.{Bytes}
use Rattle.line_reading.specs.Reading.{is_at}
use Rattle.line_reading.specs.Lines.{short_number, number, long_number, stage_in, items_from, list_in, record_in, limited_in, contents, contents_in, flag_in, reason_alone, Named, passed_in, by_first, reply_rows, reply_in, reply_at, outcome_rows, outcome_in, ends_in}
use Rattle.line_reading.specs.Spelling.{Each, EachFrom, IsShort, IsNumber, IsLong, IsStage, IsRecord, IsLimited, IsWhy, IsReply, IsReplyAt, IsOutcome, AreItems, IsEnd}
use Rattle.journal_texts.specs.Words.{bytes_text, more_text, list_text}
use Rattle.journal_texts.specs.Steps.{reply_text, outcome_text, ends_text, flag_text}
use Rattle.line_reading.proofs.Spelt.{each_append, each_weaker, Lacks, split_none, split_at, IsPlain, decimal_plain, number_again, bytes_again, bytes_plain}

-- ---- numbers

pub short_small : (n : ℕ) → IsShort n → n < 2 ^ 64
short_small n h = omega arith

pub number_small : (n : ℕ) → IsNumber n → n < 2 ^ 64
number_small n h = omega arith

pub long_small : (n : ℕ) → IsLong n → n < 2 ^ 64
long_small n h = omega arith

pub short_again : (n : ℕ) → IsShort n → short_number (decimal n) ≡ Ok n
unfolding short_number
short_again n fits = number_again 65535 n fits (short_small n fits)

pub number_fits : (n : ℕ) → IsNumber n → number (decimal n) ≡ Ok n
unfolding number
number_fits n fits = number_again 4294967295 n fits (number_small n fits)

pub long_again : (n : ℕ) → IsLong n → long_number (decimal n) ≡ Ok n
unfolding long_number
long_again n fits = number_again 18446744073709551615 n fits (long_small n fits)

pub stage_again : (s : StageNo) → IsStage s → stage_in (decimal s.0) ≡ Ok s
unfolding stage_in
stage_again s fits = rw (short_again s.0 fits) refl

-- ---- bytes of texts

pub plain_lacks : (c : ℕ) → c < 45 → (text : List ℕ) → Each IsPlain text → Lacks c text
plain_lacks c small text h = each_weaker IsPlain (λ b. (b == c) ≡ false) (λ b p. let low = p.low in grind (arith, nat_tests)) text h

colons : (text : List ℕ) → Each IsPlain text → Lacks 58 text
colons text h = each_weaker IsPlain (λ b. (b == 58) ≡ false) (λ b p. let other = p.other in grind (arith, nat_tests)) text h

-- bytes that are no comma, no space and no LF
abbrev pub IsFar : ℕ → Type 0
IsFar b = 45 ≤ b

pub far : (text : List ℕ) → Each IsPlain text → Each IsFar text
far text h = each_weaker IsPlain IsFar (λ b p. p.low) text h

far_lacks : (c : ℕ) → c < 45 → (text : List ℕ) → Each IsFar text → Lacks c text
far_lacks c small text h = each_weaker IsFar (λ b. (b == c) ≡ false) (λ b low. grind (arith, nat_tests)) text h

pub far_words : (text : List ℕ) → Each IsFar text → slice_split (is_at 32) text ≡ text ∷ []
far_words text h = split_none 32 text (far_lacks 32 (lit< tt) text h)

-- and of a list's text, which may be a comma
abbrev pub IsListed : ℕ → Type 0
IsListed b = 44 ≤ b

pub listed_words : (text : List ℕ) → Each IsListed text → slice_split (is_at 32) text ≡ text ∷ []
listed_words text h = split_none 32 text (each_weaker IsListed (λ b. (b == 32) ≡ false) (λ b low. grind (arith, nat_tests)) text h)

-- ---- lists

-- the text of an item is read as that item, and has no comma and no space
pub record IsRead {A : Type 0} (read : ℕ → List ℕ → Result A Fault) (text : A → List ℕ) (i : ℕ) (x : A) : Type 0 where
  pub again : read i (text x) ≡ Ok x
  pub apart : Each IsFar (text x)

comma : (text : List ℕ) → Each IsFar text → Lacks 44 text
comma text h = far_lacks 44 (lit< tt) text h

items_again : {A : Type 0} (read : ℕ → List ℕ → Result A Fault) (text : A → List ℕ) (i : ℕ) (x : A) (xs : List A)
    → EachFrom (IsRead read text) i (x ∷ xs) → items_from read i (slice_split (is_at 44) (text x ++ more_text text xs)) ≡ Ok (x ∷ xs)
items_again read text i x [] h = rw (append-nil, split_none 44 (text x) (comma (text x) h.0.apart), h.0.again) refl
items_again read text i x (y ∷ ys) h =
    let more = items_again read text (i + 1) y ys h.1 in
    ap (items_from read i) (split_at 44 (text x) (text y ++ more_text text ys) (comma (text x) h.0.apart)) ∙ (rw (h.0.again, more) refl)

more_listed : {A : Type 0} (read : ℕ → List ℕ → Result A Fault) (text : A → List ℕ) (i : ℕ) (xs : List A) → EachFrom (IsRead read text) i xs → Each IsListed (more_text text xs)
more_listed read text i [] h = tt
more_listed read text i (x ∷ xs) h =
    (omega arith, each_append IsListed (text x) (more_text text xs) (each_weaker IsFar IsListed (λ b low. omega arith) (text x) h.0.apart) (more_listed read text (i + 1) xs h.1))

-- the text of a list is read as that list, and is one word
pub record IsListRead {A : Type 0} (read : ℕ → List ℕ → Result A Fault) (text : A → List ℕ) (xs : List A) : Type 0 where
  pub again : list_in read (list_text text xs) ≡ Ok xs
  pub listed : Each IsListed (list_text text xs)
  pub word : slice_split (is_at 32) (list_text text xs) ≡ list_text text xs ∷ []

list_again : {A : Type 0} (read : ℕ → List ℕ → Result A Fault) (text : A → List ℕ) (xs : List A) → AreItems (IsRead read text) xs → IsListRead read text xs
unfolding list_in
list_again read text [] h = absurd (let some = h.some in omega arith)
list_again read text (x ∷ xs) h =
    let listed = each_append IsListed (text x) (more_text text xs) (each_weaker IsFar IsListed (λ b low. omega arith) (text x) h.each.0.apart) (more_listed read text 1 xs h.each.1) in
    record { again = items_again read text 0 x xs h.each; listed = listed; word = listed_words (text x ++ more_text text xs) listed }

each_from : {A : Type 0} (P Q : ℕ → A → Type 0) (f : (i : ℕ) (x : A) → P i x → Q i x) (i : ℕ) (xs : List A) → EachFrom P i xs → EachFrom Q i xs
each_from P Q f i [] h = tt
each_from P Q f i (x ∷ xs) h = (f i x h.0, each_from P Q f (i + 1) xs h.1)

-- where each item is read again
list_by : {A : Type 0} (P : ℕ → A → Type 0) (read : ℕ → List ℕ → Result A Fault) (text : A → List ℕ) (f : (i : ℕ) (x : A) → P i x → IsRead read text i x) (xs : List A) → AreItems P xs → IsListRead read text xs
list_by P read text f xs h = list_again read text xs (record { some = h.some; each = each_from P (IsRead read text) f 0 xs h.each })

-- ---- records

record_read : (i : ℕ) (bytes : List ℕ) → IsRecord i bytes → IsRead record_in bytes_text i bytes
record_read i bytes h = record { again = bytes_again bytes h; apart = far (bytes_text bytes) (bytes_plain bytes h) }

pub records_again : (records : List (List ℕ)) → AreItems IsRecord records → IsListRead record_in bytes_text records
records_again = list_by IsRecord record_in bytes_text record_read

-- ---- reasons and flags

limited_again : (bytes : List ℕ) → IsLimited bytes → limited_in (bytes_text bytes) ≡ Ok bytes
limited_again bytes h = let t : nat_le (length bytes) max_bytes ≡ true = le-leb _ _ h.short in rw (bytes_again bytes h.bytes, t) refl

reason_again : (why : List ℕ) → IsWhy why → reason_alone (bytes_text why ∷ []) ≡ Ok why
unfolding reason_alone
reason_again why h = rw (bytes_again why h.bytes, h.reason) refl

flag_again : (b : Bool) → flag_in (flag_text b) ≡ Ok b
flag_again true = refl
flag_again false = refl

flag_plain : (b : Bool) → Each IsPlain (flag_text b)
flag_plain true = (record { low = omega arith; other = λ k. omega arith }, tt)
flag_plain false = (record { low = omega arith; other = λ k. omega arith }, tt)

-- a letter, a colon and bytes
tagged_parts : (c : ℕ) (why : List ℕ) → (c == 58) ≡ false → IsWhy why → slice_split (is_at 58) (c ∷ (58 ∷ bytes_text why)) ≡ (c ∷ []) ∷ (bytes_text why ∷ [])
tagged_parts c why e h = rw e (ap (λ (ws : List (List ℕ)). (c ∷ []) ∷ ws) (split_none 58 (bytes_text why) (colons _ (bytes_plain why h.bytes))))

colon_and : (text : List ℕ) → Each IsFar text → Each IsFar (58 ∷ text)
colon_and text h = (omega arith, h)

tagged_far : (c : ℕ) (why : List ℕ) → 45 ≤ c → IsWhy why → Each IsFar (c ∷ (58 ∷ bytes_text why))
tagged_far c why low h = (low, colon_and (bytes_text why) (far (bytes_text why) (bytes_plain why h.bytes)))

-- ---- replies

pass_parts : (b f k p : List ℕ) → Lacks 58 b → Lacks 58 f → Lacks 58 k → Lacks 58 p
    → slice_split (is_at 58) (codes "p:" ++ (b ++ (codes ":" ++ (f ++ (codes ":" ++ (k ++ (codes ":" ++ p))))))) ≡ codes "p" ∷ (b ∷ (f ∷ (k ∷ (p ∷ []))))
pass_parts b f k p hb hf hk hp =
    ap (λ (ws : List (List ℕ)). codes "p" ∷ ws) (split_at 58 b (f ++ (58 ∷ (k ++ (58 ∷ p)))) hb
    ∙ ap (λ (ws : List (List ℕ)). b ∷ ws) (split_at 58 f (k ++ (58 ∷ p)) hf
    ∙ ap (λ (ws : List (List ℕ)). f ∷ ws) (split_at 58 k p hk
    ∙ ap (λ (ws : List (List ℕ)). k ∷ ws) (split_none 58 p hp))))

-- the text of a passed reply, its parts joined to the right
pub pass_text : (m : Message) → reply_text (Pass m) ≡ codes "p:" ++ (decimal m.batcher ++ (codes ":" ++ (flag_text m.flush ++ (codes ":" ++ (bytes_text m.key ++ (codes ":" ++ bytes_text m.payload))))))
pass_text m = regrouped (decimal m.batcher) (flag_text m.flush) (bytes_text m.key) (bytes_text m.payload)
  where
    regrouped : (b f k p : List ℕ) → codes "p:" ++ b ++ codes ":" ++ f ++ codes ":" ++ k ++ codes ":" ++ p ≡ codes "p:" ++ (b ++ (codes ":" ++ (f ++ (codes ":" ++ (k ++ (codes ":" ++ p))))))
    regrouped b f k p = simp append_assoc

contents_again : (key payload : List ℕ) → IsLimited key → IsLimited payload → contents_in (bytes_text key) (bytes_text payload) ≡ Ok (contents key payload)
unfolding contents_in
contents_again key payload k p = rw (limited_again key k, limited_again payload p) refl

pass_again : (named : Option Named) (m : Message) → named ≡ Some (m.no, m.producer) → IsShort m.batcher → IsLimited m.key → IsLimited m.payload
    → passed_in named (decimal m.batcher ∷ (flag_text m.flush ∷ (bytes_text m.key ∷ (bytes_text m.payload ∷ [])))) ≡ Ok (Pass m)
pass_again named m is batcher key payload = rw (short_again m.batcher batcher, flag_again m.flush, is, contents_again m.key m.payload key payload) refl

pub reply_again : (named : Option Named) (reply : Reply) → IsReply named reply → reply_in named (reply_text reply) ≡ Ok reply
unfolding IsReply reply_in
reply_again named (Pass m) h =
    ap (λ (text : List ℕ). reply_in named text) (pass_text m)
    ∙ ap (by_first Bytes (reply_rows named)) (pass_parts (decimal m.batcher) (flag_text m.flush) (bytes_text m.key) (bytes_text m.payload)
    (colons _ (decimal_plain m.batcher (short_small m.batcher h.1))) (colons _ (flag_plain m.flush)) (colons _ (bytes_plain m.key h.2.bytes)) (colons _ (bytes_plain m.payload h.3.bytes)))
    ∙ pass_again named m h.0 h.1 h.2 h.3
reply_again named (Failed why) h = ap (by_first Bytes (reply_rows named)) (tagged_parts 102 why refl h) ∙ (rw (reason_again why h) refl)
reply_again named (Raised why) h = ap (by_first Bytes (reply_rows named)) (tagged_parts 114 why refl h) ∙ (rw (reason_again why h) refl)
reply_again named Crashed h = refl

pub reply_far : (named : Option Named) (reply : Reply) → IsReply named reply → Each IsFar (reply_text reply)
unfolding IsReply
reply_far named (Pass m) h =
    subst (Each IsFar) (sym (pass_text m)) (
      omega arith,
      colon_and _ (each_append IsFar (decimal m.batcher) _ (far _ (decimal_plain m.batcher (short_small m.batcher h.1)))
          (colon_and _ (each_append IsFar (flag_text m.flush) _ (far _ (flag_plain m.flush))
          (colon_and _ (each_append IsFar (bytes_text m.key) _ (far _ (bytes_plain m.key h.2.bytes))
          (colon_and _ (far _ (bytes_plain m.payload h.3.bytes)))))))),
    )
reply_far named (Failed why) h = tagged_far 102 why (lit≤ tt) h
reply_far named (Raised why) h = tagged_far 114 why (lit≤ tt) h
reply_far named Crashed h = (omega arith, tt)

reply_read : (named : ℕ → Option Named) (i : ℕ) (reply : Reply) → IsReplyAt named i reply → IsRead (reply_at named) reply_text i reply
reply_read named i reply h = record { again = reply_again (named i) reply h; apart = reply_far (named i) reply h }

pub replies_again : (named : ℕ → Option Named) (replies : List Reply) → AreItems (IsReplyAt named) replies → IsListRead (reply_at named) reply_text replies
replies_again named = list_by (IsReplyAt named) (reply_at named) reply_text (reply_read named)

-- ---- outcomes

outcome_again : (i : ℕ) (outcome : Outcome) → IsOutcome i outcome → outcome_in i (outcome_text outcome) ≡ Ok outcome
unfolding IsOutcome outcome_in
outcome_again i Successful h = refl
outcome_again i (FailedOutcome why) h = ap (by_first Bytes outcome_rows) (tagged_parts 102 why refl h) ∙ (rw (reason_again why h) refl)

outcome_far : (i : ℕ) (outcome : Outcome) → IsOutcome i outcome → Each IsFar (outcome_text outcome)
unfolding IsOutcome
outcome_far i Successful h = (omega arith, tt)
outcome_far i (FailedOutcome why) h = tagged_far 102 why (lit≤ tt) h

outcome_read : (i : ℕ) (outcome : Outcome) → IsOutcome i outcome → IsRead outcome_in outcome_text i outcome
outcome_read i outcome h = record { again = outcome_again i outcome h; apart = outcome_far i outcome h }

outcomes_again : (outcomes : List Outcome) → AreItems IsOutcome outcomes → IsListRead outcome_in outcome_text outcomes
outcomes_again = list_by IsOutcome outcome_in outcome_text outcome_read

-- ---- ends of batches

pub record IsEndRead (end : BatchEnd) : Type 0 where
  pub again : ends_in (ends_text end) ≡ Ok end
  pub listed : Each IsListed (ends_text end)
  pub word : slice_split (is_at 32) (ends_text end) ≡ ends_text end ∷ []

-- a list of outcomes is no `c`
no_crash : (outcomes : List Outcome) → 1 ≤ length outcomes → list_in outcome_in (list_text outcome_text outcomes) ≡ Ok outcomes → ends_in (list_text outcome_text outcomes) ≡ Ok (Outcomes outcomes)
unfolding ends_in
no_crash [] some e = absurd (omega arith)
no_crash (Successful ∷ xs) some e = rw e refl
no_crash (FailedOutcome why ∷ xs) some e = rw e refl

pub end_again : (end : BatchEnd) → IsEnd end → IsEndRead end
unfolding IsEnd ends_in
end_again (Outcomes outcomes) h = let r = outcomes_again outcomes h in record { again = no_crash outcomes h.some r.again; listed = r.listed; word = r.word }
end_again BatchCrashed h = record { again = refl; listed = (omega arith, tt); word = refl }
