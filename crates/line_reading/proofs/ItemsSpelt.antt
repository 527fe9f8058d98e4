-- What is read of a field, a reply, an outcome or a list is its text.
use Rattle.std.proofs.Common.{◌≡◌, ℕ, ◌+◌, ◌≤◌, Bool, true, false, cond, List, [], ◌∷◌, ◌++◌, map, length, Option, Some, None, Result, Ok, Err, refl, sym, ap, ◌∙◌, arith, lit<}
use Rattle.std.specs.Prelude.{decimal, codes, nat_le, bytes_eq}
use Rattle.std.specs.List.{slice_split, onto_first, join_with_byte}
use Rattle.std.proofs.lemmas.Bool.{leb-true}
use Rattle.std.proofs.lemmas.List.{append-nil}
use Rattle.std.proofs.lemmas.List.Splits.{join_with_byte-slice_split}
use Rattle.std.proofs.lemmas.Slice.Eq.{bytes_eq-Decides}
use Rattle.pipe_types.specs.declared.numbers.StageNo.{StageNo}
use Rattle.pipe_types.specs.declared.message.Message.{Message}
use Rattle.pipe_types.specs.declared.message.Reply.{Reply}
use Rattle.pipe_types.specs.declared.message.Reply.TheVariants.{Pass, Failed, Raised, Crashed}
use Rattle.pipe_types.specs.declared.message.Outcome.TheVariants.{Successful, Failed as FailedOutcome}
use Rattle.pipe_types.specs.declared.message.BatchEnd.{BatchEnd}
use Rattle.pipe_types.specs.declared.message.BatchEnd.TheVariants.{Outcomes, Crashed as BatchCrashed}
use Rattle.pipe_types.specs.Numbers.{stage}
use Rattle.pipe_types.specs.Lines.{max_bytes}
use Rattle.pipe_types.specs.Sound.{is_reason}
use Rattle.line_reading.specs.declared.fault.Fault.{Fault}
use Rattle.line_reading.specs.declared.fault.Fault.TheVariants.{Word, Number, Bytes}
use Rattle.line_reading.specs.Reading.{◌>>=◌, is_at, bytes_in}
use Rattle.line_reading.specs.Lines.{short_number, number, long_number, stage_in, before, items_from, list_in, record_in, reason_in, limited_in, Contents, contents, contents_in, flag_in, reason_alone, Named, named_in, passed_in, failed_in, raised_in, crashed_in, reply_rows, reply_in, reply_at, successful_in, unsuccessful_in, outcome_rows, outcome_in, ends_in}
use Rattle.line_reading.specs.Spelling.{EachFrom, IsShort, IsNumber, IsLong, IsStage, IsRecord, IsLimited, IsWhy, IsReply, IsReplyAt, IsOutcome, AreItems, IsEnd}
use Rattle.journal_texts.specs.Words.{bytes_text, list_text}
use Rattle.journal_texts.specs.Steps.{reply_text, outcome_text, ends_text, flag_text}
use Rattle.line_reading.proofs.Spelt.{bind_ok, ok_is, number_spelt, bytes_spelt}
use Rattle.line_reading.proofs.Chains.{one, Two, two, tested, chosen, word_spelt, Spells, text_spells, moved, cons_is}
use Rattle.line_reading.proofs.ItemsAgain.{pass_text}

-- ---- numbers

pub short_spelt : (text : List ℕ) (n : ℕ) → short_number text ≡ Ok n → (text ≡ decimal n) × IsShort n
unfolding short_number
short_spelt text n e = number_spelt 65535 n text (omega arith) e

pub word_spelt32 : (text : List ℕ) (n : ℕ) → number text ≡ Ok n → (text ≡ decimal n) × IsNumber n
unfolding number
word_spelt32 text n e = number_spelt 4294967295 n text (omega arith) e

pub long_spelt : (text : List ℕ) (n : ℕ) → long_number text ≡ Ok n → (text ≡ decimal n) × IsLong n
unfolding long_number
long_spelt text n e = number_spelt 18446744073709551615 n text (lit< tt) e

pub stage_spelt : (text : List ℕ) (s : StageNo) → stage_in text ≡ Ok s → (text ≡ decimal s.0) × IsStage s
unfolding stage_in
stage_spelt text s e =
    let b = one (short_number text) stage s e in
    let t = short_spelt text b.a b.a_is in
    moved text (λ (z : StageNo). decimal z.0) IsStage (stage b.a) s b.all t.0 t.1

-- ---- lists

record AreBefore {A : Type 0} (r : Result A Fault) (rs : Result (List A) Fault) (ys : List A) : Type 0 where
  x : A
  xs : List A
  x_is : r ≡ Ok x
  xs_is : rs ≡ Ok xs
  all : x ∷ xs ≡ ys

before_ok : {A : Type 0} (r : Result A Fault) (rs : Result (List A) Fault) (ys : List A) → before r rs ≡ Ok ys → AreBefore r rs ys
before_ok (Ok x) (Ok xs) ys e = record { x = x; xs = xs; x_is = refl; xs_is = refl; all = ok_is _ _ e }
before_ok (Ok x) (Err f) ys e = absurd cc
before_ok (Err Bytes) (Ok xs) ys e = absurd cc
before_ok (Err Bytes) (Err f) ys e = absurd cc
before_ok (Err Word) rs ys e = absurd cc
before_ok (Err Number) rs ys e = absurd cc

-- what a reading of items says: the text of what was read, which has this at its place
abbrev pub Finds : {A : Type 0} → (ℕ → List ℕ → Result A Fault) → (A → List ℕ) → (ℕ → A → Type 0) → Type 0
Finds {A} read text P = (i : ℕ) (t : List ℕ) (x : A) → read i t ≡ Ok x → (t ≡ text x) × P i x

record AreTexts {A : Type 0} (text : A → List ℕ) (P : ℕ → A → Type 0) (i : ℕ) (texts : List (List ℕ)) (xs : List A) : Type 0 where
  are : texts ≡ map text xs
  each : EachFrom P i xs

more_texts : {A : Type 0} (text : A → List ℕ) (P : ℕ → A → Type 0) (i : ℕ) (t : List ℕ) (ts : List (List ℕ)) (x : A) (xs ys : List A)
    → x ∷ xs ≡ ys → (t ≡ text x) × P i x → AreTexts text P (i + 1) ts xs → AreTexts text P i (t ∷ ts) ys
more_texts text P i t ts x xs ys e h k = rw (← e) (record { are = cons_is t (text x) ts (map text xs) h.0 k.are; each = (h.1, k.each) })

items_spelt : {A : Type 0} (read : ℕ → List ℕ → Result A Fault) (text : A → List ℕ) (P : ℕ → A → Type 0) → Finds read text P
    → (i : ℕ) (texts : List (List ℕ)) (xs : List A) → items_from read i texts ≡ Ok xs → AreTexts text P i texts xs
items_spelt read text P find i [] xs e = rw (← ok_is [] xs e) (record { are = refl; each = tt })
items_spelt read text P find i (t ∷ ts) xs e =
    let b = before_ok (read i t) (items_from read (i + 1) ts) xs e in
    more_texts text P i t ts b.x b.xs xs b.all (find i t b.x b.x_is) (items_spelt read text P find (i + 1) ts b.xs b.xs_is)

-- texts joined by commas are the text of the list
joined_text : {A : Type 0} (text : A → List ℕ) (x : A) (xs : List A) → join_with_byte 44 (text x ∷ map text xs) ≡ list_text text (x ∷ xs)
joined_text text x [] = sym (append-nil (text x))
joined_text text x (y ∷ ys) = ap (λ (t : List ℕ). text x ++ (44 ∷ t)) (joined_text text y ys)

at_byte : (b : ℕ) (t : Bool) (rest : List (List ℕ)) → 1 ≤ length rest → 1 ≤ length (cond t ([] ∷ rest) (onto_first b rest))
at_byte b true rest h = omega arith
at_byte b false [] h = absurd (omega arith)
at_byte b false (r ∷ rs) h = omega arith

split_some : (c : ℕ) (text : List ℕ) → 1 ≤ length (slice_split (is_at c) text)
split_some c [] = omega arith
split_some c (b ∷ bs) = at_byte b (is_at c b) (slice_split (is_at c) bs) (split_some c bs)

list_of : {A : Type 0} (text : A → List ℕ) (P : ℕ → A → Type 0) (texts : List (List ℕ)) (xs : List A) → 1 ≤ length texts → AreTexts text P 0 texts xs
    → (join_with_byte 44 texts ≡ list_text text xs) × AreItems P xs
list_of text P texts [] some h = absurd (let e = h.are in let k : length texts ≡ 0 = ap length e in omega arith)
list_of text P texts (x ∷ xs) some h = (ap (join_with_byte 44) h.are ∙ joined_text text x xs, record { some = omega arith; each = h.each })

-- what is read as a list is its text
pub list_spelt : {A : Type 0} (read : ℕ → List ℕ → Result A Fault) (text : A → List ℕ) (P : ℕ → A → Type 0) → Finds read text P
    → (line : List ℕ) (xs : List A) → list_in read line ≡ Ok xs → (line ≡ list_text text xs) × AreItems P xs
unfolding list_in
list_spelt read text P find line xs e =
    let l = list_of text P (slice_split (is_at 44) line) xs (split_some 44 line) (items_spelt read text P find 0 (slice_split (is_at 44) line) xs e) in
    (sym (join_with_byte-slice_split 44 line) ∙ l.0, l.1)

record_found : Finds record_in bytes_text IsRecord
record_found i text bytes e = bytes_spelt bytes text e

pub records_spelt : (line : List ℕ) (records : List (List ℕ)) → list_in record_in line ≡ Ok records → (line ≡ list_text bytes_text records) × AreItems IsRecord records
records_spelt = list_spelt record_in bytes_text IsRecord record_found

-- ---- reasons and flags

limited_spelt : (text bytes : List ℕ) → limited_in text ≡ Ok bytes → (text ≡ bytes_text bytes) × IsLimited bytes
limited_spelt text bytes e =
    let b = bind_ok (bytes_in text) (λ bytes. cond (nat_le (length bytes) max_bytes) (Ok bytes) (Err Bytes)) bytes e in
    let t = tested (nat_le (length b.0) max_bytes) Bytes b.0 bytes b.2 in
    let s = bytes_spelt b.0 text b.1 in
    moved text bytes_text IsLimited b.0 bytes t.1 s.0 (record { bytes = s.1; short = leb-true _ _ t.0 })

reason_spelt : (text why : List ℕ) → reason_in text ≡ Ok why → (text ≡ bytes_text why) × IsWhy why
reason_spelt text why e =
    let b = bind_ok (bytes_in text) (λ why. cond (is_reason (Some why)) (Ok why) (Err Bytes)) why e in
    let t = tested (is_reason (Some b.0)) Bytes b.0 why b.2 in
    let s = bytes_spelt b.0 text b.1 in
    moved text bytes_text IsWhy b.0 why t.1 s.0 (record { bytes = s.1; reason = t.0 })

flag_spelt : (text : List ℕ) (f : Bool) → flag_in text ≡ Ok f → text ≡ flag_text f
flag_spelt text f e = word_spelt (λ w f. w ≡ flag_text f) Number ((codes "0", false) ∷ ((codes "1", true) ∷ [])) (refl, (refl, tt)) text f e

named_spelt : (named : Option Named) (m : Named) → named_in named ≡ Ok m → named ≡ Some m
named_spelt None m e = absurd cc
named_spelt (Some n) m e = ap (λ (z : Named). Some z) (ok_is n m e)

-- ---- a letter and a reason

tagged : {A : Type 0} (c : List ℕ) (of : List ℕ → A) (text : A → List ℕ) (P : A → Type 0) → ((why : List ℕ) → text (of why) ≡ c ++ (58 ∷ bytes_text why)) → ((why : List ℕ) → IsWhy why → P (of why))
    → Spells 58 text P (c, λ ws. reason_alone ws >>= λ why. Ok (of why))
unfolding reason_alone
tagged c of text P written fact (why ∷ []) x e =
    let o = one (reason_in why) of x e in
    let r = reason_spelt why o.a o.a_is in
    moved (c ++ (58 ∷ why)) text P (of o.a) x o.all (ap (λ (t : List ℕ). c ++ (58 ∷ t)) r.0 ∙ sym (written o.a)) (fact o.a r.1)
tagged c of text P written fact ws x e = absurd cc

-- ---- replies

record PassRead (named : Option Named) (b f k p : List ℕ) (reply : Reply) : Type 0 where
  m : Message
  all : Pass m ≡ reply
  batcher : (b ≡ decimal m.batcher) × IsShort m.batcher
  flush : f ≡ flag_text m.flush
  name : named ≡ Some (m.no, m.producer)
  key : (k ≡ bytes_text m.key) × IsLimited m.key
  payload : (p ≡ bytes_text m.payload) × IsLimited m.payload

contents_read : (k p : List ℕ) (c : Contents) → contents_in k p ≡ Ok c → Two (limited_in k) (limited_in p) contents c
unfolding contents_in
contents_read k p c e = two (limited_in k) (limited_in p) contents c e

passed_read : (named : Option Named) (b f k p : List ℕ) (reply : Reply) → passed_in named (b ∷ (f ∷ (k ∷ (p ∷ [])))) ≡ Ok reply → PassRead named b f k p reply
passed_read named b f k p reply e =
    let x = bind_ok (short_number b)
    (λ b. flag_in f >>= λ f. named_in named >>= λ m. contents_in k p >>= λ c. Ok (Pass (record { no = m.0; producer = m.1; payload = c.1; batcher = b; key = c.0; flush = f }))) reply e in
    let y = bind_ok (flag_in f)
    (λ f. named_in named >>= λ m. contents_in k p >>= λ c. Ok (Pass (record { no = m.0; producer = m.1; payload = c.1; batcher = x.0; key = c.0; flush = f }))) reply x.2 in
    let z = bind_ok (named_in named) (λ m. contents_in k p >>= λ c. Ok (Pass (record { no = m.0; producer = m.1; payload = c.1; batcher = x.0; key = c.0; flush = y.0 }))) reply y.2 in
    let v = one (contents_in k p) (λ (c : Contents). Pass (record { no = z.0.0; producer = z.0.1; payload = c.1; batcher = x.0; key = c.0; flush = y.0 })) reply z.2 in
    let w = contents_read k p v.a v.a_is in
    record {
      m = record { no = z.0.0; producer = z.0.1; payload = w.b; batcher = x.0; key = w.a; flush = y.0 };
      all = ap (λ (c : Contents). Pass (record { no = z.0.0; producer = z.0.1; payload = c.1; batcher = x.0; key = c.0; flush = y.0 })) w.all ∙ v.all;
      batcher = short_spelt b x.0 x.1;
      flush = flag_spelt f y.0 y.1;
      name = named_spelt named z.0 z.1;
      key = limited_spelt k w.a w.a_is;
      payload = limited_spelt p w.b w.b_is;
    }

pass_joined : (b f k p b' f' k' p' : List ℕ) → b ≡ b' → f ≡ f' → k ≡ k' → p ≡ p'
    → codes "p" ++ (58 ∷ (b ++ (58 ∷ (f ++ (58 ∷ (k ++ (58 ∷ p))))))) ≡ codes "p:" ++ (b' ++ (codes ":" ++ (f' ++ (codes ":" ++ (k' ++ (codes ":" ++ p'))))))
pass_joined b f k p b' f' k' p' x y z v = cc

pass_spells : (named : Option Named) → Spells 58 reply_text (IsReply named) (codes "p", passed_in named)
unfolding IsReply
pass_spells named (b ∷ f ∷ k ∷ p ∷ []) reply e =
    let r = passed_read named b f k p reply e in
    moved (codes "p" ++ (58 ∷ (b ++ (58 ∷ (f ++ (58 ∷ (k ++ (58 ∷ p)))))))) reply_text (IsReply named) (Pass r.m) reply r.all
    (pass_joined b f k p (decimal r.m.batcher) (flag_text r.m.flush) (bytes_text r.m.key) (bytes_text r.m.payload) r.batcher.0 r.flush r.key.0 r.payload.0 ∙ sym (pass_text r.m))
    (r.name, r.batcher.1, r.key.1, r.payload.1)
pass_spells named ws reply e = absurd cc

crash_spells : (named : Option Named) → Spells 58 reply_text (IsReply named) (codes "c", crashed_in)
unfolding IsReply
crash_spells named [] reply e = let k = ok_is Crashed reply e in moved (codes "c") reply_text (IsReply named) Crashed reply k refl tt
crash_spells named (w ∷ ws) reply e = absurd cc

failed_spells : (named : Option Named) → Spells 58 reply_text (IsReply named) (codes "f", failed_in)
unfolding IsReply
failed_spells named = tagged (codes "f") (λ why. Failed why) reply_text (IsReply named) (λ why. refl) (λ why h. h)

raised_spells : (named : Option Named) → Spells 58 reply_text (IsReply named) (codes "r", raised_in)
unfolding IsReply
raised_spells named = tagged (codes "r") (λ why. Raised why) reply_text (IsReply named) (λ why. refl) (λ why h. h)

pub reply_spelt : (named : Option Named) (text : List ℕ) (reply : Reply) → reply_in named text ≡ Ok reply → (text ≡ reply_text reply) × IsReply named reply
unfolding reply_in
reply_spelt named text reply e =
    text_spells 58 reply_text (IsReply named) Bytes (reply_rows named) (pass_spells named, (failed_spells named, (raised_spells named, (crash_spells named, tt)))) text reply e

pub replies_spelt : (named : ℕ → Option Named) (line : List ℕ) (replies : List Reply) → list_in (reply_at named) line ≡ Ok replies → (line ≡ list_text reply_text replies) × AreItems (IsReplyAt named) replies
replies_spelt named = list_spelt (reply_at named) reply_text (IsReplyAt named) (λ i text reply e. reply_spelt (named i) text reply e)

-- ---- outcomes

successful_spells : (i : ℕ) → Spells 58 outcome_text (IsOutcome i) (codes "s", successful_in)
unfolding IsOutcome
successful_spells i [] outcome e = let k = ok_is Successful outcome e in moved (codes "s") outcome_text (IsOutcome i) Successful outcome k refl tt
successful_spells i (w ∷ ws) outcome e = absurd cc

unsuccessful_spells : (i : ℕ) → Spells 58 outcome_text (IsOutcome i) (codes "f", unsuccessful_in)
unfolding IsOutcome
unsuccessful_spells i = tagged (codes "f") (λ why. FailedOutcome why) outcome_text (IsOutcome i) (λ why. refl) (λ why h. h)

outcome_found : Finds outcome_in outcome_text IsOutcome
unfolding outcome_in
outcome_found i text outcome e = text_spells 58 outcome_text (IsOutcome i) Bytes outcome_rows (successful_spells i, (unsuccessful_spells i, tt)) text outcome e

-- ---- ends of batches

pub end_spelt : (text : List ℕ) (end : BatchEnd) → ends_in text ≡ Ok end → (text ≡ ends_text end) × IsEnd end
unfolding ends_in IsEnd
end_spelt text end e =
    chosen (bytes_eq text (codes "c")) (Ok BatchCrashed) (list_in outcome_in text >>= λ outcomes. Ok (Outcomes outcomes)) (Ok end) ((text ≡ ends_text end) × IsEnd end) e
    (λ same is. moved text ends_text IsEnd BatchCrashed end (ok_is BatchCrashed end is) ((bytes_eq-Decides text (codes "c")).0 same) tt)
    (λ is.
    let o = one (list_in outcome_in text) (λ outcomes. Outcomes outcomes) end is in
    let l = list_spelt outcome_in outcome_text IsOutcome outcome_found text o.a o.a_is in
    moved text ends_text IsEnd (Outcomes o.a) end o.all l.0 l.1)
