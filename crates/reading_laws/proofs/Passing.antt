-- Replies of handlers pass the messages at their places on, with keys and payloads that are not too long.
use Rattle.std.proofs.Common.{◌≡◌, ℕ, suc, ◌+◌, ◌%◌, ◌≤◌, Bool, true, false, ◌||◌, List, [], ◌∷◌, ◌++◌, length, map, refl, sym, ◌∙◌, subst, Option, Some, None, arith}
use Rattle.std.specs.Prelude.{if◌then◌else◌, nat_lt, nat_le, ◌==◌}
use Rattle.std.proofs.lemmas.Bool.{cond_both, leb-true, ltb-false, eqb-true}
use Rattle.std.proofs.lemmas.Slice.Eq.{bytes_eq-Decides}
use Rattle.std.specs.Str.{bytes_eq}
use Rattle.pipe_types.specs.declared.numbers.MsgNo.{MsgNo}
use Rattle.pipe_types.specs.declared.message.Message.{Message}
use Rattle.pipe_types.specs.declared.message.Reply.{Reply}
use Rattle.pipe_types.specs.declared.message.Reply.TheVariants.{Pass as Passed}
use Rattle.pipe_types.specs.declared.topology.Kind.{Kind}
use Rattle.pipe_types.specs.declared.topology.Kind.TheVariants.{Steps, Lines, Own}
use Rattle.pipe_types.specs.declared.topology.Rule.{Rule}
use Rattle.pipe_types.specs.declared.topology.Rule.TheVariants.{Pass, Prefix, Require, Route, Key, Flush, Raise, Crash, FailEvery}
use Rattle.pipe_types.specs.declared.topology.StageSpec.{StageSpec}
use Rattle.pipe_types.specs.Numbers.{same_stage}
use Rattle.pipe_types.specs.Lines.{max_bytes}
use Rattle.pipe_types.specs.Handlers.{field, begins_with, rule_reply, and_then, rules_reply, eval, counted, is_crashed, with_reason, replies_until, chunk_replies, is_own_reply, are_own_replies}
use Rattle.pipe_model.specs.Work.{same_reply, same_replies, are_replies_by, are_handled}
use Rattle.pipe_laws.proofs.Tests.{and_left, and_right, same_stage-true}
use Rattle.pipe_types.proofs.FieldLengths.{length-field}

-- ---- one message

-- a key and a payload that are not too long
pub record IsShortMessage (m : Message) : Type 0 where
  pub payload : length m.payload ≤ max_bytes
  pub key : length m.key ≤ max_bytes

-- what passed of a message: its number and its producer are the message's
pub record StillIs (first m : Message) : Type 0 where
  pub no : m.no ≡ first.no
  pub producer : m.producer ≡ first.producer
  pub short : IsShortMessage m

pub record_is : (m : Message) → IsShortMessage m → StillIs m m
record_is m short = record { no = refl; producer = refl; short = short }

-- what the reply passes on, if it does, is this message
abbrev pub PassesAs : Message → Reply → Type 0
PassesAs first (Passed m) = StillIs first m
PassesAs first _ = Unit {0}

rule_passes : (count : ℕ) (first : Message) (rule : Rule) (m : Message) → StillIs first m → PassesAs first (rule_reply count rule m)
rule_passes count first Pass m is = is
rule_passes count first (Prefix text) m is =
    cond_both (nat_lt max_bytes (length (text ++ m.payload))) _ _ (PassesAs first) (λ _. tt)
    (λ short. record { no = is.no; producer = is.producer; short = record { payload = ltb-false _ _ short; key = is.short.key } })
rule_passes count first (Require text) m is = cond_both (begins_with text m.payload) _ _ (PassesAs first) (λ _. is) (λ _. tt)
rule_passes count first (Route n batcher value) m is =
    cond_both (bytes_eq (field n m.payload) value) _ _ (PassesAs first)
    (λ _. record { no = is.no; producer = is.producer; short = record { payload = is.short.payload; key = is.short.key } })
    (λ _. is)
rule_passes count first (Key n) m is =
    let payload : length m.payload ≤ max_bytes = is.short.payload in
    record { no = is.no; producer = is.producer; short = record { payload = payload; key = omega (arith, length-field n m.payload) } }
rule_passes count first (Flush text) m is =
    cond_both (begins_with text m.payload) _ _ (PassesAs first)
    (λ _. record { no = is.no; producer = is.producer; short = record { payload = is.short.payload; key = is.short.key } })
    (λ _. is)
rule_passes count first (Raise text) m is = cond_both (begins_with text m.payload) _ _ (PassesAs first) (λ _. tt) (λ _. is)
rule_passes count first (Crash text) m is = cond_both (begins_with text m.payload) _ _ (PassesAs first) (λ _. tt) (λ _. is)
rule_passes count first (FailEvery every) m is = cond_both (count % every == 0) _ _ (PassesAs first) (λ _. tt) (λ _. is)

next_passes : (first : Message) (reply : Reply) (next : Message → Reply) → PassesAs first reply → ((m : Message) → StillIs first m → PassesAs first (next m)) → PassesAs first (and_then reply next)
next_passes first (Passed m) next is go = go m is
next_passes first _ next is go = tt

rules_pass : (count : ℕ) (first : Message) (rules : List Rule) (m : Message) → StillIs first m → PassesAs first (rules_reply count rules m)
rules_pass count first [] m is = is
rules_pass count first (rule ∷ rules) m is =
    next_passes first (rule_reply count rule m) (λ passed. rules_reply count rules passed) (rule_passes count first rule m is) (λ passed more. rules_pass count first rules passed more)

eval_passes : (spec : StageSpec) (count : ℕ) (m : Message) → IsShortMessage m → PassesAs m (eval spec count m)
eval_passes spec count m short = rules_pass (counted count 1) m spec.rules m (record_is m short)

reason_passes : (failed : Option (List ℕ)) (first : Message) (reply : Reply) → PassesAs first reply → PassesAs first (with_reason failed reply)
reason_passes failed first (Passed m) is = is
reason_passes failed first _ is = tt

-- ---- replies

abbrev pub AreShort : List Message → Type 0
AreShort [] = Unit {0}
AreShort (m ∷ messages) = IsShortMessage m × AreShort messages

-- no more replies than messages, each of the message at its place
abbrev pub PassAsThere : List Message → List Reply → Type 0
PassAsThere messages [] = Unit {0}
PassAsThere [] (reply ∷ replies) = ⊥
PassAsThere (m ∷ messages) (reply ∷ replies) = PassesAs m reply × PassAsThere messages replies

until_pass : (spec : StageSpec) (count : ℕ) (messages : List Message) → AreShort messages → PassAsThere messages (map (with_reason spec.failed) (replies_until is_crashed spec count messages))
until_pass spec count [] short = tt
until_pass spec count (m ∷ messages) short =
    either (is_crashed (eval spec count m)) (reason_passes spec.failed m (eval spec count m) (eval_passes spec count m short.0)) (until_pass spec (counted count 1) messages short.1)
  where
    either : (b : Bool) → PassesAs m (with_reason spec.failed (eval spec count m))
        → PassAsThere messages (map (with_reason spec.failed) (replies_until is_crashed spec (counted count 1) messages))
        → PassAsThere (m ∷ messages) (map (with_reason spec.failed) (if b then eval spec count m ∷ [] else eval spec count m ∷ replies_until is_crashed spec (counted count 1) messages))
    either true one rest = (one, tt)
    either false one rest = (one, rest)

same_no : (a b : MsgNo) → (a.0 == b.0) ≡ true → a ≡ b
same_no a b h = λ i. record { 0 = eqb-true a.0 b.0 h i }

same_bytes : (xs ys : List ℕ) → bytes_eq xs ys ≡ true → xs ≡ ys
same_bytes xs ys h = (bytes_eq-Decides xs ys).0 h

same_passes : (first : Message) (reply other : Reply) → same_reply reply other ≡ true → PassesAs first other → PassesAs first reply
same_passes first (Passed m) (Passed n) h is =
    let one = and_right (m.no.0 == n.no.0) _ h in
    let two = and_right (same_stage m.producer n.producer) _ one in
    let three = and_right (bytes_eq m.payload n.payload) _ two in
    let four = and_right (m.batcher == n.batcher) _ three in
    let payload : m.payload ≡ n.payload = same_bytes m.payload n.payload (and_left (bytes_eq m.payload n.payload) _ two) in
    let key : m.key ≡ n.key = same_bytes m.key n.key (and_left (bytes_eq m.key n.key) _ four) in
    record {
      no = same_no m.no n.no (and_left (m.no.0 == n.no.0) _ h) ∙ is.no;
      producer = same_stage-true m.producer n.producer (and_left (same_stage m.producer n.producer) _ one) ∙ is.producer;
      short = record {
        payload = subst (λ xs. length xs ≤ max_bytes) (sym payload) is.short.payload;
        key = subst (λ xs. length xs ≤ max_bytes) (sym key) is.short.key;
      };
    }
same_passes first (Passed m) _ h is = cc
same_passes first _ other h is = tt

same_all : (messages : List Message) (replies others : List Reply) → same_replies replies others ≡ true → PassAsThere messages others → PassAsThere messages replies
same_all messages [] others h there = tt
same_all messages (reply ∷ replies) [] h there = cc
same_all [] (reply ∷ replies) (other ∷ others) h there = there
same_all (m ∷ messages) (reply ∷ replies) (other ∷ others) h there =
    (same_passes m reply other (and_left (same_reply reply other) _ h) there.0, same_all messages replies others (and_right (same_reply reply other) _ h) there.1)

own_passes : (batchers : ℕ) (m : Message) (reply : Reply) → is_own_reply batchers m reply ≡ true → PassesAs m reply
own_passes batchers m (Passed p) h =
    let one = and_right (p.no.0 == m.no.0) _ h in
    let two = and_right (same_stage p.producer m.producer) _ one in
    let three = and_right (p.batcher == 0 || nat_lt p.batcher batchers) _ two in
    record {
      no = same_no p.no m.no (and_left (p.no.0 == m.no.0) _ h);
      producer = same_stage-true p.producer m.producer (and_left (same_stage p.producer m.producer) _ one);
      short = record {
        payload = leb-true _ _ (and_left (nat_le (length p.payload) max_bytes) _ three);
        key = leb-true _ _ (and_right (nat_le (length p.payload) max_bytes) _ three);
      };
    }
own_passes batchers m _ h = tt

own_all : (batchers : ℕ) (messages : List Message) (replies : List Reply) → are_own_replies batchers messages replies ≡ true → PassAsThere messages replies
own_all batchers messages [] h = tt
own_all batchers [] (reply ∷ replies) h = cc
own_all batchers (m ∷ messages) (reply ∷ replies) h = (
  own_passes batchers m reply (and_left (is_own_reply batchers m reply) _ h),
  by_test (is_crashed reply) replies (and_right (is_own_reply batchers m reply) _ h) (own_all batchers messages replies),
)
  where
    by_test : (b : Bool) (rest : List Reply) → (if b then length rest == 0 else are_own_replies batchers messages rest) ≡ true
        → (are_own_replies batchers messages rest ≡ true → PassAsThere messages rest) → PassAsThere messages rest
    by_test true [] e more = tt
    by_test true (r ∷ rest) e more = let wrong : suc (length rest) ≡ 0 = eqb-true (suc (length rest)) 0 e in absurd (omega arith)
    by_test false rest e more = more e

-- the replies to messages that are not too long
pub replies_pass : (spec : Option StageSpec) (count : ℕ) (messages : List Message) (replies : List Reply) → are_handled spec count messages replies ≡ true → AreShort messages → PassAsThere messages replies
replies_pass None count messages replies h short = cc
replies_pass (Some spec) count messages replies h short = by_kind spec.kind h
  where
    by_kind : (kind : Kind) → are_replies_by kind spec count messages replies ≡ true → PassAsThere messages replies
    by_kind Own h = own_all spec.batchers messages replies h
    by_kind Steps h = same_all messages replies (chunk_replies spec count messages) h (until_pass spec count messages short)
    by_kind Lines h = same_all messages replies (chunk_replies spec count messages) h (until_pass spec count messages short)

until_some : (spec : StageSpec) (count : ℕ) (messages : List Message) (replies : List Reply) → 1 ≤ length messages → same_replies replies (chunk_replies spec count messages) ≡ true → 1 ≤ length replies
until_some spec count [] replies some h = absurd (omega arith)
until_some spec count (m ∷ messages) (reply ∷ replies) some h = omega arith
until_some spec count (m ∷ messages) [] some h = absurd (either (is_crashed (eval spec count m)) h)
  where
    either : (b : Bool) → same_replies [] (map (with_reason spec.failed) (if b then eval spec count m ∷ [] else eval spec count m ∷ replies_until is_crashed spec (counted count 1) messages)) ≡ true → ⊥
    either true h = let wrong : false ≡ true = h in cc
    either false h = let wrong : false ≡ true = h in cc

own_some : (batchers : ℕ) (messages : List Message) (replies : List Reply) → 1 ≤ length messages → are_own_replies batchers messages replies ≡ true → 1 ≤ length replies
own_some batchers [] replies some h = absurd (omega arith)
own_some batchers (m ∷ messages) (reply ∷ replies) some h = omega arith
own_some batchers (m ∷ messages) [] some h = absurd (let wrong : false ≡ true = h in cc)

-- a chunk that has a message has a reply
pub some_replies : (spec : Option StageSpec) (count : ℕ) (messages : List Message) (replies : List Reply) → are_handled spec count messages replies ≡ true → 1 ≤ length messages → 1 ≤ length replies
some_replies None count messages replies h some = cc
some_replies (Some spec) count messages replies h some = by_kind spec.kind h
  where
    by_kind : (kind : Kind) → are_replies_by kind spec count messages replies ≡ true → 1 ≤ length replies
    by_kind Own h = own_some spec.batchers messages replies some h
    by_kind Steps h = until_some spec count messages replies some h
    by_kind Lines h = until_some spec count messages replies some h
