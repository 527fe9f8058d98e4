-- What the rules leave of a message, and of a batch.
use Rattle.std.proofs.Common.{◌≡◌, ℕ, suc, ◌+◌, ◌%◌, ◌≤◌, Bool, true, cond, ◌&&◌, ◌||◌, List, [], ◌∷◌, ◌++◌, length, map, refl, ap, ◌∙◌, Option, Some, None, arith, rules}
use Rattle.std.specs.Prelude.{unwrap_or, nat_lt, nat_le, ◌==◌}
use Rattle.std.proofs.lemmas.Bool.{and_parts, and_from, or_right, cond_both, leb-true, le-leb, ltb-false, eq-eqb}
use Rattle.std.proofs.lemmas.List.{length-map}
use Rattle.std.specs.List.{list_all}
use Rattle.std.specs.Str.{bytes_eq}
use Rattle.pipe_types.specs.declared.message.Message.{Message}
use Rattle.pipe_types.specs.declared.message.Reply.{Reply}
use Rattle.pipe_types.specs.declared.message.Reply.TheVariants.{Pass as Passed, Failed, Raised, Crashed}
use Rattle.pipe_types.specs.declared.message.BatchReply.{BatchReply}
use Rattle.pipe_types.specs.declared.topology.Kind.{Kind}
use Rattle.pipe_types.specs.declared.topology.Rule.{Rule}
use Rattle.pipe_types.specs.declared.topology.Rule.TheVariants.{Pass, Prefix, Require, Route, Key, Flush, Raise, Crash, FailEvery}
use Rattle.pipe_types.specs.declared.topology.StageSpec.{StageSpec}
use Rattle.pipe_types.specs.Numbers.{same_stage}
use Rattle.pipe_types.specs.Lines.{max_bytes}
use Rattle.pipe_types.specs.Handlers.{field, begins_with, rule_reply, and_then, rules_reply, eval, counted, is_own_reason, is_own_reply, is_own_outcome, outcome_of, batch_replies, ends_batch, batch_answer_by}
use Rattle.stage_callback.specs.Callbacks.{routes_below, is_countable, can_arm, is_message_for, is_batch_answer}
use Rattle.stage_callback.proofs.BatchSteps.{batch_ender, answered, answer_of-ender}
use Rattle.pipe_types.proofs.FieldLengths.{length-field}

-- One message

-- a message that passed so far: still the first one, for one of the stage's batchers, and not too long
record StillFits (batchers : ℕ) (first m : Message) : Type 0 where
  no : (m.no.0 == first.no.0) ≡ true
  producer : same_stage m.producer first.producer ≡ true
  batcher : (m.batcher == 0 || nat_lt m.batcher batchers) ≡ true
  payload : length m.payload ≤ max_bytes
  key : length m.key ≤ max_bytes

-- a reply so far
abbrev ReplyFits : (batchers : ℕ) → (first : Message) → Reply → Type 0
ReplyFits batchers first (Passed m) = StillFits batchers first m
ReplyFits batchers first (Failed why) = is_own_reason why ≡ true
ReplyFits batchers first (Raised why) = is_own_reason why ≡ true
ReplyFits batchers first Crashed = Unit {0}

rule_fits : (batchers count : ℕ) (first : Message) (rule : Rule) (m : Message) → routes_below batchers rule ≡ true → StillFits batchers first m → ReplyFits batchers first (rule_reply count rule m)
rule_fits batchers count first Pass m below fits = fits
rule_fits batchers count first (Prefix text) m below fits =
    cond_both (nat_lt max_bytes (length (text ++ m.payload))) _ _ (ReplyFits batchers first) (λ _. refl)
    (λ short. record { no = fits.no; producer = fits.producer; batcher = fits.batcher; payload = ltb-false _ _ short; key = fits.key })
rule_fits batchers count first (Require text) m below fits = cond_both (begins_with text m.payload) _ _ (ReplyFits batchers first) (λ _. fits) (λ _. refl)
rule_fits batchers count first (Route n batcher value) m below fits =
    cond_both (bytes_eq (field n m.payload) value) _ _ (ReplyFits batchers first)
    (λ _. record { no = fits.no; producer = fits.producer; batcher = or_right _ _ below; payload = fits.payload; key = fits.key })
    (λ _. fits)
rule_fits batchers count first (Key n) m below fits =
    let short : length m.payload ≤ max_bytes = fits.payload in
    record { no = fits.no; producer = fits.producer; batcher = fits.batcher; payload = fits.payload; key = omega (arith, length-field n m.payload) }
rule_fits batchers count first (Flush text) m below fits =
    cond_both (begins_with text m.payload) _ _ (ReplyFits batchers first)
    (λ _. record { no = fits.no; producer = fits.producer; batcher = fits.batcher; payload = fits.payload; key = fits.key })
    (λ _. fits)
rule_fits batchers count first (Raise text) m below fits = cond_both (begins_with text m.payload) _ _ (ReplyFits batchers first) (λ _. refl) (λ _. fits)
rule_fits batchers count first (Crash text) m below fits = cond_both (begins_with text m.payload) _ _ (ReplyFits batchers first) (λ _. tt) (λ _. fits)
rule_fits batchers count first (FailEvery every) m below fits = cond_both (count % every == 0) _ _ (ReplyFits batchers first) (λ _. refl) (λ _. fits)

next_fits : (batchers : ℕ) (first : Message) (reply : Reply) (next : Message → Reply) → ReplyFits batchers first reply → ((m : Message) → StillFits batchers first m → ReplyFits batchers first (next m)) → ReplyFits batchers first (and_then reply next)
next_fits batchers first (Passed m) next fits go = go m fits
next_fits batchers first (Failed why) next fits go = fits
next_fits batchers first (Raised why) next fits go = fits
next_fits batchers first Crashed next fits go = fits

rules_fit : (batchers count : ℕ) (first : Message) (rules : List Rule) (m : Message) → list_all (routes_below batchers) rules ≡ true → StillFits batchers first m → ReplyFits batchers first (rules_reply count rules m)
rules_fit batchers count first [] m below fits = fits
rules_fit batchers count first (rule ∷ rules) m below fits =
    let parts = and_parts (routes_below batchers rule) (list_all (routes_below batchers) rules) below in
    next_fits batchers first (rule_reply count rule m) (λ passed. rules_reply count rules passed)
    (rule_fits batchers count first rule m parts.0 fits)
    (λ passed fits'. rules_fit batchers count first rules passed parts.1 fits')

shape_of : (batchers : ℕ) (first : Message) (reply : Reply) → ReplyFits batchers first reply → is_own_reply batchers first reply ≡ true
shape_of batchers first (Passed m) fits =
    and_from _ _ fits.no (and_from _ _ fits.producer (and_from _ _ fits.batcher (and_from _ _ (le-leb _ _ fits.payload) (le-leb _ _ fits.key))))
shape_of batchers first (Failed why) fits = fits
shape_of batchers first (Raised why) fits = fits
shape_of batchers first Crashed fits = refl

-- the reply to a message of one of the stage's batchers keeps the shape
pub eval_shape : (spec : StageSpec) (count : ℕ) (m : Message) → can_arm spec ≡ true → is_message_for spec.batchers m ≡ true → is_own_reply spec.batchers m (eval spec count m) ≡ true
eval_shape spec count m armed is_for =
    let rules_parts = and_parts (list_all is_countable spec.rules) (list_all (routes_below spec.batchers) spec.rules) armed in
    let parts = and_parts (m.batcher == 0 || nat_lt m.batcher spec.batchers) (nat_le (length m.payload) max_bytes && nat_le (length m.key) max_bytes) is_for in
    let lengths = and_parts (nat_le (length m.payload) max_bytes) (nat_le (length m.key) max_bytes) parts.1 in
    shape_of spec.batchers m (eval spec count m)
    (rules_fit spec.batchers (counted count 1) m spec.rules m rules_parts.1
    (record { no = eq-eqb _ _ refl; producer = eq-eqb _ _ refl; batcher = parts.0; payload = leb-true _ _ lengths.0; key = leb-true _ _ lengths.1 }))

-- A batch

-- a reply's reason, if it has one, is not `sink`
abbrev has_own_reason : Reply → Bool
has_own_reason (Failed why) = is_own_reason why
has_own_reason (Raised why) = is_own_reason why
has_own_reason _ = true

rule_reason : (count : ℕ) (rule : Rule) (m : Message) → has_own_reason (rule_reply count rule m) ≡ true
rule_reason count Pass m = refl
rule_reason count (Prefix text) m = cond_both (nat_lt max_bytes (length (text ++ m.payload))) _ _ (λ r. has_own_reason r ≡ true) (λ _. refl) (λ _. refl)
rule_reason count (Require text) m = cond_both (begins_with text m.payload) _ _ (λ r. has_own_reason r ≡ true) (λ _. refl) (λ _. refl)
rule_reason count (Route n batcher value) m = cond_both (bytes_eq (field n m.payload) value) _ _ (λ r. has_own_reason r ≡ true) (λ _. refl) (λ _. refl)
rule_reason count (Key n) m = refl
rule_reason count (Flush text) m = cond_both (begins_with text m.payload) _ _ (λ r. has_own_reason r ≡ true) (λ _. refl) (λ _. refl)
rule_reason count (Raise text) m = cond_both (begins_with text m.payload) _ _ (λ r. has_own_reason r ≡ true) (λ _. refl) (λ _. refl)
rule_reason count (Crash text) m = cond_both (begins_with text m.payload) _ _ (λ r. has_own_reason r ≡ true) (λ _. refl) (λ _. refl)
rule_reason count (FailEvery every) m = cond_both (count % every == 0) _ _ (λ r. has_own_reason r ≡ true) (λ _. refl) (λ _. refl)

next_reason : (reply : Reply) (next : Message → Reply) → has_own_reason reply ≡ true → ((m : Message) → has_own_reason (next m) ≡ true) → has_own_reason (and_then reply next) ≡ true
next_reason (Passed m) next own go = go m
next_reason (Failed why) next own go = own
next_reason (Raised why) next own go = own
next_reason Crashed next own go = own

rules_reason : (count : ℕ) (rules : List Rule) (m : Message) → has_own_reason (rules_reply count rules m) ≡ true
rules_reason count [] m = refl
rules_reason count (rule ∷ rules) m = next_reason (rule_reply count rule m) (λ passed. rules_reply count rules passed) (rule_reason count rule m) (λ passed. rules_reason count rules passed)

batch_reasons : (spec : StageSpec) (count : ℕ) (messages : List Message) → list_all has_own_reason (batch_replies spec count messages) ≡ true
batch_reasons spec count [] = refl
batch_reasons spec count (m ∷ messages) =
    let own = rules_reason (counted count 1) spec.rules m in
    cond_both (ends_batch (eval spec count m)) _ _ (λ rs. list_all has_own_reason rs ≡ true)
    (λ _. and_from _ _ own refl)
    (λ _. and_from _ _ own (batch_reasons spec (counted count 1) messages))

-- where no reply ends the batch there is one for each message
abbrev EndsOrCounts : List Message → List Reply → Type 0
EndsOrCounts messages replies = batch_ender replies ≡ None → length replies ≡ length messages

one_more_counts : (reply : Reply) (messages : List Message) (m : Message) (replies : List Reply) → EndsOrCounts messages replies → EndsOrCounts (m ∷ messages) (cond (ends_batch reply) (reply ∷ []) (reply ∷ replies))
one_more_counts (Passed p) messages m replies counts none = ap suc (counts none)
one_more_counts (Failed why) messages m replies counts none = ap suc (counts none)
one_more_counts (Raised why) messages m replies counts none = cc
one_more_counts Crashed messages m replies counts none = cc

batch_counts : (spec : StageSpec) (count : ℕ) (messages : List Message) → EndsOrCounts messages (batch_replies spec count messages)
batch_counts spec count [] = λ _. refl
batch_counts spec count (m ∷ messages) = one_more_counts (eval spec count m) messages m (batch_replies spec (counted count 1) messages) (batch_counts spec (counted count 1) messages)

outcome_reasons : (replies : List Reply) → list_all has_own_reason replies ≡ true → list_all is_own_outcome (map outcome_of replies) ≡ true
outcome_reasons [] own = refl
outcome_reasons (Passed m ∷ replies) own = outcome_reasons replies own
outcome_reasons (Crashed ∷ replies) own = outcome_reasons replies own
outcome_reasons (Failed why ∷ replies) own = let parts = and_parts (is_own_reason why) (list_all has_own_reason replies) own in and_from _ _ parts.0 (outcome_reasons replies parts.1)
outcome_reasons (Raised why ∷ replies) own = let parts = and_parts (is_own_reason why) (list_all has_own_reason replies) own in and_from _ _ parts.0 (outcome_reasons replies parts.1)

-- the answer of a reply that ends a batch keeps the shape
abbrev EnderFits : List Message → Option BatchReply → Type 0
EnderFits messages None = Unit {0}
EnderFits messages (Some answer) = is_batch_answer messages answer ≡ true

ender_fits : (messages : List Message) (replies : List Reply) → list_all has_own_reason replies ≡ true → EnderFits messages (batch_ender replies)
ender_fits messages [] own = tt
ender_fits messages (Passed m ∷ replies) own = ender_fits messages replies own
ender_fits messages (Failed why ∷ replies) own = ender_fits messages replies (and_parts (is_own_reason why) (list_all has_own_reason replies) own).1
ender_fits messages (Raised why ∷ replies) own = (and_parts (is_own_reason why) (list_all has_own_reason replies) own).0
ender_fits messages (Crashed ∷ replies) own = refl

by_ender : (kind : Kind) (messages : List Message) (replies : List Reply) (ender : Option BatchReply) → EnderFits messages ender → (ender ≡ None → length replies ≡ length messages) → list_all has_own_reason replies ≡ true → is_batch_answer messages (unwrap_or ender (answered kind replies)) ≡ true
by_ender kind messages replies (Some answer) fits counts own = fits
by_ender kind messages replies None fits counts own =
    and_from _ _ (eq-eqb _ _ (length-map replies outcome_of ∙ counts refl)) (outcome_reasons replies own)

-- the answer to a batch keeps the shape
pub batch_shape : (kind : Kind) (spec : StageSpec) (count : ℕ) (messages : List Message) → is_batch_answer messages (batch_answer_by kind spec count messages) ≡ true
batch_shape kind spec count messages =
    let replies = batch_replies spec count messages in
    let own = batch_reasons spec count messages in
    ap (is_batch_answer messages) (answer_of-ender kind [] replies)
    ∙ by_ender kind messages replies (batch_ender replies) (ender_fits messages replies own) (batch_counts spec count messages) own
