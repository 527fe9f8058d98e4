-- A chunk, message by message.
use Rattle.std.proofs.Common.{◌≡◌, ℕ, ◌+◌, ◌^◌, ◌<◌, true, false, cond, ◌==◌, List, [], ◌∷◌, ◌++◌, length, map, refl, sym, ap, ◌∙◌, arith, append_assoc, append-nil, length-append}
use Rattle.std.specs.List.{list_all}
use Rattle.std.proofs.lemmas.Bool.{and_parts, and_from}
use Rattle.pipe_types.specs.declared.message.Message.{Message}
use Rattle.pipe_types.specs.declared.message.Reply.{Reply}
use Rattle.pipe_types.specs.declared.message.Reply.TheVariants.{Pass as Passed, Crashed}
use Rattle.pipe_types.specs.declared.topology.StageSpec.{StageSpec}
use Rattle.pipe_types.specs.Handlers.{eval, counted, is_crashed, with_reason, replies_until, chunk_replies, is_own_reply, are_own_replies}
use Rattle.stage_callback.specs.Callbacks.{is_message_for}

-- A built-in kind

-- the replies so far and those to the rest are those to the chunk
pub record BuiltInSoFar (spec : StageSpec) (first : ℕ) (messages rest : List Message) (seen : ℕ) (replies : List Reply) : Type 0 where
  pub replies_so_far : replies ++ chunk_replies spec seen rest ≡ chunk_replies spec first messages
  pub counted_so_far : first < 2 ^ 64 → seen ≡ counted first (length replies)

-- the reply to the next message before those to the rest, unless it is a crash
abbrev with_next : Reply → List Reply → List Reply
with_next reply replies = cond (is_crashed reply) (reply ∷ []) (reply ∷ replies)

chunk-next : (spec : StageSpec) (seen : ℕ) (m : Message) (rest : List Message)
    → chunk_replies spec seen (m ∷ rest) ≡ with_next (with_reason spec.failed (eval spec seen m)) (chunk_replies spec (counted seen 1) rest)
chunk-next spec seen m rest = by_reply (eval spec seen m) (replies_until is_crashed spec (counted seen 1) rest)
  where
    by_reply : (reply : Reply) (replies : List Reply) → map (with_reason spec.failed) (cond (is_crashed reply) (reply ∷ []) (reply ∷ replies)) ≡ with_next (with_reason spec.failed reply) (map (with_reason spec.failed) replies)
    by_reply (Passed p) replies = refl
    by_reply _ replies = refl

counted_one_more : (first n seen : ℕ) → seen ≡ counted first n → counted seen 1 ≡ counted first (n + 1)
counted_one_more first n seen e = omega arith

-- what a built-in kind answers to the next message
abbrev pub Answers : StageSpec → (seen : ℕ) → Message → Reply → (seen_then : ℕ) → Type 0
Answers spec seen m reply seen_then = (reply ≡ with_reason spec.failed (eval spec seen m)) × (seen_then ≡ counted seen 1)

goes_on : (spec : StageSpec) (first : ℕ) (messages : List Message) (m : Message) (rest : List Message) (seen : ℕ) (replies : List Reply) (reply : Reply)
    → is_crashed reply ≡ false → reply ≡ with_reason spec.failed (eval spec seen m)
    → BuiltInSoFar spec first messages (m ∷ rest) seen replies
    → BuiltInSoFar spec first messages rest (counted seen 1) (replies ++ reply ∷ [])
goes_on spec first messages m rest seen replies reply calm is so_far =
    let later = chunk_replies spec (counted seen 1) rest in
    let e : chunk_replies spec seen (m ∷ rest) ≡ reply ∷ later =
    chunk-next spec seen m rest ∙ (ap (λ r. with_next r later) (sym is) ∙ ap (λ b. cond b (reply ∷ []) (reply ∷ later)) calm) in
    record {
      replies_so_far = append_assoc replies (reply ∷ []) later ∙ (ap (λ rs. replies ++ rs) (sym e) ∙ so_far.replies_so_far);
      counted_so_far = λ below.
          counted_one_more first (length replies) seen (so_far.counted_so_far below) ∙ ap (counted first) (sym (length-append replies (reply ∷ [])));
    }

-- a reply that is no crash
pub built_in_next : (spec spec_now : StageSpec) (first : ℕ) (messages : List Message) (m : Message) (left rest : List Message) (seen seen_then : ℕ) (replies replies_then : List Reply) (reply : Reply)
    → spec_now ≡ spec → left ≡ m ∷ rest → replies_then ≡ replies ++ reply ∷ [] → Answers spec_now seen m reply seen_then
    → is_crashed reply ≡ false → BuiltInSoFar spec first messages left seen replies → BuiltInSoFar spec first messages rest seen_then replies_then
built_in_next spec spec_now first messages m left rest seen seen_then replies replies_then reply same next grown answers calm so_far =
    rw (answers.1, grown) (goes_on spec first messages m rest seen replies reply calm (rw same at answers.0) (rw next at so_far))

-- no message is left
pub all_answered : (spec : StageSpec) (first : ℕ) (messages left : List Message) (seen : ℕ) (replies : List Reply) → left ≡ []
    → BuiltInSoFar spec first messages left seen replies → replies ≡ chunk_replies spec first messages
all_answered spec first messages left seen replies none so_far =
    let at_end : BuiltInSoFar spec first messages [] seen replies = rw none at so_far in
    sym (append-nil replies) ∙ at_end.replies_so_far

-- A user's own kind

-- replies that fit the rest make with those so far replies that fit the chunk
pub record OwnSoFar (batchers : ℕ) (messages rest : List Message) (replies : List Reply) : Type 0 where
  pub rest_fits : list_all (is_message_for batchers) messages ≡ true → list_all (is_message_for batchers) rest ≡ true
  pub replies_fit : list_all (is_message_for batchers) messages ≡ true → (later : List Reply) → are_own_replies batchers rest later ≡ true → are_own_replies batchers messages (replies ++ later) ≡ true

-- a reply that is no crash
pub own_next : (batchers : ℕ) (messages : List Message) (m : Message) (left rest : List Message) (replies replies_then : List Reply) (reply : Reply)
    → left ≡ m ∷ rest → replies_then ≡ replies ++ reply ∷ [] → (is_message_for batchers m ≡ true → is_own_reply batchers m reply ≡ true)
    → is_crashed reply ≡ false → OwnSoFar batchers messages left replies → OwnSoFar batchers messages rest replies_then
own_next batchers messages m left rest replies replies_then reply next grown own calm so_far = record {
  rest_fits = λ all. (parts_fit all).1;
  replies_fit = λ all later fit.
      ap (λ rs. are_own_replies batchers messages (rs ++ later)) grown
      ∙ (ap (are_own_replies batchers messages) (append_assoc replies (reply ∷ []) later) ∙ so_far.replies_fit all (reply ∷ later) (rw next (with_next_fit all later fit)));
}
  where
    -- the next message and the rest are for the stage
    parts_fit : list_all (is_message_for batchers) messages ≡ true → (is_message_for batchers m ≡ true) × (list_all (is_message_for batchers) rest ≡ true)
    parts_fit all = and_parts (is_message_for batchers m) (list_all (is_message_for batchers) rest) (rw next at (so_far.rest_fits all))

    with_next_fit : list_all (is_message_for batchers) messages ≡ true → (later : List Reply) → are_own_replies batchers rest later ≡ true → are_own_replies batchers (m ∷ rest) (reply ∷ later) ≡ true
    with_next_fit all later fit =
        and_from (is_own_reply batchers m reply) (cond (is_crashed reply) (length later == 0) (are_own_replies batchers rest later))
        (own (parts_fit all).0) (ap (λ b. cond b (length later == 0) (are_own_replies batchers rest later)) calm ∙ fit)

-- no message is left
pub all_fit : (batchers : ℕ) (messages left : List Message) (replies : List Reply) → left ≡ [] → OwnSoFar batchers messages left replies
    → list_all (is_message_for batchers) messages ≡ true → are_own_replies batchers messages replies ≡ true
all_fit batchers messages left replies none so_far all =
    ap (are_own_replies batchers messages) (sym (append-nil replies)) ∙ so_far.replies_fit all [] (rw none refl)

-- a crash alone answers a chunk of at least one message
pub crash_fits : (batchers : ℕ) (messages : List Message) → (length messages == 0) ≡ false → are_own_replies batchers messages (Crashed ∷ []) ≡ true
crash_fits batchers [] some = cc
crash_fits batchers (m ∷ messages) some = refl
