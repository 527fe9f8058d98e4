-- Rules that never crash.
use Rattle.std.proofs.Common.{◌≡◌, ℕ, ◌%◌, true, false, cond, not, ◌==◌, List, [], ◌∷◌, ◌++◌, length, map, refl, nat_lt}
use Rattle.std.specs.Str.{bytes_eq}
use Rattle.std.proofs.lemmas.Bool.{and_parts, cond_both}
use Rattle.pipe_types.specs.declared.message.Message.{Message}
use Rattle.pipe_types.specs.declared.message.Reply.{Reply}
use Rattle.pipe_types.specs.declared.message.Reply.TheVariants.{Pass as Passed, Failed, Raised, Crashed}
use Rattle.pipe_types.specs.declared.topology.Rule.{Rule}
use Rattle.pipe_types.specs.declared.topology.Rule.TheVariants.{Pass, Prefix, Require, Route, Key, Flush, Raise, Crash, FailEvery}
use Rattle.pipe_types.specs.declared.topology.StageSpec.{StageSpec}
use Rattle.pipe_types.specs.Lines.{max_bytes}
use Rattle.pipe_types.specs.Handlers.{field, begins_with, rule_reply, rules_reply, and_then, eval, counted, is_crashed, with_reason, replies_until, chunk_replies}
use Rattle.pipe_model.specs.Content.{has_crash}
use Rattle.stage_job.specs.Chunks.{may_crash, never_crashes}

rule_calm : (count : ℕ) (rule : Rule) (m : Message) → not (may_crash rule) ≡ true → is_crashed (rule_reply count rule m) ≡ false
rule_calm count Pass m calm = refl
rule_calm count (Prefix text) m calm = cond_both (nat_lt max_bytes (length (text ++ m.payload))) _ _ (λ r. is_crashed r ≡ false) (λ _. refl) (λ _. refl)
rule_calm count (Require text) m calm = cond_both (begins_with text m.payload) _ _ (λ r. is_crashed r ≡ false) (λ _. refl) (λ _. refl)
rule_calm count (Route n batcher value) m calm = cond_both (bytes_eq (field n m.payload) value) _ _ (λ r. is_crashed r ≡ false) (λ _. refl) (λ _. refl)
rule_calm count (Key n) m calm = refl
rule_calm count (Flush text) m calm = cond_both (begins_with text m.payload) _ _ (λ r. is_crashed r ≡ false) (λ _. refl) (λ _. refl)
rule_calm count (Raise text) m calm = cond_both (begins_with text m.payload) _ _ (λ r. is_crashed r ≡ false) (λ _. refl) (λ _. refl)
rule_calm count (Crash text) m calm = cc
rule_calm count (FailEvery every) m calm = cond_both (count % every == 0) _ _ (λ r. is_crashed r ≡ false) (λ _. refl) (λ _. refl)

next_calm : (reply : Reply) (next : Message → Reply) → is_crashed reply ≡ false → ((m : Message) → is_crashed (next m) ≡ false) → is_crashed (and_then reply next) ≡ false
next_calm (Passed m) next calm go = go m
next_calm (Failed why) next calm go = refl
next_calm (Raised why) next calm go = refl
next_calm Crashed next calm go = calm

-- where no rule is a crash, no reply to a message is one
pub rules_calm : (count : ℕ) (rules : List Rule) (m : Message) → never_crashes rules ≡ true → is_crashed (rules_reply count rules m) ≡ false
rules_calm count [] m calm = refl
rules_calm count (rule ∷ rules) m calm =
    let parts = and_parts (not (may_crash rule)) (never_crashes rules) calm in
    next_calm (rule_reply count rule m) (λ passed. rules_reply count rules passed) (rule_calm count rule m parts.0) (λ passed. rules_calm count rules passed parts.1)

calm_before : (failed : _) (reply : Reply) (replies : List Reply) → is_crashed reply ≡ false → has_crash (map (with_reason failed) replies) ≡ false
    → has_crash (map (with_reason failed) (cond (is_crashed reply) (reply ∷ []) (reply ∷ replies))) ≡ false
calm_before failed Crashed replies calm rest = cc
calm_before failed _ replies calm rest = rest

-- where no rule is a crash, no reply to a chunk is one
pub chunk_calm : (spec : StageSpec) (count : ℕ) (messages : List Message) → never_crashes spec.rules ≡ true → has_crash (chunk_replies spec count messages) ≡ false
chunk_calm spec count [] calm = refl
chunk_calm spec count (m ∷ messages) calm =
    calm_before spec.failed (eval spec count m) (replies_until is_crashed spec (counted count 1) messages) (rules_calm (counted count 1) spec.rules m calm) (chunk_calm spec (counted count 1) messages calm)
