-- Rows that need long records or long journals.
use Rattle.std.proofs.Common.{◌≡◌, refl}
use Rattle.std.specs.Prelude.{ℕ, zero, suc, Bool, true, false, List, [], ◌∷◌, ◌++◌, map, codes, length, replicate, bytes_eq}
use Rattle.pipe_types.specs.declared.topology.Rule.TheVariants.{Prefix}
use Rattle.pipe_types.specs.declared.message.Reply.{Reply}
use Rattle.pipe_types.specs.declared.message.Reply.TheVariants.{Failed as FailedReply}
use Rattle.pipe_types.specs.declared.message.Why.TheVariants.{Kill as ByKill}
use Rattle.pipe_types.specs.declared.step.Step.{Step}
use Rattle.pipe_types.specs.declared.step.Step.TheVariants.{Ask, Fetch, Accept, SourceEnd, Kill, Late, Drain, Refuse}
use Rattle.pipe_types.specs.declared.step.LateAnswer.TheVariants.{Records}
use Rattle.pipe_types.specs.declared.step.SourceHow.TheVariants.{End, Limit as LimitHow}
use Rattle.pipe_types.specs.declared.step.DrainCause.TheVariants.{Control}
use Rattle.pipe_types.specs.Numbers.{stage}
use Rattle.pipe_types.specs.Lines.{lines, lines_of_pieces, pieces}
use Rattle.pipe_types.specs.Handlers.{rule_reply, may_pass}
use Rattle.pipe_model.specs.Legal.{allows}
use Rattle.model_checks.proofs.Base.{one_each, sub, msg, keyed}

-- Records

-- a record of 65,536 bytes is accepted, and a longer one is not
abbrev fetched : List Step
fetched = Fetch (stage 1) 10 ∷ Ask (sub 2 1 1) 10 ∷ []

accept_long : allows one_each fetched (Accept (stage 1) (replicate 65536 97 ∷ [])) ≡ true
accept_long = refl

accept_too_long : allows one_each fetched (Accept (stage 1) (replicate 65537 97 ∷ [])) ≡ false
accept_too_long = refl

late_long : allows one_each (Kill (stage 1) ByKill ∷ fetched) (Late (stage 1) 0 1 (Records (replicate 65536 97 ∷ []))) ≡ true
late_long = refl

late_too_long : allows one_each (Kill (stage 1) ByKill ∷ fetched) (Late (stage 1) 0 1 (Records (replicate 65537 97 ∷ []))) ≡ false
late_too_long = refl

-- a prefix fails a message that it would make longer than that
abbrev is_too_long : Reply → Bool
is_too_long (FailedReply why) = bytes_eq why (codes "long")
is_too_long _ = false

prefix_up_to_the_limit : is_too_long (rule_reply 1 (Prefix (codes "ab")) (msg 1 (replicate 65534 97))) ≡ false
prefix_up_to_the_limit = refl

prefix_over_the_limit : is_too_long (rule_reply 1 (Prefix (codes "ab")) (msg 1 (replicate 65535 97))) ≡ true
prefix_over_the_limit = refl

-- an own handler's payload and key have at most so many bytes
own_payload : map (λ n. may_pass 0 (msg 1 []) (msg 1 (replicate n 97))) (65536 ∷ 65537 ∷ []) ≡ true ∷ false ∷ []
own_payload = refl

own_key : map (λ n. may_pass 0 (msg 1 []) (keyed 1 (replicate n 97))) (65536 ∷ 65537 ∷ []) ≡ true ∷ false ∷ []
own_key = refl

-- Control lines

-- ten thousand refused lines, the last one first
abbrev refused_lines : ℕ → List Step
refused_lines zero = []
refused_lines (suc n) = Refuse (suc n) ∷ refused_lines n

-- the ten thousandth line is read, and no other after it
last_line : allows one_each (refused_lines 9999) (Refuse 10000) ≡ true
last_line = refl

one_line_more : allows one_each (refused_lines 10000) (Refuse 10001) ≡ false
one_line_more = refl

no_kill_more : allows one_each (refused_lines 10000) (Kill (stage 2) ByKill) ≡ false
no_kill_more = refl

no_drain_more : allows one_each (refused_lines 10000) (Drain Control) ≡ false
no_drain_more = refl

-- then the control source ends by the limit, and in no other way
ends_by_the_limit : allows one_each (refused_lines 10000) (SourceEnd (stage 0) LimitHow) ≡ true
ends_by_the_limit = refl

ends_by_nothing_else : allows one_each (refused_lines 10000) (SourceEnd (stage 0) End) ≡ false
ends_by_nothing_else = refl

not_before : allows one_each (refused_lines 9999) (SourceEnd (stage 0) LimitHow) ≡ false
not_before = refl

ends_before : allows one_each (refused_lines 9999) (SourceEnd (stage 0) End) ≡ true
ends_before = refl

-- Lines

-- a line of 65,536 bytes is one, also as a last piece; the list stops before a longer one, whatever follows
up_to_the_limit : map (λ n. length (lines (codes "a" ++ 10 ∷ replicate n 97))) (65536 ∷ 65537 ∷ []) ≡ 2 ∷ 1 ∷ []
unfolding lines lines_of_pieces pieces
up_to_the_limit = refl

stops_at_the_limit : map (λ n. length (lines (replicate n 97 ++ 10 ∷ codes "a" ++ 10 ∷ []))) (65536 ∷ 65537 ∷ []) ≡ 2 ∷ 0 ∷ []
unfolding lines lines_of_pieces pieces
stops_at_the_limit = refl
