-- The reply to a message alone.
use Rattle.std.proofs.Common.{◌≡◌, ℕ, Bool, true, false, cond, List, [], ◌∷◌, ◌++◌, map, refl, sym, ap, ◌∙◌, append-nil, Some}
use Rattle.pipe_types.specs.declared.message.Message.{Message}
use Rattle.pipe_types.specs.declared.message.Reply.{Reply}
use Rattle.pipe_types.specs.declared.message.Reply.TheVariants as reply
use Rattle.pipe_types.specs.declared.topology.StageSpec.{StageSpec}
use Rattle.pipe_types.specs.Handlers.{eval, with_reason, chunk_replies, is_crashed}
use Rattle.pipe_model.specs.Content.{has_crash}
use Rattle.stage_callback.specs.declared.answers.Said.{Said}
use Rattle.stage_callback.specs.declared.answers.Said.TheVariants as said
use Rattle.stage_callback.specs.declared.answers.FailedReply.{FailedReply}
use Rattle.stage_callback.specs.declared.answers.Prepared.{Prepared}
use Rattle.stage_callback.specs.declared.answers.Prepared.TheVariants as prepared
use Rattle.stage_job.specs.Chunks.{never_crashes}
use Rattle.stage_job.specs.Told.{chunk_by, replies_by, reason_by, MakeReply}
use Rattle.stage_job.proofs.CalmRules.{chunk_calm}
use Rattle.stage_job.proofs.ToldSteps.{told_after}

-- the reply of a built-in kind is the one to a chunk of one
pub one_reply : (spec : StageSpec) (count : ℕ) (m : Message) (reply : Reply) → reply ≡ with_reason spec.failed (eval spec count m) → reply ∷ [] ≡ chunk_replies spec count (m ∷ [])
one_reply spec count m reply is = ap (λ r. r ∷ []) is ∙ sym (either (is_crashed (eval spec count m)) (eval spec count m))
  where
    either : (b : Bool) (r : Reply) → map (with_reason spec.failed) (cond b (r ∷ []) (r ∷ [])) ≡ with_reason spec.failed r ∷ []
    either true r = refl
    either false r = refl

-- where no rule is a crash, it is none
pub one_calm : (spec spec_now : StageSpec) (count : ℕ) (m : Message) (reply : Reply) → spec_now ≡ spec → never_crashes spec.rules ≡ true → reply ≡ with_reason spec_now.failed (eval spec_now count m) → has_crash (reply ∷ []) ≡ false
one_calm spec spec_now count m reply same calm is =
    ap has_crash (one_reply spec_now count m reply is) ∙ chunk_calm spec_now count (m ∷ []) (ap (λ (s : StageSpec). never_crashes s.rules) same ∙ calm)

-- the answers to one message make its reply
pub one_told : (first middle now : List Said) (shown : Prepared) (reply : Reply) → shown ≡ prepared.Ready → middle ≡ first ++ said.Prepared shown ∷ []
    → (answers : List Said) × (now ≡ middle ++ answers) × MakeReply answers reply
    → (answers : List Said) × (now ≡ first ++ answers) × (chunk_by answers ≡ Some (reply ∷ []))
one_told first middle now shown reply ready one (answers, grown, makes) = (
  said.Prepared prepared.Ready ∷ answers,
  told_after first middle now (said.Prepared prepared.Ready) answers (one ∙ ap (λ p. first ++ said.Prepared p ∷ []) ready) grown,
  ap replies_by (sym (append-nil answers)) ∙ makes [],
)

-- the answers to a message that was not handled make its reply
pub raised_told : (first middle now : List Said) (shown : Prepared) (why reason : List ℕ) → shown ≡ prepared.Raised why → middle ≡ first ++ said.Prepared shown ∷ []
    → (by : FailedReply) × (now ≡ middle ++ said.Failed by ∷ []) × (reason ≡ reason_by by why)
    → (answers : List Said) × (now ≡ first ++ answers) × (chunk_by answers ≡ Some (reply.Raised reason ∷ []))
raised_told first middle now shown why reason raised one (by, grown, is) = (
  said.Prepared (prepared.Raised why) ∷ said.Failed by ∷ [],
  told_after first middle now (said.Prepared (prepared.Raised why)) (said.Failed by ∷ []) (one ∙ ap (λ p. first ++ said.Prepared p ∷ []) raised) grown,
  ap (λ w. Some (reply.Raised w ∷ [])) (sym is),
)
