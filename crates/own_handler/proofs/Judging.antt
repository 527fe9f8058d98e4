-- The shape of a reply to a message depends on the number and the producer of the message alone.
use Rattle.std.proofs.Common.{◌≡◌, ℕ, List, [], ◌∷◌, true, false, refl, ap}
use Rattle.std.specs.Prelude.{Bool, if◌then◌else◌}
use Rattle.pipe_types.specs.declared.message.Message.{Message}
use Rattle.pipe_types.specs.declared.message.Reply.{Reply}
use Rattle.pipe_types.specs.declared.message.Reply.TheVariants.{Pass, Crashed}
use Rattle.pipe_types.specs.Handlers.{is_own_reply}
use Rattle.stage_callback.specs.Laws.{MessageForm, replies_among, payload_stays, payload_within, AllAllow}
use Rattle.own_handler.specs.Judged.{bare, judged_reply}

pub same_shape : (batchers : ℕ) (m : Message) (reply : Reply) → is_own_reply batchers (bare m.no m.producer) reply ≡ is_own_reply batchers m reply
same_shape batchers m (Pass passed) = refl
same_shape batchers m _ = refl

pub same_judged : (batchers : ℕ) (m : Message) (given : Reply) → judged_reply batchers (bare m.no m.producer) given ≡ judged_reply batchers m given
same_judged batchers m given = ap (λ (b : Bool). if b then given else Crashed) (same_shape batchers m given)

-- no form forbids a crash
crash_allowed : (forms : List MessageForm) (m : Message) → AllAllow forms m Crashed
crash_allowed [] m = tt
crash_allowed (replies_among known ∷ forms) m = (tt, crash_allowed forms m)
crash_allowed (payload_stays ∷ forms) m = (tt, crash_allowed forms m)
crash_allowed (payload_within ranges ∷ forms) m = (tt, crash_allowed forms m)

-- what is said of the handler's reply is so of the box's, as it is or as a crash
pub judged_kept : (forms : List MessageForm) (batchers : ℕ) (m : Message) (given answered : Reply)
    → answered ≡ judged_reply batchers m given → AllAllow forms m given → AllAllow forms m answered
judged_kept forms batchers m given answered is kept = rw is (by (is_own_reply batchers m given))
  where
    by : (b : Bool) → AllAllow forms m (if b then given else Crashed)
    by true = kept
    by false = crash_allowed forms m
