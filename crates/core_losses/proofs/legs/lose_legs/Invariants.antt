use Rattle.std.proofs.Common.{◌≡◌, ℕ, false}
use Rattle.std.specs.Prelude.{is_some, not, ◌&&◌, ◌==◌, IfSome}
use Rattle.pipe_model.specs.Standing.{going}
use Rattle.message_ack.specs.Ends.{sent_in}
use Rattle.core_laws.specs.Columns.{ends_on}
use Rattle.core_deaths.specs.Reasons.{reason_at}
use Rattle.core_losses.specs.Losses.{incarnation_at}
use Rattle.core_losses.specs.Legs.{leg_due, leg_loss, SeenLegs, SettledAs}
use Rattle.core_losses.proofs.LegsLost.{legs_upto}
use Rattle.core_losses.proofs.legs.lose_legs.Given as goal

abbrev pub invariant-loop-leg : goal.invariant-loop-leg
invariant-loop-leg l =
    record {
      ends : (seen : SeenLegs (leg_due l.rows l.posts l.inboxes (reason_at l.killed)) (leg_loss (reason_at l.killed) (incarnation_at l.rows)) l.no.0 l.subs (sent_in l.fn.legs l.no.0))
          → sent_in l.legs l.no.0 ≡ ends_on seen.messages (legs_upto l.leg (leg_loss (reason_at l.killed) (incarnation_at l.rows)) seen.place);
      last : (seen : SeenLegs (leg_due l.rows l.posts l.inboxes (reason_at l.killed)) (leg_loss (reason_at l.killed) (incarnation_at l.rows)) l.no.0 l.subs (sent_in l.fn.legs l.no.0))
          → is_some l.settled ≡ (going seen.place && not (going (legs_upto l.leg (leg_loss (reason_at l.killed) (incarnation_at l.rows)) seen.place)));
      settled : (seen : SeenLegs (leg_due l.rows l.posts l.inboxes (reason_at l.killed)) (leg_loss (reason_at l.killed) (incarnation_at l.rows)) l.no.0 l.subs (sent_in l.fn.legs l.no.0))
          → IfSome l.settled (SettledAs seen.messages (legs_upto l.leg (leg_loss (reason_at l.killed) (incarnation_at l.rows)) seen.place));
      others : (b : ℕ) → (b == l.no.0) ≡ false → sent_in l.legs b ≡ sent_in l.fn.legs b;
    }
