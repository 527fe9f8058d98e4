use Rattle.std.proofs.Common.{rules, ◌≡◌, ◌<◌, length, refl, ap, sym, ◌∙◌, Some, arith}
use Rattle.std.specs.Prelude.{slice_get}
use Rattle.std.proofs.lemmas.List.{length-set}
use Rattle.std.proofs.lemmas.Option.{slice_get_read}
use Rattle.core_tables.proofs.Turns.{row_step, row_done}
use Rattle.core_deaths.specs.Reasons.{reason_at}
use Rattle.core_losses.specs.Losses.{incarnation_at, loss_at, place_loss, place_lost, lost_to, marked_to}
use Rattle.core_losses.proofs.Passing.{still_at}
use Rattle.core_losses.proofs.messages.lose_messages.Goals as goal

pub loop-at-preserved : goal.loop-at-preserved
loop-at-preserved c =
    let l = c.loop-at in
    let why = reason_at c.args.killed.now in
    let inc = incarnation_at c.args.rows.now in
    let x = c.read.result in
    let z = c.read-in-loop-at.result in
    let m = c.index.result.now in
    let within : l.at < length l.places.items = omega arith in
    let there : l.at < length l.marks.items = omega (arith, l.invariant.places_len, l.invariant.marks_len, c.requires.marks) in
    let was : slice_get l.places.items l.at ≡ Some x = c.read.ensures in
    let same : slice_get l.places.items l.at ≡ Some z = c.read-in-loop-at.ensures in
    let one : Some z ≡ Some x = sym same ∙ was in
    let zx : z ≡ x = cc in
    let had : slice_get l.marks.items l.at ≡ Some m = slice_get_read l.marks.items (length l.marks.items) l.at m refl there c.index.ensures in
    let first : slice_get c.args.places.now.items l.at ≡ Some x = still_at (λ k. place_lost why inc) l.places.items c.args.places.now.items l.at x l.invariant.places was in
    let placed : c.lost-place.result ≡ place_lost why inc z =
    c.lost-place.ensures ∙ ap (λ o. lost_to o z) (c.loss_of_place-loss.ensures ∙ ap (place_loss why inc) (sym zx)) in
    let now : c.marked.result ≡ marked_to (loss_at why inc (slice_get c.args.places.now.items l.at)) c.args.mark m =
    c.marked.ensures ∙ ap (λ o. marked_to o c.args.mark m) (c.loss_of_place-loss.ensures ∙ sym (ap (loss_at why inc) first)) in
    record {
      places = λ i. ap (λ ps. slice_get ps i) c.write.ensures.items ∙ row_step (λ k. place_lost why inc) l.places.items c.args.places.now.items l.at z c.lost-place.result within same placed l.invariant.places i;
      marks = row_step (λ k. marked_to (loss_at why inc (slice_get c.args.places.now.items k)) c.args.mark) l.marks.items c.args.marks.now.items l.at m c.marked.result there had now l.invariant.marks;
      places_len = ap length c.write.ensures.items ∙ (length-set l.places.items l.at c.lost-place.result ∙ l.invariant.places_len);
      marks_len = search rules;
      places_capacity = c.write.ensures.capacity ∙ l.invariant.places_capacity;
      marks_capacity = search rules;
    }

pub returns-clause-places : goal.returns-clause-places
returns-clause-places c =
    let l = c.loop-at in
    let why = reason_at c.args.killed.now in
    let inc = incarnation_at c.args.rows.now in
    λ i. l.invariant.places i ∙ row_done (λ k. place_lost why inc) c.args.places.now.items l.at i (omega (arith, l.invariant.places_len))

pub returns-clause-marks : goal.returns-clause-marks
returns-clause-marks c =
    let l = c.loop-at in
    let why = reason_at c.args.killed.now in
    let inc = incarnation_at c.args.rows.now in
    λ i. l.invariant.marks i ∙ row_done (λ k. marked_to (loss_at why inc (slice_get c.args.places.now.items k)) c.args.mark) c.args.marks.now.items l.at i (omega (arith, l.invariant.marks_len, l.invariant.places_len, c.requires.marks))
