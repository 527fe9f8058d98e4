-- The logbook: reading its journal from the oldest step on, and adding one step.
use Rattle.std.proofs.Common.{◌≡◌, ◌≢◌, ℕ, ◌+◌, Bool, true, false, [], ◌∷◌, ◌++◌, length, take, reverse, refl, sym, ap, ◌∙◌, Some, append_assoc}
use Rattle.std.specs.List.{slice_get}
use Rattle.std.proofs.lemmas.List.{reverse-append, reverse-reverse}
use Rattle.std.proofs.lemmas.List.Elements.{All-nil, All-cons}
use Rattle.std.proofs.lemmas.Bool.{eqb-true, and_parts}
use Rattle.pipe_types.specs.declared.numbers.Post.{Post}
use Rattle.pipe_types.specs.declared.numbers.StageNo.{StageNo}
use Rattle.pipe_types.specs.declared.step.Step.{Step}
use Rattle.pipe_types.specs.declared.step.Step.TheVariants.{Quiet}
use Rattle.pipe_types.specs.Numbers.{post, same_post}
use Rattle.pipe_model.specs.History.{History}
use Rattle.pipe_model.specs.Begins.{BeginsWith}
use Rattle.pipe_model.specs.Posts.{answers, is_out}
use Rattle.pipe_journal.proofs.Walks.{one_more, whole}
use Rattle.pipeline_turn.specs.Jobs.{IsUnanswered}
use Rattle.turn_checks.specs.Logged.{out_next}

-- after one more step of the journal
pub out_more : (steps : History) (i : ℕ) (x : Step) (p : Post) (now next : Bool) → slice_get (reverse steps) i ≡ Some x
    → now ≡ is_out (reverse (take i (reverse steps))) p → next ≡ out_next p now x → next ≡ is_out (reverse (take (i + 1) (reverse steps))) p
out_more steps i x p now next is so_far after =
    after ∙ ap (λ b. out_next p b x) so_far
    ∙ sym (ap (λ (z : History). is_out z p) (ap reverse (one_more (reverse steps) i x is) ∙ reverse-append (take i (reverse steps)) (x ∷ [])))

-- after all of them
pub out_whole : (n : ℕ) (steps : History) (p : Post) (now : Bool) → n ≡ length steps → now ≡ is_out (reverse (take n (reverse steps))) p → now ≡ is_out steps p
out_whole n steps p now is so_far = so_far ∙ ap (λ (z : History). is_out z p) (ap reverse (whole n steps is) ∙ reverse-reverse steps)

same_true : (a b : Post) → same_post a b ≡ true → a ≡ b
same_true a b e =
    let t = and_parts _ _ e in
    λ i. record { stage = record { 0 = eqb-true a.stage.0 b.stage.0 t.0 i }; slot = eqb-true a.slot b.slot t.1 i }

other_post : (a b : Post) (is : Bool) → same_post a b ≡ is → b ≢ a → same_post a b ≡ false
other_post a b true e n = absurd (n (sym (same_true a b e)))
other_post a b false e n = e

-- one more step that does not answer the post
pub unanswered_step : (step : Step) (seen : History) (p : Post) → answers step p ≡ false → IsUnanswered (step ∷ seen) seen p
unanswered_step step seen p quiet = record { later = step ∷ []; is = refl; silent = All-cons (λ s. answers s p ≡ false) step [] quiet (All-nil (λ s. answers s p ≡ false)) }

pub unanswered_quiet : (seen : History) (own p : Post) (s : StageNo) → own ≡ post s 0 → own ≢ p → IsUnanswered (Quiet s ∷ seen) seen p
unanswered_quiet seen own p s is n = unanswered_step (Quiet s) seen p (other_post p (post s 0) (same_post p (post s 0)) refl (λ e. n (is ∙ e)))

pub begins_through : (whole middle seen : History) → BeginsWith whole middle → BeginsWith middle seen → BeginsWith whole seen
begins_through whole middle seen a b = record { later = a.later ++ b.later; is = a.is ∙ (ap (λ x. a.later ++ x) b.is ∙ sym (append_assoc a.later b.later seen)) }

-- a journal with one step more
pub begins_step : (step : Step) (whole seen middle : History) → whole ≡ step ∷ middle → middle ≡ seen → BeginsWith whole seen
begins_step step whole seen middle one same = record { later = step ∷ []; is = one ∙ ap (λ (z : History). step ∷ z) same }

pub unanswered_by : (step : Step) (whole seen middle : History) (p : Post) → whole ≡ step ∷ middle → middle ≡ seen → answers step p ≡ false → IsUnanswered whole seen p
unanswered_by step whole seen middle p one same quiet = record { later = step ∷ []; is = one ∙ ap (λ (z : History). step ∷ z) same; silent = All-cons (λ s. answers s p ≡ false) step [] quiet (All-nil (λ s. answers s p ≡ false)) }
