-- Outcomes, with the reasons that stay.
use Rattle.std.proofs.Common.{◌≡◌, ◌≤◌, ◌<◌, ◌+◌, ℕ, length, get_or, take, arith, true, ◌&&◌, List, [], ◌∷◌, ◌++◌, map, refl, sym, ap, ◌∙◌, append_assoc, append-nil, Option, Some, None}
use Rattle.std.specs.List.{list_all}
use Rattle.std.proofs.lemmas.Bool.{and_parts, and_from}
use Rattle.std.proofs.lemmas.List.{map-append, take_more, take_all}
use Rattle.std.proofs.lemmas.List.Folds.{list_all-append}
use Rattle.pipe_types.specs.Handlers.{reason_of, outcome_with, is_own_reason, is_own_outcome, is_successful}
use Rattle.pipe_types.specs.declared.message.Outcome.{Outcome}
use Rattle.pipe_types.specs.declared.message.Outcome.TheVariants.{Failed}
use Rattle.stage_callback.specs.Callbacks.{is_failed_answer, failed_reply}
use Rattle.stage_callback.specs.declared.answers.FailedReply.{FailedReply}
use Rattle.stage_callback.specs.declared.answers.FailedReply.TheVariants as failed
use Rattle.stage_callback.specs.declared.answers.Said.{Said}
use Rattle.stage_callback.specs.declared.answers.Said.TheVariants as said
use Rattle.stage_job.specs.Told.{before, reason_by}
use Rattle.stage_job.proofs.ToldSteps.{before_both}
use Rattle.stage_bodies.specs.Seen.{BoxSeen}
use Rattle.stage_bodies.specs.Told.{outcomes_by}
use Rattle.stage_bodies.specs.Jobs.{KeepsBox}
use Rattle.body_jobs.specs.Batches.{AsksFailed, Settles}
use Rattle.body_jobs.proofs.Children.{kept_on}

by_spec : (failed : Option (List ℕ)) (why : List ℕ) → reason_by (failed_reply failed) why ≡ reason_of failed why
by_spec (Some other) why = refl
by_spec None why = refl

own_by : (by : FailedReply) (why : List ℕ) → is_failed_answer by ≡ true → (is_own_reason why && true) ≡ true → (is_own_reason (reason_by by why) && true) ≡ true
own_by (failed.Replace other) why answer own = and_from (is_own_reason other) true answer refl
own_by failed.Keep why answer own = own
own_by failed.Raised why answer own = own

-- a message that failed
pub settles_failed : {old new : BoxSeen} (by : FailedReply) (why reason : List ℕ) → reason ≡ reason_by by why → AsksFailed by old new → Settles (Failed why ∷ []) (Failed reason ∷ []) old new
settles_failed {old = old} {new = new} by why reason is asked = rw is (record {
  kept = asked.kept;
  built_in = λ not_own.
      let b = asked.built_in not_own in
      (ap (λ x. Failed (reason_by x why) ∷ []) b.0 ∙ ap (λ r. Failed r ∷ []) (by_spec old.spec.failed why), b.1);
  own = λ own all. own_by by why (asked.own own) all;
  same = refl;
  by_answers = λ told. (said.Failed by ∷ [], asked.answered told, λ others later. refl);
})

kept_as : (box : BoxSeen) → KeepsBox box box
kept_as box = record {
  kind = refl;
  spec = refl;
  law = refl;
  told = refl;
  calls = omega arith;
  bad = omega arith;
  no_calls = λ not_own. refl;
  no_bad = λ not_own. refl;
}

-- no message yet
pub settles_none : (settled : List Outcome) (box : BoxSeen) → settled ≡ [] → Settles [] settled box box
settles_none settled box none = rw none (record {
  kept = kept_as box;
  built_in = λ not_own. (refl, refl);
  own = λ own all. all;
  same = refl;
  by_answers = λ told. ([], sym (append-nil box.said), λ others later. refl);
})

-- more messages
pub settles_more : {old middle new : BoxSeen} (first first' then then' : List Outcome) → Settles first first' old middle → Settles then then' middle new → Settles (first ++ then) (first' ++ then') old new
settles_more {old = old} {middle = middle} {new = new} first first' then then' a b = record {
  kept = kept_on a.kept b.kept;
  built_in = λ not_own.
      let x = a.built_in not_own in
      let y = b.built_in (rw a.kept.kind not_own) in
      let z : then' ≡ map (outcome_with old.spec.failed) then = y.0 ∙ ap (λ (s : _). map (outcome_with s.failed) then) a.kept.spec in
      (rw (x.0, z) (sym (map-append (outcome_with old.spec.failed) first then)), y.1 ∙ x.1);
  own = λ own all.
      let parts = and_parts (list_all is_own_outcome first) (list_all is_own_outcome then) (sym (list_all-append is_own_outcome first then) ∙ all) in
      list_all-append is_own_outcome first' then' ∙ and_from (list_all is_own_outcome first') (list_all is_own_outcome then') (a.own own parts.0) (b.own (a.kept.kind ∙ own) parts.1);
  same = map-append is_successful first' then' ∙ (ap (λ x. x ++ map is_successful then') a.same ∙ (ap (λ x. map is_successful first ++ x) b.same ∙ sym (map-append is_successful first then)));
  by_answers = λ told. told_on (a.by_answers told) (b.by_answers (rw a.kept.told told));
}
  where
    told_on : (answers : List Said) × (middle.said ≡ old.said ++ answers) × ((others : List Outcome) (later : List Said) → outcomes_by (first ++ others) (answers ++ later) ≡ before first' (outcomes_by others later))
        → (answers : List Said) × (new.said ≡ middle.said ++ answers) × ((others : List Outcome) (later : List Said) → outcomes_by (then ++ others) (answers ++ later) ≡ before then' (outcomes_by others later))
        → (answers : List Said) × (new.said ≡ old.said ++ answers) × ((others : List Outcome) (later : List Said) → outcomes_by ((first ++ then) ++ others) (answers ++ later) ≡ before (first' ++ then') (outcomes_by others later))
    told_on (xs, grown, made) (ys, grown', made') = (
      xs ++ ys,
      grown' ∙ (ap (λ t. t ++ ys) grown ∙ append_assoc old.said xs ys),
      λ others later.
          ap (λ os. outcomes_by os ((xs ++ ys) ++ later)) (append_assoc first then others)
          ∙ (ap (outcomes_by (first ++ (then ++ others))) (append_assoc xs ys later)
          ∙ (made (then ++ others) (ys ++ later)
          ∙ (ap (before first') (made' others later)
          ∙ before_both first' then' (outcomes_by others later)))),
    )

-- the next message
pub settles_next : {old middle new : BoxSeen} (outcomes : List Outcome) (at : ℕ) (o s : Outcome) (settled settled' : List Outcome) → at < length outcomes → o ≡ get_or outcomes at o
    → settled' ≡ settled ++ s ∷ [] → Settles (take at outcomes) settled old middle → Settles (o ∷ []) (s ∷ []) middle new → Settles (take (at + 1) outcomes) settled' old new
settles_next outcomes at o s settled settled' below is grown so_far one =
    let e : take (at + 1) outcomes ≡ take at outcomes ++ o ∷ [] = take_more outcomes at o below ∙ ap (λ x. take at outcomes ++ x ∷ []) (sym is) in
    rw (e, grown) (settles_more (take at outcomes) settled (o ∷ []) (s ∷ []) so_far one)

-- every message
pub settles_all : {old new : BoxSeen} (outcomes : List Outcome) (at : ℕ) (settled settled' : List Outcome) → length outcomes ≤ at → settled' ≡ settled → Settles (take at outcomes) settled old new → Settles outcomes settled' old new
settles_all outcomes at settled settled' all is so_far =
    let e : take at outcomes ≡ outcomes = take_all at outcomes all in
    rw is (rw e at so_far)
