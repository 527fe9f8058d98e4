-- Messages that run in a stage, until it answers or ends.
use Rattle.std.proofs.Common.{◌≡◌, ℕ, ◌+◌, ◌-◌, ◌≤◌, List, [], ◌∷◌, Bool, true, false, refl, ap, sym, ◌∙◌, subst, inl, inr, Some, None, Option}
use Rattle.std.specs.Prelude.{◌⊎◌, if◌then◌else◌, ◌==◌, ◌&&◌, ◌||◌, option_map, is_some}
use Rattle.std.specs.List.{filter_map, cons_option}
use Rattle.std.proofs.lemmas.Bool.{false_from_ne_true}
use Rattle.pipe_types.specs.declared.numbers.StageNo.{StageNo}
use Rattle.pipe_types.specs.declared.message.Place.{Place}
use Rattle.pipe_types.specs.declared.message.Place.TheVariants.{Running}
use Rattle.pipe_types.specs.declared.message.Reply.{Reply}
use Rattle.pipe_types.specs.declared.message.Reply.TheVariants.{Pass, Failed, Raised, Crashed}
use Rattle.pipe_types.specs.declared.message.Why.{Why}
use Rattle.pipe_types.specs.declared.step.LateAnswer.TheVariants.{Records}
use Rattle.pipe_types.specs.declared.step.Step.{Step}
use Rattle.pipe_types.specs.declared.step.Step.TheVariants.{Accept, Dispatch, Take, Done, Gather, Close, Wrote, Child, ChildEnd, Kill, Late, Halt}
use Rattle.pipe_types.specs.declared.topology.Topology.{Topology}
use Rattle.pipe_types.specs.Numbers.{same_stage}
use Rattle.pipe_types.specs.Sound.{IsSound}
use Rattle.pipe_types.specs.Stages.{spec_of}
use Rattle.pipe_model.specs.History.{History, accepted, incarnation}
use Rattle.pipe_model.specs.Posts.{in_slot, crashes}
use Rattle.pipe_model.specs.Batches.{Batch}
use Rattle.pipe_model.specs.Lives.{reason_in, kill_set}
use Rattle.pipe_model.specs.Content.{content, newer, passed_as, passed, has_crash}
use Rattle.pipe_model.specs.Flow.{place, batch, view_of, by_batch, lost_with, answered, reply_to, has_batchers_in, chunk_by, child_place, runs_again, is_number}
use Rattle.pipe_model.specs.Legal.{is_legal}
use Rattle.pipe_model.specs.Moves.{is_final}
use Rattle.pipe_laws.proofs.Tests.{clash, same_stage-true, same_stage-self}
use Rattle.pipe_laws.proofs.Lists.{Each, each_among}
use Rattle.pipe_laws.proofs.Allowed.{legal_before}
use Rattle.pipe_laws.proofs.Accepted.{placed_accepted}
use Rattle.pipe_laws.proofs.Idle.{other_stage}
use Rattle.pipe_laws.proofs.Settled.{stays_settled}
use Rattle.queue_laws.proofs.Fits.{Fits}
use Rattle.queue_laws.proofs.Sounds.{fits}
use Rattle.queue_laws.proofs.Distinct.{distinct, passes}
use Rattle.queue_laws.proofs.Gathering.{content_stays, fresh_none, no_change, passed_in}

-- it runs in the stage, or is acknowledged or lost
abbrev pub StillRuns : StageNo → Option Place → Type 0
StillRuns s p = (p ≡ Some (Running s)) ⊎ (is_final p ≡ true)

-- the step answers the chunk of the stage
abbrev pub ends_chunk : Step → StageNo → Bool
ends_chunk (Done t replies) s = same_stage s t
ends_chunk _ s = false

-- ---- places

lost_or_runs : (after : ℕ → Option Batch) (n i : ℕ) (s : StageNo) (why : Option Why) → StillRuns s (Some (by_batch after n (lost_with i s why (Running s))))
lost_or_runs after n i s None = inl refl
lost_or_runs after n i s (Some why) = inr refl

child_or_runs : (again : Bool) (s : StageNo) (i : ℕ) (reply : Reply) → StillRuns s (Some (child_place again s i reply))
child_or_runs again s i (Pass m) = inr refl
child_or_runs again s i (Failed why) = inr refl
child_or_runs again s i (Raised why) = inr refl
child_or_runs true s i Crashed = inl refl
child_or_runs false s i Crashed = inr refl

-- a step that changes a running place so changes this one so
moved : (s : StageNo) (f : Place → Place) (p : Option Place) → p ≡ Some (Running s) → StillRuns s (Some (f (Running s))) → StillRuns s (option_map f p)
moved s f p e h = subst (λ x. StillRuns s (option_map f x)) (sym e) h

ran_on : (topology : Topology) (before : History) (step : Step) (s : StageNo) (n : ℕ) → ends_chunk step s ≡ false → place topology before n ≡ Some (Running s) → StillRuns s (place topology (step ∷ before) n)
ran_on topology before (Accept t records) s n other e = inl (rw e refl)
ran_on topology before (Late t slot i (Records records)) s n other e = inl (rw e refl)
ran_on topology before (Dispatch t) s n other e = inl (rw e refl)
ran_on topology before (Take t u k) s n other e = inl (rw e refl)
ran_on topology before (Gather t m) s n other e = inl (rw e refl)
ran_on topology before (Close t first trigger) s n other e = inl (rw e refl)
ran_on topology before (Wrote t bytes end) s n other e = inl (rw e refl)
ran_on topology before (Child t m slot) s n other e = inl (rw e refl)
ran_on topology before (Done t replies) s n other e =
    inl (either (has_crash replies) (place topology before n) _ e (ap (λ b. if b then answered (has_batchers_in (spec_of topology t)) t (reply_to (chunk_by (view_of topology before) t) replies n) else Running s) (other_stage s t other)))
  where
    either : (b : Bool) (p : Option Place) (move : Place → Place) → p ≡ Some (Running s) → move (Running s) ≡ Running s → (if b then p else option_map move p) ≡ Some (Running s)
    either true p move e keeps = e
    either false p move e keeps = ap (option_map move) e ∙ ap Some keeps
ran_on topology before (ChildEnd t slot reply) s n other e =
    moved s _ (place topology before n) e (either (same_stage t s) (is_number (in_slot before t slot) n) refl)
  where
    again : Bool
    again = runs_again (spec_of topology t) (crashes before n)

    either : (a b : Bool) → same_stage t s ≡ a → StillRuns s (Some (if a && b then child_place again t (incarnation before t) reply else Running s))
    either true true same = subst (λ x. StillRuns x (Some (child_place again t (incarnation before t) reply))) (same_stage-true t s same) (child_or_runs again t (incarnation before t) reply)
    either true false same = inl refl
    either false b same = inl refl
ran_on topology before (Kill t why) s n other e = moved s _ (place topology before n) e (lost_or_runs (batch topology (Kill t why ∷ before)) n (incarnation before s) s (reason_in (kill_set topology before (Kill t why)) s))
ran_on topology before Halt s n other e = moved s _ (place topology before n) e (lost_or_runs (batch topology (Halt ∷ before)) n (incarnation before s) s (reason_in (kill_set topology before Halt) s))
ran_on topology before _ s n other e = inl e

-- what runs in a stage runs on, or is settled for good, in each step that does not answer the stage's chunk
pub run_on : (topology : Topology) (before : History) (step : Step) (s : StageNo) (n : ℕ) → ends_chunk step s ≡ false → StillRuns s (place topology before n) → StillRuns s (place topology (step ∷ before) n)
run_on topology before step s n other (inl e) = ran_on topology before step s n other e
run_on topology before step s n other (inr final) = inr (ap is_final (stays_settled topology (step ∷ []) before n final) ∙ final)

-- ---- contents

running_content : (topology : Topology) (before : History) (step : Step) (s : StageNo) (n : ℕ) → Fits topology → is_legal topology (step ∷ before) ≡ true → ends_chunk step s ≡ false → place topology before n ≡ Some (Running s) → content (step ∷ before) n ≡ content before n
running_content topology before (Accept t records) s n fit h other e =
    ap (λ o. newer o (content before n)) (fresh_none t (accepted before) records n (placed_accepted topology before n (ap is_some e)).1)
running_content topology before (Late t slot i (Records records)) s n fit h other e =
    ap (λ o. newer o (content before n)) (fresh_none t (accepted before) records n (placed_accepted topology before n (ap is_some e)).1)
running_content topology before (Done t replies) s n fit h other e = either (has_crash replies) refl
  where
    elsewhere : place topology before n ≡ Some (Running t) → ⊥
    elsewhere there =
        let same : s ≡ t = let both : Some (Running s) ≡ Some (Running t) = sym e ∙ there in cc in
        clash (same_stage s t) (ap (same_stage s) (sym same) ∙ same_stage-self s) other

    either : (b : Bool) → has_crash replies ≡ b → newer (if b then None else passed_as replies n) (content before n) ≡ content before n
    either true crash = refl
    either false safe =
        no_change (passed_as replies n) (content before n)
        (false_from_ne_true (is_some (passed_as replies n))
        (λ k. elsewhere (each_among (λ m. place topology before m ≡ Some (Running t)) (passed replies) n
        (passes topology before t replies h safe ((distinct topology before fit.ascend (legal_before topology before (Done t replies) h)).sent t)).running (passed_in replies n k))))
running_content topology before _ s n fit h other e = refl

final_some : (p : Option Place) → is_final p ≡ true → is_some p ≡ true
final_some None h = h
final_some (Some p) h = refl

final_rests : (p : Option Place) (t : StageNo) → is_final p ≡ true → p ≡ Some (Running t) → ⊥
final_rests p t h e = clash (is_final p) h (ap is_final e)

-- and keeps its content
pub content_on : (topology : Topology) (before : History) (step : Step) (s : StageNo) (n : ℕ) → IsSound topology → is_legal topology (step ∷ before) ≡ true → ends_chunk step s ≡ false → StillRuns s (place topology before n) → content (step ∷ before) n ≡ content before n
content_on topology before step s n sound h other (inl e) = running_content topology before step s n (fits topology sound) h other e
content_on topology before step s n sound h other (inr final) =
    content_stays topology before step n (fits topology sound) h (final_some (place topology before n) final) (λ t e. final_rests (place topology before n) t final e)

-- numbers that keep their contents stand for the same messages
pub messages_same : {A B : Type 0} (f g : A → Option B) (xs : List A) → Each (λ x. f x ≡ g x) xs → filter_map f xs ≡ filter_map g xs
messages_same f g [] h = refl
messages_same f g (x ∷ xs) h = let rest = messages_same f g xs h.1 in λ i. cons_option (h.0 i) (rest i)
