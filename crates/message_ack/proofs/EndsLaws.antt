-- What the ends of legs say is what the legs say.
use Rattle.std.proofs.Common.{◌≡◌, ℕ, zero, suc, ◌<◌, ◌≤◌, List, [], ◌∷◌, ◌++◌, length, map, take, get_or, set, ◌+◌, subst, Bool, true, false, cond, not, ◌&&◌, refl, ap, sym, ◌∙◌, Some, None, Option, All, replicate, slice_get, arith, length-append, inl, inr, ◌⊎◌}
use Rattle.std.specs.Prelude.{unwrap_or, is_some, option_map, nat_lt, IfSome}
use Rattle.std.specs.List.{list_all}
use Rattle.std.proofs.lemmas.Bool.{true≢false, lt-ltb, le-ltb}
use Rattle.std.proofs.lemmas.Option.{slice_get_cases}
use Rattle.std.proofs.lemmas.Grind.{take_at_read}
use Rattle.std.proofs.lemmas.List.Elements.{All-cons, All-head}
use Rattle.pipe_types.specs.declared.message.Outcome.{Outcome}
use Rattle.pipe_types.specs.declared.message.Outcome.TheVariants.{Successful, Failed}
use Rattle.pipe_types.specs.declared.message.Loss.{Loss}
use Rattle.pipe_types.specs.declared.message.Place.{Place}
use Rattle.pipe_types.specs.declared.message.Place.TheVariants.{Acked, Lost}
use Rattle.pipe_types.specs.Handlers.{is_successful}
use Rattle.pipe_model.specs.Batches.{Leg, LegPlace, InInbox, Answered, LegLost, is_leg_open, is_settled, lost_leg, failed_leg, settled_as}
use Rattle.message_ack.specs.declared.legs.LegEnd.{LegEnd}
use Rattle.message_ack.specs.declared.legs.LegEnd.TheVariants.{Answered as AnsweredEnd, Lost as LostEnd}
use Rattle.message_ack.specs.declared.legs.Settled.{Settled}
use Rattle.message_ack.specs.declared.legs.Settled.TheVariants.{Outcomes, Lost as LostBatch}
use Rattle.message_ack.specs.Ends.{Ends, IsSettledBy, with_end, end_of, ends_of, loss_of_ends, outcome_of_end, outcome_of_ends, HasOutcomes, IsRoomFor}

open_end : (p : LegPlace) → is_some (end_of p) ≡ not (is_leg_open p)
open_end InInbox = refl
open_end _ = refl

pub settled_ends : (legs : List Leg) → list_all is_some (ends_of legs) ≡ is_settled legs
settled_ends [] = refl
settled_ends (leg ∷ legs) = λ i. open_end leg.place i && settled_ends legs i

pub lost_ends : (legs : List Leg) → option_map (λ l. Lost l) (loss_of_ends (ends_of legs)) ≡ lost_leg legs
lost_ends [] = refl
lost_ends (leg ∷ legs) = by leg.place (lost_ends legs)
  where
    by : (p : LegPlace) → option_map (λ l. Lost l) (loss_of_ends (ends_of legs)) ≡ lost_leg legs
        → option_map (λ l. Lost l) (loss_of_ends (end_of p ∷ ends_of legs)) ≡ lost_leg (record { sub = leg.sub; place = p } ∷ legs)
    by (LegLost loss) rest = refl
    by _ rest = rest

pub failed_ends : (legs : List Leg) (i : ℕ) → settled_as None (failed_leg legs i) ≡ Acked (outcome_of_ends (ends_of legs) i)
failed_ends [] i = refl
failed_ends (leg ∷ legs) i = by leg.place (failed_ends legs i)
  where
    by_outcome : (o : Option Outcome) (outcomes : List Outcome) → slice_get outcomes i ≡ o → settled_as None (failed_leg legs i) ≡ Acked (outcome_of_ends (ends_of legs) i)
        → settled_as None (failed_leg (record { sub = leg.sub; place = Answered outcomes } ∷ legs) i) ≡ Acked (outcome_of_ends (Some (AnsweredEnd outcomes) ∷ ends_of legs) i)
    by_outcome None outcomes e rest = rw (e) rest
    by_outcome (Some Successful) outcomes e rest = rw (e) rest
    by_outcome (Some (Failed why)) outcomes e rest = rw (e) refl

    by : (p : LegPlace) → settled_as None (failed_leg legs i) ≡ Acked (outcome_of_ends (ends_of legs) i)
        → settled_as None (failed_leg (record { sub = leg.sub; place = p } ∷ legs) i) ≡ Acked (outcome_of_ends (end_of p ∷ ends_of legs) i)
    by (Answered outcomes) rest = by_outcome (slice_get outcomes i) outcomes refl rest
    by _ rest = rest

-- one leg more
pub outcome_more : (ends : List (Option LegEnd)) (end : Option LegEnd) (i : ℕ)
    → outcome_of_ends (ends ++ end ∷ []) i ≡ cond (is_successful (outcome_of_ends ends i)) (outcome_of_end end i) (outcome_of_ends ends i)
outcome_more [] end i = by (outcome_of_end end i)
  where
    by : (o : Outcome) → cond (is_successful o) Successful o ≡ o
    by Successful = refl
    by (Failed why) = refl
outcome_more (e ∷ ends) end i = by (outcome_of_end e i) (outcome_more ends end i)
  where
    by : (o : Outcome) → outcome_of_ends (ends ++ end ∷ []) i ≡ cond (is_successful (outcome_of_ends ends i)) (outcome_of_end end i) (outcome_of_ends ends i)
        → cond (is_successful o) (outcome_of_ends (ends ++ end ∷ []) i) o
        ≡ cond (is_successful (cond (is_successful o) (outcome_of_ends ends i) o)) (outcome_of_end end i) (cond (is_successful o) (outcome_of_ends ends i) o)
    by Successful rest = rest
    by (Failed why) rest = refl

-- legs that have not ended
pub none_ended : (messages n : ℕ) → All (HasOutcomes messages) (replicate n None)
none_ended messages n = AllFrom n
  where
    AllFrom : (n : ℕ) → All (HasOutcomes messages) (replicate n None)
    AllFrom zero = λ k d within. absurd (omega arith)
    AllFrom (suc n) = All-cons (HasOutcomes messages) None (replicate n None) tt (AllFrom n)

pub outcome_step : (ends : List (Option LegEnd)) (i at : ℕ) (end : Option LegEnd) (outcome by next : Outcome) → i < length ends → end ≡ get_or ends i end
    → outcome ≡ outcome_of_ends (take i ends) at → by ≡ outcome_of_end end at → next ≡ cond (is_successful outcome) by outcome → next ≡ outcome_of_ends (take (i + 1) ends) at
outcome_step ends i at end outcome by next within read so_far one is =
    is
    ∙ ((λ j. cond (is_successful (so_far j)) (one j) (so_far j))
    ∙ (sym (outcome_more (take i ends) end at)
    ∙ ap (λ es. outcome_of_ends es at) (ap (λ e. take i ends ++ e ∷ []) read ∙ sym (take_at_read ends i end within).1)))

-- a batch with a lost leg
pub settled_lost : (messages : ℕ) (legs : List Leg) (ends : List (Option LegEnd)) (loss : Loss) → ends_of legs ≡ ends → loss_of_ends ends ≡ Some loss → IsSettledBy messages legs (LostBatch loss)
settled_lost messages legs ends loss same lost = record {
  lost = sym (sym (lost_ends legs) ∙ ap (λ es. option_map (λ l. Lost l) (loss_of_ends es)) same ∙ ap (option_map (λ l. Lost l)) lost);
  outcomes = λ none. absurd (true≢false (ap is_some none));
}

-- a batch without one
pub settled_outcomes : (messages : ℕ) (legs : List Leg) (ends : List (Option LegEnd)) (outcomes : List Outcome) → ends_of legs ≡ ends → loss_of_ends ends ≡ None
    → ((i : ℕ) → slice_get outcomes i ≡ cond (nat_lt i messages) (Some (outcome_of_ends ends i)) None) → IsSettledBy messages legs (Outcomes outcomes)
settled_outcomes messages legs ends outcomes same none each = record {
  lost = sym (sym (lost_ends legs) ∙ ap (λ es. option_map (λ l. Lost l) (loss_of_ends es)) same ∙ ap (option_map (λ l. Lost l)) none);
  outcomes = λ unlost i.
      ap (option_map (λ o. Acked o)) (each i)
      ∙ by i (nat_lt i messages)
      (sym (failed_ends legs i ∙ ap (λ es. Acked (outcome_of_ends es i)) same));
}
  where
    by : (i : ℕ) (b : Bool) → Acked (outcome_of_ends ends i) ≡ settled_as None (failed_leg legs i)
        → option_map (λ o. Acked o) (cond b (Some (outcome_of_ends ends i)) None) ≡ cond b (Some (settled_as None (failed_leg legs i))) None
    by i true e = ap (λ p. Some p) e
    by i false e = refl

-- whether the leg was the last
pub last_leg : (old : Option Ends) (sent put : Ends) (leg : ℕ) (end : LegEnd) (r : Bool) → old ≡ Some sent → put ≡ record { messages = sent.messages; ends = set sent.ends leg (Some end) }
    → list_all is_some put.ends ≡ r → IfSome (with_end old leg end) (λ b. (legs : List Leg) → ends_of legs ≡ b.ends → r ≡ is_settled legs)
last_leg old sent put leg end r there is settled =
    subst (λ (o : Option Ends). IfSome (with_end o leg end) (λ b. (legs : List Leg) → ends_of legs ≡ b.ends → r ≡ is_settled legs)) (sym there)
    (λ legs same. sym settled ∙ (ap (λ (b : Ends). list_all is_some b.ends) is ∙ (ap (list_all is_some) (sym same) ∙ settled_ends legs)))

-- A leg alone

last_of_one : {X : Type 0} (front : List X) (x : X) → length (front ++ x ∷ []) ≡ 1 → front ++ x ∷ [] ≡ x ∷ []
last_of_one [] x one = refl
last_of_one (y ∷ front) x one =
    let long : length (front ++ x ∷ []) ≡ length front + 1 = length-append front (x ∷ []) in
    let none : ⊥ = omega arith in
    absurd none

by_itself : (outcome : Outcome) → Some outcome ≡ Some (cond (is_successful outcome) Successful outcome)
by_itself Successful = refl
by_itself (Failed why) = refl

outcome_alone : (outcomes : List Outcome) (i : ℕ)
    → slice_get outcomes i ≡ cond (nat_lt i (length outcomes)) (Some (outcome_of_ends (Some (AnsweredEnd outcomes) ∷ []) i)) None
outcome_alone outcomes i = by ((slice_get_cases outcomes i).1)
  where
    by : ((x : Outcome) × (i < length outcomes) × (slice_get outcomes i ≡ Some x) × (get_or outcomes i x ≡ x)) ⊎ ((length outcomes ≤ i) × (slice_get outcomes i ≡ None))
        → slice_get outcomes i ≡ cond (nat_lt i (length outcomes)) (Some (outcome_of_ends (Some (AnsweredEnd outcomes) ∷ []) i)) None
    by (inl found) =
        found.2
        ∙ by_itself found.0
        ∙ ap (λ (o : Option Outcome). Some (cond (is_successful (unwrap_or o Successful)) Successful (unwrap_or o Successful))) (sym found.2)
        ∙ ap (λ (b : Bool). cond b (Some (outcome_of_ends (Some (AnsweredEnd outcomes) ∷ []) i)) None) (sym (lt-ltb i (length outcomes) found.1))
    by (inr past) = past.1 ∙ ap (λ (b : Bool). cond b (Some (outcome_of_ends (Some (AnsweredEnd outcomes) ∷ []) i)) None) (sym (le-ltb i (length outcomes) past.0))

-- the batch ends as its one leg did
pub alone_answered : (messages : ℕ) (ends front : List (Option LegEnd)) (outcomes : List Outcome) → ends ≡ front ++ Some (AnsweredEnd outcomes) ∷ [] → length ends ≡ 1
    → All (HasOutcomes messages) ends → (legs : List Leg) → ends_of legs ≡ ends → IsSettledBy messages legs (Outcomes outcomes)
alone_answered messages ends front outcomes popped one has legs same =
    let alone : ends ≡ Some (AnsweredEnd outcomes) ∷ [] = popped ∙ last_of_one front _ (ap length (sym popped) ∙ one) in
    let long : length outcomes ≡ messages = All-head (HasOutcomes messages) (Some (AnsweredEnd outcomes)) [] (subst (All (HasOutcomes messages)) alone has) in
    settled_outcomes messages legs (Some (AnsweredEnd outcomes) ∷ []) outcomes (same ∙ alone) refl
    (λ i. outcome_alone outcomes i ∙ ap (λ (n : ℕ). cond (nat_lt i n) (Some (outcome_of_ends (Some (AnsweredEnd outcomes) ∷ []) i)) None) long)

pub alone_lost : (messages : ℕ) (ends front : List (Option LegEnd)) (loss : Loss) → ends ≡ front ++ Some (LostEnd loss) ∷ [] → length ends ≡ 1
    → (legs : List Leg) → ends_of legs ≡ ends → IsSettledBy messages legs (LostBatch loss)
alone_lost messages ends front loss popped one legs same =
    let alone : ends ≡ Some (LostEnd loss) ∷ [] = popped ∙ last_of_one front _ (ap length (sym popped) ∙ one) in
    settled_lost messages legs (Some (LostEnd loss) ∷ []) loss (same ∙ alone) refl

-- a leg that has not ended is not among those that have
pub none_open : (ends front : List (Option LegEnd)) → ends ≡ front ++ None ∷ [] → length ends ≡ 1 → list_all is_some ends ≡ true → ⊥
none_open ends front popped one all =
    let alone : ends ≡ None ∷ [] = popped ∙ last_of_one front _ (ap length (sym popped) ∙ one) in
    true≢false (sym all ∙ ap (list_all is_some) alone)

-- there is room for the outcomes of several legs
pub room_of_several : (messages room legs : ℕ) → IsRoomFor messages room legs → ¬ (legs ≡ 1) → room ≡ messages
room_of_several messages room legs is several = is several
