-- No subscription has handled more than it was sent.
use Rattle.std.proofs.Common.{◌≡◌, ℕ, ◌+◌, ◌≤◌, List, [], ◌∷◌, Bool, true, false, refl, ap, sym, ◌∙◌, subst, Some, None, Option, inl, inr, arith}
use Rattle.std.specs.Prelude.{if◌then◌else◌, ◌==◌, ◌&&◌, ◌||◌, option_map, ◌⊎◌}
use Rattle.std.proofs.lemmas.Bool.{eqb-true, eq-eqb}
use Rattle.pipe_types.specs.declared.numbers.SubNo.{SubNo}
use Rattle.pipe_types.specs.declared.numbers.StageNo.{StageNo}
use Rattle.pipe_types.specs.declared.numbers.MsgNo.{MsgNo}
use Rattle.pipe_types.specs.declared.topology.Topology.{Topology}
use Rattle.pipe_types.specs.declared.topology.StageSpec.{StageSpec}
use Rattle.pipe_types.specs.declared.topology.Role.{Role}
use Rattle.pipe_types.specs.declared.topology.Role.TheVariants.{Producer, Processor, Supervisor, Batcher, BatchProcessor}
use Rattle.pipe_types.specs.declared.message.Place.{Place}
use Rattle.pipe_types.specs.declared.message.Place.TheVariants.{Inbox, Running, Gathered, Acked, Lost}
use Rattle.pipe_types.specs.declared.message.Outcome.{Outcome}
use Rattle.pipe_types.specs.declared.message.BatchEnd.TheVariants.{Outcomes}
use Rattle.pipe_types.specs.declared.message.Reply.{Reply}
use Rattle.pipe_types.specs.declared.message.Reply.TheVariants.{Pass, Failed as FailedReply, Raised, Crashed}
use Rattle.pipe_types.specs.declared.room.Sent.{Sent as SentUnit}
use Rattle.pipe_types.specs.declared.step.Step.{Step}
use Rattle.pipe_types.specs.declared.step.Step.TheVariants.{Dispatch, Done, Gather, Wrote, ChildEnd}
use Rattle.pipe_types.specs.Numbers.{same_stage, same_sub}
use Rattle.pipe_types.specs.Stages.{spec_of, feeds, option_feeds, role_feeds}
use Rattle.pipe_model.specs.History.{History}
use Rattle.pipe_model.specs.Posts.{last_take, in_slot, crashes}
use Rattle.pipe_model.specs.Lives.{is_live}
use Rattle.pipe_model.specs.Content.{has_crash}
use Rattle.pipe_model.specs.Batches.{Batch, BatchPlace, AtBatcher, Sent, Dropped, on_legs, leg_answered, batch_sent, batch_on_legs, new_legs}
use Rattle.pipe_model.specs.Flow.{place, batch, view_of, sent, sent_to, is_batcher, in_inbox_by, leg_waits_in, leg_waits, batch_waits_in, runs_in, waits_in, count_on, sends_by, delivered_to, runs_again, change_place, child_place}
use Rattle.pipe_model.specs.Ledger.{handled, taken_on, came_on, crashed_reply, crashes_of}
use Rattle.pipe_model.specs.Legal.{is_legal, allows, is_current, has_role, is_processor_role, is_batcher_role, is_batch_processor_role, is_supervisor_role}
use Rattle.pipe_model.specs.Moves.{is_final}
use Rattle.pipe_laws.proofs.Tests.{clash, same_stage-self, same_sub-true, same_sub-self}
use Rattle.pipe_laws.proofs.Lists.{Each, each_weaker, each_both, weigh, weigh-append, weigh_drop, weigh_le}
use Rattle.pipe_laws.proofs.Places.{Move, stays, comes, comes_lost, sent_on, runs, waits, is_gathered, joins, ends, move_by, IsOn, sends_on}
use Rattle.pipe_laws.proofs.Entries.{EntryFits, entries_fit, is_sent_batch, is_waiting, waiting_each, delivered_each}
use Rattle.pipe_laws.proofs.Weights.{in_hand, weight, weight_after, answered_legs}
use Rattle.pipe_laws.proofs.Allowed.{legal_before, legal_step, DoneFacts, done_facts, WroteFacts, wrote_facts, GatherFacts, gather_facts, ChildEndFacts, child_end_facts}
use Rattle.pipe_laws.proofs.Kept.{runs_here}
use Rattle.pipe_laws.proofs.Busy.{Busy, busy, work_weight, inbox_here}
use Rattle.pipe_laws.proofs.Chunks.{owes_crash, none_kept}
use Rattle.pipe_laws.proofs.Idle.{Chunk, chunk_facts, fed_by_messages, processor_writes}
use Rattle.pipe_laws.proofs.Slots.{first_stands, first_entry, slot_runs, supervisor_writes}
use Rattle.pipe_model.specs.Standing.{works, leg_works, leg_works_in, works_at, in_inbox}
use Rattle.pipe_model.specs.Counting.{as_number}
pub use Rattle.pipe_laws.proofs.Roles.{batcher_writes}

-- What is in hand of a subscription
abbrev pub held_of : Topology → History → SubNo → ℕ
held_of topology before u = weigh (weight topology before u) (sent_to topology before u.consumer)

-- no step puts more of what was sent in hand
held_step : (topology : Topology) (before : History) (step : Step) (u : SubNo) → weigh (weight topology (step ∷ before) u) (sent_to topology before u.consumer) ≤ held_of topology before u
held_step topology before step u =
    weigh_le (weight topology (step ∷ before) u) (weight topology before u) (sent_to topology before u.consumer)
    (each_weaker (EntryFits topology before u.consumer) (λ d. weight topology (step ∷ before) u d ≤ weight topology before u d) (λ d fits. weight_after topology before step u d fits) (sent_to topology before u.consumer) (entries_fit topology before u.consumer))

-- where each entry also gives up so much
held_drop : (topology : Topology) (before : History) (step : Step) (u : SubNo) (stop : SubNo × ℕ → ℕ) → ((d : SubNo × ℕ) → EntryFits topology before u.consumer d → weight topology (step ∷ before) u d + stop d ≤ weight topology before u d) → weigh (weight topology (step ∷ before) u) (sent_to topology before u.consumer) + weigh stop (sent_to topology before u.consumer) ≤ held_of topology before u
held_drop topology before step u stop each =
    weigh_drop (weight topology (step ∷ before) u) stop (weight topology before u) (sent_to topology before u.consumer)
    (each_weaker (EntryFits topology before u.consumer) (λ d. weight topology (step ∷ before) u d + stop d ≤ weight topology before u d) each (sent_to topology before u.consumer) (entries_fit topology before u.consumer))

-- Messages in hand

-- a message is not in an inbox and at work at once
one_place : (u : SubNo) (c : StageNo) (p : Option Place) → as_number (in_inbox_by u p) + as_number (runs_in c p) ≤ 1
one_place u c (Some (Inbox v)) = by_bool (same_sub u v)
  where
    by_bool : (b : Bool) → as_number b + 0 ≤ 1
    by_bool true = omega arith
    by_bool false = omega arith
one_place u c (Some (Running t)) = by_bool (same_stage c t)
  where
    by_bool : (b : Bool) → 0 + as_number b ≤ 1
    by_bool true = omega arith
    by_bool false = omega arith
one_place u c _ = omega arith

-- in hand of a subscription that carries messages
message_hand : (topology : Topology) (before : History) (u : SubNo) (n : ℕ) → is_batcher (spec_of topology u.producer) ≡ false → in_hand topology before u n ≡ as_number (in_inbox_by u (place topology before n)) + as_number (runs_in u.consumer (place topology before n))
message_hand topology before u n plain = ap (λ b. as_number (if b then leg_waits_in u (batch topology before n) else in_inbox_by u (place topology before n)) + as_number (if b then leg_works_in u (batch topology before n) else runs_in u.consumer (place topology before n))) plain

batch_hand : (topology : Topology) (before : History) (u : SubNo) (n : ℕ) → is_batcher (spec_of topology u.producer) ≡ true → in_hand topology before u n ≡ as_number (leg_waits_in u (batch topology before n)) + as_number (leg_works_in u (batch topology before n))
batch_hand topology before u n batched = ap (λ b. as_number (if b then leg_waits_in u (batch topology before n) else in_inbox_by u (place topology before n)) + as_number (if b then leg_works_in u (batch topology before n) else runs_in u.consumer (place topology before n))) batched

-- Dispatches

-- an entry on the subscription counts one
abbrev counted : SubNo → SubNo × ℕ → ℕ
counted u d = if same_sub d.0 u then 1 else 0

delivered_count : (units : List SentUnit) (u : SubNo) → weigh (counted u) (delivered_to units u.consumer) ≤ count_on units u
delivered_count [] u = omega arith
delivered_count (d ∷ units) u = either (same_stage u.consumer d.sub.consumer) (same_sub d.sub u) refl (delivered_count units u)
  where
    either : (a b : Bool) → same_sub d.sub u ≡ b → weigh (counted u) (delivered_to units u.consumer) ≤ count_on units u → weigh (counted u) (if a then (d.sub, d.unit) ∷ delivered_to units u.consumer else delivered_to units u.consumer) ≤ (if b then count_on units u + 1 else count_on units u)
    either true true e rest = rw e (omega arith)
    either true false e rest = rw e (omega arith)
    either false true e rest = omega arith
    either false false e rest = rest

pub new_legs_idle : (u : SubNo) (subs : List SubNo) → leg_works u (new_legs subs) ≡ false
new_legs_idle u [] = refl
new_legs_idle u (v ∷ subs) = by_bool (same_sub u v) (new_legs_idle u subs)
  where
    by_bool : (b : Bool) → leg_works u (new_legs subs) ≡ false → ((b && false) || leg_works u (new_legs subs)) ≡ false
    by_bool true h = h
    by_bool false h = h

-- a batch that waited is not at work after a dispatch
waited_idle : (s : StageNo) (is_alone : Bool) (subs : List SubNo) (u : SubNo) (o : Option Batch) → batch_waits_in s o ≡ true → leg_works_in u (option_map (λ x. change_place x (batch_sent s is_alone subs x.place)) o) ≡ false
waited_idle s is_alone subs u None h = refl
waited_idle s is_alone subs u (Some x) h = by_place subs x.place h
  where
    by_place : (subs : List SubNo) (p : BatchPlace) → batch_waits_in s (Some (record { numbers = []; place = p })) ≡ true → works_at u (batch_sent s is_alone subs p) ≡ false
    by_place [] (AtBatcher t) h = by_stage (is_alone && same_stage s t)
      where
        by_stage : (b : Bool) → works_at u (if b then Sent [] else AtBatcher t) ≡ false
        by_stage true = refl
        by_stage false = refl
    by_place (v ∷ subs) (AtBatcher t) h = rw h (new_legs_idle u (v ∷ subs))
    by_place subs (Sent legs) h = cc
    by_place subs (Dropped l) h = cc

at_most_one : (a b : Bool) → b ≡ false → as_number a + as_number b ≤ 1
at_most_one true false e = omega arith
at_most_one false false e = omega arith
at_most_one a true e = cc

new_weight : (topology : Topology) (before : History) (s : StageNo) (u : SubNo) (d : SentUnit) → IsOn topology before s d.sub → is_waiting topology before s d.unit ≡ true → weight topology (Dispatch s ∷ before) u (d.sub, d.unit) ≤ counted u (d.sub, d.unit)
new_weight topology before s u d on waiting = either (same_sub d.sub u) refl
  where
    by_kind : d.sub ≡ u → (b : Bool) → is_batcher (spec_of topology u.producer) ≡ b → in_hand topology (Dispatch s ∷ before) u d.unit ≤ 1
    by_kind is false e = rw (message_hand topology (Dispatch s ∷ before) u d.unit e) (one_place u u.consumer (place topology (Dispatch s ∷ before) d.unit))
    by_kind is true e =
        let from : s ≡ u.producer = sym (ap (λ x. x.producer) on.current) ∙ ap (λ x. x.producer) is in
        let batched : is_batcher (spec_of topology s) ≡ true = ap (λ x. is_batcher (spec_of topology x)) from ∙ e in
        let waits_there : batch_waits_in s (batch topology before d.unit) ≡ true = subst (λ b. (if b then batch_waits_in s (batch topology before d.unit) else waits_in s (place topology before d.unit)) ≡ true) batched waiting in
        rw (batch_hand topology (Dispatch s ∷ before) u d.unit e)
        (at_most_one (leg_waits_in u (batch topology (Dispatch s ∷ before) d.unit)) (leg_works_in u (batch topology (Dispatch s ∷ before) d.unit)) (waited_idle s _ _ u (batch topology before d.unit) waits_there))

    either : (b : Bool) → same_sub d.sub u ≡ b → (if b then in_hand topology (Dispatch s ∷ before) u d.unit else 0) ≤ (if b then 1 else 0)
    either true e = by_kind (same_sub-true d.sub u e) (is_batcher (spec_of topology u.producer)) refl
    either false e = omega arith

held_dispatch : (topology : Topology) (before : History) (s : StageNo) (u : SubNo) → held_of topology (Dispatch s ∷ before) u ≤ held_of topology before u + count_on (sends_by topology before (view_of topology before) s) u
held_dispatch topology before s u =
    omega (
      arith,
      held_step topology before (Dispatch s) u,
      weigh-append (weight topology (Dispatch s ∷ before) u) (sent_to topology before u.consumer) (delivered_to (sends_by topology before (view_of topology before) s) u.consumer),
      weigh_le (weight topology (Dispatch s ∷ before) u) (counted u) (delivered_to (sends_by topology before (view_of topology before) s) u.consumer)
          (delivered_each (λ d. IsOn topology before s d.sub × (is_waiting topology before s d.unit ≡ true)) (λ d. weight topology (Dispatch s ∷ before) u d ≤ counted u d) u.consumer
          (λ d p there. new_weight topology before s u d p.0 p.1) (sends_by topology before (view_of topology before) s)
          (sends_on topology before s (λ n. is_waiting topology before s n ≡ true) (waiting_each topology before s))),
      delivered_count (sends_by topology before (view_of topology before) s) u,
    )

-- A gathering

-- an entry of that number on the subscription counts one
abbrev numbered : SubNo → ℕ → SubNo × ℕ → ℕ
numbered u n d = if same_sub d.0 u then as_number (n == d.1) else 0

-- a message that leaves the consumer's hand leaves by each of its entries
number_drop : (topology : Topology) (before : History) (step : Step) (u : SubNo) (n : ℕ) → in_hand topology before u n ≡ 1 → in_hand topology (step ∷ before) u n ≡ 0 → (d : SubNo × ℕ) → EntryFits topology before u.consumer d → weight topology (step ∷ before) u d + numbered u n d ≤ weight topology before u d
number_drop topology before step u n one none d fits =
    either (same_sub d.0 u) (n == d.1) refl (weight_after topology before step u d fits)
  where
    either : (a b : Bool) → (n == d.1) ≡ b → (if a then in_hand topology (step ∷ before) u d.1 else 0) ≤ (if a then in_hand topology before u d.1 else 0) → (if a then in_hand topology (step ∷ before) u d.1 else 0) + (if a then as_number b else 0) ≤ (if a then in_hand topology before u d.1 else 0)
    either false b e le = omega arith
    either true false e le = omega (arith, le)
    either true true e le =
        let is : n ≡ d.1 = eqb-true n d.1 e in
        let now : in_hand topology (step ∷ before) u d.1 ≡ 0 = ap (in_hand topology (step ∷ before) u) (sym is) ∙ none in
        let was : in_hand topology before u d.1 ≡ 1 = ap (in_hand topology before u) (sym is) ∙ one in
        omega arith

held_gather : (topology : Topology) (before : History) (s : StageNo) (m : MsgNo) (u : SubNo) → allows topology before (Gather s m) ≡ true → in_inbox_by u (place topology before m.0) ≡ true → held_of topology (Gather s m ∷ before) u + 1 ≤ held_of topology before u
held_gather topology before s m u h inboxed = by_first (first_stands topology before s is_batcher_role m.0 batcher_writes facts.role facts.some facts.first) (first_entry topology before s m.0 facts.some facts.first)
  where
    facts : GatherFacts topology before s m.0
    facts = gather_facts topology before s m h

    by_first : (v : SubNo) × (v.consumer ≡ s) × (place topology before m.0 ≡ Some (Inbox v)) → ((stop : SubNo × ℕ → ℕ) → (d : SubNo × ℕ) × (d.1 ≡ m.0) × EntryFits topology before s d × (in_inbox topology before d ≡ true) × (stop d ≤ weigh stop (sent_to topology before s))) → held_of topology (Gather s m ∷ before) u + 1 ≤ held_of topology before u
    by_first t entry =
        let uv : u ≡ t.0 = same_sub-true u t.0 (ap (in_inbox_by u) (sym t.2) ∙ inboxed) in
        let consumer : u.consumer ≡ s = ap (λ x. x.consumer) uv ∙ t.1 in
        let e = entry (numbered u m.0) in
        let plain_d : is_batcher (spec_of topology e.0.0.producer) ≡ false = fed_by_messages topology e.0.0.producer s is_batcher_role batcher_writes e.2.feeding facts.role in
        let inbox_d : in_inbox_by e.0.0 (place topology before e.0.1) ≡ true = subst (λ b. (if b then leg_waits_in e.0.0 (batch topology before e.0.1) else in_inbox_by e.0.0 (place topology before e.0.1)) ≡ true) plain_d e.3 in
        let stands_d : place topology before m.0 ≡ Some (Inbox e.0.0) = ap (place topology before) (sym e.1) ∙ inbox_here e.0.0 (place topology before e.0.1) inbox_d in
        let du : e.0.0 ≡ u = let x : Some (Inbox e.0.0) ≡ Some (Inbox t.0) = sym stands_d ∙ t.2 in let y : e.0.0 ≡ t.0 = cc in y ∙ sym uv in
        let plain : is_batcher (spec_of topology u.producer) ≡ false = ap (λ x. is_batcher (spec_of topology x.producer)) (sym du) ∙ plain_d in
        let here : place topology before m.0 ≡ Some (Inbox u) = t.2 ∙ ap (λ x. Some (Inbox x)) (sym uv) in
        let was : in_hand topology before u m.0 ≡ 1 = message_hand topology before u m.0 plain ∙ (ap (λ p. as_number (in_inbox_by u p) + as_number (runs_in u.consumer p)) here ∙ ap (λ b. as_number b + 0) (same_sub-self u)) in
        let gone : place topology (Gather s m ∷ before) m.0 ≡ Some (Gathered s) = gathered_there u consumer here in
        let now : in_hand topology (Gather s m ∷ before) u m.0 ≡ 0 = message_hand topology (Gather s m ∷ before) u m.0 plain ∙ ap (λ p. as_number (in_inbox_by u p) + as_number (runs_in u.consumer p)) gone in
        let count : numbered u m.0 e.0 ≡ 1 = counts e.0 du e.1 in
        let some : numbered u m.0 e.0 ≤ weigh (numbered u m.0) (sent_to topology before u.consumer) = subst (λ x. numbered u m.0 e.0 ≤ weigh (numbered u m.0) (sent_to topology before x)) (sym consumer) e.4 in
        omega (arith, held_drop topology before (Gather s m) u (numbered u m.0) (number_drop topology before (Gather s m) u m.0 was now))
      where
        gathered_there : (w : SubNo) → w.consumer ≡ s → place topology before m.0 ≡ Some (Inbox w) → place topology (Gather s m ∷ before) m.0 ≡ Some (Gathered s)
        gathered_there w c e =
            let here : same_stage s w.consumer ≡ true = ap (same_stage s) c ∙ same_stage-self s in
            rw (e, here, eq-eqb m.0 m.0 refl) refl

        counts : (d : SubNo × ℕ) → d.0 ≡ u → d.1 ≡ m.0 → numbered u m.0 d ≡ 1
        counts d du dm =
            let one : same_sub d.0 u ≡ true = ap (λ x. same_sub x u) du ∙ same_sub-self u in
            let two : (m.0 == d.1) ≡ true = eq-eqb m.0 d.1 (sym dm) in
            rw (one, two) refl

-- A chunk's answer

running_leaves : (topology : Topology) (before : History) (step : Step) (u : SubNo) (s : StageNo) (p q : Option Place) → Move topology before step p q → p ≡ Some (Running s) → in_inbox_by u q ≡ false
running_leaves topology before step u s p q stays e = ap (in_inbox_by u) e
running_leaves topology before step u s p q (comes t) e = refl
running_leaves topology before step u s p q (comes_lost loss) e = refl
running_leaves topology before step u s p q (sent_on t v on) e = cc
running_leaves topology before step u s p q (runs v from) e = refl
running_leaves topology before step u s p q (waits t) e = refl
running_leaves topology before step u s p q (is_gathered v) e = refl
running_leaves topology before step u s p q (joins t b from) e = refl
running_leaves topology before step u s p q (ends x y final) e = not_final y final
  where
    not_final : (y : Place) → is_final (Some y) ≡ true → in_inbox_by u (Some y) ≡ false
    not_final (Inbox v) f = cc
    not_final _ f = refl

-- a message that ran and runs no more leaves the hand
message_stops : (topology : Topology) (before : History) (step : Step) (u : SubNo) (n : ℕ) → is_batcher (spec_of topology u.producer) ≡ false → runs_in u.consumer (place topology (step ∷ before) n) ≡ false → in_hand topology (step ∷ before) u n ≤ in_hand topology before u n → in_hand topology (step ∷ before) u n + as_number (works topology before u n) ≤ in_hand topology before u n
message_stops topology before step u n plain stopped le =
    let is : as_number (works topology before u n) ≡ as_number (runs_in u.consumer (place topology before n)) = ap (λ b. as_number (if b then leg_works_in u (batch topology before n) else runs_in u.consumer (place topology before n))) plain in
    let stops : in_hand topology (step ∷ before) u n + as_number (runs_in u.consumer (place topology before n)) ≤ in_hand topology before u n = either (runs_in u.consumer (place topology before n)) refl in
    subst (λ x. in_hand topology (step ∷ before) u n + x ≤ in_hand topology before u n) (sym is) stops
  where
    either : (b : Bool) → runs_in u.consumer (place topology before n) ≡ b → in_hand topology (step ∷ before) u n + as_number b ≤ in_hand topology before u n
    either false e = omega (arith, le)
    either true e =
        let here : place topology before n ≡ Some (Running u.consumer) = runs_here u.consumer (place topology before n) e in
        let left : in_inbox_by u (place topology (step ∷ before) n) ≡ false = running_leaves topology before step u u.consumer _ _ (move_by topology before step n) here in
        let now : in_hand topology (step ∷ before) u n ≡ as_number (in_inbox_by u (place topology (step ∷ before) n)) + as_number (runs_in u.consumer (place topology (step ∷ before) n)) = message_hand topology (step ∷ before) u n plain in
        let none : as_number (in_inbox_by u (place topology (step ∷ before) n)) ≡ 0 = ap as_number left in
        let none2 : as_number (runs_in u.consumer (place topology (step ∷ before) n)) ≡ 0 = ap as_number stopped in
        let was : in_hand topology before u n ≡ as_number (in_inbox_by u (place topology before n)) + as_number (runs_in u.consumer (place topology before n)) = message_hand topology before u n plain in
        let one : as_number (runs_in u.consumer (place topology before n)) ≡ 1 = ap as_number e in
        omega arith

-- what a take took of the subscription was at work on it
taken_within : (topology : Topology) (before : History) (s : StageNo) (u : SubNo) → is_legal topology before ≡ true → is_live topology before s ≡ true → is_current before s 0 ≡ true → (taken_on (last_take before s) u ≡ 0) ⊎ ((u.consumer ≡ s) × (taken_on (last_take before s) u ≤ weigh (work_weight topology before u) (sent_to topology before s)))
taken_within topology before s u h live now = by_take (last_take before s) refl
  where
    by_take : (o : Option (SubNo × ℕ)) → last_take before s ≡ o → (taken_on o u ≡ 0) ⊎ ((u.consumer ≡ s) × (taken_on o u ≤ weigh (work_weight topology before u) (sent_to topology before s)))
    by_take None e = inl refl
    by_take (Some t) e = by_sub (same_sub t.0 u) refl
      where
        by_sub : (b : Bool) → same_sub t.0 u ≡ b → ((if b then t.1 else 0) ≡ 0) ⊎ ((u.consumer ≡ s) × ((if b then t.1 else 0) ≤ weigh (work_weight topology before u) (sent_to topology before s)))
        by_sub false f = inl refl
        by_sub true f =
            let own : Busy topology before s u t.1 = busy topology before s u t.1 h live now (e ∙ ap (λ x. Some (x, t.1)) (same_sub-true t.0 u f)) in
            inr (own.there, own.enough)

held_done : (topology : Topology) (before : History) (s : StageNo) (replies : List Reply) (u : SubNo) → is_legal topology (Done s replies ∷ before) ≡ true → has_crash replies ≡ false → held_of topology (Done s replies ∷ before) u + taken_on (last_take before s) u ≤ held_of topology before u
held_done topology before s replies u h safe = by_taken (taken_within topology before s u legal facts.live facts.current)
  where
    legal : is_legal topology before ≡ true
    legal = legal_before topology before (Done s replies) h

    facts : DoneFacts topology before s replies
    facts = done_facts topology before s replies (legal_step topology before (Done s replies) h)

    calm : owes_crash (Done s replies ∷ before) s ≡ false
    calm = ap (λ b. b && same_stage s s) safe

    after : Chunk topology (Done s replies ∷ before) s
    after = chunk_facts topology (Done s replies ∷ before) s h facts.role facts.live calm

    not_current : is_current (Done s replies ∷ before) s 0 ≡ false
    not_current = rw (same_stage-self s) refl

    stopped : Each (λ d. runs_in s (place topology (Done s replies ∷ before) d.1) ≡ false) (sent_to topology before s)
    stopped = none_kept (λ n. runs_in s (place topology (Done s replies ∷ before) n)) (sent_to topology before s) (after.idle not_current)

    by_taken : (taken_on (last_take before s) u ≡ 0) ⊎ ((u.consumer ≡ s) × (taken_on (last_take before s) u ≤ weigh (work_weight topology before u) (sent_to topology before s))) → held_of topology (Done s replies ∷ before) u + taken_on (last_take before s) u ≤ held_of topology before u
    by_taken (inl none) = omega (arith, held_step topology before (Done s replies) u)
    by_taken (inr t) =
        let drop : weigh (weight topology (Done s replies ∷ before) u) (sent_to topology before s) + weigh (work_weight topology before u) (sent_to topology before s) ≤ weigh (weight topology before u) (sent_to topology before s) =
        weigh_drop (weight topology (Done s replies ∷ before) u) (work_weight topology before u) (weight topology before u) (sent_to topology before s)
        (each_weaker (λ d. EntryFits topology before s d × (runs_in s (place topology (Done s replies ∷ before) d.1) ≡ false)) (λ d. weight topology (Done s replies ∷ before) u d + work_weight topology before u d ≤ weight topology before u d)
        (λ d p. entry d (subst (λ x. EntryFits topology before x d) (sym t.0) p.0) (subst (λ x. runs_in x (place topology (Done s replies ∷ before) d.1) ≡ false) (sym t.0) p.1)) (sent_to topology before s)
        (each_both (EntryFits topology before s) (λ d. runs_in s (place topology (Done s replies ∷ before) d.1) ≡ false) (sent_to topology before s) (entries_fit topology before s) stopped)) in
        subst (λ x. weigh (weight topology (Done s replies ∷ before) u) (sent_to topology before x) + taken_on (last_take before s) u ≤ weigh (weight topology before u) (sent_to topology before x)) (sym t.0) (omega (arith, drop, t.1))
      where
        role_there : has_role topology u.consumer is_processor_role ≡ true
        role_there = ap (λ x. has_role topology x is_processor_role) t.0 ∙ facts.role

        entry : (d : SubNo × ℕ) → EntryFits topology before u.consumer d → runs_in u.consumer (place topology (Done s replies ∷ before) d.1) ≡ false → weight topology (Done s replies ∷ before) u d + work_weight topology before u d ≤ weight topology before u d
        entry d fits stopped = either (same_sub d.0 u) refl (weight_after topology before (Done s replies) u d fits)
          where
            either : (b : Bool) → same_sub d.0 u ≡ b → (if b then in_hand topology (Done s replies ∷ before) u d.1 else 0) ≤ (if b then in_hand topology before u d.1 else 0) → (if b then in_hand topology (Done s replies ∷ before) u d.1 else 0) + (if b then as_number (works topology before u d.1) else 0) ≤ (if b then in_hand topology before u d.1 else 0)
            either false e le = omega arith
            either true e le =
                let du : d.0 ≡ u = same_sub-true d.0 u e in
                message_stops topology before (Done s replies) u d.1
                (fed_by_messages topology u.producer u.consumer is_processor_role processor_writes (subst (λ x. feeds topology x.producer u.consumer ≡ true) du fits.feeding) role_there) stopped le

-- A batch's answer

-- batch processors take batches alone
fed_by_batches : (topology : Topology) (p c : StageNo) → feeds topology p c ≡ true → has_role topology c is_batch_processor_role ≡ true → is_batcher (spec_of topology p) ≡ true
fed_by_batches topology p c h role = by_specs (spec_of topology p) (spec_of topology c) refl h
  where
    by_roles : (x y : StageSpec) (a b : Role) → x.role ≡ a → y.role ≡ b → role_feeds a b (x.batcher == y.batcher) ≡ true → is_batch_processor_role b ≡ true → is_batcher (Some x) ≡ true
    by_roles x y Batcher b ea eb f k = rw ea refl
    by_roles x y Producer BatchProcessor ea eb f k = cc
    by_roles x y Processor BatchProcessor ea eb f k = cc
    by_roles x y Supervisor BatchProcessor ea eb f k = cc
    by_roles x y BatchProcessor BatchProcessor ea eb f k = cc
    by_roles x y Producer Producer ea eb f k = let z : false ≡ true = k in cc
    by_roles x y Producer Processor ea eb f k = let z : false ≡ true = k in cc
    by_roles x y Producer Supervisor ea eb f k = let z : false ≡ true = k in cc
    by_roles x y Producer Batcher ea eb f k = let z : false ≡ true = k in cc
    by_roles x y Processor Producer ea eb f k = let z : false ≡ true = k in cc
    by_roles x y Processor Processor ea eb f k = let z : false ≡ true = k in cc
    by_roles x y Processor Supervisor ea eb f k = let z : false ≡ true = k in cc
    by_roles x y Processor Batcher ea eb f k = let z : false ≡ true = k in cc
    by_roles x y Supervisor b ea eb f k = let z : false ≡ true = f in cc
    by_roles x y BatchProcessor b ea eb f k = let z : false ≡ true = f in cc

    by_specs : (x y : Option StageSpec) → spec_of topology c ≡ y → option_feeds x y ≡ true → is_batcher x ≡ true
    by_specs None y e h = cc
    by_specs (Some x) None e h = cc
    by_specs (Some x) (Some y) e h =
        let known : has_role topology c is_batch_processor_role ≡ is_batch_processor_role y.role = rw e refl in
        by_roles x y x.role y.role refl refl h (sym known ∙ role)

-- what an answer leaves of a sent batch
batch_answered : (s : StageNo) (outcomes : List Outcome) (u : SubNo) (o : Option Batch) → same_stage s u.consumer ≡ true → is_sent_batch o ≡ true → (as_number (leg_waits_in u (option_map (λ x. change_place x (batch_on_legs (leg_answered s outcomes) x.place)) o)) + as_number (leg_works_in u (option_map (λ x. change_place x (batch_on_legs (leg_answered s outcomes) x.place)) o))) + as_number (leg_works_in u o) ≤ as_number (leg_waits_in u o) + as_number (leg_works_in u o)
batch_answered s outcomes u None here h = omega arith
batch_answered s outcomes u (Some x) here h = by_place x.numbers x.place h
  where
    by_place : (numbers : List ℕ) (p : BatchPlace) → is_sent_batch (Some (record { numbers = numbers; place = p })) ≡ true → (as_number (leg_waits_in u (Some (record { numbers = numbers; place = batch_on_legs (leg_answered s outcomes) p }))) + as_number (works_at u (batch_on_legs (leg_answered s outcomes) p))) + as_number (works_at u p) ≤ as_number (leg_waits_in u (Some (record { numbers = numbers; place = p }))) + as_number (works_at u p)
    by_place numbers (Sent legs) h =
        let t = answered_legs s outcomes u legs in
        let waits_same : as_number (leg_waits u (on_legs (leg_answered s outcomes) legs)) ≡ as_number (leg_waits u legs) = ap as_number t.0 in
        let works_none : as_number (leg_works u (on_legs (leg_answered s outcomes) legs)) ≡ 0 = ap as_number (t.1 ∙ ap (λ b. if b then false else leg_works u legs) here) in
        omega arith
    by_place numbers (AtBatcher t) h = cc
    by_place numbers (Dropped l) h = cc

held_wrote : (topology : Topology) (before : History) (s : StageNo) (bytes : ℕ) (outcomes : List Outcome) (u : SubNo) → is_legal topology (Wrote s bytes (Outcomes outcomes) ∷ before) ≡ true → held_of topology (Wrote s bytes (Outcomes outcomes) ∷ before) u + taken_on (last_take before s) u ≤ held_of topology before u
held_wrote topology before s bytes outcomes u h = by_taken (taken_within topology before s u legal facts.live facts.current)
  where
    legal : is_legal topology before ≡ true
    legal = legal_before topology before (Wrote s bytes (Outcomes outcomes)) h

    facts : WroteFacts topology before s bytes (Outcomes outcomes)
    facts = wrote_facts topology before s bytes (Outcomes outcomes) (legal_step topology before (Wrote s bytes (Outcomes outcomes)) h)

    by_taken : (taken_on (last_take before s) u ≡ 0) ⊎ ((u.consumer ≡ s) × (taken_on (last_take before s) u ≤ weigh (work_weight topology before u) (sent_to topology before s))) → held_of topology (Wrote s bytes (Outcomes outcomes) ∷ before) u + taken_on (last_take before s) u ≤ held_of topology before u
    by_taken (inl none) = omega (arith, held_step topology before (Wrote s bytes (Outcomes outcomes)) u)
    by_taken (inr t) =
        let within : taken_on (last_take before s) u ≤ weigh (work_weight topology before u) (sent_to topology before u.consumer) = subst (λ x. taken_on (last_take before s) u ≤ weigh (work_weight topology before u) (sent_to topology before x)) (sym t.0) t.1 in
        omega (arith, held_drop topology before (Wrote s bytes (Outcomes outcomes)) u (work_weight topology before u) entry)
      where
        here : same_stage s u.consumer ≡ true
        here = ap (same_stage s) t.0 ∙ same_stage-self s

        entry : (d : SubNo × ℕ) → EntryFits topology before u.consumer d → weight topology (Wrote s bytes (Outcomes outcomes) ∷ before) u d + work_weight topology before u d ≤ weight topology before u d
        entry d fits = either (same_sub d.0 u) refl
          where
            either : (b : Bool) → same_sub d.0 u ≡ b → (if b then in_hand topology (Wrote s bytes (Outcomes outcomes) ∷ before) u d.1 else 0) + (if b then as_number (works topology before u d.1) else 0) ≤ (if b then in_hand topology before u d.1 else 0)
            either false e = omega arith
            either true e =
                let du : d.0 ≡ u = same_sub-true d.0 u e in
                let batched : is_batcher (spec_of topology u.producer) ≡ true = fed_by_batches topology u.producer u.consumer (subst (λ x. feeds topology x.producer u.consumer ≡ true) du fits.feeding) (ap (λ x. has_role topology x is_batch_processor_role) t.0 ∙ facts.role) in
                let sent_one : is_sent_batch (batch topology before d.1) ≡ true = fits.batched (ap (λ x. is_batcher (spec_of topology x.producer)) du ∙ batched) in
                subst
                (λ b. (as_number (if b then leg_waits_in u (batch topology (Wrote s bytes (Outcomes outcomes) ∷ before) d.1) else in_inbox_by u (place topology (Wrote s bytes (Outcomes outcomes) ∷ before) d.1)) + as_number (if b then leg_works_in u (batch topology (Wrote s bytes (Outcomes outcomes) ∷ before) d.1) else runs_in u.consumer (place topology (Wrote s bytes (Outcomes outcomes) ∷ before) d.1))) + as_number (if b then leg_works_in u (batch topology before d.1) else runs_in u.consumer (place topology before d.1)) ≤ as_number (if b then leg_waits_in u (batch topology before d.1) else in_inbox_by u (place topology before d.1)) + as_number (if b then leg_works_in u (batch topology before d.1) else runs_in u.consumer (place topology before d.1)))
                (sym batched) (batch_answered s outcomes u (batch topology before d.1) here sent_one)

-- A child's end

-- the message of an ended child is final, unless it runs again
child_final : (again : Bool) (s : StageNo) (i : ℕ) (reply : Reply) → (crashed_reply reply && again) ≡ false → is_final (Some (child_place again s i reply)) ≡ true
child_final again s i (Pass m) h = refl
child_final again s i (FailedReply why) h = refl
child_final again s i (Raised why) h = refl
child_final true s i Crashed h = cc
child_final false s i Crashed h = refl

final_hand : (u : SubNo) (c : StageNo) (p : Option Place) → is_final p ≡ true → as_number (in_inbox_by u p) + as_number (runs_in c p) ≡ 0
final_hand u c (Some (Acked o)) h = refl
final_hand u c (Some (Lost l)) h = refl
final_hand u c _ h = cc

-- an entry by which the message came
came_entry : (P : SubNo × ℕ → Type 0) (units : List (SubNo × ℕ)) (n : ℕ) (u : SubNo) → Each P units → came_on units (Some n) u ≡ true → (d : SubNo × ℕ) × P d × (d.0 ≡ u) × (1 ≤ weigh (numbered u n) units)
came_entry P [] n u h e = cc
came_entry P (d ∷ units) n u h e = either (n == d.1) refl (same_sub d.0 u) refl e (came_entry P units n u h.1)
  where
    either : (a : Bool) → (n == d.1) ≡ a → (b : Bool) → same_sub d.0 u ≡ b → ((a && b) || came_on units (Some n) u) ≡ true → (came_on units (Some n) u ≡ true → (c : SubNo × ℕ) × P c × (c.0 ≡ u) × (1 ≤ weigh (numbered u n) units)) → (c : SubNo × ℕ) × P c × (c.0 ≡ u) × (1 ≤ weigh (numbered u n) (d ∷ units))
    either true ea true eb e rest =
        (d, h.0, same_sub-true d.0 u eb, (let one : numbered u n d ≡ 1 = rw (eb, ea) refl in omega arith))
    either true ea false eb e rest = let t = rest e in (t.0, t.1, t.2, omega (arith, t.3))
    either false ea b eb e rest = let t = rest e in (t.0, t.1, t.2, omega (arith, t.3))

held_child_end : (topology : Topology) (before : History) (s : StageNo) (slot : ℕ) (reply : Reply) (u : SubNo) → is_legal topology (ChildEnd s slot reply ∷ before) ≡ true → (crashed_reply reply && runs_again (spec_of topology s) (crashes_of before (in_slot before s slot))) ≡ false → came_on (sent_to topology before s) (in_slot before s slot) u ≡ true → held_of topology (ChildEnd s slot reply ∷ before) u + 1 ≤ held_of topology before u
held_child_end topology before s slot reply u h ended came = by_slot (in_slot before s slot) refl ended came
  where
    legal : is_legal topology before ≡ true
    legal = legal_before topology before (ChildEnd s slot reply) h

    facts : ChildEndFacts topology before s slot reply
    facts = child_end_facts topology before s slot reply (legal_step topology before (ChildEnd s slot reply) h)

    none_came : (units : List (SubNo × ℕ)) → came_on units None u ≡ false
    none_came [] = refl
    none_came (d ∷ units) = none_came units

    by_slot : (o : Option ℕ) → in_slot before s slot ≡ o → (crashed_reply reply && runs_again (spec_of topology s) (crashes_of before o)) ≡ false → came_on (sent_to topology before s) o u ≡ true → held_of topology (ChildEnd s slot reply ∷ before) u + 1 ≤ held_of topology before u
    by_slot None e ended came = clash (came_on (sent_to topology before s) None u) came (none_came (sent_to topology before s))
    by_slot (Some n) e ended came =
        let t = came_entry (EntryFits topology before s) (sent_to topology before s) n u (entries_fit topology before s) came in
        let consumer : u.consumer ≡ s = ap (λ x. x.consumer) (sym t.2) ∙ t.1.consumer in
        let plain : is_batcher (spec_of topology u.producer) ≡ false = fed_by_messages topology u.producer s is_supervisor_role supervisor_writes (subst (λ x. feeds topology x.producer s ≡ true) t.2 t.1.feeding) facts.role in
        let running : place topology before n ≡ Some (Running s) = slot_runs topology before s slot n legal facts.role facts.live facts.current e in
        let was : in_hand topology before u n ≡ 1 = message_hand topology before u n plain ∙ (ap (λ p. as_number (in_inbox_by u p) + as_number (runs_in u.consumer p)) running ∙ ap (λ b. 0 + as_number b) (ap (λ x. same_stage x s) consumer ∙ same_stage-self s)) in
        let final : is_final (place topology (ChildEnd s slot reply ∷ before) n) ≡ true = ended_there n e running ended in
        let now : in_hand topology (ChildEnd s slot reply ∷ before) u n ≡ 0 = message_hand topology (ChildEnd s slot reply ∷ before) u n plain ∙ final_hand u u.consumer _ final in
        let some : 1 ≤ weigh (numbered u n) (sent_to topology before u.consumer) = subst (λ x. 1 ≤ weigh (numbered u n) (sent_to topology before x)) (sym consumer) t.3 in
        omega (arith, held_drop topology before (ChildEnd s slot reply) u (numbered u n) (number_drop topology before (ChildEnd s slot reply) u n was now))
      where
        ended_there : (n : ℕ) → in_slot before s slot ≡ Some n → place topology before n ≡ Some (Running s) → (crashed_reply reply && runs_again (spec_of topology s) (crashes before n)) ≡ false → is_final (place topology (ChildEnd s slot reply ∷ before) n) ≡ true
        ended_there n e running ended =
            rw (running, e, same_stage-self s, eq-eqb n n refl) (child_final (runs_again (spec_of topology s) (crashes before n)) s _ reply ended)

-- The sum

handled_step : (topology : Topology) (before : History) (step : Step) (u : SubNo) → is_legal topology (step ∷ before) ≡ true → handled topology before u + held_of topology before u ≤ sent topology before u → handled topology (step ∷ before) u + held_of topology (step ∷ before) u ≤ sent topology (step ∷ before) u
handled_step topology before (Dispatch s) u h old = omega (arith, held_dispatch topology before s u)
handled_step topology before (Done s replies) u h old = either (has_crash replies) refl
  where
    either : (b : Bool) → has_crash replies ≡ b → (if b then handled topology before u else handled topology before u + taken_on (last_take before s) u) + held_of topology (Done s replies ∷ before) u ≤ sent topology before u
    either true e = omega (arith, held_step topology before (Done s replies) u)
    either false e = omega (arith, held_done topology before s replies u h e)
handled_step topology before (Wrote s bytes (Outcomes outcomes)) u h old = omega (arith, held_wrote topology before s bytes outcomes u h)
handled_step topology before (Gather s m) u h old = either (in_inbox_by u (place topology before m.0)) refl
  where
    either : (b : Bool) → in_inbox_by u (place topology before m.0) ≡ b → (if b then handled topology before u + 1 else handled topology before u) + held_of topology (Gather s m ∷ before) u ≤ sent topology before u
    either true e = omega (arith, held_gather topology before s m u (legal_step topology before (Gather s m) h) e)
    either false e = omega (arith, held_step topology before (Gather s m) u)
handled_step topology before (ChildEnd s slot reply) u h old =
    either (crashed_reply reply && runs_again (spec_of topology s) (crashes_of before (in_slot before s slot))) refl (came_on (sent_to topology before s) (in_slot before s slot) u) refl
  where
    either : (a : Bool) → (crashed_reply reply && runs_again (spec_of topology s) (crashes_of before (in_slot before s slot))) ≡ a → (b : Bool) → came_on (sent_to topology before s) (in_slot before s slot) u ≡ b → (if a then handled topology before u else (if b then handled topology before u + 1 else handled topology before u)) + held_of topology (ChildEnd s slot reply ∷ before) u ≤ sent topology before u
    either true ea b eb = omega (arith, held_step topology before (ChildEnd s slot reply) u)
    either false ea true eb = omega (arith, held_child_end topology before s slot reply u h ea eb)
    either false ea false eb = omega (arith, held_step topology before (ChildEnd s slot reply) u)
handled_step topology before step u h old = omega (arith, held_step topology before step u)

-- what was handled and what is in hand was sent
pub handled_and_held : (topology : Topology) (before : History) (u : SubNo) → is_legal topology before ≡ true → handled topology before u + held_of topology before u ≤ sent topology before u
handled_and_held topology [] u h = omega arith
handled_and_held topology (step ∷ before) u h = handled_step topology before step u h (handled_and_held topology before u (legal_before topology before step h))

-- no subscription has handled more than it was sent
pub handled_within : (topology : Topology) (before : History) (u : SubNo) → is_legal topology before ≡ true → handled topology before u ≤ sent topology before u
handled_within topology before u h = omega (arith, handled_and_held topology before u h)
