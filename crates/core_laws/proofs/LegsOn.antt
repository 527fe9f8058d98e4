-- The subscriptions on which the legs of a batch are.
use Rattle.std.proofs.Common.{◌≡◌, ℕ, set, ◌+◌, ◌≤◌, List, [], ◌∷◌, ◌++◌, map, Bool, true, false, refl, ap, sym, ◌∙◌, subst, Some, None, Option, arith, ◌<◌, length}
use Rattle.std.specs.Prelude.{option_map, ◌&&◌, if◌then◌else◌, ◌==◌, is_some}
use Rattle.std.proofs.lemmas.Bool.{eqb-true, false_from_ne_true, ne_eqb}
use Rattle.std.proofs.lemmas.List.{append-nil, length-map}
use Rattle.pipe_types.specs.declared.numbers.StageNo.{StageNo}
use Rattle.pipe_types.specs.declared.numbers.SubNo.{SubNo}
use Rattle.pipe_types.specs.declared.topology.Topology.{Topology}
use Rattle.pipe_types.specs.declared.message.BatchEnd.TheVariants.{Outcomes}
use Rattle.pipe_types.specs.declared.message.Why.{Why}
use Rattle.pipe_types.specs.declared.step.Step.TheVariants.{Take, Close, Dispatch, Wrote, Kill, Halt}
use Rattle.pipe_types.specs.declared.room.Sent.{Sent as SentUnit}
use Rattle.pipe_types.specs.Numbers.{same_stage}
use Rattle.pipe_types.specs.Stages.{spec_of}
use Rattle.pipe_model.specs.History.{History, closed, incarnation}
use Rattle.pipe_model.specs.Lives.{KillSet, reason_in, kill_set}
use Rattle.pipe_model.specs.Flow.{place, batch, view_of, is_batcher, among, closing, subs_of, deliveries, alone, next_units, change_place, new_batch, batch_waits_in, waits_in, waiting, sent_to}
use Rattle.pipe_model.specs.Batches.{Batch, BatchPlace, AtBatcher, Sent, Dropped, Leg, LegPlace, on_legs, leg_taken, leg_answered, leg_lost, batch_on_legs, batch_sent, batch_killed, new_legs, dropped_in}
use Rattle.pipe_model.specs.Legal.{is_legal}
use Rattle.pipe_laws.proofs.Tests.{clash, same_stage-true}
use Rattle.pipe_laws.proofs.Lists.{Each, each_weaker, each_map}
use Rattle.pipe_laws.proofs.Allowed.{legal_before}
use Rattle.pipe_laws.proofs.Entries.{is_waiting, waiting_each, EntryFits, entries_fit}
use Rattle.pipe_laws.proofs.Places.{IsOn, sends_on}
use Rattle.queue_laws.proofs.Batched.{BatchListed, PlaceListed, batch_listed, LegListed}
use Rattle.queue_laws.proofs.Singles.{none_of}
use Rattle.core_laws.specs.Columns.{sent_on}
use Rattle.pipe_laws.proofs.Settled.{batch_closed}
use Rattle.pipe_types.specs.Sound.{IsSound}
use Rattle.queue_laws.proofs.Roles.{fed_spec}
use Rattle.queue_laws.proofs.Apart.{Apart, apart_mapped}
use Rattle.queue_laws.proofs.OneLeg.{leg_to, legs_once, BatchOnce}
use Rattle.queue_laws.proofs.Sounds.{fits}
use Rattle.queue_laws.proofs.Writes.{of_entry}
use Rattle.stage_laws.proofs.Bounds.{few_numbers}
use Rattle.stage_laws.proofs.Numbering.{numbered_topology}
use Rattle.core_laws.proofs.Past.{known_within}

-- a batch that waits in a batcher was closed before
pub waiting_closed : (topology : Topology) (before : History) (t : StageNo) (n : ℕ) → is_batcher (spec_of topology t) ≡ true → is_waiting topology before t n ≡ true → n ≤ closed before
waiting_closed topology before t n batcher waits =
    let here : batch_waits_in t (batch topology before n) ≡ true = sym (ap (λ b. if b then batch_waits_in t (batch topology before n) else waits_in t (place topology before n)) batcher) ∙ waits in
    batch_closed topology before n (there t (batch topology before n) here)
  where
    there : (t : StageNo) (o : Option Batch) → batch_waits_in t o ≡ true → is_some o ≡ true
    there t None h = cc
    there t (Some b) h = refl

-- a batch that is not closed yet was sent nowhere
pub none_sent : (topology : Topology) (before : History) (b : ℕ) → closed before < b → sent_on topology before b ≡ []
none_sent topology [] b low = refl
none_sent topology (Dispatch s ∷ before) b low = by (is_batcher (spec_of topology s)) refl (none_sent topology before b low)
  where
    nowhere : (units : List Rattle.pipe_types.specs.declared.room.Sent.Sent) → Each (λ d. IsOn topology before s d.sub × (d.unit ≤ closed before)) units → subs_of units b ≡ []
    nowhere [] h = refl
    nowhere (d ∷ units) h =
        let other : (d.unit == b) ≡ false = ne_eqb d.unit b (λ k. (let most = h.0.1 in omega (arith, k, low, most))) in
        ap (λ c. if c then d.sub ∷ subs_of units b else subs_of units b) other ∙ nowhere units h.1

    by : (c : Bool) → is_batcher (spec_of topology s) ≡ c → sent_on topology before b ≡ [] → (if c then sent_on topology before b ++ subs_of (deliveries topology before s) b else sent_on topology before b) ≡ []
    by false e old = old
    by true e old =
        ap (λ us. us ++ subs_of (deliveries topology before s) b) old
        ∙ nowhere (deliveries topology before s)
        (sends_on topology before s (λ n. n ≤ closed before)
        (each_weaker (λ n. is_waiting topology before s n ≡ true) (λ n. n ≤ closed before) (λ n p. waiting_closed topology before s n e p) (waiting topology before s) (waiting_each topology before s)))
none_sent topology (Close s first trigger ∷ before) b low = none_sent topology before b (omega (arith, low))
none_sent topology (step ∷ before) b low = none_sent topology before b low

-- The subscriptions of the legs

abbrev pub PlaceOn : List SubNo → BatchPlace → Type 0
PlaceOn subs (AtBatcher s) = subs ≡ []
PlaceOn subs (Sent legs) = map (λ (leg : Leg). leg.sub) legs ≡ subs
PlaceOn subs (Dropped l) = Unit {0}

abbrev pub IsOnSubs : List SubNo → Option Batch → Type 0
IsOnSubs subs None = Unit {0}
IsOnSubs subs (Some x) = PlaceOn subs x.place

subs_kept : (change : SubNo → LegPlace → LegPlace) (legs : List Leg) → map (λ (leg : Leg). leg.sub) (on_legs change legs) ≡ map (λ (leg : Leg). leg.sub) legs
subs_kept change [] = refl
subs_kept change (leg ∷ legs) = ap (λ us. leg.sub ∷ us) (subs_kept change legs)

new_subs : (subs : List SubNo) → map (λ (leg : Leg). leg.sub) (new_legs subs) ≡ subs
new_subs [] = refl
new_subs (u ∷ subs) = ap (λ us. u ∷ us) (new_subs subs)

mapped_on : (subs : List SubNo) (change : BatchPlace → BatchPlace) → ((p : BatchPlace) → PlaceOn subs p → PlaceOn subs (change p)) → (o : Option Batch) → IsOnSubs subs o → IsOnSubs subs (option_map (λ x. change_place x (change x.place)) o)
mapped_on subs change f None h = tt
mapped_on subs change f (Some x) h = f x.place h

legs_on : (subs : List SubNo) (change : SubNo → LegPlace → LegPlace) (p : BatchPlace) → PlaceOn subs p → PlaceOn subs (batch_on_legs change p)
legs_on subs change (AtBatcher s) h = h
legs_on subs change (Sent legs) h = subs_kept change legs ∙ h
legs_on subs change (Dropped l) h = tt

killed_on : (subs : List SubNo) (set : KillSet) (i : StageNo → ℕ) (p : BatchPlace) → PlaceOn subs p → PlaceOn subs (batch_killed set i p)
killed_on subs set i (AtBatcher s) h = by (reason_in set s)
  where
    by : (why : Option Why) → PlaceOn subs (dropped_in s (i s) why)
    by None = h
    by (Some why) = tt
killed_on subs set i (Sent legs) h = subs_kept (λ u. leg_lost (reason_in set u.consumer) (i u.consumer) u) legs ∙ h
killed_on subs set i (Dropped l) h = tt

-- a stage sends only batches that wait in it
pub sent_waits : (topology : Topology) (before : History) (s : StageNo) (b : ℕ) → is_batcher (spec_of topology s) ≡ true → batch_waits_in s (batch topology before b) ≡ false → subs_of (deliveries topology before s) b ≡ []
sent_waits topology before s b batcher none =
    none_of (deliveries topology before s) b
    (each_weaker (λ (d : SentUnit). IsOn topology before s d.sub × (is_waiting topology before s d.unit ≡ true)) (λ (d : SentUnit). (d.unit == b) ≡ false)
    (λ d p. false_from_ne_true (d.unit == b) (λ same.
    let here : batch_waits_in s (batch topology before d.unit) ≡ true = sym (ap (λ c. if c then batch_waits_in s (batch topology before d.unit) else waits_in s (place topology before d.unit)) batcher) ∙ p.1 in
    clash (batch_waits_in s (batch topology before b)) (ap (λ k. batch_waits_in s (batch topology before k)) (sym (eqb-true d.unit b same)) ∙ here) none))
    (deliveries topology before s)
    (sends_on topology before s (λ n. is_waiting topology before s n ≡ true) (waiting_each topology before s)))

dispatched_on : (topology : Topology) (before : History) (s : StageNo) (b : ℕ) (o : Option Batch) → batch topology before b ≡ o → BatchListed topology before b o → IsOnSubs (sent_on topology before b) o
    → IsOnSubs (if is_batcher (spec_of topology s) then sent_on topology before b ++ subs_of (deliveries topology before s) b else sent_on topology before b) (option_map (λ x. change_place x (batch_sent s (among (alone topology before s) b) (subs_of (deliveries topology before s) b) x.place)) o)
dispatched_on topology before s b None e listed h = tt
dispatched_on topology before s b (Some x) e listed h = by x.place refl listed h
  where
    al : Bool
    al = among (alone topology before s) b

    -- a batch without a leg is on no subscription, served alone or not
    on_none : (t : StageNo) (c : Bool) {subs : List SubNo} → subs ≡ [] → PlaceOn subs (if c then Sent [] else AtBatcher t)
    on_none t true e = sym e
    on_none t false e = e

    at : (p : BatchPlace) → x.place ≡ p → batch topology before b ≡ Some (record { numbers = x.numbers; place = p })
    at p f = e ∙ (let is : x ≡ record { numbers = x.numbers; place = p } = λ i. record { numbers = x.numbers; place = f i } in ap Some is)

    -- nothing is added where the batch does not wait
    unsent : (c : Bool) → is_batcher (spec_of topology s) ≡ c → batch_waits_in s (batch topology before b) ≡ false
        → (if c then sent_on topology before b ++ subs_of (deliveries topology before s) b else sent_on topology before b) ≡ sent_on topology before b
    unsent false f none = refl
    unsent true f none = ap (λ vs. sent_on topology before b ++ vs) (sent_waits topology before s b f none) ∙ append-nil (sent_on topology before b)

    by : (p : BatchPlace) → x.place ≡ p → PlaceListed topology before b p → PlaceOn (sent_on topology before b) p
        → PlaceOn (if is_batcher (spec_of topology s) then sent_on topology before b ++ subs_of (deliveries topology before s) b else sent_on topology before b) (batch_sent s al (subs_of (deliveries topology before s) b) p)
    by (Dropped l) f listed h = dropped_still (subs_of (deliveries topology before s) b)
      where
        dropped_still : (vs : List SubNo) → PlaceOn (if is_batcher (spec_of topology s) then sent_on topology before b ++ subs_of (deliveries topology before s) b else sent_on topology before b) (batch_sent s al vs (Dropped l))
        dropped_still [] = tt
        dropped_still (v ∷ vs) = tt
    by (Sent legs) f listed h = sent_still (subs_of (deliveries topology before s) b)
      where
        kept : map (λ (leg : Leg). leg.sub) legs ≡ (if is_batcher (spec_of topology s) then sent_on topology before b ++ subs_of (deliveries topology before s) b else sent_on topology before b)
        kept = h ∙ sym (unsent (is_batcher (spec_of topology s)) refl (ap (batch_waits_in s) (at (Sent legs) f)))

        sent_still : (vs : List SubNo) → PlaceOn (if is_batcher (spec_of topology s) then sent_on topology before b ++ subs_of (deliveries topology before s) b else sent_on topology before b) (batch_sent s al vs (Sent legs))
        sent_still [] = kept
        sent_still (v ∷ vs) = kept
    by (AtBatcher t) f listed h = either (same_stage s t) refl (subs_of (deliveries topology before s) b) refl
      where
        either : (c : Bool) → same_stage s t ≡ c → (vs : List SubNo) → subs_of (deliveries topology before s) b ≡ vs
            → PlaceOn (if is_batcher (spec_of topology s) then sent_on topology before b ++ subs_of (deliveries topology before s) b else sent_on topology before b) (batch_sent s al vs (AtBatcher t))
        either false k [] g = on_none t (al && same_stage s t) (unsent (is_batcher (spec_of topology s)) refl (ap (batch_waits_in s) (at (AtBatcher t) f) ∙ k) ∙ h)
        either false k (v ∷ vs) g =
            subst (PlaceOn (if is_batcher (spec_of topology s) then sent_on topology before b ++ subs_of (deliveries topology before s) b else sent_on topology before b)) (ap (λ c. if c then Sent (new_legs (v ∷ vs)) else AtBatcher t) (sym k))
            (unsent (is_batcher (spec_of topology s)) refl (ap (batch_waits_in s) (at (AtBatcher t) f) ∙ k) ∙ h)
        either true k [] g =
            on_none t (al && same_stage s t)
            (ap (λ c. if c then sent_on topology before b ++ subs_of (deliveries topology before s) b else sent_on topology before b) (ap (λ y. is_batcher (spec_of topology y)) (same_stage-true s t k) ∙ listed.0)
            ∙ (ap (λ vs. sent_on topology before b ++ vs) g ∙ (append-nil (sent_on topology before b) ∙ h)))
        either true k (v ∷ vs) g =
            subst (PlaceOn (if is_batcher (spec_of topology s) then sent_on topology before b ++ subs_of (deliveries topology before s) b else sent_on topology before b)) (ap (λ c. if c then Sent (new_legs (v ∷ vs)) else AtBatcher t) (sym k))
            (new_subs (v ∷ vs)
            ∙ sym (ap (λ c. if c then sent_on topology before b ++ subs_of (deliveries topology before s) b else sent_on topology before b) (ap (λ y. is_batcher (spec_of topology y)) (same_stage-true s t k) ∙ listed.0)
            ∙ (ap (λ vs. sent_on topology before b ++ vs) g ∙ ap (λ os. os ++ v ∷ vs) h)))

-- the legs of a batch are on the subscriptions on which it was sent
pub legs_are_on : (topology : Topology) (before : History) (b : ℕ) → is_legal topology before ≡ true → IsOnSubs (sent_on topology before b) (batch topology before b)
legs_are_on topology [] b h = tt
legs_are_on topology (Close s first trigger ∷ before) b h =
    by (b == closed before + 1) refl (legs_are_on topology before b (legal_before topology before (Close s first trigger) h))
  where
    by : (c : Bool) → (b == closed before + 1) ≡ c → IsOnSubs (sent_on topology before b) (batch topology before b) → IsOnSubs (sent_on topology before b) (new_batch c (closing before (view_of topology before) s first.0) s (batch topology before b))
    by true e old = none_sent topology before b (let no = eqb-true b (closed before + 1) e in omega (arith, no))
    by false e old = old
legs_are_on topology (Dispatch s ∷ before) b h =
    dispatched_on topology before s b (batch topology before b) refl (batch_listed topology before b (legal_before topology before (Dispatch s) h)) (legs_are_on topology before b (legal_before topology before (Dispatch s) h))
legs_are_on topology (Take s u k ∷ before) b h =
    by (among (next_units topology (view_of topology before) s u k) b) (legs_are_on topology before b (legal_before topology before (Take s u k) h))
  where
    by : (c : Bool) → IsOnSubs (sent_on topology before b) (batch topology before b)
        → IsOnSubs (sent_on topology before b) (if c then option_map (λ x. change_place x (batch_on_legs (leg_taken s) x.place)) (batch topology before b) else batch topology before b)
    by true old = mapped_on (sent_on topology before b) (batch_on_legs (leg_taken s)) (legs_on (sent_on topology before b) (leg_taken s)) (batch topology before b) old
    by false old = old
legs_are_on topology (Wrote s bytes (Outcomes outcomes) ∷ before) b h =
    mapped_on (sent_on topology before b) (batch_on_legs (leg_answered s outcomes)) (legs_on (sent_on topology before b) (leg_answered s outcomes)) (batch topology before b)
    (legs_are_on topology before b (legal_before topology before (Wrote s bytes (Outcomes outcomes)) h))
legs_are_on topology (Kill s why ∷ before) b h =
    mapped_on (sent_on topology before b) (batch_killed (kill_set topology before (Kill s why)) (incarnation before)) (killed_on (sent_on topology before b) (kill_set topology before (Kill s why)) (incarnation before)) (batch topology before b)
    (legs_are_on topology before b (legal_before topology before (Kill s why) h))
legs_are_on topology (Halt ∷ before) b h =
    mapped_on (sent_on topology before b) (batch_killed (kill_set topology before Halt) (incarnation before)) (killed_on (sent_on topology before b) (kill_set topology before Halt) (incarnation before)) (batch topology before b)
    (legs_are_on topology before b (legal_before topology before Halt h))
legs_are_on topology (step ∷ before) b h = legs_are_on topology before b (legal_before topology before step h)

-- a batch has no more legs than there are stages
pub legs_few : (topology : Topology) (before : History) (b : ℕ) (ms : List ℕ) (legs : List Leg) → IsSound topology → is_legal topology before ≡ true → batch topology before b ≡ Some (record { numbers = ms; place = Sent legs }) → length legs ≤ 64
legs_few topology before b ms legs sound h is =
    let once : Apart leg_to legs = subst BatchOnce is (legs_once topology before b (fits topology sound) h) in
    let listed : Each (LegListed topology before b) legs = subst (BatchListed topology before b) is (batch_listed topology before b h) in
    let t = numbered_topology topology sound in
    let within : Each (λ n. (1 ≤ n) × (n ≤ 64)) (map leg_to legs) =
    each_map (λ n. (1 ≤ n) × (n ≤ 64)) leg_to legs
    (each_weaker (LegListed topology before b) (λ leg. (1 ≤ leg_to leg) × (leg_to leg ≤ 64))
    (λ leg l. let fit = of_entry (EntryFits topology before leg.sub.consumer) leg.sub b (sent_to topology before leg.sub.consumer) (entries_fit topology before leg.sub.consumer) l.entry in
    let w = known_within topology leg.sub.consumer t (fed_spec topology leg.sub.producer leg.sub.consumer fit.feeding).1 in (w.0, omega (arith, w.1, t.few))) legs listed) in
    let few = few_numbers 64 (map leg_to legs) (apart_mapped (λ n. n) leg_to legs once) within in
    omega (arith, few, length-map legs leg_to)
