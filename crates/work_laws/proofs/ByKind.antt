-- How many steps of each kind: intakes, dispatches, takes, replies, children and their ends.
use Rattle.std.proofs.Common.{◌≡◌, ℕ, ◌+◌, ◌*◌, ◌≤◌, List, [], ◌∷◌, length, Bool, true, false, refl, ap, sym, ◌∙◌, subst, arith, Option, Some, None}
use Rattle.std.specs.Prelude.{if◌then◌else◌, not, ◌==◌, ◌&&◌, ◌||◌, is_some, is_none}
use Rattle.std.proofs.lemmas.Bool.{eq-eqb}
use Rattle.pipe_types.specs.declared.numbers.StageNo.{StageNo}
use Rattle.pipe_types.specs.declared.numbers.MsgNo.{MsgNo}
use Rattle.pipe_types.specs.declared.numbers.Post.{Post}
use Rattle.pipe_types.specs.declared.topology.Topology.{Topology}
use Rattle.pipe_types.specs.declared.topology.StageSpec.{StageSpec}
use Rattle.pipe_types.specs.declared.topology.Keep.{Keep}
use Rattle.pipe_types.specs.declared.topology.Role.{Role}
use Rattle.pipe_types.specs.declared.topology.Role.TheVariants.{Processor, Batcher, BatchProcessor}
use Rattle.pipe_types.specs.declared.message.Place.TheVariants.{Running}
use Rattle.pipe_types.specs.declared.step.Step.{Step}
use Rattle.pipe_types.specs.declared.step.Step.TheVariants.{Fetch, Dispatch, Take, Done, Wrote, Child, ChildEnd}
use Rattle.pipe_types.specs.Numbers.{post, same_stage}
use Rattle.pipe_types.specs.Stages.{spec_of}
use Rattle.pipe_types.specs.Sound.{IsSound, has_fields_of, by_demand, by_broadcast, by_partition, batch_processors, asks_up_to, is_between, no_buffer, no_handler}
use Rattle.pipe_model.specs.History.{History, accepted}
use Rattle.pipe_model.specs.Posts.{puts_out, answers, in_slot}
use Rattle.pipe_model.specs.Lives.{is_live}
use Rattle.pipe_model.specs.Flow.{alone, place, view_of, is_batcher, is_empty, deliveries, lost_over, over_in, over_size, unsent, waiting}
use Rattle.pipe_model.specs.Counting.{as_number}
use Rattle.pipe_model.specs.Legal.{is_legal, allows, has_role, takes_role, is_producer_role, is_processor_role, is_batch_processor_role, is_supervisor_role, runs_number}
use Rattle.pipe_laws.proofs.Tests.{clash, and_left, and_right, both, same_stage-true, same_stage-self}
use Rattle.pipe_laws.proofs.Lists.{weigh}
use Rattle.pipe_laws.proofs.Accepted.{placed_accepted}
use Rattle.pipe_laws.proofs.Allowed.{legal_before, legal_step, take_facts, done_facts, wrote_facts, ChildFacts, child_facts, child_end_facts, fetch_role}
use Rattle.pipe_laws.proofs.Busy.{two_roles}
use Rattle.pipe_laws.proofs.Kept.{runs_here}
use Rattle.pipe_laws.proofs.Slots.{first_stands, supervisor_writes, number_is, supervisor_produces, supervisor_takes}
use Rattle.queue_laws.proofs.Roles.{some_spec}
use Rattle.queue_laws.proofs.Sounds.{sound_fields}
use Rattle.stage_laws.proofs.Records.{accepted_within}
use Rattle.count_laws.specs.Counts.{moves_one, movers, sends_one, senders, takes, begun, answered, child_starts}
use Rattle.count_laws.proofs.Steps.{movers_within, answered_out, answers_within}
use Rattle.count_laws.proofs.Sends.{senders_few}
use Rattle.count_laws.proofs.Takes.{takes_few}
use Rattle.count_laws.proofs.Crashes.{begun_takes}
use Rattle.count_laws.proofs.Starts.{child_starts_within}
use Rattle.count_laws.proofs.Reruns.{crashes_few}
use Rattle.core_laws.proofs.Lawful.{dispatch_may}
use Rattle.core_laws.proofs.Past.{out_post}
use Rattle.work_laws.specs.Work.{how_many, is_intake, is_dispatch, is_take, is_reply, is_child, is_child_end}
use Rattle.work_laws.specs.Limits.{number_of_stages, most_moves, most_units, most_takes, most_dispatches, most_children, most_child_ends}
use Rattle.work_laws.proofs.Keys.{Among, among_below, length_below, below, among_pairs, length_pairs, pairs, stage_numbers, stage_among, weigh_most}
use Rattle.work_laws.proofs.Spread.{Counted, spread, how_many_grows, how_many_more, Spreads, no_less}
use Rattle.std.proofs.lemmas.List.{length-map}

-- Intakes

intakes_move : (topology : Topology) (before : History) → how_many is_intake before ≤ movers topology before
intakes_move topology [] = omega arith
intakes_move topology (step ∷ before) = omega (arith, intakes_move topology before, less step)
  where
    less : (step : Step) → as_number (is_intake step) ≤ as_number (moves_one topology before step)
    less (Take s u k) = omega arith
    less (Dispatch s) = omega arith
    less (Child s m slot) = omega arith
    less _ = omega arith

pub intakes_few : (topology : Topology) (before : History) → IsSound topology → is_legal topology before ≡ true → how_many is_intake before ≤ most_moves topology
intakes_few topology before sound h = omega (arith, intakes_move topology before, movers_within topology before sound h)

-- Dispatches

-- a batcher loses nothing over a size
batcher_keeps : (topology : Topology) (before : History) (t : StageNo) → IsSound topology → is_batcher (spec_of topology t) ≡ true → is_empty (lost_over topology before (view_of topology before) t) ≡ true
batcher_keeps topology before t sound h = by_spec (spec_of topology t) refl h
  where
    none_over : (size : Option ℕ) (keep : Keep) (units : List ℕ) → is_none size ≡ true → is_empty (over_size size keep units) ≡ true
    none_over None keep units e = refl
    none_over (Some n) keep units e = cc

    by_role : (spec : StageSpec) (role : Role) → is_batcher (Some spec) ≡ true → spec.role ≡ role → has_fields_of topology.stages role spec ≡ true → is_none spec.size ≡ true
    by_role spec Batcher b is f =
        let rest = and_right ((spec.batcher == spec.index && ((by_demand spec spec.dispatch || by_broadcast spec spec.dispatch) || (by_partition (length (batch_processors spec.index topology.stages)) spec spec.dispatch && spec.field == 0))) && (asks_up_to 10000 spec && (is_between 1 10000 spec.batch_size && is_between 1 3600000 spec.batch_timeout))) _ f in
        and_left (is_none spec.size) _ (and_left (no_buffer spec) _ (and_left (no_buffer spec && no_handler spec) _ rest))
    by_role spec _ b is f = let x : is_batcher (Some spec) ≡ false = rw is refl in clash (is_batcher (Some spec)) b x

    by_spec : (o : Option StageSpec) → spec_of topology t ≡ o → is_batcher o ≡ true → is_empty (lost_over topology before (view_of topology before) t) ≡ true
    by_spec None e b = cc
    by_spec (Some spec) e b =
        ap (λ o. is_empty (over_in o (unsent (deliveries topology before t) (waiting topology before t)))) e
        ∙ none_over spec.size spec.keep (unsent (deliveries topology before t) (waiting topology before t)) (by_role spec spec.role b refl (sound_fields topology t spec sound e))

-- a dispatch sends or moves a message
dispatch_counts : (topology : Topology) (before : History) (t : StageNo) → IsSound topology → allows topology before (Dispatch t) ≡ true → 1 ≤ as_number (sends_one topology before (Dispatch t)) + as_number (moves_one topology before (Dispatch t))
dispatch_counts topology before t sound h =
    either (is_empty (deliveries topology before t)) (is_empty (alone topology before t)) (is_empty (lost_over topology before (view_of topology before) t)) (is_batcher (spec_of topology t)) (batcher_keeps topology before t sound) (and_right (is_live topology before t) _ (dispatch_may topology before t h))
  where
    either : (a l b c : Bool) → (c ≡ true → b ≡ true) → (not a || (not l || not b)) ≡ true → 1 ≤ as_number (not a) + as_number ((not c && (not a || not b)) || not l)
    either false l b c f k = omega arith
    either true true true c f k = let x : false ≡ true = k in cc
    either true false true true f k = omega arith
    either true false true false f k = omega arith
    either true l false false f k = omega arith
    either true l false true f k = let x : false ≡ true = f refl in cc

dispatches_within : (topology : Topology) (before : History) → IsSound topology → is_legal topology before ≡ true → how_many is_dispatch before ≤ senders topology before + movers topology before
dispatches_within topology [] sound h = omega arith
dispatches_within topology (step ∷ before) sound h = omega (arith, dispatches_within topology before sound (legal_before topology before step h), less step (legal_step topology before step h))
  where
    less : (step : Step) → allows topology before step ≡ true → as_number (is_dispatch step) ≤ as_number (sends_one topology before step) + as_number (moves_one topology before step)
    less (Dispatch t) l = dispatch_counts topology before t sound l
    less (Take s u k) l = omega arith
    less (Child s m slot) l = omega arith
    less _ l = omega arith

pub dispatches_few : (topology : Topology) (before : History) → IsSound topology → is_legal topology before ≡ true → how_many is_dispatch before ≤ most_dispatches topology
dispatches_few topology before sound h = omega (arith, dispatches_within topology before sound h, senders_few topology before sound h, movers_within topology before sound h)

-- Takes

role_spec : (topology : Topology) (s : StageNo) (one : Role → Bool) → has_role topology s one ≡ true → (spec : StageSpec) × (spec_of topology s ≡ Some spec)
role_spec topology s one h = by_spec (spec_of topology s) refl
  where
    by_spec : (o : Option StageSpec) → spec_of topology s ≡ o → (spec : StageSpec) × (spec_of topology s ≡ Some spec)
    by_spec None e = let x : has_role topology s one ≡ false = rw e refl in clash (has_role topology s one) h x
    by_spec (Some spec) e = (spec, e)

-- a stage that has a role is one of the stages
pub role_among : (topology : Topology) (s : StageNo) (one : Role → Bool) → has_role topology s one ≡ true → Among s (stage_numbers topology.stages)
role_among topology s one h = let found = role_spec topology s one h in stage_among topology.stages s found.0 found.1

-- as many steps of a kind as stages, times what counts for one of them
pub over_stages : (topology : Topology) (test : Step → Bool) (f : History → StageNo → ℕ) (most : ℕ) → Spreads topology test f (stage_numbers topology.stages) → (before : History) → is_legal topology before ≡ true → ((s : StageNo) → f before s ≤ most)
    → how_many test before ≤ number_of_stages topology * most
over_stages topology test f most kind before legal few =
    let all = spread topology test f (stage_numbers topology.stages) kind before legal in
    let each = subst (λ n. weigh (f before) (stage_numbers topology.stages) ≤ n * most) (length-map topology.stages (λ (spec : StageSpec). spec.no)) (weigh_most (f before) most (stage_numbers topology.stages) few) in
    omega (arith, all, each)

pub takes_all : (topology : Topology) (before : History) → IsSound topology → is_legal topology before ≡ true → how_many is_take before ≤ most_takes topology
takes_all topology before sound h =
    over_stages topology is_take takes (most_units topology) (record { grows = grows; counts = counts }) before h (λ s. takes_few topology before s sound h)
  where
    grows : (before : History) (step : Step) (s : StageNo) → takes before s ≤ takes (step ∷ before) s
    grows before (Take t u k) s = no_less (same_stage s t) (takes before s)
    grows before _ s = omega arith

    counts : (before : History) (step : Step) → is_legal topology (step ∷ before) ≡ true → is_take step ≡ true → Counted takes (stage_numbers topology.stages) before step
    counts before (Take t u k) l e =
        let more : takes (Take t u k ∷ before) t ≡ takes before t + 1 = ap (λ b. if b then takes before t + 1 else takes before t) (same_stage-self t) in
        record { key = t; there = role_among topology t takes_role (take_facts topology before t u k (legal_step topology before (Take t u k) l)).role; more = omega (arith, more) }
    counts before _ l e = let x : false ≡ true = e in cc

-- Replies of handlers

abbrev is_reply_of : StageNo → Step → Bool
is_reply_of s (Done t replies) = same_stage s t
is_reply_of s (Wrote t bytes end) = same_stage s t
is_reply_of s _ = false

reply_role : (topology : Topology) (before : History) (step : Step) (s : StageNo) → allows topology before step ≡ true → is_reply_of s step ≡ true → has_role topology s takes_role ≡ true
reply_role topology before (Done t replies) s h e =
    subst (λ x. has_role topology x takes_role ≡ true) (sym (same_stage-true s t e)) (wider topology t is_processor_role processes (done_facts topology before t replies h).role)
  where
    processes : (role : Role) → is_processor_role role ≡ true → takes_role role ≡ true
    processes Processor h = refl
    processes BatchProcessor h = refl
    processes _ h = let x : false ≡ true = h in cc

    wider : (topology : Topology) (t : StageNo) (one : Role → Bool) → ((role : Role) → one role ≡ true → takes_role role ≡ true) → has_role topology t one ≡ true → has_role topology t takes_role ≡ true
    wider topology t one f k =
        let found = role_spec topology t one k in
        let x : has_role topology t one ≡ one found.0.role = rw found.1 refl in
        let y : has_role topology t takes_role ≡ takes_role found.0.role = rw found.1 refl in
        y ∙ f found.0.role (sym x ∙ k)
reply_role topology before (Wrote t bytes end) s h e =
    let k = (wrote_facts topology before t bytes end h).role in
    let found = role_spec topology t is_batch_processor_role k in
    let x : has_role topology t is_batch_processor_role ≡ is_batch_processor_role found.0.role = rw found.1 refl in
    let y : has_role topology t takes_role ≡ takes_role found.0.role = rw found.1 refl in
    subst (λ z. has_role topology z takes_role ≡ true) (sym (same_stage-true s t e)) (y ∙ writes found.0.role (sym x ∙ k))
  where
    writes : (role : Role) → is_batch_processor_role role ≡ true → takes_role role ≡ true
    writes Processor h = refl
    writes BatchProcessor h = refl
    writes _ h = let x : false ≡ true = h in cc
reply_role topology before _ s h e = let x : false ≡ true = e in cc

replies_answer : (before : History) (s : StageNo) → how_many (is_reply_of s) before ≤ answered before (post s 0)
replies_answer [] s = omega arith
replies_answer (step ∷ before) s = omega (arith, replies_answer before s, less step)
  where
    less : (step : Step) → as_number (is_reply_of s step) ≤ as_number (answers step (post s 0))
    less (Done t replies) = either (same_stage s t)
      where
        either : (b : Bool) → as_number b ≤ as_number (b && true)
        either true = omega arith
        either false = omega arith
    less (Wrote t bytes end) = either (same_stage s t)
      where
        either : (b : Bool) → as_number b ≤ as_number (b && true)
        either true = omega arith
        either false = omega arith
    less _ = omega arith

-- without a role that takes a stage replies to nothing
replies_none : (topology : Topology) (before : History) (s : StageNo) → is_legal topology before ≡ true → has_role topology s takes_role ≡ false → how_many (is_reply_of s) before ≡ 0
replies_none topology [] s h role = refl
replies_none topology (step ∷ before) s h role = either (is_reply_of s step) refl (replies_none topology before s (legal_before topology before step h) role)
  where
    either : (b : Bool) → is_reply_of s step ≡ b → how_many (is_reply_of s) before ≡ 0 → as_number b + how_many (is_reply_of s) before ≡ 0
    either true e old = clash (has_role topology s takes_role) (reply_role topology before step s (legal_step topology before step h) e) role
    either false e old = omega (arith, old)

replies_of : (topology : Topology) (before : History) (s : StageNo) → IsSound topology → is_legal topology before ≡ true → how_many (is_reply_of s) before ≤ most_units topology
replies_of topology before s sound h = by_role (has_role topology s takes_role) refl
  where
    by_role : (b : Bool) → has_role topology s takes_role ≡ b → how_many (is_reply_of s) before ≤ most_units topology
    by_role true role = omega (arith, replies_answer before s, answers_within topology before (post s 0) h, begun_takes topology before s h role, takes_few topology before s sound h)
    by_role false role = omega (arith, replies_none topology before s h role)

pub replies_all : (topology : Topology) (before : History) → IsSound topology → is_legal topology before ≡ true → how_many is_reply before ≤ most_takes topology
replies_all topology before sound h =
    over_stages topology is_reply (λ past s. how_many (is_reply_of s) past) (most_units topology) (record { grows = λ past step s. how_many_grows (is_reply_of s) past step; counts = counts }) before h (λ s. replies_of topology before s sound h)
  where
    one : (before : History) (step : Step) (t : StageNo) → is_legal topology (step ∷ before) ≡ true → is_reply_of t step ≡ true → Counted (λ past s. how_many (is_reply_of s) past) (stage_numbers topology.stages) before step
    one before step t l e =
        record { key = t; there = role_among topology t takes_role (reply_role topology before step t (legal_step topology before step l) e); more = how_many_more (is_reply_of t) before step e }

    counts : (before : History) (step : Step) → is_legal topology (step ∷ before) ≡ true → is_reply step ≡ true → Counted (λ past s. how_many (is_reply_of s) past) (stage_numbers topology.stages) before step
    counts before (Done t replies) l e = one before (Done t replies) t l (same_stage-self t)
    counts before (Wrote t bytes end) l e = one before (Wrote t bytes end) t l (same_stage-self t)
    counts before _ l e = let x : false ≡ true = e in cc

-- Children

-- a child is started for a message that was accepted
child_accepted : (topology : Topology) (before : History) (t : StageNo) (m : MsgNo) (slot : ℕ) → allows topology before (Child t m slot) ≡ true → m.0 ≤ accepted before
child_accepted topology before t m slot h = either (runs_number topology before t (in_slot before t slot)) refl
  where
    facts : ChildFacts topology before t m.0 slot
    facts = child_facts topology before t m slot h

    either : (b : Bool) → runs_number topology before t (in_slot before t slot) ≡ b → m.0 ≤ accepted before
    either true e =
        let own : in_slot before t slot ≡ Some m.0 = number_is (in_slot before t slot) m.0 (facts.again e) in
        let running : place topology before m.0 ≡ Some (Running t) = runs_here t (place topology before m.0) (ap (runs_number topology before t) (sym own) ∙ e) in
        (placed_accepted topology before m.0 (ap is_some running)).1
    either false e =
        let first = first_stands topology before t is_supervisor_role m.0 supervisor_writes facts.role (facts.new e).0 (facts.new e).1 in
        (placed_accepted topology before m.0 (ap is_some first.2)).1

pub children_all : (topology : Topology) (before : History) → IsSound topology → is_legal topology before ≡ true → how_many is_child before ≤ most_children topology
children_all topology before sound h =
    let all = spread topology is_child child_starts (below (topology.record_limit + 1)) (record { grows = grows; counts = counts }) before h in
    let most = weigh_most (child_starts before) 5 (below (topology.record_limit + 1)) (λ n. omega (arith, child_starts_within topology before n h, crashes_few topology before n h)) in
    omega (arith, all, most, length_below (topology.record_limit + 1))
  where
    grows : (before : History) (step : Step) (n : ℕ) → child_starts before n ≤ child_starts (step ∷ before) n
    grows before (Child t m slot) n = either (m.0 == n)
      where
        either : (b : Bool) → child_starts before n ≤ (if b then child_starts before n + 1 else child_starts before n)
        either true = omega arith
        either false = omega arith
    grows before _ n = omega arith

    counts : (before : History) (step : Step) → is_legal topology (step ∷ before) ≡ true → is_child step ≡ true → Counted child_starts (below (topology.record_limit + 1)) before step
    counts before (Child t m slot) l e =
        let more : child_starts (Child t m slot ∷ before) m.0 ≡ child_starts before m.0 + 1 = ap (λ b. if b then child_starts before m.0 + 1 else child_starts before m.0) (eq-eqb m.0 m.0 refl) in
        let low : m.0 ≤ accepted before = child_accepted topology before t m slot (legal_step topology before (Child t m slot) l) in
        let within = accepted_within topology before sound (legal_before topology before (Child t m slot) l) in
        record { key = m.0; there = among_below m.0 (topology.record_limit + 1) (omega (arith, low, within)); more = omega (arith, more) }
    counts before _ l e = let x : false ≡ true = e in cc

-- Ends of children

abbrev is_child_end_at : Post → Step → Bool
is_child_end_at p step = is_child_end step && answers step p

ends_answer : (before : History) (p : Post) → how_many (is_child_end_at p) before ≤ answered before p
ends_answer [] p = omega arith
ends_answer (step ∷ before) p = omega (arith, ends_answer before p, less (is_child_end step) (answers step p))
  where
    less : (a b : Bool) → as_number (a && b) ≤ as_number b
    less true b = omega arith
    less false true = omega arith
    less false false = omega arith

-- what a supervisor begins are children
begun_children : (topology : Topology) (before : History) (s : StageNo) (slot : ℕ) → is_legal topology before ≡ true → has_role topology s is_supervisor_role ≡ true → begun before (post s slot) ≤ how_many is_child before
begun_children topology [] s slot h role = omega arith
begun_children topology (step ∷ before) s slot h role = omega (arith, begun_children topology before s slot (legal_before topology before step h) role, less step (legal_step topology before step h))
  where
    apart : (t : StageNo) (b : Bool) (other : Role → Bool) → ((r : Role) → is_supervisor_role r ≡ true → other r ≡ true → ⊥) → has_role topology t other ≡ true → as_number (same_stage s t && b) ≤ 0
    apart t b other f k = either (same_stage s t) refl
      where
        either : (a : Bool) → same_stage s t ≡ a → as_number (a && b) ≤ 0
        either false e = omega arith
        either true e = absurd (two_roles topology t is_supervisor_role other f (subst (λ x. has_role topology x is_supervisor_role ≡ true) (same_stage-true s t e) role) k)

    less : (step : Step) → allows topology before step ≡ true → as_number (puts_out step (post s slot)) ≤ as_number (is_child step)
    less (Fetch t n) l = apart t (slot == 0) is_producer_role supervisor_produces (fetch_role topology before t n l)
    less (Take t u k) l = apart t (slot == 0) takes_role supervisor_takes (take_facts topology before t u k l).role
    less (Child t m k) l = either (same_stage s t && slot == k)
      where
        either : (b : Bool) → as_number b ≤ 1
        either true = omega arith
        either false = omega arith
    less _ l = omega arith

ends_none : (topology : Topology) (before : History) (s : StageNo) (slot : ℕ) → is_legal topology before ≡ true → has_role topology s is_supervisor_role ≡ false → how_many (is_child_end_at (post s slot)) before ≡ 0
ends_none topology [] s slot h role = refl
ends_none topology (step ∷ before) s slot h role = either (is_child_end_at (post s slot) step) refl (ends_none topology before s slot (legal_before topology before step h) role)
  where
    here : (step : Step) → allows topology before step ≡ true → is_child_end_at (post s slot) step ≡ true → has_role topology s is_supervisor_role ≡ true
    here (ChildEnd t k reply) l e =
        subst (λ x. has_role topology x is_supervisor_role ≡ true) (sym (same_stage-true s t (and_left (same_stage s t) _ e))) (child_end_facts topology before t k reply l).role
    here _ l e = let x : false ≡ true = e in cc

    either : (b : Bool) → is_child_end_at (post s slot) step ≡ b → how_many (is_child_end_at (post s slot)) before ≡ 0 → as_number b + how_many (is_child_end_at (post s slot)) before ≡ 0
    either true e old = clash (has_role topology s is_supervisor_role) (here step (legal_step topology before step h) e) role
    either false e old = omega (arith, old)

ends_at : (topology : Topology) (before : History) (s : StageNo) (slot : ℕ) → IsSound topology → is_legal topology before ≡ true → how_many (is_child_end_at (post s slot)) before ≤ most_children topology
ends_at topology before s slot sound h = by_role (has_role topology s is_supervisor_role) refl
  where
    by_role : (b : Bool) → has_role topology s is_supervisor_role ≡ b → how_many (is_child_end_at (post s slot)) before ≤ most_children topology
    by_role true role = omega (arith, ends_answer before (post s slot), answers_within topology before (post s slot) h, begun_children topology before s slot h role, children_all topology before sound h)
    by_role false role = omega (arith, ends_none topology before s slot h role)

-- the slots of the stages
abbrev pub stage_slots : Topology → List (StageNo × ℕ)
stage_slots topology = pairs (stage_numbers topology.stages) (below 16)

-- an answered slot is one of a stage
pub slot_among : (topology : Topology) (before : History) (step : Step) (s : StageNo) (slot : ℕ) → IsSound topology → is_legal topology (step ∷ before) ≡ true → answers step (post s slot) ≡ true → Among {A = StageNo × ℕ} (s, slot) (stage_slots topology)
slot_among topology before step s slot sound h e =
    let at = out_post topology before s slot sound (legal_before topology before step h) (answered_out topology before step (post s slot) (legal_step topology before step h) e) in
    let found = some_spec topology s at.known in
    among_pairs s slot (stage_numbers topology.stages) (below 16) (stage_among topology.stages s found.0 found.1) (among_below slot 16 at.low)

pub over_slots : (topology : Topology) (test : Step → Bool) (f : History → StageNo × ℕ → ℕ) (most : ℕ) → Spreads topology test f (stage_slots topology) → (before : History) → is_legal topology before ≡ true → ((p : StageNo × ℕ) → f before p ≤ most)
    → how_many test before ≤ number_of_stages topology * 16 * most
over_slots topology test f most kind before legal few =
    let all = spread topology test f (stage_slots topology) kind before legal in
    let long : length (stage_slots topology) ≡ number_of_stages topology * 16 =
    length_pairs (stage_numbers topology.stages) (below 16) ∙ (λ i. length-map topology.stages (λ (spec : StageSpec). spec.no) i * length_below 16 i) in
    let each = subst (λ n. weigh (f before) (stage_slots topology) ≤ n * most) long (weigh_most (f before) most (stage_slots topology) few) in
    omega (arith, all, each)

pub child_ends_all : (topology : Topology) (before : History) → IsSound topology → is_legal topology before ≡ true → how_many is_child_end before ≤ most_child_ends topology
child_ends_all topology before sound h =
    over_slots topology is_child_end (λ past p. how_many (is_child_end_at (post p.0 p.1)) past) (most_children topology) (record { grows = λ past step p. how_many_grows (is_child_end_at (post p.0 p.1)) past step; counts = counts }) before h
    (λ p. ends_at topology before p.0 p.1 sound h)
  where
    counts : (before : History) (step : Step) → is_legal topology (step ∷ before) ≡ true → is_child_end step ≡ true → Counted {K = StageNo × ℕ} (λ past p. how_many (is_child_end_at (post p.0 p.1)) past) (stage_slots topology) before step
    counts before (ChildEnd t k reply) l e =
        let at : answers (ChildEnd t k reply) (post t k) ≡ true = both (same_stage t t) (k == k) (same_stage-self t) (eq-eqb k k refl) in
        record { key = (t, k); there = slot_among topology before (ChildEnd t k reply) t k sound l at; more = how_many_more (is_child_end_at (post t k)) before (ChildEnd t k reply) at }
    counts before _ l e = let x : false ≡ true = e in cc
