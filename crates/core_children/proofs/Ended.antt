-- The fields after the end of a child's run.
use Rattle.std.proofs.Common.{◌≡◌, ◌≢◌, ℕ, suc, ◌+◌, ◌<◌, ◌≤◌, List, ◌∷◌, length, map, filter, Bool, true, false, refl, ap, sym, ◌∙◌, Some, None, Option, arith, inl, inr, subst, get_or, []}
use Rattle.std.specs.Prelude.{slice_get, option_map, if◌then◌else◌, ◌==◌, ◌&&◌, ◌⊎◌, not, is_some, IfSome, IsSome, option_to_list}
use Rattle.std.specs.declared.alloc.Global.{Global}
use Rattle.std.specs.declared.vec.Vec.{Vec}
use Rattle.std.proofs.lemmas.Bool.{eqb-true, eq-eqb}
use Rattle.pipe_types.specs.declared.numbers.StageNo.{StageNo}
use Rattle.pipe_types.specs.declared.numbers.SubNo.{SubNo}
use Rattle.pipe_types.specs.declared.topology.Topology.{Topology}
use Rattle.pipe_types.specs.declared.topology.StageSpec.{StageSpec}
use Rattle.pipe_types.specs.declared.message.Place.{Place}
use Rattle.pipe_types.specs.declared.message.Place.TheVariants.{Running}
use Rattle.pipe_types.specs.declared.message.Reply.{Reply}
use Rattle.pipe_types.specs.declared.message.Reply.TheVariants.{Pass, Failed as FailedReply, Raised, Crashed}
use Rattle.pipe_types.specs.declared.step.Step.TheVariants.{ChildEnd}
use Rattle.pipe_types.specs.Children.{runs_again as mode_runs_again}
use Rattle.pipe_types.specs.Numbers.{same_stage, same_sub, post, message_no}
use Rattle.pipe_types.specs.Stages.{spec_of, feeds}
use Rattle.pipe_types.specs.Sound.{IsSound}
use Rattle.pipe_laws.proofs.Tests.{clash, and_left, and_right, both, same_stage-true, same_stage-self, same_sub-self}
use Rattle.pipe_laws.proofs.Slots.{slot_runs}
use Rattle.pipe_laws.proofs.Accepted.{placed_accepted}
use Rattle.pipe_laws.proofs.Handled.{handled_within}
use Rattle.pipe_laws.proofs.Allowed.{child_end_facts}
use Rattle.pipe_model.specs.History.{History, accepted, incarnation}
use Rattle.pipe_model.specs.Posts.{is_out, in_slot, crashes}
use Rattle.pipe_model.specs.Lives.{generation, current_sub}
use Rattle.pipe_model.specs.Flow.{place, sent, sent_to, runs_again, child_place, child_ended, is_number, runs_in, among}
use Rattle.pipe_model.specs.Ledger.{handled, came_on, crashed_reply, crashes_of}
use Rattle.pipe_model.specs.Legal.{is_legal, allows, has_role, is_supervisor_role}
use Rattle.pipe_model.specs.Moves.{is_final}
use Rattle.queue_laws.proofs.Laws.{waiting_law, inbox_law, gathered_law}
use Rattle.stage_laws.proofs.Laws.{running_law}
use Rattle.stage_laws.proofs.Numbering.{numbered_topology}
use Rattle.stage_subs.specs.Pairs.{PairRow}
use Rattle.stage_subs.specs.Subs.{row_of, row_at, is_pair, handled_more, IsChanged}
use Rattle.stage_subs.specs.Ledger.{ledger_row}
use Rattle.pipe_journal.specs.Recorded.{Recorded}
use Rattle.consumer_sup.specs.Children.{Slots, child_in}
use Rattle.consumer_sup.specs.declared.Child.{Child as ChildRow}
use Rattle.core_tables.specs.declared.rows.Totals.{Totals}
use Rattle.core_tables.specs.declared.rows.PostRow.{PostRow}
use Rattle.core_tables.specs.Rows.{post_at, home}
use Rattle.core_tables.specs.Tables.{list_at}
use Rattle.core_tables.proofs.Tables.{same_or_other}
use Rattle.core_laws.specs.Columns.{running, post_row, part_of, open_batches, child_row, child_left, came, mark}
use Rattle.core_laws.specs.Slots.{child_if, child_of}
use Rattle.core_laws.proofs.Children.{child_is}
use Rattle.core_laws.proofs.Came.{came_is, came_entry, flip}
use Rattle.core_laws.proofs.Lawful.{legal_after}
use Rattle.core_laws.proofs.Marks.{mark_is, open_unsettled}
use Rattle.core_laws.proofs.Past.{known_within, live_known, out_post}
use Rattle.core_state.specs.declared.state.Core.{Core}
use Rattle.core_state.specs.Stands.{Fields, Holds, child_at, child_of as child_from}
use Rattle.core_state.proofs.Homes.{post_home}
use Rattle.core_takes.specs.Replies.{handled_on}
use Rattle.core_children.specs.Slots.{left_in}
use Rattle.core_children.proofs.Next.{out_slot}
use Rattle.core_state.proofs.Parts.{Part, ChildrenAre, ChildrenLen, ChildrenSet, ChunksAre, ChunksLen, InboxesAre, OpensAre, PlacesAre, PlacesLen, PostsAre, PostsLen, SettledAre, SettledLen, SubsAre, TotalsAre, WaitingAre, Says, unchanged, fields_of}
use Rattle.std.proofs.lemmas.Option.{slice_get_read}
use Rattle.core_laws.proofs.Acked.{MayAck, may_ack}
use Rattle.pipe_model.specs.Acknowledgements.{is_acked}

-- ---- what is known

-- the run of message n ends in the slot, and runs again or not
pub record Ends (topology : Topology) (before : History) (s : StageNo) (slot : ℕ) (reply : Reply) (n : ℕ) (again : Bool) : Type 0 where
  pub legal : is_legal topology (ChildEnd s slot reply ∷ before) ≡ true
  pub within : s.0 ≤ length topology.stages
  pub low : slot < 16
  pub own : in_slot before s slot ≡ Some n
  pub ran : place topology before n ≡ Some (Running s)
  pub least : 1 ≤ n
  pub most : n ≤ accepted before
  pub child : child_row topology before s slot ≡ Some (record { no = message_no n; crashes = crashes before n })
  pub sent_on : (u : SubNo) → came_on (sent_to topology before s) (in_slot before s slot) u ≡ same_sub u (came topology before s slot)
  pub fed : feeds topology (came topology before s slot).producer (came topology before s slot).consumer ≡ true
  pub again-is : again ≡ (crashed_reply reply && runs_again (spec_of topology s) (crashes before n))

-- the message of the slot
pub record Slot (topology : Topology) (before : History) (s : StageNo) (slot n : ℕ) : Type 0 where
  pub within : s.0 ≤ length topology.stages
  pub low : slot < 16
  pub own : in_slot before s slot ≡ Some n
  pub ran : place topology before n ≡ Some (Running s)
  pub child : child_row topology before s slot ≡ Some (record { no = message_no n; crashes = crashes before n })

pub slot_of : (topology : Topology) (before : History) (s : StageNo) (slot : ℕ) (reply : Reply) → IsSound topology → is_legal topology before ≡ true → allows topology before (ChildEnd s slot reply) ≡ true
    → (n : ℕ) × Slot topology before s slot n
slot_of topology before s slot reply sound legal allowed =
    let facts = child_end_facts topology before s slot reply allowed in
    let out = and_left (is_out before (post s slot)) _ facts.current in
    let own = out_slot topology before s slot legal facts.role out in
    let ran = slot_runs topology before s slot own.0 legal facts.role facts.live facts.current own.1 in (
      own.0,
      record {
        within = (known_within topology s (numbered_topology topology sound) (live_known topology before s facts.live)).1;
        low = (out_post topology before s slot sound legal out).low;
        own = own.1;
        ran = ran;
        child = child_is topology before s slot legal
            ∙ (ap (child_of topology before s) own.1
            ∙ ap (λ b. child_if b own.0 (crashes before own.0)) (ap (runs_in s) ran ∙ same_stage-self s));
      },
    )

pub ends : (topology : Topology) (before : History) (s : StageNo) (slot : ℕ) (reply : Reply) (n : ℕ) (again : Bool) → IsSound topology → is_legal topology before ≡ true
    → allows topology before (ChildEnd s slot reply) ≡ true → Slot topology before s slot n
    → again ≡ (crashed_reply reply && runs_again (spec_of topology s) (crashes before n)) → Ends topology before s slot reply n again
ends topology before s slot reply n again sound legal allowed k is =
    let there = placed_accepted topology before n (ap is_some k.ran) in
    record {
      legal = legal_after topology before (ChildEnd s slot reply) legal allowed;
      within = k.within;
      low = k.low;
      own = k.own;
      ran = k.ran;
      least = there.0;
      most = there.1;
      child = k.child;
      sent_on = λ u. came_is topology before s slot n u sound legal k.own;
      fed = came_entry topology before s slot n legal k.own;
      again-is = is;
    }

-- ---- the posts

-- ---- the chunk

runs_on : (topology : Topology) (before : History) (s t : StageNo) (slot : ℕ) (reply : Reply) (n : ℕ) (again : Bool) → IsSound topology → Ends topology before s slot reply n again
    → (if s.0 == t.0 && not again then filter (λ m. not (n == m)) (running topology before t) else running topology before t) ≡ running topology (ChildEnd s slot reply ∷ before) t
runs_on topology before s t slot reply n again sound k =
    ap (λ b. if b && not again then filter (λ m. not (n == m)) (running topology before t) else running topology before t) (flip s.0 t.0)
    ∙ (ap (λ a. if same_stage t s && not a then filter (λ m. not (n == m)) (running topology before t) else running topology before t) k.again-is
    ∙ (ap (λ o. if same_stage t s && not (crashed_reply reply && runs_again (spec_of topology s) (crashes_of before o)) then filter (λ m. not (is_number o m)) (running topology before t) else running topology before t) (sym k.own)
    ∙ sym (running_law topology before (ChildEnd s slot reply) t sound k.legal)))

-- ---- the slots

left_is : (spec : Option StageSpec) (reply : Reply) (again : Bool) (child : ChildRow) → again ≡ (crashed_reply reply && runs_again spec child.crashes) → left_in again child ≡ child_left spec reply (Some child)
left_is spec reply again child is = by again ∙ ap (λ b. if b then Some (record { no = child.no; crashes = child.crashes + 1 }) else None) is
  where
    by : (b : Bool) → left_in b child ≡ (if b then Some (record { no = child.no; crashes = child.crashes + 1 }) else None)
    by true = refl
    by false = refl

slot_left : (topology : Topology) (before : History) (s t : StageNo) (slot j : ℕ) (reply : Reply) (n : ℕ) (again : Bool) (old : Option ChildRow) → Ends topology before s slot reply n again
    → old ≡ child_row topology before t j
    → (if t.0 == s.0 && slot == j then left_in again (record { no = message_no n; crashes = crashes before n }) else old) ≡ child_row topology (ChildEnd s slot reply ∷ before) t j
slot_left topology before s t slot j reply n again old k was = by (same_stage t s && slot == j) refl
  where
    by : (b : Bool) → (same_stage t s && slot == j) ≡ b → (if b then left_in again (record { no = message_no n; crashes = crashes before n }) else old) ≡ (if b then child_left (spec_of topology s) reply (child_row topology before t j) else child_row topology before t j)
    by true e =
        let here : t ≡ s = same_stage-true t s (and_left (same_stage t s) _ e) in
        let at : slot ≡ j = eqb-true slot j (and_right (same_stage t s) _ e) in
        left_is (spec_of topology s) reply again (record { no = message_no n; crashes = crashes before n }) k.again-is
        ∙ ap (child_left (spec_of topology s) reply) (sym (ap (λ v. child_row topology before v j) here ∙ (ap (child_row topology before s) (sym at) ∙ k.child)))
    by false e = was

-- ---- the place

place_alike : (b : Bool) (s : StageNo) (i : ℕ) (r : Reply) → child_place (crashed_reply r && b) s i r ≡ child_place b s i r
place_alike b s i (Pass m) = refl
place_alike b s i _ = refl

pub here : (topology : Topology) (before : History) (s : StageNo) (slot : ℕ) (reply : Reply) (n : ℕ) (again : Bool) → Ends topology before s slot reply n again
    → place topology (ChildEnd s slot reply ∷ before) n ≡ Some (child_place again s (incarnation before s) reply)
here topology before s slot reply n again k =
    ap (option_map (child_ended (runs_again (spec_of topology s) (crashes before n)) (in_slot before s slot) s (incarnation before s) reply n)) k.ran
    ∙ (ap (λ o. Some (if same_stage s s && is_number o n then child_place (runs_again (spec_of topology s) (crashes before n)) s (incarnation before s) reply else Running s)) k.own
    ∙ (ap (λ b. Some (if b then child_place (runs_again (spec_of topology s) (crashes before n)) s (incarnation before s) reply else Running s)) (both (same_stage s s) (n == n) (same_stage-self s) (eq-eqb n n refl))
    ∙ ap Some (sym (ap (λ b. child_place b s (incarnation before s) reply) k.again-is ∙ place_alike (runs_again (spec_of topology s) (crashes before n)) s (incarnation before s) reply))))

-- another message stays where it stands
left_place : (again : Bool) (s : StageNo) (i n m : ℕ) (reply : Reply) (o : Option Place) → (n == m) ≡ false → option_map (child_ended again (Some n) s i reply m) o ≡ o
left_place again s i n m reply (Some (Running t)) e = ap (λ b. Some (if same_stage s t && b then child_place again s i reply else Running t)) e ∙ by (same_stage s t)
  where
    by : (a : Bool) → Some (if a && false then child_place again s i reply else Running t) ≡ Some (Running t)
    by true = refl
    by false = refl
left_place again s i n m reply _ e = refl

elsewhere : (topology : Topology) (before : History) (s : StageNo) (slot : ℕ) (reply : Reply) (n m : ℕ) → in_slot before s slot ≡ Some n → (n == m) ≡ false
    → place topology (ChildEnd s slot reply ∷ before) m ≡ place topology before m
elsewhere topology before s slot reply n m own e =
    ap (λ o. option_map (child_ended (runs_again (spec_of topology s) (crashes before m)) o s (incarnation before s) reply m) (place topology before m)) own
    ∙ left_place (runs_again (spec_of topology s) (crashes before m)) s (incarnation before s) n m reply (place topology before m) e

placed_after : (topology : Topology) (before : History) (s : StageNo) (slot : ℕ) (reply : Reply) (n : ℕ) (again : Bool) (i : ℕ) (old : Option Place) → Ends topology before s slot reply n again
    → old ≡ place topology before (suc i)
    → (if n == suc i then Some (child_place again s (incarnation before s) reply) else old) ≡ place topology (ChildEnd s slot reply ∷ before) (suc i)
placed_after topology before s slot reply n again i old k was = by (same_or_other n (suc i))
  where
    by : (((n == suc i) ≡ true) × (n ≡ suc i)) ⊎ (((n == suc i) ≡ false) × (n ≢ suc i)) → (if n == suc i then Some (child_place again s (incarnation before s) reply) else old) ≡ place topology (ChildEnd s slot reply ∷ before) (suc i)
    by (inl same) =
        ap (λ b. if b then Some (child_place again s (incarnation before s) reply) else old) same.0
        ∙ (sym (here topology before s slot reply n again k) ∙ ap (place topology (ChildEnd s slot reply ∷ before)) same.1)
    by (inr other) =
        ap (λ b. if b then Some (child_place again s (incarnation before s) reply) else old) other.0
        ∙ (was ∙ sym (elsewhere topology before s slot reply n (suc i) k.own other.0))

-- ---- the mark

final_is : (b : Bool) (s : StageNo) (i : ℕ) (r : Reply) → is_final (Some (child_place (crashed_reply r && b) s i r)) ≡ not (crashed_reply r && b)
final_is b s i (Pass m) = refl
final_is b s i (FailedReply why) = refl
final_is b s i (Raised why) = refl
final_is true s i Crashed = refl
final_is false s i Crashed = refl

pick : (b : Bool) (k : ℕ) → (if b then 0 else k) ≡ (if not b then k else 0)
pick true k = refl
pick false k = refl

marked_after : (topology : Topology) (before : History) (s : StageNo) (slot : ℕ) (reply : Reply) (n : ℕ) (again : Bool) (i : ℕ) (old : Option ℕ) → Ends topology before s slot reply n again
    → old ≡ Some (mark topology before (suc i))
    → (if n == suc i then Some (if again then 0 else length before) else old) ≡ Some (mark topology (ChildEnd s slot reply ∷ before) (suc i))
marked_after topology before s slot reply n again i old k was = by (same_or_other n (suc i))
  where
    stays : (p : Bool) (m : ℕ) → (p ≡ false → m ≡ 0) → m ≡ (if p then m else (if p then length before else 0))
    stays true m h = refl
    stays false m h = h refl

    by : (((n == suc i) ≡ true) × (n ≡ suc i)) ⊎ (((n == suc i) ≡ false) × (n ≢ suc i)) → (if n == suc i then Some (if again then 0 else length before) else old) ≡ Some (mark topology (ChildEnd s slot reply ∷ before) (suc i))
    by (inl same) =
        let before-is : is_final (place topology before (suc i)) ≡ false = ap (λ m. is_final (place topology before m)) (sym same.1) ∙ ap is_final k.ran in
        let after-is : is_final (place topology (ChildEnd s slot reply ∷ before) (suc i)) ≡ not again =
        ap (λ m. is_final (place topology (ChildEnd s slot reply ∷ before) m)) (sym same.1)
        ∙ (ap is_final (here topology before s slot reply n again k)
        ∙ (ap (λ b. is_final (Some (child_place b s (incarnation before s) reply))) k.again-is
        ∙ (final_is (runs_again (spec_of topology s) (crashes before n)) s (incarnation before s) reply
        ∙ ap not (sym k.again-is)))) in
        ap (λ b. if b then Some (if again then 0 else length before) else old) same.0
        ∙ ap Some (pick again (length before)
        ∙ (ap (λ b. if b then length before else 0) (sym after-is)
        ∙ ap (λ b. if b then mark topology before (suc i) else (if is_final (place topology (ChildEnd s slot reply ∷ before) (suc i)) then length before else 0)) (sym before-is)))
    by (inr other) =
        ap (λ b. if b then Some (if again then 0 else length before) else old) other.0
        ∙ (was
        ∙ ap Some (stays (is_final (place topology before (suc i))) (mark topology before (suc i)) (λ e. mark_is topology before (suc i) ∙ open_unsettled topology before (suc i) e)
        ∙ ap (λ p. if is_final (place topology before (suc i)) then mark topology before (suc i) else (if is_final p then length before else 0)) (sym (elsewhere topology before s slot reply n (suc i) k.own other.0))))

-- ---- what is counted

none_more : (n : ℕ) → n + 0 ≡ n
none_more n = omega arith

counted : (again a b d : Bool) (row : PairRow) → (if a && b then Some (if d then handled_more (if again then 0 else 1) row else row) else Some row)
    ≡ Some (record row { counts = record row.counts { handled = if again then row.counts.handled else (if a && (b && d) then row.counts.handled + 1 else row.counts.handled) } })
counted true true true true row = ap (λ h. Some (record row { counts = record row.counts { handled = h } })) (none_more row.counts.handled)
counted true true true false row = refl
counted true true false d row = refl
counted true false b d row = refl
counted false true true true row = refl
counted false true true false row = refl
counted false true false d row = refl
counted false false b d row = refl

-- what a step adds to the handled units of a subscription
handled_now : (topology : Topology) (before : History) (s : StageNo) (slot : ℕ) (reply : Reply) (n : ℕ) (again : Bool) (v : SubNo) → Ends topology before s slot reply n again
    → (if again then handled topology before v else (if same_sub v (came topology before s slot) then handled topology before v + 1 else handled topology before v)) ≡ handled topology (ChildEnd s slot reply ∷ before) v
handled_now topology before s slot reply n again v k =
    ap (λ b. if again then handled topology before v else (if b then handled topology before v + 1 else handled topology before v)) (sym (k.sent_on v))
    ∙ (ap (λ a. if a then handled topology before v else (if came_on (sent_to topology before s) (in_slot before s slot) v then handled topology before v + 1 else handled topology before v)) k.again-is
    ∙ ap (λ o. if crashed_reply reply && runs_again (spec_of topology s) (crashes_of before o) then handled topology before v else (if came_on (sent_to topology before s) (in_slot before s slot) v then handled topology before v + 1 else handled topology before v)) (sym k.own))

handled_row : (topology : Topology) (before : History) (s : StageNo) (slot : ℕ) (reply : Reply) (n : ℕ) (again : Bool) (old new : List (Option PairRow)) (c p : StageNo) → Ends topology before s slot reply n again
    → row_at old c p ≡ Some (ledger_row topology before c p)
    → IsChanged old new (came topology before s slot) (handled_on (came topology before s slot).generation (if again then 0 else 1))
    → row_at new c p ≡ Some (ledger_row topology (ChildEnd s slot reply ∷ before) c p)
handled_row topology before s slot reply n again old new c p k was changed =
    let u = came topology before s slot in
    let v = current_sub topology before c p in
    let row = ledger_row topology before c p in
    changed.rows c p
    ∙ (ap (λ o. if is_pair u.consumer u.producer c p then option_map (handled_on u.generation (if again then 0 else 1)) o else o) was
    ∙ (counted again (same_stage c u.consumer) (same_stage p u.producer) (generation topology before c p == u.generation) row
    ∙ ap (λ h. Some (record row { counts = record row.counts { handled = h } })) (handled_now topology before s slot reply n again v k)))

-- what may be counted
pub row_room : (core : Core) (topology : Topology) (before : History) (s : StageNo) (slot : ℕ) (reply : Reply) (n : ℕ) (again : Bool) → Fields core topology before → Ends topology before s slot reply n again
    → IfSome (row_of core.subs (came topology before s slot)) (λ row. row.generation ≡ (came topology before s slot).generation → row.counts.handled + (if again then 0 else 1) ≤ row.counts.arrived)
row_room core topology before s slot reply n again x k =
    let u = came topology before s slot in
    subst (λ (o : Option PairRow). IfSome o (λ row. row.generation ≡ u.generation → row.counts.handled + (if again then 0 else 1) ≤ row.counts.arrived)) (sym (x.subs u.consumer u.producer k.fed))
    (λ same.
    let is : current_sub topology before u.consumer u.producer ≡ u = ap (λ g. record { consumer = u.consumer; producer = u.producer; generation = g }) same in
    subst (λ (v : SubNo). handled topology before v + (if again then 0 else 1) ≤ sent topology before v) (sym is) (room again refl))
  where
    room : (b : Bool) → again ≡ b → handled topology before (came topology before s slot) + (if b then 0 else 1) ≤ sent topology before (came topology before s slot)
    room true e = omega (arith, handled_within topology before (came topology before s slot) (and_left (is_legal topology before) _ k.legal))
    room false e =
        let u = came topology before s slot in
        let now : handled topology before u + 1 ≡ handled topology (ChildEnd s slot reply ∷ before) u =
        ap (λ b. if b then handled topology before u + 1 else handled topology before u) (sym (same_sub-self u))
        ∙ (ap (λ a. if a then handled topology before u else (if same_sub u u then handled topology before u + 1 else handled topology before u)) (sym e) ∙ handled_now topology before s slot reply n again u k) in
        omega (arith, now, handled_within topology (ChildEnd s slot reply ∷ before) u k.legal)

-- ---- the fields

-- what the passes of the end of a run leave
pub record Ended (core : Core) (s : StageNo) (slot : ℕ) (reply : Reply) (n : ℕ) (again : Bool)
    (posts : Vec PostRow Global) (subs : List (Option PairRow)) (chunks : Vec (Vec ℕ Global) Global) (children : Vec Slots Global) (places : Vec Place Global) (settled : Vec ℕ Global) : Type 0 where
  pub posts-is : (i : ℕ) → slice_get posts.items i ≡ (if post_at s.0 slot == i then option_map home (slice_get core.posts.items i) else slice_get core.posts.items i)
  pub posts-len : length posts.items ≡ length core.posts.items
  pub counts : IsChanged core.subs subs (came core.topology core.journal.steps s slot) (handled_on (came core.topology core.journal.steps s slot).generation (if again then 0 else 1))
  pub left : (t : StageNo) → list_at chunks.items t ≡ (if s.0 == t.0 && not again then filter (λ m. not (n == m)) (list_at core.chunks.items t) else list_at core.chunks.items t)
  pub left-len : length chunks.items ≡ length core.chunks.items
  pub slots : (t : StageNo) (j : ℕ) → child_at children.items t j ≡ (if t.0 == s.0 && slot == j then left_in again (record { no = message_no n; crashes = crashes core.journal.steps n }) else child_at core.children.items t j)
  pub slots-len : length children.items ≡ length core.children.items
  pub kept : (t : StageNo) (new : Slots) → slice_get children.items t.0 ≡ Some new → (old : Slots) × (slice_get core.children.items t.0 ≡ Some old) × (new.mode ≡ old.mode) × (length new.slots ≡ length old.slots)
  pub placed : (i : ℕ) → slice_get places.items i ≡ (if n == suc i then Some (child_place again s (incarnation core.journal.steps s) reply) else slice_get core.places.items i)
  pub placed-len : length places.items ≡ length core.places.items
  pub marks : (i : ℕ) → slice_get settled.items i ≡ (if n == suc i then Some (if again then 0 else length core.journal.steps) else slice_get core.settled.items i)
  pub marks-len : length settled.items ≡ length core.settled.items

pub ended_fields : (core : Core) (s : StageNo) (slot : ℕ) (reply : Reply) (n : ℕ) (again : Bool) (j : Recorded)
    (posts : Vec PostRow Global) (subs : List (Option PairRow)) (chunks : Vec (Vec ℕ Global) Global) (children : Vec Slots Global) (places : Vec Place Global) (settled : Vec ℕ Global)
    → IsSound core.topology → Fields core core.topology core.journal.steps → Ends core.topology core.journal.steps s slot reply n again
    → Ended core s slot reply n again posts subs chunks children places settled
    → Fields (record core { journal = j; posts = posts; subs = subs; chunks = chunks; children = children; places = places; settled = settled; totals = record core.totals { quiet = 0 } }) core.topology (ChildEnd s slot reply ∷ core.journal.steps)
ended_fields core s slot reply n again j posts subs chunks children places settled sound x k new = fields_of says
  where
    topology : Topology
    topology = core.topology

    before : History
    before = core.journal.steps

    says : (it : Part) → Says it (record core { journal = j; posts = posts; subs = subs; chunks = chunks; children = children; places = places; settled = settled; totals = record core.totals { quiet = 0 } }) core.topology (ChildEnd s slot reply ∷ core.journal.steps)
    says PostsLen = new.posts-len ∙ x.sized.posts
    says ChunksLen = new.left-len ∙ x.sized.chunks
    says ChildrenLen = new.slots-len ∙ x.sized.children
    says PlacesLen = new.placed-len ∙ x.sized.places
    says SettledLen = new.marks-len ∙ x.sized.settled
    says ChildrenSet = λ t spec held e role at.
        let was = new.kept t held at in
        let is = x.set.children t spec was.0 e role was.1 in
        (was.2 ∙ is.0, was.3 ∙ is.1)
    says PostsAre = λ t i within low. new.posts-is (post_at t.0 i) ∙ post_home core.posts.items s t slot i (post_row before t i) low k.low (x.posts t i within low)
    says SubsAre = λ c p fed. handled_row topology before s slot reply n again core.subs subs c p k (x.subs c p fed) new.counts
    says WaitingAre = λ t. x.waiting t ∙ ap (map {B = ℕ × ℕ} (λ m. (part_of topology before (spec_of topology t) m, m))) (sym (waiting_law topology before (ChildEnd s slot reply) t sound k.legal))
    says InboxesAre = λ t. x.inboxes t ∙ sym (inbox_law topology before (ChildEnd s slot reply) t sound k.legal)
    says ChunksAre = λ t. new.left t ∙ (ap (λ (ns : List ℕ). if s.0 == t.0 && not again then filter (λ m. not (n == m)) ns else ns) (x.chunks t) ∙ runs_on topology before s t slot reply n again sound k)
    says OpensAre = λ t. x.opens t ∙ ap (open_batches before) (sym (gathered_law topology before (ChildEnd s slot reply) t k.legal))
    says ChildrenAre = λ t i. new.slots t i ∙ slot_left topology before s t slot i reply n again (child_at core.children.items t i) k (x.children t i)
    says PlacesAre = λ i. new.placed i ∙ placed_after topology before s slot reply n again i (slice_get core.places.items i) k (x.places i)
    says SettledAre = λ i below. new.marks i ∙ marked_after topology before s slot reply n again i (slice_get core.settled.items i) k (x.settled i below)
    says TotalsAre = ap (λ (y : Totals). record y { quiet = 0 }) x.totals
    says it = unchanged x it

-- what the end of a run may acknowledge is its message
pub end_acks : (topology : Topology) (before : History) (s : StageNo) (slot : ℕ) (reply : Reply) (n : ℕ) (again : Bool) → Ends topology before s slot reply n again
    → MayAck topology before (ChildEnd s slot reply) (n ∷ [])
end_acks topology before s slot reply n again k =
    may_ack topology before (ChildEnd s slot reply) (n ∷ []) k.legal (tt, tt) (ap is_acked k.ran, tt) ((k.least, k.most), tt)
    (λ m h. sym (ap (λ o. among (option_to_list o) m) k.own) ∙ h)

-- ---- what the code reads

-- the number that the code found in the slot
pub number_read : (core : Core) (s : StageNo) (slot : ℕ) (reply : Reply) (r : ℕ) (table : List Slots) → Holds core → allows core.topology core.journal.steps (ChildEnd s slot reply) ≡ true
    → table ≡ core.children.items → option_map (λ (child : ChildRow). child.no.0) (child_at table s slot) ≡ Some r → Slot core.topology core.journal.steps s slot r
number_read core s slot reply r table x allowed same read =
    let k = slot_of core.topology core.journal.steps s slot reply x.sound x.legal allowed in
    let found : Some k.0 ≡ Some r =
    sym (ap (option_map (λ (child : ChildRow). child.no.0)) (ap (λ kids. child_at kids s slot) same ∙ (x.fields.children s slot ∙ k.1.child))) ∙ read in
    let is : k.0 ≡ r = cc in
    subst (λ n. Slot core.topology core.journal.steps s slot n) is k.1

-- the slot has a child
pub child_there : (core : Core) (s : StageNo) (slot : ℕ) (reply : Reply) (table : List Slots) → Holds core → allows core.topology core.journal.steps (ChildEnd s slot reply) ≡ true
    → table ≡ core.children.items → IsSome (child_at table s slot)
child_there core s slot reply table x allowed same =
    let k = slot_of core.topology core.journal.steps s slot reply x.sound x.legal allowed in
    subst (λ (o : Option ChildRow). IsSome o) (sym (ap (λ kids. child_at kids s slot) same ∙ (x.fields.children s slot ∙ k.1.child))) refl

none_some : {A : Type 0} (x : A) → None ≡ Some x → ⊥
none_some x e = let wrong : false ≡ true = ap is_some e in cc

pub again_read : (core : Core) (s : StageNo) (slot : ℕ) (reply : Reply) (n : ℕ) (again crashed : Bool) → Holds core → allows core.topology core.journal.steps (ChildEnd s slot reply) ≡ true
    → Slot core.topology core.journal.steps s slot n → crashed ≡ crashed_reply reply
    → IfSome (slice_get core.children.items s.0) (λ held. IfSome (child_in held.slots slot) (λ child. again ≡ (crashed && mode_runs_again held.mode child.crashes)))
    → again ≡ (crashed_reply reply && runs_again (spec_of core.topology s) (crashes core.journal.steps n))
again_read core s slot reply n again crashed x allowed k crash read = by (slice_get core.children.items s.0) refl read
  where
    row : child_at core.children.items s slot ≡ Some (record { no = message_no n; crashes = crashes core.journal.steps n })
    row = x.fields.children s slot ∙ k.child

    mode : (held : Slots) → slice_get core.children.items s.0 ≡ Some held → (o : Option StageSpec) → spec_of core.topology s ≡ o → mode_runs_again held.mode (crashes core.journal.steps n) ≡ runs_again o (crashes core.journal.steps n)
    mode held at None e =
        let none : has_role core.topology s is_supervisor_role ≡ false = rw e refl in
        clash (has_role core.topology s is_supervisor_role) (child_end_facts core.topology core.journal.steps s slot reply allowed).role none
    mode held at (Some spec) e =
        ap (λ m. mode_runs_again m (crashes core.journal.steps n)) (x.fields.set.children s spec held e (child_end_facts core.topology core.journal.steps s slot reply allowed).role at).0

    by : (o : Option Slots) → slice_get core.children.items s.0 ≡ o → IfSome o (λ held. IfSome (child_in held.slots slot) (λ child. again ≡ (crashed && mode_runs_again held.mode child.crashes)))
        → again ≡ (crashed_reply reply && runs_again (spec_of core.topology s) (crashes core.journal.steps n))
    by None e f =
        absurd (none_some (record { no = message_no n; crashes = crashes core.journal.steps n }) (sym (ap (λ o. child_from o slot) e) ∙ row))
    by (Some held) e f =
        let there : child_in held.slots slot ≡ Some (record { no = message_no n; crashes = crashes core.journal.steps n }) = sym (ap (λ o. child_from o slot) e) ∙ row in
        let is : again ≡ (crashed && mode_runs_again held.mode (crashes core.journal.steps n)) = subst (λ (o : Option ChildRow). IfSome o (λ child. again ≡ (crashed && mode_runs_again held.mode child.crashes))) there f in
        is ∙ (ap (λ b. b && mode_runs_again held.mode (crashes core.journal.steps n)) crash
        ∙ ap (λ b. crashed_reply reply && b) (mode held e (spec_of core.topology s) refl))

-- what the code read of the child that ends
pub ends_read : (core : Core) (s : StageNo) (slot : ℕ) (reply : Reply) (n : ℕ) (again crashed : Bool) (table : List Slots) → Holds core → allows core.topology core.journal.steps (ChildEnd s slot reply) ≡ true
    → table ≡ core.children.items → option_map (λ (child : ChildRow). child.no.0) (child_at table s slot) ≡ Some n → crashed ≡ crashed_reply reply
    → IfSome (slice_get core.children.items s.0) (λ held. IfSome (child_in held.slots slot) (λ child. again ≡ (crashed && mode_runs_again held.mode child.crashes)))
    → Ends core.topology core.journal.steps s slot reply n again
ends_read core s slot reply n again crashed table x allowed same read crash said =
    let known = number_read core s slot reply n table x allowed same read in
    ends core.topology core.journal.steps s slot reply n again x.sound x.legal allowed known (again_read core s slot reply n again crashed x allowed known crash said)

-- the subscription on which the child came
pub came_read : (core : Core) (s : StageNo) (slot : ℕ) (reply : Reply) (n : ℕ) (again : Bool) (u : SubNo) → Holds core → Ends core.topology core.journal.steps s slot reply n again
    → u ≡ get_or core.came.items (post_at s.0 slot) u → u ≡ came core.topology core.journal.steps s slot
came_read core s slot reply n again u x k read =
    let there : Some u ≡ Some (came core.topology core.journal.steps s slot) =
    sym (slice_get_read core.came.items (length core.came.items) (post_at s.0 slot) u refl (omega (arith, k.within, k.low, x.fields.sized.came)) read) ∙ x.fields.came s slot k.within k.low in
    cc
