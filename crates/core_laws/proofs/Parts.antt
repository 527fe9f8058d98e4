-- The partitions of the units that wait are those by which a stage dispatches, and no two of its consumers have the same.
use Rattle.std.proofs.Common.{subst, ◌≡◌, ◌≢◌, ℕ, suc, ◌+◌, ◌-◌, ◌<◌, List, [], ◌∷◌, ◌++◌, map, length, Bool, true, false, refl, ap, sym, ◌∙◌, Some, None, Option, arith}
use Rattle.std.specs.Prelude.{if◌then◌else◌, ◌==◌, ◌&&◌, ◌||◌, option_map, filter, is_some, nat_le, nat_lt}
use Rattle.std.specs.List.{enumerate_from}
use Rattle.std.proofs.lemmas.Bool.{eqb-true, eq-eqb}
use Rattle.std.proofs.lemmas.List.Kept.{AllPairs-cons}
use Rattle.pipe_types.specs.declared.numbers.StageNo.{StageNo}
use Rattle.pipe_types.specs.declared.numbers.SubNo.{SubNo}
use Rattle.pipe_types.specs.declared.topology.Topology.{Topology}
use Rattle.pipe_types.specs.declared.topology.StageSpec.{StageSpec}
use Rattle.pipe_types.specs.declared.topology.Role.{Role}
use Rattle.pipe_types.specs.declared.topology.Role.TheVariants.{Producer, Processor, Supervisor, Batcher, BatchProcessor}
use Rattle.pipe_types.specs.declared.topology.Dispatch.{Dispatch as DispatchKind}
use Rattle.pipe_types.specs.declared.topology.Dispatch.TheVariants.{Demand, Broadcast, Partition}
use Rattle.pipe_types.specs.declared.message.BatchEnd.TheVariants.{Outcomes}
use Rattle.pipe_types.specs.declared.message.Place.TheVariants.{InBatch}
use Rattle.pipe_types.specs.declared.room.Room.{Room}
use Rattle.pipe_types.specs.declared.step.Step.TheVariants.{Dispatch, Take, Close, Wrote, Kill, Halt}
use Rattle.pipe_types.specs.Dispatchers.{ByDemand, served_as, mark_of, goes, ahead, on_each, sends_from, sends_by_place, partition_of}
use Rattle.pipe_types.specs.Numbers.{batch_no}
use Rattle.pipe_types.specs.Rooms.{PartsDiffer}
use Rattle.pipe_types.specs.Sound.{IsSound, is_next}
use Rattle.pipe_types.specs.Stages.{spec_of, feeds, option_feeds, role_feeds}
use Rattle.pipe_model.specs.Batches.{Batch, BatchPlace, batch_sent, leg_taken, leg_answered, batch_on_legs, batch_killed}
use Rattle.pipe_model.specs.Content.{content, key_in}
use Rattle.pipe_model.specs.History.{History, closed, asked, incarnation}
use Rattle.pipe_model.specs.Lives.{is_live, current_sub, live_subs_from, kill_set}
use Rattle.pipe_model.specs.Flow.{place, batch_waits_in, is_empty, batch, sent, view_of, waiting, numbers_in, first_in, among, closing, new_batch, next_units, change_place, deliveries, subs_of, partition_in, mark_in, serving_by, picks_by, alone, rooms_by, index_in, kind_in}
use Rattle.pipe_model.specs.Legal.{is_legal}
use Rattle.pipe_model.specs.Taken.{Closed, closed_as}
use Rattle.pipe_laws.proofs.Levels.{rank, rank_of, rank_in, feeds_down}
use Rattle.pipe_laws.proofs.Lists.{Each, each_weaker, each_map}
use Rattle.pipe_laws.proofs.Sounds.{sound_ascends}
use Rattle.pipe_laws.proofs.Tests.{and_left, and_right}
use Rattle.queue_laws.proofs.Drained.{waits_going}
use Rattle.queue_laws.proofs.Laws.{holds_law}
use Rattle.queue_laws.proofs.Sounds.{found_self, ToAllBehind, ordered_by}
use Rattle.core_laws.specs.Columns.{closed_numbers, part_of, part_by, is_by_partition, is_broadcast}
use Rattle.core_laws.proofs.Lawful.{each_all}

-- The messages of a closed batch

same_numbers : (change : Batch → BatchPlace) (o : Option Batch) → option_map (λ (x : Batch). x.numbers) o ≡ option_map (λ (x : Batch). x.numbers) (option_map (λ x. change_place x (change x)) o)
same_numbers change None = refl
same_numbers change (Some x) = refl

closed_so : (topology : Topology) (before : History) (b : ℕ) → option_map (λ (c : Closed). c.numbers) (closed_as topology before b) ≡ option_map (λ (x : Batch). x.numbers) (batch topology before b)
closed_so topology [] b = refl
closed_so topology (Close s first trigger ∷ before) b = either (b == closed before + 1) (closed_so topology before b)
  where
    either : (is : Bool) → option_map (λ (c : Closed). c.numbers) (closed_as topology before b) ≡ option_map (λ (x : Batch). x.numbers) (batch topology before b)
        → option_map (λ (c : Closed). c.numbers) (if is then Some (record { numbers = closing before (view_of topology before) s first.0; trigger = trigger }) else closed_as topology before b)
        ≡ option_map (λ (x : Batch). x.numbers) (new_batch is (closing before (view_of topology before) s first.0) s (batch topology before b))
    either true known = refl
    either false known = known
closed_so topology (Dispatch s ∷ before) b =
    closed_so topology before b ∙ same_numbers (λ x. batch_sent s (among (alone topology before s) b) (subs_of (deliveries topology before s) b) x.place) (batch topology before b)
closed_so topology (Take s u k ∷ before) b = closed_so topology before b ∙ either (among (next_units topology (view_of topology before) s u k) b)
  where
    either : (is : Bool) → option_map (λ (x : Batch). x.numbers) (batch topology before b)
        ≡ option_map (λ (x : Batch). x.numbers) (if is then option_map (λ x. change_place x (batch_on_legs (leg_taken s) x.place)) (batch topology before b) else batch topology before b)
    either true = same_numbers (λ x. batch_on_legs (leg_taken s) x.place) (batch topology before b)
    either false = refl
closed_so topology (Wrote s bytes (Outcomes outcomes) ∷ before) b =
    closed_so topology before b ∙ same_numbers (λ x. batch_on_legs (leg_answered s outcomes) x.place) (batch topology before b)
closed_so topology (Kill s why ∷ before) b =
    closed_so topology before b ∙ same_numbers (λ x. batch_killed (kill_set topology before (Kill s why)) (incarnation before) x.place) (batch topology before b)
closed_so topology (Halt ∷ before) b =
    closed_so topology before b ∙ same_numbers (λ x. batch_killed (kill_set topology before Halt) (incarnation before) x.place) (batch topology before b)
closed_so topology (step ∷ before) b = closed_so topology before b

-- a batch has the messages with which it was closed
pub closed_is : (topology : Topology) (before : History) (b : ℕ) → closed_numbers (closed_as topology before b) ≡ numbers_in (batch topology before b)
closed_is topology before b = by (closed_as topology before b) (batch topology before b) (closed_so topology before b)
  where
    by : (c : Option Closed) (o : Option Batch) → option_map (λ (d : Closed). d.numbers) c ≡ option_map (λ (x : Batch). x.numbers) o → closed_numbers c ≡ numbers_in o
    by None None e = refl
    by (Some c) (Some x) e = let is : c.numbers ≡ x.numbers = cc in is
    by _ _ e = cc

-- each closed batch is there
pub closed_there : (topology : Topology) (before : History) (b : ℕ) → is_some (closed_as topology before b) ≡ is_some (batch topology before b)
closed_there topology before b = by (closed_as topology before b) (batch topology before b) (closed_so topology before b)
  where
    by : (c : Option Closed) (o : Option Batch) → option_map (λ (d : Closed). d.numbers) c ≡ option_map (λ (x : Batch). x.numbers) o → is_some c ≡ is_some o
    by None None e = refl
    by (Some c) (Some x) e = refl
    by _ _ e = cc

first_among : (ns : List ℕ) → is_empty ns ≡ false → among ns (first_in ns) ≡ true
first_among [] h = cc
first_among (n ∷ ns) h = ap (λ b. b || among ns n) (eq-eqb n n refl)

-- the first message of a batch that waits stands in it
pub first_stands : (topology : Topology) (before : History) (t : StageNo) (b : ℕ) → is_legal topology before ≡ true → batch_waits_in t (batch topology before b) ≡ true
    → place topology before (first_in (closed_numbers (closed_as topology before b))) ≡ Some (InBatch (batch_no b))
first_stands topology before t b legal waits =
    let going = waits_going t (batch topology before b) waits in
    let law = holds_law topology before b legal in
    ap (λ ns. place topology before (first_in ns)) (closed_is topology before b)
    ∙ law.each going (first_in (numbers_in (batch topology before b))) (first_among (numbers_in (batch topology before b)) (law.some going))

-- Partitions

by_role : (topology : Topology) (before : History) (spec : StageSpec) (n : ℕ) (role : Role) → spec.role ≡ role
    → part_by topology before spec n ≡ partition_in before (view_of topology before) (Some spec) n
by_role topology before spec n Batcher e = rw e (ap (λ ns. partition_of (key_in (content before (first_in ns))) spec.parts) (closed_is topology before n))
by_role topology before spec n _ e = rw e refl

-- where a stage dispatches by partition, the units that wait have the partitions by which it does
pub part_is : (topology : Topology) (before : History) (o : Option StageSpec) (n : ℕ) → is_by_partition (kind_in o) ≡ true
    → part_of topology before o n ≡ partition_in before (view_of topology before) o n
part_is topology before None n h = refl
part_is topology before (Some spec) n h =
    ap (λ b. if b then part_by topology before spec n else 0) h ∙ by_role topology before spec n spec.role refl

-- by demand the partitions do not matter
free_from : (rooms : List Room) (k : ℕ) (earlier others parts qarts : List ℕ)
    → length earlier ≡ length others → length parts ≡ length qarts
    → sends_from ByDemand rooms earlier (enumerate_from k parts) ≡ sends_from ByDemand rooms others (enumerate_from k qarts)
free_from rooms k earlier others [] [] e f = refl
free_from rooms k earlier others [] (q ∷ qarts) e f = absurd (omega arith)
free_from rooms k earlier others (p ∷ parts) [] e f = absurd (omega arith)
free_from rooms k earlier others (p ∷ parts) (q ∷ qarts) e f =
    ap (λ n. on_each k (filter (λ u. nat_le (ahead rooms u) n && nat_lt n (ahead rooms u + u.left)) rooms) ++ sends_from ByDemand rooms (p ∷ earlier) (enumerate_from (k + 1) parts)) e
    ∙ ap (λ ds. on_each k (filter (goes ByDemand rooms others q) rooms) ++ ds) (free_from rooms (k + 1) (p ∷ earlier) (q ∷ others) parts qarts (omega arith) (omega arith))

pub parts_free : (rooms : List Room) (parts qarts : List ℕ) → length parts ≡ length qarts → sends_by_place ByDemand rooms parts ≡ sends_by_place ByDemand rooms qarts
parts_free rooms parts qarts f = free_from rooms 0 [] [] parts qarts refl f

-- what a dispatch sends by places, from the partitions of the units that wait; a broadcaster judges them otherwise
pub sends_by_parts : (topology : Topology) (before : History) (s : StageNo) (rooms : List Room) (more : List ℕ) → is_broadcast (kind_in (spec_of topology s)) ≡ false
    → sends_by_place (serving_by topology before (view_of topology before) s) rooms (map (part_of topology before (spec_of topology s)) (waiting topology before s) ++ more)
    ≡ sends_by_place (serving_by topology before (view_of topology before) s) rooms (map (λ n. mark_in before (view_of topology before) (spec_of topology s) n) (waiting topology before s) ++ more)
sends_by_parts topology before s rooms more plain = by_kind (kind_in (spec_of topology s)) refl plain
  where
    same : kind_in (spec_of topology s) ≡ Partition → (ns : List ℕ)
        → map (part_of topology before (spec_of topology s)) ns ≡ map (λ n. mark_in before (view_of topology before) (spec_of topology s) n) ns
    same e [] = refl
    same e (n ∷ ns) =
        λ i. (part_is topology before (spec_of topology s) n (ap is_by_partition e) ∙ sym (ap (λ k. mark_of k n (partition_in before (view_of topology before) (spec_of topology s) n)) e)) i ∷ same e ns i

    long : (ns more : List ℕ) → length (map (part_of topology before (spec_of topology s)) ns ++ more) ≡ length (map (λ n. mark_in before (view_of topology before) (spec_of topology s) n) ns ++ more)
    long [] more = refl
    long (n ∷ ns) more = ap suc (long ns more)

    by_kind : (kind : DispatchKind) → kind_in (spec_of topology s) ≡ kind → is_broadcast kind ≡ false
        → sends_by_place (serving_by topology before (view_of topology before) s) rooms (map (part_of topology before (spec_of topology s)) (waiting topology before s) ++ more)
        ≡ sends_by_place (serving_by topology before (view_of topology before) s) rooms (map (λ n. mark_in before (view_of topology before) (spec_of topology s) n) (waiting topology before s) ++ more)
    by_kind Broadcast e h = cc
    by_kind Partition e h = ap (λ ps. sends_by_place (serving_by topology before (view_of topology before) s) rooms (ps ++ more)) (same e (waiting topology before s))
    by_kind Demand e h =
        subst (λ v. sends_by_place v rooms (map (part_of topology before (spec_of topology s)) (waiting topology before s) ++ more) ≡ sends_by_place v rooms (map (λ n. mark_in before (view_of topology before) (spec_of topology s) n) (waiting topology before s) ++ more))
        (sym (ap (λ k. served_as k (picks_by topology before (view_of topology before))) e))
        (parts_free rooms (map (part_of topology before (spec_of topology s)) (waiting topology before s) ++ more) (map (λ n. mark_in before (view_of topology before) (spec_of topology s) n) (waiting topology before s) ++ more) (long (waiting topology before s) more))

-- The order of stages

-- the batcher of a batch processor
abbrev group_of : Role → (batcher : ℕ) → ℕ
group_of BatchProcessor k = k
group_of _ k = 0

-- a later stage is further down, of a later batcher, or has a greater index in its group
data Later (a b : StageSpec) : Type 0 where
  Down : rank_of a.role < rank_of b.role → Later a b
  Beside : rank_of a.role ≡ rank_of b.role → group_of a.role a.batcher < group_of b.role b.batcher → Later a b
  After : rank_of a.role ≡ rank_of b.role → group_of a.role a.batcher ≡ group_of b.role b.batcher → a.index < b.index → Later a b

later_again : (a b c : StageSpec) → Later a b → Later b c → Later a c
later_again a b c (Down p) (Down q) = Down (omega arith)
later_again a b c (Down p) (Beside q g) = Down (omega arith)
later_again a b c (Down p) (After q g i) = Down (omega arith)
later_again a b c (Beside p h) (Down q) = Down (omega arith)
later_again a b c (Beside p h) (Beside q g) = Beside (p ∙ q) (omega arith)
later_again a b c (Beside p h) (After q g i) = Beside (p ∙ q) (omega arith)
later_again a b c (After p h j) (Down q) = Down (omega arith)
later_again a b c (After p h j) (Beside q g) = Beside (p ∙ q) (omega arith)
later_again a b c (After p h j) (After q g i) = After (p ∙ q) (h ∙ g) (omega arith)

next_later : (a b : StageSpec) → is_next a.role b.role a b ≡ true → Later a b
next_later a b h = by_roles a.role b.role refl refl h
  where
    ranks : (x y : Role) → a.role ≡ x → b.role ≡ y → rank_of x < rank_of y → Later a b
    ranks x y ea eb low = Down (let p : rank_of a.role ≡ rank_of x = ap rank_of ea in let q : rank_of b.role ≡ rank_of y = ap rank_of eb in omega arith)

    step : (x : Role) → a.role ≡ x → b.role ≡ x → group_of x a.batcher ≡ group_of x b.batcher → (b.index == a.index + 1) ≡ true → Later a b
    step x ea eb same e =
        After (ap rank_of ea ∙ sym (ap rank_of eb)) (ap (λ r. group_of r a.batcher) ea ∙ (same ∙ sym (ap (λ r. group_of r b.batcher) eb)))
        (let is : b.index ≡ a.index + 1 = eqb-true b.index (a.index + 1) e in omega arith)

    writers : a.role ≡ BatchProcessor → b.role ≡ BatchProcessor → (one two : Bool) → (b.batcher == a.batcher && b.index == a.index + 1) ≡ one → (b.batcher == a.batcher + 1 && b.index == 0) ≡ two
        → (one || two) ≡ true → Later a b
    writers ea eb true two e f h =
        step BatchProcessor ea eb (sym (eqb-true b.batcher a.batcher (and_left (b.batcher == a.batcher) _ e))) (and_right (b.batcher == a.batcher) _ e)
    writers ea eb false true e f h =
        let next : b.batcher ≡ a.batcher + 1 = eqb-true b.batcher (a.batcher + 1) (and_left (b.batcher == a.batcher + 1) _ f) in
        let p : group_of a.role a.batcher ≡ a.batcher = ap (λ r. group_of r a.batcher) ea in
        let q : group_of b.role b.batcher ≡ b.batcher = ap (λ r. group_of r b.batcher) eb in
        Beside (ap rank_of ea ∙ sym (ap rank_of eb)) (omega arith)
    writers ea eb false false e f h = cc

    by_roles : (x y : Role) → a.role ≡ x → b.role ≡ y → is_next x y a b ≡ true → Later a b
    by_roles Producer Producer ea eb h = step Producer ea eb refl h
    by_roles Producer Processor ea eb h = ranks Producer Processor ea eb (omega arith)
    by_roles Producer Supervisor ea eb h = ranks Producer Supervisor ea eb (omega arith)
    by_roles Processor Processor ea eb h = step Processor ea eb refl h
    by_roles Processor Batcher ea eb h = ranks Processor Batcher ea eb (omega arith)
    by_roles Batcher Batcher ea eb h = step Batcher ea eb refl h
    by_roles Batcher BatchProcessor ea eb h = ranks Batcher BatchProcessor ea eb (omega arith)
    by_roles BatchProcessor BatchProcessor ea eb h = writers ea eb _ _ refl refl h
    by_roles _ _ ea eb h = cc

-- The consumers of a stage

abbrev group_below : Role → (batcher : ℕ) → ℕ
group_below Batcher k = k
group_below _ k = 0

group_fed : (p c : Role) (pb cb : ℕ) → role_feeds p c (pb == cb) ≡ true → group_of c cb ≡ group_below p pb
group_fed Producer Processor pb cb h = refl
group_fed Producer Supervisor pb cb h = refl
group_fed Processor Batcher pb cb h = refl
group_fed Batcher BatchProcessor pb cb h = sym (eqb-true pb cb h)
group_fed _ _ pb cb h = cc

fed_alike : (o : Option StageSpec) (a c : StageSpec) → option_feeds o (Some a) ≡ true → option_feeds o (Some c) ≡ true → group_of a.role a.batcher ≡ group_of c.role c.batcher
fed_alike None a c h k = cc
fed_alike (Some p) a c h k = group_fed p.role a.role p.batcher a.batcher h ∙ sym (group_fed p.role c.role p.batcher c.batcher k)

-- of two consumers of a stage the later has the greater index
index_above : (topology : Topology) (t : StageNo) (a c : StageSpec) → spec_of topology a.no ≡ Some a → spec_of topology c.no ≡ Some c
    → feeds topology t a.no ≡ true → feeds topology t c.no ≡ true → Later a c → a.index < c.index
index_above topology t a c ea ec fa fc later = by later
  where
    level : rank_of a.role ≡ rank_of c.role
    level =
        let x : rank topology a.no ≡ rank topology t + 1 = feeds_down topology t a.no fa in
        let y : rank topology c.no ≡ rank topology t + 1 = feeds_down topology t c.no fc in
        sym (ap rank_in ea) ∙ (x ∙ (sym y ∙ ap rank_in ec))

    group : group_of a.role a.batcher ≡ group_of c.role c.batcher
    group = fed_alike (spec_of topology t) a c (ap (option_feeds (spec_of topology t)) (sym ea) ∙ fa) (ap (option_feeds (spec_of topology t)) (sym ec) ∙ fc)

    by : Later a c → a.index < c.index
    by (Down p) = absurd (omega (arith, level, p))
    by (Beside p g) = absurd (omega (arith, group, g))
    by (After p g i) = i

abbrev index_at : Topology → SubNo → ℕ
index_at topology u = index_in (spec_of topology u.consumer)

others_above : (topology : Topology) (before : History) (t : StageNo) (a : StageSpec) (specs : List StageSpec) → feeds topology t a.no ≡ true → spec_of topology a.no ≡ Some a
    → Each (Later a) specs → Each (λ c. spec_of topology c.no ≡ Some c) specs → Each (λ (u : SubNo). index_at topology (current_sub topology before a.no t) < index_at topology u) (live_subs_from topology before t specs)
others_above topology before t a [] fa ea later known = tt
others_above topology before t a (c ∷ specs) fa ea later known =
    either (feeds topology t c.no && is_live topology before c.no) refl (others_above topology before t a specs fa ea later.1 known.1)
  where
    one : feeds topology t c.no ≡ true → index_at topology (current_sub topology before a.no t) < index_at topology (current_sub topology before c.no t)
    one fc =
        let low = index_above topology t a c ea known.0 fa fc later.0 in
        let x : index_in (spec_of topology a.no) ≡ a.index = ap index_in ea in
        let y : index_in (spec_of topology c.no) ≡ c.index = ap index_in known.0 in
        omega (arith, low, x, y)

    either : (b : Bool) → (feeds topology t c.no && is_live topology before c.no) ≡ b
        → Each (λ (u : SubNo). index_at topology (current_sub topology before a.no t) < index_at topology u) (live_subs_from topology before t specs)
        → Each (λ (u : SubNo). index_at topology (current_sub topology before a.no t) < index_at topology u) (if b then current_sub topology before c.no t ∷ live_subs_from topology before t specs else live_subs_from topology before t specs)
    either true e rest = (one (and_left (feeds topology t c.no) _ e), rest)
    either false e rest = rest

-- the live subscriptions on a stage, by a function that makes rooms of them
differ_from : (topology : Topology) (before : History) (t : StageNo) (f : SubNo → Room) → ((u : SubNo) → (f u).part ≡ index_at topology u) → (specs : List StageSpec)
    → ToAllBehind Later specs → Each (λ c. spec_of topology c.no ≡ Some c) specs → PartsDiffer (map f (live_subs_from topology before t specs))
differ_from topology before t f is [] later known = λ i j d lt below. absurd (omega arith)
differ_from topology before t f is (c ∷ specs) later known =
    either (feeds topology t c.no && is_live topology before c.no) refl (differ_from topology before t f is specs later.1 known.1)
  where
    other : (u : SubNo) → index_at topology (current_sub topology before c.no t) < index_at topology u → (f (current_sub topology before c.no t)).part ≢ (f u).part
    other u low e = let p = is (current_sub topology before c.no t) in let q = is u in absurd (omega (arith, low, e, p, q))

    either : (b : Bool) → (feeds topology t c.no && is_live topology before c.no) ≡ b → PartsDiffer (map f (live_subs_from topology before t specs))
        → PartsDiffer (map f (if b then current_sub topology before c.no t ∷ live_subs_from topology before t specs else live_subs_from topology before t specs))
    either false e rest = rest
    either true e rest =
        let u : SubNo = current_sub topology before c.no t in
        AllPairs-cons (λ (v : Room) (w : Room). v.part ≢ w.part) (f u) (map f (live_subs_from topology before t specs))
        (each_all (λ (w : Room). (f u).part ≢ w.part) (map f (live_subs_from topology before t specs))
        (each_map (λ (w : Room). (f u).part ≢ w.part) f (live_subs_from topology before t specs)
        (each_weaker (λ (v : SubNo). index_at topology u < index_at topology v) (λ v. (f u).part ≢ (f v).part) other (live_subs_from topology before t specs)
        (others_above topology before t c specs (and_left (feeds topology t c.no) _ e) known.0 later.0 known.1))))
        rest

-- no two consumers of a stage have the same partition
pub rooms_differ : (topology : Topology) (before : History) (s : StageNo) → IsSound topology → PartsDiffer (rooms_by topology before (view_of topology before) s)
rooms_differ topology before s sound = either (is_live topology before s)
  where
    either : (b : Bool) → PartsDiffer (map (λ u. record { sub = u; part = index_in (spec_of topology u.consumer); left = asked before u - sent topology before u }) (if b then live_subs_from topology before s topology.stages else []))
    either true =
        differ_from topology before s (λ u. record { sub = u; part = index_in (spec_of topology u.consumer); left = asked before u - sent topology before u }) (λ u. refl) topology.stages
        (ordered_by Later next_later later_again topology.stages sound.ordered) (found_self 0 topology.stages (sound_ascends topology sound))
    either false = λ i j d lt below. absurd (omega arith)
