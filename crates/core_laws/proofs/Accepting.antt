-- What an accept leaves as it was, and what it adds to the columns.
use Rattle.std.proofs.Common.{◌≡◌, ℕ, suc, ◌+◌, ◌-◌, ◌*◌, ◌<◌, ◌≤◌, List, [], ◌∷◌, map, length, Bool, true, false, refl, ap, sym, ◌∙◌, Some, None, Option, arith}
use Rattle.std.specs.Prelude.{if◌then◌else◌, ◌==◌, nat_lt, nat_le, filter, slice_get, is_some}
use Rattle.std.specs.List.{list_all}
use Rattle.std.proofs.lemmas.Bool.{leb-true, lt-ltb}
use Rattle.std.proofs.lemmas.Bool.Decides.{nat_tests}
use Rattle.pipe_types.specs.declared.numbers.StageNo.{StageNo}
use Rattle.pipe_types.specs.declared.topology.Topology.{Topology}
use Rattle.pipe_types.specs.declared.topology.StageSpec.{StageSpec}
use Rattle.pipe_types.specs.declared.topology.Role.TheVariants.{Producer}
use Rattle.pipe_types.specs.declared.message.Place.{Place}
use Rattle.pipe_types.specs.declared.step.Step.TheVariants.{Accept, Close, Late}
use Rattle.pipe_types.specs.declared.step.LateAnswer.TheVariants.{Records}
use Rattle.pipe_types.specs.Lines.{max_bytes}
use Rattle.pipe_types.specs.Stages.{spec_of}
use Rattle.pipe_types.specs.Handlers.{field}
use Rattle.pipe_types.specs.Dispatchers.{partition_of}
use Rattle.pipe_types.specs.Sound.{IsSound}
use Rattle.pipe_model.specs.History.{History, accepted, accepted_bytes, bytes_in, closed}
use Rattle.pipe_model.specs.Content.{content, newer, record_as, new_message, numbers_from, payload_in, gathers}
use Rattle.pipe_model.specs.Flow.{place, view_of, closing, first_in, waiting, is_gathered_in}
use Rattle.pipe_model.specs.Lives.{is_live}
use Rattle.pipe_model.specs.Moves.{is_final}
use Rattle.pipe_model.specs.Legal.{is_legal, allows, are_records, is_producer_role, has_role, is_current, fetch_out}
use Rattle.pipe_laws.proofs.Allowed.{legal_before, legal_step, unowed, late_facts}
use Rattle.pipe_model.specs.Standing.{gathered_in}
use Rattle.pipe_model.specs.Taken.{closed_as}
use Rattle.pipe_laws.proofs.Accepted.{placed_accepted}
use Rattle.pipe_laws.proofs.Lists.{each_weaker, each_filter, each_always}
use Rattle.pipe_laws.proofs.Tests.{and_left, and_right}
use Rattle.queue_laws.proofs.Sounds.{fits}
use Rattle.stage_laws.proofs.Bounds.{waiting_within}
use Rattle.core_laws.proofs.Marks.{mark_is, open_unsettled}
use Rattle.core_laws.specs.Columns.{mark, part_of, part_by, is_by_partition, waiting_parts, closed_numbers, open_batches}
use Rattle.core_laws.specs.Enrolled.{record_part, queued}
use Rattle.core_laws.proofs.Alike.{SameContent, SamePart, part_same, mapped_same, opens_same}

-- Contents

-- a message that was there keeps its content
pub content_old : (s : StageNo) (records : List (List ℕ)) (before : History) (n : ℕ) → n ≤ accepted before → SameContent before (Accept s records ∷ before) n
content_old s records before n low =
    let none : nat_lt (accepted before) n ≡ false = grind (arith, nat_tests) in
    ap (λ b. newer (if b then record_as s n (slice_get records (n - (accepted before + 1))) else None) (content before n)) none

-- the message after so many others is the record
pub content_new : (s : StageNo) (records : List (List ℕ)) (before : History) (k : ℕ) (bytes : List ℕ) → slice_get records k ≡ Some bytes
    → content (Accept s records ∷ before) (accepted before + 1 + k) ≡ Some (new_message s (accepted before + 1 + k) bytes)
content_new s records before k bytes e =
    let n : ℕ = accepted before + 1 + k in
    let yes : nat_lt (accepted before) n ≡ true = lt-ltb (accepted before) n (omega arith) in
    let at : n - (accepted before + 1) ≡ k = omega arith in
    ap (λ b. newer (if b then record_as s n (slice_get records (n - (accepted before + 1))) else None) (content before n)) yes
    ∙ (ap (λ i. newer (record_as s n (slice_get records i)) (content before n)) at
    ∙ ap (λ o. newer (record_as s n o) (content before n)) e)

-- Closed batches

first_kept : (test : ℕ → Bool) (ns : List ℕ) (m : ℕ) → ((n : ℕ) → test n ≡ true → n ≤ m) → first_in (filter test ns) ≤ m
first_kept test [] m h = omega arith
first_kept test (n ∷ ns) m h = by (test n) refl (first_kept test ns m h)
  where
    by : (b : Bool) → test n ≡ b → first_in (filter test ns) ≤ m → first_in (if b then n ∷ filter test ns else filter test ns) ≤ m
    by true e rest = h n e
    by false e rest = rest

gathered_some : (s : StageNo) (o : Option Place) → is_gathered_in s o ≡ true → is_some o ≡ true
gathered_some s None h = cc
gathered_some s (Some p) h = refl

-- the first message of a batch was accepted
pub closed_low : (topology : Topology) (before : History) (b : ℕ) → first_in (closed_numbers (closed_as topology before b)) ≤ accepted before
closed_low topology [] b = omega arith
closed_low topology (Close s first trigger ∷ before) b = by (b == closed before + 1) (closed_low topology before b)
  where
    new : first_in (closing before (view_of topology before) s first.0) ≤ accepted before
    new = first_kept _ (gathers before s) (accepted before) (λ n h. (placed_accepted topology before n (gathered_some s (place topology before n) (and_left (is_gathered_in s (place topology before n)) _ h))).1)

    by : (is : Bool) → first_in (closed_numbers (closed_as topology before b)) ≤ accepted before
        → first_in (closed_numbers (if is then Some (record { numbers = closing before (view_of topology before) s first.0; trigger = trigger }) else closed_as topology before b)) ≤ accepted before
    by true rest = new
    by false rest = rest
closed_low topology (Accept s records ∷ before) b = let rest = closed_low topology before b in omega arith
closed_low topology (Late s slot i (Records records) ∷ before) b = let rest = closed_low topology before b in omega arith
closed_low topology (step ∷ before) b = closed_low topology before b

-- Units that wait

part_old : (topology : Topology) (s : StageNo) (records : List (List ℕ)) (before : History) (n : ℕ) → n ≤ accepted before → SamePart topology before (Accept s records ∷ before) n
part_old topology s records before n low =
    record {
      content = content_old s records before n low;
      numbers = refl;
      first = content_old s records before (first_in (closed_numbers (closed_as topology before n))) (closed_low topology before n);
    }

-- what waited has the partitions that it had
pub parts_old : (topology : Topology) (s : StageNo) (records : List (List ℕ)) (before : History) (t : StageNo) → IsSound topology → is_legal topology before ≡ true
    → map (λ n. (part_of topology (Accept s records ∷ before) (spec_of topology t) n, n)) (waiting topology before t) ≡ waiting_parts topology before t
parts_old topology s records before t sound legal =
    mapped_same (λ n. (part_of topology (Accept s records ∷ before) (spec_of topology t) n, n)) (λ n. (part_of topology before (spec_of topology t) n, n)) (waiting topology before t)
    (each_weaker (λ n. (1 ≤ n) × (n ≤ accepted before)) _ (λ n low. ap (λ k. (k, n)) (part_same topology before (Accept s records ∷ before) (spec_of topology t) n (part_old topology s records before n low.1)))
    (waiting topology before t) (waiting_within topology before t (fits topology sound) legal))

part_by_role : (topology : Topology) (before : History) (spec : StageSpec) (n : ℕ) (bytes : List ℕ) (s : StageNo) → spec.role ≡ Producer → content before n ≡ Some (new_message s n bytes)
    → part_by topology before spec n ≡ partition_of (field spec.field bytes) spec.parts
part_by_role topology before spec n bytes s e is = rw e (ap (λ o. partition_of (field spec.field (payload_in o)) spec.parts) is)

part_new : (topology : Topology) (s : StageNo) (spec : StageSpec) (records : List (List ℕ)) (before : History) (k : ℕ) (bytes : List ℕ) → spec_of topology s ≡ Some spec → spec.role ≡ Producer
    → slice_get records k ≡ Some bytes
    → part_of topology (Accept s records ∷ before) (spec_of topology s) (accepted before + 1 + k) ≡ record_part spec bytes
part_new topology s spec records before k bytes found role e =
    ap (λ o. part_of topology (Accept s records ∷ before) o (accepted before + 1 + k)) found
    ∙ ap (λ p. if is_by_partition spec.dispatch then p else 0)
    (part_by_role topology (Accept s records ∷ before) spec (accepted before + 1 + k) bytes s role (content_new s records before k bytes e))

parts_from : (topology : Topology) (s : StageNo) (spec : StageSpec) (records : List (List ℕ)) (before : History) (k : ℕ) (rest : List (List ℕ)) → spec_of topology s ≡ Some spec → spec.role ≡ Producer
    → ((i : ℕ) → slice_get rest i ≡ slice_get records (k + i))
    → map {B = ℕ × ℕ} (λ n. (part_of topology (Accept s records ∷ before) (spec_of topology s) n, n)) (numbers_from (accepted before + 1 + k) rest) ≡ queued spec (accepted before + 1 + k) rest
parts_from topology s spec records before k [] found role same = refl
parts_from topology s spec records before k (bytes ∷ rest) found role same =
    let here : slice_get records k ≡ Some bytes = let e : k + 0 ≡ k = omega arith in sym (same 0 ∙ ap (slice_get records) e) in
    let later : (i : ℕ) → slice_get rest i ≡ slice_get records (k + 1 + i) = λ i. (let e : k + suc i ≡ k + 1 + i = omega arith in same (suc i) ∙ ap (slice_get records) e) in
    let next : accepted before + 1 + k + 1 ≡ accepted before + 1 + (k + 1) = omega arith in
    ap (λ p. (p, accepted before + 1 + k) ∷ map {B = ℕ × ℕ} (λ n. (part_of topology (Accept s records ∷ before) (spec_of topology s) n, n)) (numbers_from (accepted before + 1 + k + 1) rest))
    (part_new topology s spec records before k bytes found role here)
    ∙ ap (λ us. (record_part spec bytes, accepted before + 1 + k) ∷ us)
    (ap (λ m. map {B = ℕ × ℕ} (λ n. (part_of topology (Accept s records ∷ before) (spec_of topology s) n, n)) (numbers_from m rest)) next
    ∙ (parts_from topology s spec records before (k + 1) rest found role later ∙ ap (λ m. queued spec m rest) (sym next)))

-- the records wait behind what waited
pub parts_new : (topology : Topology) (s : StageNo) (spec : StageSpec) (records : List (List ℕ)) (before : History) → spec_of topology s ≡ Some spec → spec.role ≡ Producer
    → map {B = ℕ × ℕ} (λ n. (part_of topology (Accept s records ∷ before) (spec_of topology s) n, n)) (numbers_from (accepted before + 1) records) ≡ queued spec (accepted before + 1) records
parts_new topology s spec records before found role =
    let e : accepted before + 1 + 0 ≡ accepted before + 1 = omega arith in
    ap (λ m. map {B = ℕ × ℕ} (λ n. (part_of topology (Accept s records ∷ before) (spec_of topology s) n, n)) (numbers_from m records)) (sym e)
    ∙ (parts_from topology s spec records before 0 records found role (λ i. (let z : i ≡ 0 + i = omega arith in ap (slice_get records) z))
    ∙ ap (λ m. queued spec m records) e)

-- Open batches

-- no gathered message has another content
pub opens_kept : (topology : Topology) (s : StageNo) (records : List (List ℕ)) (before : History) (t : StageNo)
    → open_batches (Accept s records ∷ before) (gathered_in topology before t) ≡ open_batches before (gathered_in topology before t)
opens_kept topology s records before t =
    opens_same before (Accept s records ∷ before) (gathered_in topology before t)
    (each_weaker _ (SameContent before (Accept s records ∷ before))
    (λ n (is : Unit {0} × (is_gathered_in t (place topology before n) ≡ true)). content_old s records before n (placed_accepted topology before n (gathered_some t (place topology before n) is.1)).1)
    (gathered_in topology before t)
    (each_filter (λ n. Unit {0}) (λ n. is_gathered_in t (place topology before n)) (gathers before t) (each_always (λ n. Unit {0}) (λ n. tt) (gathers before t))))
    (λ n. refl)

-- Bytes

records_small : (records : List (List ℕ)) → list_all (λ r. nat_le (length r) max_bytes) records ≡ true → bytes_in records ≤ length records * max_bytes
records_small [] h = omega arith
records_small (r ∷ records) h =
    let one = leb-true (length r) max_bytes (and_left (nat_le (length r) max_bytes) _ h) in
    let rest = records_small records (and_right (nat_le (length r) max_bytes) _ h) in
    omega (arith, one, rest)

brought_small : (records : List (List ℕ)) (most : ℕ) → are_records records most ≡ true → bytes_in records ≤ length records * max_bytes
brought_small records most h = records_small records (and_right (nat_le (length records) most) _ (and_right (nat_le 1 (length records)) _ h))

pub accept_small : (topology : Topology) (before : History) (s : StageNo) (records : List (List ℕ)) → allows topology before (Accept s records) ≡ true → bytes_in records ≤ length records * max_bytes
accept_small topology before s records h =
    let all = unowed topology before (Accept s records) (λ t. refl) (λ t. refl) h in
    let one = and_right (is_live topology before s) _ all in
    let two = and_right (has_role topology s is_producer_role) _ one in
    brought_small records (fetch_out before s) (and_right (is_current before s 0) _ two)

late_small : (topology : Topology) (before : History) (s : StageNo) (slot i : ℕ) (records : List (List ℕ)) → allows topology before (Late s slot i (Records records)) ≡ true → bytes_in records ≤ length records * max_bytes
late_small topology before s slot i records h =
    brought_small records (fetch_out before s) (and_right (has_role topology s is_producer_role) _ (late_facts topology before s slot i (Records records) h).fits)

-- no accepted record is too long
pub bytes_few : (topology : Topology) (before : History) → is_legal topology before ≡ true → accepted_bytes before ≤ accepted before * max_bytes
bytes_few topology [] h = omega arith
bytes_few topology (Accept s records ∷ before) h =
    let rest = bytes_few topology before (legal_before topology before (Accept s records) h) in
    let new = accept_small topology before s records (legal_step topology before (Accept s records) h) in
    omega (arith, rest, new)
bytes_few topology (Late s slot i (Records records) ∷ before) h =
    let rest = bytes_few topology before (legal_before topology before (Late s slot i (Records records)) h) in
    let new = late_small topology before s slot i records (legal_step topology before (Late s slot i (Records records)) h) in
    omega (arith, rest, new)
bytes_few topology (step ∷ before) h = bytes_few topology before (legal_before topology before step h)

-- Marks

-- a message that was not accepted was settled nowhere
pub unsettled : (topology : Topology) (before : History) (n : ℕ) → accepted before < n → mark topology before n ≡ 0
unsettled topology before n far = mark_is topology before n ∙ open_unsettled topology before n (none (place topology before n) refl)
  where
    none : (o : Option Place) → place topology before n ≡ o → is_final o ≡ false
    none None e = refl
    none (Some p) e = let t = placed_accepted topology before n (ap is_some e) in absurd (omega (arith, t.1, far))
