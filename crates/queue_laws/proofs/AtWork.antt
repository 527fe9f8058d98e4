-- What a live batch processor works on is the batch that it took last, while its post is out.
use Rattle.std.proofs.Common.{◌≡◌, ℕ, ◌+◌, ◌≤◌, List, [], ◌∷◌, map, length, Bool, true, false, refl, ap, sym, ◌∙◌, subst, Some, None, Option, arith}
use Rattle.std.specs.Prelude.{if◌then◌else◌, ◌==◌, ◌&&◌, filter, cond, nat_lt, ◌||◌}
use Rattle.std.proofs.lemmas.Bool.{eqb-true, eq-eqb}
use Rattle.pipe_types.specs.declared.numbers.SubNo.{SubNo}
use Rattle.pipe_types.specs.declared.numbers.StageNo.{StageNo}
use Rattle.pipe_types.specs.declared.topology.Topology.{Topology}
use Rattle.pipe_types.specs.declared.topology.StageSpec.{StageSpec}
use Rattle.pipe_types.specs.declared.topology.Role.{Role}
use Rattle.pipe_types.specs.declared.topology.Role.TheVariants.{Processor, BatchProcessor}
use Rattle.pipe_types.specs.declared.message.BatchEnd.TheVariants.{Crashed as BatchCrashed}
use Rattle.pipe_types.specs.declared.step.Step.TheVariants.{Take, Wrote}
use Rattle.pipe_types.specs.Numbers.{same_stage, same_sub}
use Rattle.pipe_types.specs.Stages.{spec_of}
use Rattle.pipe_types.specs.Sound.{IsSound, has_fields, has_fields_of, is_batch_processor_in, is_select_in, are_rules, is_reason}
use Rattle.pipe_model.specs.History.{History}
use Rattle.pipe_model.specs.Posts.{last_take}
use Rattle.pipe_model.specs.Lives.{is_live}
use Rattle.pipe_model.specs.Flow.{batch, sent_to, inbox, among, units_on, is_batcher}
use Rattle.pipe_model.specs.Work.{taken_units}
use Rattle.pipe_model.specs.Legal.{is_legal, has_role, is_batch_processor_role, is_current, chunk_size, owed}
use Rattle.pipe_model.specs.Standing.{at_work, works, leg_works_in}
use Rattle.pipe_laws.proofs.Tests.{clash, and_left, and_right, same_stage-true, same_sub-true}
use Rattle.pipe_laws.proofs.Lists.{Each, each_weaker, each_both, weigh}
use Rattle.pipe_laws.proofs.Entries.{EntryFits, entries_fit}
use Rattle.pipe_laws.proofs.Levels.{rank, feeds_down}
use Rattle.pipe_laws.proofs.Allowed.{legal_before, legal_step, TakeFacts, take_facts}
use Rattle.pipe_laws.proofs.Busy.{Busy, busy, work_weight}
use Rattle.queue_laws.proofs.Apart.{Apart, apart_kept}
use Rattle.queue_laws.proofs.Roles.{rank_batcher}
use Rattle.queue_laws.proofs.Sounds.{fits, sound_fields}
use Rattle.queue_laws.proofs.Distinct.{distinct, unit_of}
use Rattle.queue_laws.proofs.Counts.{weigh_zero, TookBy, took}
use Rattle.queue_laws.proofs.BatchWork.{owes_write, batch_work, writer_rank}
use Rattle.pipe_model.specs.Counting.{as_number}

-- One batch at a time

one_at_most : (stages : List StageSpec) (spec : StageSpec) (n : ℕ) → is_batch_processor_in stages spec ≡ true → chunk_size (Some spec) n ≤ 1
one_at_most stages spec n h =
    let own = and_left ((nat_lt spec.index 16 && (spec.min == 0 && spec.max == 1)) && ((are_rules 0 spec.rules && is_select_in stages spec) && is_reason spec.failed)) _ h in
    let asks = and_left (nat_lt spec.index 16 && (spec.min == 0 && spec.max == 1)) _ own in
    let most : spec.max ≡ 1 = eqb-true spec.max 1 (and_right (spec.min == 0) _ (and_right (nat_lt spec.index 16) _ asks)) in
    omega (arith, most)

took_few : (topology : Topology) (c : StageNo) (n : ℕ) → IsSound topology → has_role topology c is_batch_processor_role ≡ true → chunk_size (spec_of topology c) n ≤ 1
took_few topology c n sound role = by_spec (spec_of topology c) refl
  where
    by_role : (spec : StageSpec) (r : Role) → r ≡ spec.role → is_batch_processor_role r ≡ true → has_fields topology.stages spec ≡ true → is_batch_processor_in topology.stages spec ≡ true
    by_role spec BatchProcessor e h fields = ap (λ r. has_fields_of topology.stages r spec) e ∙ fields
    by_role spec _ e h fields = let x : false ≡ true = h in cc

    by_spec : (o : Option StageSpec) → spec_of topology c ≡ o → chunk_size (spec_of topology c) n ≤ 1
    by_spec None e = let none : has_role topology c is_batch_processor_role ≡ false = rw e refl in clash (has_role topology c is_batch_processor_role) role none
    by_spec (Some spec) e =
        let is : has_role topology c is_batch_processor_role ≡ is_batch_processor_role spec.role = rw e refl in
        let few : chunk_size (Some spec) n ≤ 1 = one_at_most topology.stages spec n (by_role spec spec.role refl (sym is ∙ role) (sound_fields topology c spec sound e)) in
        rw e few

abbrev count_in : Option (SubNo × ℕ) → ℕ
count_in None = 0
count_in (Some x) = x.1

-- what a batch processor's last take took is one batch at most
pub last_one : (topology : Topology) (before : History) (c : StageNo) (u : SubNo) (k : ℕ) → IsSound topology → is_legal topology before ≡ true → has_role topology c is_batch_processor_role ≡ true → last_take before c ≡ Some (u, k) → (1 ≤ k) × (k ≤ 1)
last_one topology [] c u k sound h role e = cc
last_one topology (Take t v j ∷ before) c u k sound h role e = by_stage (same_stage c t) refl e (last_one topology before c u k sound (legal_before topology before (Take t v j) h) role)
  where
    facts : TakeFacts topology before t v j
    facts = take_facts topology before t v j (legal_step topology before (Take t v j) h)

    by_stage : (b : Bool) → same_stage c t ≡ b → (if b then Some (v, j) else last_take before c) ≡ Some (u, k) → (last_take before c ≡ Some (u, k) → (1 ≤ k) × (k ≤ 1)) → (1 ≤ k) × (k ≤ 1)
    by_stage false same e rest = rest e
    by_stage true same e rest =
        let is : j ≡ k = ap count_in e in
        let few : chunk_size (spec_of topology c) (length (units_on v (inbox topology before t))) ≤ 1 = took_few topology c (length (units_on v (inbox topology before t))) sound role in
        let there : chunk_size (spec_of topology t) (length (units_on v (inbox topology before t))) ≤ 1 = subst (λ s. chunk_size (spec_of topology s) (length (units_on v (inbox topology before t))) ≤ 1) (same_stage-true c t same) few in
        (omega (arith, is, facts.some), omega (arith, is, facts.size, there))
last_one topology (step ∷ before) c u k sound h role e = last_one topology before c u k sound (legal_before topology before step h) role e

-- Lists

none_there : {A : Type 0} (test : A → Bool) (xs : List A) → filter test xs ≡ [] → Each (λ x. test x ≡ false) xs
none_there test [] e = tt
none_there test (x ∷ xs) e = by_test (test x) refl e (none_there test xs)
  where
    by_test : (b : Bool) → test x ≡ b → cond b (x ∷ filter test xs) (filter test xs) ≡ [] → (filter test xs ≡ [] → Each (λ y. test y ≡ false) xs) → (test x ≡ false) × Each (λ y. test y ≡ false) xs
    by_test true t e rest = cc
    by_test false t e rest = (t, rest e)

each_passes : {A : Type 0} (P : A → Type 0) (test : A → Bool) (xs : List A) → Each (λ x. test x ≡ true → P x) xs → Each P (filter test xs)
each_passes P test [] h = tt
each_passes P test (x ∷ xs) h = by_test (test x) refl (each_passes P test xs h.1)
  where
    by_test : (b : Bool) → test x ≡ b → Each P (filter test xs) → Each P (cond b (x ∷ filter test xs) (filter test xs))
    by_test true t rest = (h.0 t, rest)
    by_test false t rest = rest

no_member : (xs : List (SubNo × ℕ)) → Each (λ d. among [] d.1 ≡ true) xs → xs ≡ []
no_member [] h = refl
no_member (d ∷ xs) h = let x : false ≡ true = h.0 in cc

alone : (b : ℕ) (xs : List (SubNo × ℕ)) → Apart unit_of xs → Each (λ d. d.1 ≡ b) xs → (xs ≡ [] → ⊥) → map (λ d. d.1) xs ≡ b ∷ []
alone b [] apart h some = absurd (some refl)
alone b (d ∷ []) apart h some = ap (λ n. n ∷ []) h.0
alone b (d ∷ x ∷ xs) apart h some = clash (d.1 == x.1) (eq-eqb d.1 x.1 (h.0 ∙ sym h.1.0)) apart.0.0

only_one : (t : ℕ) (m : ℕ) → among (t ∷ []) m ≡ true → m ≡ t
only_one t m h = by_test (t == m) refl h
  where
    by_test : (b : Bool) → (t == m) ≡ b → (b || false) ≡ true → m ≡ t
    by_test true e h = sym (eqb-true t m e)
    by_test false e h = let x : false ≡ true = h in cc

-- The law

pub at_work_is : (topology : Topology) (before : History) (c : StageNo) → IsSound topology → is_legal topology before ≡ true → has_role topology c is_batch_processor_role ≡ true → is_live topology before c ≡ true → owes_write before c ≡ false → map (λ d. d.1) (at_work topology before c) ≡ (if is_current before c 0 then taken_units topology before c else [])
at_work_is topology before c sound h role live calm = either (is_current before c 0) refl
  where
    test : SubNo × ℕ → Bool
    test d = leg_works_in d.0 (batch topology before d.1)

    taken : Each (λ d. (is_current before c 0 ≡ true) × (among (taken_units topology before c) d.1 ≡ true)) (filter test (sent_to topology before c))
    taken = each_passes (λ d. (is_current before c 0 ≡ true) × (among (taken_units topology before c) d.1 ≡ true)) test (sent_to topology before c) (batch_work topology before c h role live calm)

    idle : is_current before c 0 ≡ false → (xs : List (SubNo × ℕ)) → Each (λ d. (is_current before c 0 ≡ true) × (among (taken_units topology before c) d.1 ≡ true)) xs → xs ≡ []
    idle e [] each = refl
    idle e (d ∷ xs) each = clash (is_current before c 0) each.0.0 e

    apart : Apart unit_of (filter test (sent_to topology before c))
    apart = apart_kept unit_of test (sent_to topology before c) ((distinct topology before (fits topology sound).ascend h).sent c)

    -- where a batch was taken, a leg of it is at work
    some : is_current before c 0 ≡ true → (u : SubNo) (k : ℕ) → last_take before c ≡ Some (u, k) → filter test (sent_to topology before c) ≡ [] → ⊥
    some now u k last none =
        let b : Busy topology before c u k = busy topology before c u k h live now last in
        let few = last_one topology before c u k sound h role last in
        let zero_work : weigh (work_weight topology before u) (sent_to topology before c) ≡ 0 = weigh_zero (work_weight topology before u) (sent_to topology before c)
        (each_weaker (λ d. EntryFits topology before c d × (test d ≡ false)) (λ d. work_weight topology before u d ≡ 0) (λ d p. no_work d p.0 p.1) (sent_to topology before c)
        (each_both (EntryFits topology before c) (λ d. test d ≡ false) (sent_to topology before c) (entries_fit topology before c) (none_there test (sent_to topology before c) none))) in
        omega (arith, b.enough, few.0, zero_work)
      where
        batched : (d : SubNo × ℕ) → EntryFits topology before c d → is_batcher (spec_of topology d.0.producer) ≡ true
        batched d fit = rank_batcher (spec_of topology d.0.producer) (let down : rank topology c ≡ rank topology d.0.producer + 1 = feeds_down topology d.0.producer c fit.feeding in let here : rank topology c ≡ 3 = writer_rank topology c role in omega (arith, down, here))

        no_work : (d : SubNo × ℕ) → EntryFits topology before c d → test d ≡ false → work_weight topology before u d ≡ 0
        no_work d fit f = by_sub (same_sub d.0 u) refl
          where
            by_sub : (b : Bool) → same_sub d.0 u ≡ b → (if b then as_number (works topology before u d.1) else 0) ≡ 0
            by_sub false e = refl
            by_sub true e =
                let same : works topology before u d.1 ≡ works topology before d.0 d.1 = ap (λ v. works topology before v d.1) (sym (same_sub-true d.0 u e)) in
                let off : works topology before d.0 d.1 ≡ false = rw (batched d fit) f in
                ap as_number (same ∙ off)

    by_taken : (ns : List ℕ) → taken_units topology before c ≡ ns → is_current before c 0 ≡ true → TookBy (sent_to topology before c) ns (last_take before c) → map (λ d. d.1) (filter test (sent_to topology before c)) ≡ ns
    by_taken [] e now by = ap (map (λ d. d.1)) (no_member (filter test (sent_to topology before c)) (each_weaker (λ d. (is_current before c 0 ≡ true) × (among (taken_units topology before c) d.1 ≡ true)) (λ d. among [] d.1 ≡ true) (λ d p. ap (λ xs. among xs d.1) (sym e) ∙ p.1) (filter test (sent_to topology before c)) taken))
    by_taken (n ∷ []) e now by =
        alone n (filter test (sent_to topology before c)) apart
        (each_weaker (λ d. (is_current before c 0 ≡ true) × (among (taken_units topology before c) d.1 ≡ true)) (λ d. d.1 ≡ n) (λ d p. only_one n d.1 (ap (λ xs. among xs d.1) (sym e) ∙ p.1)) (filter test (sent_to topology before c)) taken)
        (by_last (last_take before c) refl by)
      where
        by_last : (o : Option (SubNo × ℕ)) → last_take before c ≡ o → TookBy (sent_to topology before c) (n ∷ []) o → filter test (sent_to topology before c) ≡ [] → ⊥
        by_last None last by none = let x : n ∷ [] ≡ [] = by in cc
        by_last (Some t) last by none = some now t.0 t.1 last none
    by_taken (n ∷ m ∷ ns) e now by = by_last (last_take before c) refl by
      where
        by_last : (o : Option (SubNo × ℕ)) → last_take before c ≡ o → TookBy (sent_to topology before c) (n ∷ m ∷ ns) o → map (λ d. d.1) (filter test (sent_to topology before c)) ≡ n ∷ m ∷ ns
        by_last None last by = let x : n ∷ m ∷ ns ≡ [] = by in cc
        by_last (Some t) last by = absurd (let few = last_one topology before c t.0 t.1 sound h role last in omega (arith, by.1, few.1))

    either : (b : Bool) → is_current before c 0 ≡ b → map (λ d. d.1) (at_work topology before c) ≡ (if b then taken_units topology before c else [])
    either false e = ap (map (λ d. d.1)) (idle e (filter test (sent_to topology before c)) taken)
    either true e = by_taken (taken_units topology before c) refl e (took topology before c)

pub calm_batch : (topology : Topology) (before : History) (s : StageNo) → owed topology before ≡ None → owes_write before s ≡ false
calm_batch topology (Wrote t bytes BatchCrashed ∷ before) s e = cc
calm_batch topology _ s e = refl
