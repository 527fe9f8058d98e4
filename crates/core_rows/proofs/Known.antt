-- What is read off the rows is what the journal says.
use Rattle.std.proofs.Common.{◌≡◌, ℕ, ◌+◌, ◌<◌, ◌≤◌, List, [], ◌∷◌, ◌++◌, length, drop, refl, ap, sym, Bool, true, false, Option, None, Some, ◌∙◌, arith, get_or}
use Rattle.std.specs.Prelude.{slice_get, is_some, is_none, not, ◌&&◌, ◌||◌, find, if◌then◌else◌, nat_lt, ◌==◌}
use Rattle.std.specs.List.{flat_map}
use Rattle.std.proofs.lemmas.Bool.Decides.{nat_tests}
use Rattle.std.proofs.lemmas.List.{at_drop_more}
use Rattle.std.proofs.lemmas.Option.{slice_get_read, same_Some}
use Rattle.pipe_types.specs.declared.numbers.StageNo.{StageNo}
use Rattle.pipe_types.specs.declared.numbers.SubNo.{SubNo}
use Rattle.pipe_types.specs.declared.message.Why.{Why}
use Rattle.pipe_types.specs.declared.topology.Topology.{Topology}
use Rattle.pipe_types.specs.declared.topology.StageSpec.{StageSpec}
use Rattle.pipe_types.specs.Stages.{spec_of, spec_feeds, feeds, option_feeds}
use Rattle.pipe_types.specs.Sound.{IsSound}
use Rattle.pipe_model.specs.History.{History}
use Rattle.pipe_model.specs.Lives.{death, is_live_sub, current_sub}
use Rattle.pipe_model.specs.Ledger.{due}
use Rattle.pipe_model.specs.Legal.{needs_restart, happened, is_halt, is_drain, has_ended, is_producer_role}
use Rattle.pipe_model.specs.Moves.{subs_into}
use Rattle.stage_laws.proofs.Numbering.{numbered_topology}
use Rattle.stage_subs.specs.Subs.{live_sub, live_sub_in, due_rows}
use Rattle.stage_subs.proofs.Rows.{no_due}
use Rattle.core_tables.specs.declared.rows.StageRow.{StageRow}
use Rattle.core_laws.specs.Columns.{stage_row}
use Rattle.core_state.specs.declared.state.Core.{Core}
use Rattle.core_state.specs.Stands.{Fields, Holds, totals_of}
use Rattle.core_state.proofs.Asking.{due_seen}
use Rattle.core_rows.specs.Rows.{needs_by, is_due, due_between, sub_if_due}

-- a row that is read is the stage's
pub stage_read : (core : Core) (topology : Topology) (before : History) → Fields core topology before → (s : StageNo) (row : StageRow)
    → s.0 ≤ length topology.stages → row ≡ get_or core.stages.items s.0 row → row ≡ stage_row topology before s
stage_read core topology before x s row within read =
    let here : slice_get core.stages.items s.0 ≡ Some row = slice_get_read core.stages.items (length core.stages.items) s.0 row refl (omega (arith, x.sized.stages)) read in
    same_Some row (stage_row topology before s) (sym here ∙ x.stages s within)

-- a stage of the topology has a row
pub row_within : (topology : Topology) (spec : StageSpec) → IsSound topology → spec_of topology spec.no ≡ Some spec → spec.no.0 ≤ length topology.stages
row_within topology spec sound there = ((numbered_topology topology sound).within spec.no spec there).1

not_none : (o : Option Why) → not (is_none o) ≡ is_some o
not_none None = refl
not_none (Some w) = refl

-- whether a stage needs a restart
pub needs_is : (topology : Topology) (before : History) (spec : StageSpec) → spec_of topology spec.no ≡ Some spec
    → needs_by (stage_row topology before spec.no) spec.role (totals_of topology before) ≡ needs_restart topology before spec.no
needs_is topology before spec there =
    rw there (ap (λ b. b && (not (happened is_halt before) && not (is_producer_role spec.role && (has_ended before spec.no || happened is_drain before)))) (sym (not_none (death topology before spec.no))))

pub feeds_by : (topology : Topology) (p c : StageSpec) → spec_of topology p.no ≡ Some p → spec_of topology c.no ≡ Some c → feeds topology p.no c.no ≡ spec_feeds p c
feeds_by topology p c from to = ap (λ o. option_feeds o (spec_of topology c.no)) from ∙ ap (option_feeds (Some p)) to

-- Asks

-- where the pair does not feed no ask is due
pub unfed : (topology : Topology) (before : History) (c p : StageNo) → feeds topology p c ≡ false → None ≡ due_between topology before c p
unfed topology before c p none = ap (λ b. if b && is_due topology before (current_sub topology before c p) then Some (current_sub topology before c p) else None) (sym none)

-- on a subscription that is not live none is due
pub due_dead : (topology : Topology) (before : History) (u : SubNo) → is_live_sub topology before u ≡ false → is_due topology before u ≡ false
due_dead topology before u dead = rw dead refl

-- where the table has none due, none is
pub none_due : (core : Core) → Holds core → nat_lt 0 (due_rows core.subs) ≡ false → (u : SubNo) → is_due core.topology core.journal.steps u ≡ false
none_due core x none u = by (is_live_sub core.topology core.journal.steps u) refl
  where
    by : (b : Bool) → is_live_sub core.topology core.journal.steps u ≡ b → is_due core.topology core.journal.steps u ≡ false
    by true live = ap (λ n. nat_lt 0 n) (sym (due_seen core core.topology core.journal.steps u x.fields live) ∙ no_due core.subs none u)
    by false dead = due_dead core.topology core.journal.steps u dead

-- what the table has of the pair
pub live_is : (core : Core) (c p : StageNo) → Holds core → feeds core.topology p c ≡ true
    → live_sub core.subs c p ≡ (if is_live_sub core.topology core.journal.steps (current_sub core.topology core.journal.steps c p) then Some (current_sub core.topology core.journal.steps c p) else None)
live_is core c p x fed = ap (λ o. live_sub_in o c p) (x.fields.subs c p fed)

-- the live subscription that the table has of the pair is the current one
pub now_live : (core : Core) (c p : StageNo) (u : SubNo) → Holds core → feeds core.topology p c ≡ true → Some u ≡ live_sub core.subs c p
    → (u ≡ current_sub core.topology core.journal.steps c p) × (is_live_sub core.topology core.journal.steps (current_sub core.topology core.journal.steps c p) ≡ true)
now_live core c p u x fed is = by (is_live_sub core.topology core.journal.steps now) (is ∙ live_is core c p x fed)
  where
    now : SubNo
    now = current_sub core.topology core.journal.steps c p

    by : (b : Bool) → Some u ≡ (if b then Some now else None) → (u ≡ now) × (b ≡ true)
    by true known = (same_Some u now known, refl)
    by false known = let wrong : Some u ≡ None = known in absurd cc

-- and where it has none, the current one is not live
pub now_dead : (core : Core) (c p : StageNo) → Holds core → feeds core.topology p c ≡ true → None ≡ live_sub core.subs c p → is_live_sub core.topology core.journal.steps (current_sub core.topology core.journal.steps c p) ≡ false
now_dead core c p x fed is = by (is_live_sub core.topology core.journal.steps now) (is ∙ live_is core c p x fed)
  where
    now : SubNo
    now = current_sub core.topology core.journal.steps c p

    by : (b : Bool) → None ≡ (if b then Some now else None) → b ≡ false
    by true known = let wrong : None ≡ Some now = known in absurd cc
    by false known = refl

-- on the pair's live subscription an ask is due where the table has one
pub pair_live : (core : Core) (c p : StageNo) (u : SubNo) → Holds core → feeds core.topology p c ≡ true → Some u ≡ live_sub core.subs c p
    → sub_if_due core.subs u ≡ due_between core.topology core.journal.steps c p
pair_live core c p u x fed is =
    let at = now_live core c p u x fed is in
    ap (sub_if_due core.subs) at.0
    ∙ (ap (λ n. if nat_lt 0 n then Some now else None) (due_seen core core.topology core.journal.steps now x.fields at.1)
    ∙ ap (λ b. if b && is_due core.topology core.journal.steps now then Some now else None) (sym fed))
  where
    now : SubNo
    now = current_sub core.topology core.journal.steps c p

-- where the pair has no live one none is due
pub pair_dead : (core : Core) (c p : StageNo) → Holds core → feeds core.topology p c ≡ true → None ≡ live_sub core.subs c p
    → None ≡ due_between core.topology core.journal.steps c p
pair_dead core c p x fed is =
    ap (λ b. if true && b then Some now else None) (sym (due_dead core.topology core.journal.steps now (now_dead core c p x fed is)))
    ∙ ap (λ b. if b && is_due core.topology core.journal.steps now then Some now else None) (sym fed)
  where
    now : SubNo
    now = current_sub core.topology core.journal.steps c p

pub feeds_self : (n : ℕ) → (n == n) ≡ true
feeds_self n = grind (arith, nat_tests)

-- Going over the pairs

-- the pair of a producer comes first
into_by : (f d : Bool) (u v : SubNo) (rest : Option SubNo) → (if f && d then Some v else None) ≡ Some u → (if f then (if d then Some v else rest) else rest) ≡ Some u
into_by true true u v rest h = h
into_by true false u v rest h = cc
into_by false d u v rest h = cc

into_else : (f d : Bool) (v : SubNo) (rest : Option SubNo) → None ≡ (if f && d then Some v else None) → rest ≡ (if f then (if d then Some v else rest) else rest)
into_else true true v rest h = cc
into_else true false v rest h = refl
into_else false d v rest h = refl

into_if : (test : SubNo → Bool) (f : Bool) (v : SubNo) (subs : List SubNo) → find test (if f then v ∷ subs else subs) ≡ (if f then (if test v then Some v else find test subs) else find test subs)
into_if test true v subs = refl
into_if test false v subs = refl

pub into_here : (topology : Topology) (before : History) (c : StageNo) (specs : List StageSpec) (i : ℕ) (p : StageSpec) (u : SubNo) → i < length specs → p ≡ get_or specs i p
    → due_between topology before c p.no ≡ Some u → find (is_due topology before) (subs_into topology before c (drop i specs)) ≡ Some u
into_here topology before c specs i p u below is due =
    at_drop_more (λ xs. find (is_due topology before) (subs_into topology before c xs)) specs i p below
    ∙ (ap (λ (q : StageSpec). find (is_due topology before) (subs_into topology before c (q ∷ drop (i + 1) specs))) (sym is)
    ∙ (into_if (is_due topology before) (feeds topology p.no c) (current_sub topology before c p.no) (subs_into topology before c (drop (i + 1) specs))
    ∙ into_by (feeds topology p.no c) (is_due topology before (current_sub topology before c p.no)) u (current_sub topology before c p.no) (find (is_due topology before) (subs_into topology before c (drop (i + 1) specs))) due))

pub into_next : (topology : Topology) (before : History) (c : StageNo) (specs : List StageSpec) (i : ℕ) (p : StageSpec) → i < length specs → p ≡ get_or specs i p
    → None ≡ due_between topology before c p.no → find (is_due topology before) (subs_into topology before c (drop (i + 1) specs)) ≡ find (is_due topology before) (subs_into topology before c (drop i specs))
into_next topology before c specs i p below is none =
    into_else (feeds topology p.no c) (is_due topology before (current_sub topology before c p.no)) (current_sub topology before c p.no) (find (is_due topology before) (subs_into topology before c (drop (i + 1) specs))) none
    ∙ sym (at_drop_more (λ xs. find (is_due topology before) (subs_into topology before c xs)) specs i p below
    ∙ (ap (λ (q : StageSpec). find (is_due topology before) (subs_into topology before c (q ∷ drop (i + 1) specs))) (sym is)
    ∙ into_if (is_due topology before) (feeds topology p.no c) (current_sub topology before c p.no) (subs_into topology before c (drop (i + 1) specs))))

pub find_nothing : {A : Type 0} (test : A → Bool) → ((x : A) → test x ≡ false) → (xs : List A) → find test xs ≡ None
find_nothing test none [] = refl
find_nothing test none (x ∷ xs) = ap (λ b. if b then Some x else find test xs) (none x) ∙ find_nothing test none xs

find_first : {A : Type 0} (test : A → Bool) (xs ys : List A) (u : A) → find test xs ≡ Some u → find test (xs ++ ys) ≡ Some u
find_first test [] ys u h = cc
find_first test (x ∷ xs) ys u h = by (test x) h (find_first test xs ys u)
  where
    by : (b : Bool) → (if b then Some x else find test xs) ≡ Some u → (find test xs ≡ Some u → find test (xs ++ ys) ≡ Some u) → (if b then Some x else find test (xs ++ ys)) ≡ Some u
    by true h rest = h
    by false h rest = rest h

find_last : {A : Type 0} (test : A → Bool) (xs ys : List A) → find test xs ≡ None → find test (xs ++ ys) ≡ find test ys
find_last test [] ys h = refl
find_last test (x ∷ xs) ys h = by (test x) h (find_last test xs ys)
  where
    by : (b : Bool) → (if b then Some x else find test xs) ≡ None → (find test xs ≡ None → find test (xs ++ ys) ≡ find test ys) → (if b then Some x else find test (xs ++ ys)) ≡ find test ys
    by true h rest = cc
    by false h rest = rest h

-- of the lists that one list makes, the first that has one that passes
pub flat_here : {A B : Type 0} (test : B → Bool) (f : A → List B) (xs : List A) (i : ℕ) (e : A) (u : B) → i < length xs → find test (f (get_or xs i e)) ≡ Some u → find test (flat_map f (drop i xs)) ≡ Some u
flat_here test f xs i e u below h = at_drop_more (λ ys. find test (flat_map f ys)) xs i e below ∙ find_first test (f (get_or xs i e)) (flat_map f (drop (i + 1) xs)) u h

pub flat_next : {A B : Type 0} (test : B → Bool) (f : A → List B) (xs : List A) (i : ℕ) (e : A) → i < length xs → find test (f (get_or xs i e)) ≡ None → find test (flat_map f (drop (i + 1) xs)) ≡ find test (flat_map f (drop i xs))
flat_next test f xs i e below h = sym (at_drop_more (λ ys. find test (flat_map f ys)) xs i e below ∙ find_last test (f (get_or xs i e)) (flat_map f (drop (i + 1) xs)) h)
