-- Which children may start.
use Rattle.std.proofs.Common.{◌≡◌, ℕ, refl, ap, sym, Bool, true, false, Option, None, Some, ◌∙◌}
use Rattle.std.specs.Prelude.{◌&&◌, ◌||◌, ◌==◌, not, if◌then◌else◌, nat_lt, nat_le, is_some}
use Rattle.pipe_types.specs.declared.numbers.StageNo.{StageNo}
use Rattle.pipe_types.specs.declared.topology.Topology.{Topology}
use Rattle.pipe_types.specs.declared.topology.StageSpec.{StageSpec}
use Rattle.pipe_types.specs.declared.step.Step.TheVariants.{Child}
use Rattle.pipe_types.specs.Numbers.{post, message_no}
use Rattle.pipe_types.specs.Stages.{spec_of}
use Rattle.pipe_model.specs.History.{History}
use Rattle.pipe_model.specs.Posts.{is_out, in_slot, crashes}
use Rattle.pipe_model.specs.Lives.{is_live}
use Rattle.pipe_model.specs.Flow.{inbox, is_number, place, runs_in}
use Rattle.pipe_model.specs.Legal.{allows, is_legal, owed, happened, is_halt, is_supervisor_role, first_unit, runs_number, max_of}
use Rattle.pipe_model.specs.Moves.{next_in_slot}
use Rattle.core_laws.specs.Columns.{child_row}
use Rattle.core_laws.specs.Slots.{child_of, child_if}
use Rattle.core_laws.proofs.Children.{child_is}
use Rattle.core_moves.specs.Children.{starts_now, has_message_now}
use Rattle.core_rows.proofs.Fetched.{going, self, role_is}

-- a child stands in the slot just where its message runs
held_is : (topology : Topology) (before : History) (s : StageNo) (slot : ℕ) → is_legal topology before ≡ true → is_some (child_row topology before s slot) ≡ runs_number topology before s (in_slot before s slot)
held_is topology before s slot legal = ap is_some (child_is topology before s slot legal) ∙ by (in_slot before s slot)
  where
    some_if : (b : Bool) (n c : ℕ) → is_some (child_if b n c) ≡ b
    some_if true n c = refl
    some_if false n c = refl

    by : (o : Option ℕ) → is_some (child_of topology before s o) ≡ runs_number topology before s o
    by None = refl
    by (Some n) = some_if (runs_in s (place topology before n)) n (crashes before n)

-- the message that would run in the slot may
next_may : (topology : Topology) (before : History) (s : StageNo) (slot : ℕ) (most : ℕ) (o : Option ℕ) → in_slot before s slot ≡ o → (b : Bool) → runs_number topology before s (in_slot before s slot) ≡ b
    → (b || (nat_le 1 (first_unit (inbox topology before s)) && nat_lt slot most))
    ≡ (if b then is_number o (next_in_slot topology before s slot) else nat_le 1 (next_in_slot topology before s slot) && (nat_lt slot most && next_in_slot topology before s slot == first_unit (inbox topology before s)))
next_may topology before s slot most None e true run = let wrong : false ≡ true = ap (runs_number topology before s) (sym e) ∙ run in absurd cc
next_may topology before s slot most (Some n) e true run =
    let next : next_in_slot topology before s slot ≡ n = rw (run, e) refl in
    sym (ap (λ m. n == m) next ∙ self n)
next_may topology before s slot most o e false run =
    let f = first_unit (inbox topology before s) in
    let next : next_in_slot topology before s slot ≡ f = rw run refl in
    by (nat_le 1 f) (nat_lt slot most) (f == f) (self f)
    ∙ sym (ap (λ m. nat_le 1 m && (nat_lt slot most && m == f)) next)
  where
    by : (a b c : Bool) → c ≡ true → (a && b) ≡ (a && (b && c))
    by false b c h = refl
    by true false c h = refl
    by true true c h = sym h

-- a child of the slot
pub start_now : (topology : Topology) (before : History) (spec : StageSpec) (slot : ℕ) → spec_of topology spec.no ≡ Some spec → is_legal topology before ≡ true → owed topology before ≡ None → happened is_halt before ≡ false
    → starts_now topology before spec slot ≡ allows topology before (Child spec.no (message_no (next_in_slot topology before spec.no slot)) slot)
start_now topology before spec slot there legal free goes =
    ap (λ b. is_live topology before s && (is_supervisor_role spec.role && (not (is_out before (post s slot)) && b))) message
    ∙ (ap (λ b. is_live topology before s && (b && (not (is_out before (post s slot)) && may))) (sym (role_is topology spec is_supervisor_role there))
    ∙ going topology before (Child s (message_no (next_in_slot topology before s slot)) slot) free goes)
  where
    s : StageNo
    s = spec.no

    runs : Bool
    runs = runs_number topology before s (in_slot before s slot)

    may : Bool
    may =
        if runs
        then is_number (in_slot before s slot) (next_in_slot topology before s slot)
        else nat_le 1 (next_in_slot topology before s slot) && (nat_lt slot (max_of (spec_of topology s)) && next_in_slot topology before s slot == first_unit (inbox topology before s))

    message : has_message_now topology before spec slot ≡ may
    message =
        ap (λ b. b || (nat_le 1 (first_unit (inbox topology before s)) && nat_lt slot spec.max)) (held_is topology before s slot legal)
        ∙ (next_may topology before s slot spec.max (in_slot before s slot) refl runs refl
        ∙ ap (λ m. if runs then is_number (in_slot before s slot) (next_in_slot topology before s slot) else nat_le 1 (next_in_slot topology before s slot) && (nat_lt slot (max_of m) && next_in_slot topology before s slot == first_unit (inbox topology before s))) (sym there))
