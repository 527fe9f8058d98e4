-- Where a dispatch leaves the messages, and when it settled those that it loses.
use Rattle.std.proofs.Common.{◌≡◌, ℕ, List, [], ◌∷◌, Bool, true, false, refl, ap, sym, ◌∙◌, Some, None, Option, length}
use Rattle.std.specs.Prelude.{if◌then◌else◌, ◌&&◌, option_map}
use Rattle.pipe_types.specs.declared.numbers.StageNo.{StageNo}
use Rattle.pipe_types.specs.declared.numbers.SubNo.{SubNo}
use Rattle.pipe_types.specs.declared.topology.Topology.{Topology}
use Rattle.pipe_types.specs.declared.message.Loss.TheVariants.{Overflow}
use Rattle.pipe_types.specs.declared.message.Place.{Place}
use Rattle.pipe_types.specs.declared.message.Place.TheVariants.{Waiting, Acked, Lost}
use Rattle.pipe_types.specs.declared.room.Sent.{Sent}
use Rattle.pipe_types.specs.declared.step.Step.TheVariants.{Dispatch}
use Rattle.pipe_types.specs.Numbers.{same_stage}
use Rattle.pipe_laws.proofs.Tests.{same_stage-self}
use Rattle.pipe_model.specs.History.{History}
use Rattle.pipe_model.specs.Flow.{place, view_of, among, dispatched, waiting_after, subs_of, is_empty, deliveries, alone, lost_over, waits_in}
use Rattle.pipe_model.specs.Moves.{is_final}
use Rattle.core_laws.specs.Columns.{mark}
use Rattle.core_laws.proofs.Marks.{mark_is, open_unsettled}
use Rattle.core_sends.specs.Losing.{lost_over_size, marked}

-- first those that are sent move, then those over the size
pub lost_after : (units : List Sent) (over : List ℕ) (s : StageNo) (n : ℕ) (p : Place) → lost_over_size over s n (dispatched units [] [] s n p) ≡ dispatched units over [] s n p
lost_after units over s n (Waiting t) = by (same_stage s t) refl
  where
    moved : (subs : List SubNo) (b : Bool) → among over n ≡ b → lost_over_size over s n (waiting_after subs false s) ≡ waiting_after subs b s
    moved (u ∷ subs) b e = refl
    moved [] b e = ap (λ c. if c && among over n then Lost (Overflow s) else Waiting s) (same_stage-self s) ∙ ap (λ c. if c then Lost (Overflow s) else Waiting s) e

    by : (b : Bool) → same_stage s t ≡ b → lost_over_size over s n (if b then waiting_after (subs_of units n) false s else Waiting t) ≡ (if b then waiting_after (subs_of units n) (among over n) s else Waiting t)
    by true e = moved (subs_of units n) (among over n) refl
    by false e = ap (λ c. if c && among over n then Lost (Overflow s) else Waiting t) e
lost_after units over s n _ = refl

pub lost_after_all : (units : List Sent) (over : List ℕ) (s : StageNo) (n : ℕ) (o : Option Place)
    → option_map (lost_over_size over s n) (option_map (dispatched units [] [] s n) o) ≡ option_map (dispatched units over [] s n) o
lost_after_all units over s n None = refl
lost_after_all units over s n (Some p) = ap Some (lost_after units over s n p)

-- a message that is not over the size is not settled
still_open : (units : List Sent) (over : List ℕ) (s : StageNo) (n : ℕ) (o : Option Place) → is_final o ≡ false → among over n ≡ false → is_final (option_map (dispatched units over [] s n) o) ≡ false
still_open units over s n (Some (Waiting t)) h e = by (same_stage s t)
  where
    moved : (subs : List SubNo) → is_final (Some (waiting_after subs (among over n) s)) ≡ false
    moved (u ∷ subs) = refl
    moved [] = ap (λ b. is_final (Some (if b then Lost (Overflow s) else Waiting s))) e

    by : (b : Bool) → is_final (Some (if b then waiting_after (subs_of units n) (among over n) s else Waiting t)) ≡ false
    by true = moved (subs_of units n)
    by false = refl
still_open units over s n (Some (Acked o)) h e = h
still_open units over s n (Some (Lost l)) h e = h
still_open units over s n _ h e = refl

-- one that waits, is not sent and is over the size is lost
now_lost : (units : List Sent) (over : List ℕ) (s : StageNo) (n : ℕ) (o : Option Place) → waits_in s o ≡ true → is_empty (subs_of units n) ≡ true → among over n ≡ true
    → is_final (option_map (dispatched units over [] s n) o) ≡ true
now_lost units over s n (Some (Waiting t)) w h e =
    ap (λ b. is_final (Some (if b then waiting_after (subs_of units n) (among over n) s else Waiting t))) w ∙ moved (subs_of units n) h
  where
    moved : (subs : List SubNo) → is_empty subs ≡ true → is_final (Some (waiting_after subs (among over n) s)) ≡ true
    moved (u ∷ subs) k = cc
    moved [] k = ap (λ b. is_final (Some (if b then Lost (Overflow s) else Waiting s))) e
now_lost units over s n _ w h e = cc

waits_open : (s : StageNo) (o : Option Place) → waits_in s o ≡ true → is_final o ≡ false
waits_open s None w = refl
waits_open s (Some (Waiting t)) w = refl
waits_open s _ w = cc

-- the mark of a message after a dispatch that loses these
pub marked_after : (topology : Topology) (before : History) (s : StageNo) (over : List ℕ) (n : ℕ) → over ≡ lost_over topology before (view_of topology before) s → alone topology before s ≡ []
    → (among over n ≡ true → (waits_in s (place topology before n) ≡ true) × (is_empty (subs_of (deliveries topology before s) n) ≡ true))
    → marked over (length before) n (mark topology before n) ≡ mark topology (Dispatch s ∷ before) n
marked_after topology before s over n is none lost =
    by (among over n) refl
    ∙ ap (λ lone. if is_final (place topology before n) then mark topology before n else (if is_final (option_map (dispatched (deliveries topology before s) (lost_over topology before (view_of topology before) s) lone s n) (place topology before n)) then length before else 0)) (sym none)
  where
    same : (b : Bool) → among over n ≡ b → among (lost_over topology before (view_of topology before) s) n ≡ b
    same b e = ap (λ ns. among ns n) (sym is) ∙ e

    by : (b : Bool) → among over n ≡ b → (if b then length before else mark topology before n)
        ≡ (if is_final (place topology before n) then mark topology before n else (if is_final (option_map (dispatched (deliveries topology before s) (lost_over topology before (view_of topology before) s) [] s n) (place topology before n)) then length before else 0))
    by true e =
        let w = lost e in
        sym (ap (λ b. if b then mark topology before n else (if is_final (option_map (dispatched (deliveries topology before s) (lost_over topology before (view_of topology before) s) [] s n) (place topology before n)) then length before else 0)) (waits_open s (place topology before n) w.0)
        ∙ ap (λ b. if b then length before else 0) (now_lost (deliveries topology before s) (lost_over topology before (view_of topology before) s) s n (place topology before n) w.0 w.1 (same true e)))
    by false e = settled (is_final (place topology before n)) refl
      where
        settled : (f : Bool) → is_final (place topology before n) ≡ f → mark topology before n
            ≡ (if f then mark topology before n else (if is_final (option_map (dispatched (deliveries topology before s) (lost_over topology before (view_of topology before) s) [] s n) (place topology before n)) then length before else 0))
        settled true k = refl
        settled false k =
            (mark_is topology before n ∙ open_unsettled topology before n k)
            ∙ sym (ap (λ b. if b then length before else 0) (still_open (deliveries topology before s) (lost_over topology before (view_of topology before) s) s n (place topology before n) k (same false e)))
